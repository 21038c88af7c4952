-- Positions, marks and spans: cited by the contracts of every map. Assumes nothing.
use Rattle.std.specs.Prelude.{◌≡◌, ℕ, zero, suc, ◌+◌, ◌-◌, ◌%◌, ◌^◌, ◌≤◌, Bool, true, false, cond, not, ◌&&◌, ◌||◌, List, [], ◌∷◌, ◌++◌, length, take, drop, replicate, Some, None, Ok, Err, Option, Result, ◌==◌, nat_le, nat_lt, slice_index}
use Rattle.std.specs.Option.{option_map}
use Rattle.code.specs.declared.faults.MapFault.{MapFault}
use Rattle.code.specs.declared.faults.MapFault.TheVariants.{Exponent, Length, Bit, Outside}
use Rattle.code.specs.declared.kinds.Mark.{Mark}
use Rattle.code.specs.declared.kinds.Mark.TheVariants.{Frozen, Informed}
use Rattle.code.specs.declared.kinds.SpanKind.{SpanKind}
use Rattle.code.specs.declared.kinds.SpanKind.TheVariants.{Rate0, Rate1, Rep, Spc}

-- n from 1 to 10
abbrev pub good_exponent : ℕ → Bool
good_exponent n = nat_le 1 n && nat_le n 10

-- the lowest of `count` positions from `at` on that fails a test
abbrev pub lowest_no : (ℕ → Bool) → ℕ → ℕ → Option ℕ
lowest_no test at zero = None
lowest_no test at (suc count) = cond (test at) (lowest_no test (suc at) count) (Some at)

-- are two lists the same
abbrev pub same : List ℕ → List ℕ → Bool
same [] [] = true
same [] (y ∷ ys) = false
same (x ∷ xs) [] = false
same (x ∷ xs) (y ∷ ys) = x == y && same xs ys

-- a mark is written 1 where the position is informed and 0 where it is frozen
abbrev pub mark_of : ℕ → Mark
mark_of m = cond (m == 1) Informed Frozen

-- the marks of a span of T positions that has this kind
abbrev pub pattern : SpanKind → ℕ → List ℕ
pattern Rate0 t = replicate t 0
pattern Rate1 t = replicate t 1
pattern Rep t = replicate (t - 1) 0 ++ (1 ∷ [])
pattern Spc t = 0 ∷ replicate (t - 1) 1

-- the kinds in the order in which they are tried
abbrev pub kinds : List SpanKind
kinds = Rate0 ∷ (Rate1 ∷ (Rep ∷ (Spc ∷ [])))

-- the first of some kinds whose pattern these marks are, or none
abbrev pub first_fit : List SpanKind → List ℕ → Option SpanKind
first_fit [] marks = None
first_fit (k ∷ ks) marks = cond (same marks (pattern k (length marks))) (Some k) (first_fit ks marks)

-- the kind of a span that has these marks
unfoldable pub kind_of : List ℕ → Option SpanKind
kind_of marks = first_fit kinds marks

-- the T entries of a list from s on
abbrev pub part : {X : Type 0} → List X → ℕ → ℕ → List X
part xs s t = take t (drop s xs)

-- is t one of 1, 2, 4, .. 2 ^ n
unfoldable pub power_up_to : ℕ → ℕ → Bool
power_up_to zero t = t == 1
power_up_to (suc n) t = t == 2 ^ suc n || power_up_to n t

-- is (s, t) a span within 2 ^ n positions: t a power of two, s a multiple of t, no position past the last
abbrev pub is_span : ℕ → ℕ → ℕ → Bool
is_span n s t = power_up_to n t && (s % t == 0 && nat_le (s + t) (2 ^ n))

-- a map means a list of marks: n from 1 to 10, 2 ^ n marks, each 0 or 1
pub record Means (n : ℕ) (marks : List ℕ) : Type 0 where
  pub low : 1 ≤ n
  pub high : n ≤ 10
  pub long : length marks ≡ 2 ^ n
  pub bits : (i : ℕ) → slice_index marks i ≤ 1

-- what a map answers of a position
abbrev pub mark_answer : List ℕ → ℕ → Result Mark MapFault
mark_answer marks p = cond (nat_lt p (length marks)) (Ok (mark_of (slice_index marks p))) (Err Outside)

-- what a map of 2 ^ n positions answers of a span
abbrev pub kind_answer : ℕ → List ℕ → ℕ → ℕ → Result (Option SpanKind) MapFault
kind_answer n marks s t = cond (is_span n s t) (Ok (kind_of (part marks s t))) (Err Outside)

-- is a byte 0 or 1
abbrev pub is_bit : ℕ → Bool
is_bit b = nat_le b 1

-- the first question about a list of marks that is answered no, or none
unfoldable pub listed_fault : ℕ → List ℕ → Option MapFault
listed_fault n bytes =
    cond (not (good_exponent n)) (Some Exponent)
    (cond (not (length bytes == 2 ^ n)) (Some Length)
    (option_map Bit (lowest_no (λ p. is_bit (slice_index bytes p)) 0 (length bytes))))
