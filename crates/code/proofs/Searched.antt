-- What the library's searches find, in the words of the specs. Assumes nothing.
use Rattle.std.proofs.Common.{◌≡◌, ℕ, zero, suc, ◌+◌, ◌<◌, ◌≤◌, Bool, true, false, cond, not, ◌&&◌, eqb, List, [], ◌∷◌, length, get_or, replicate, drop, Some, None, Option, sym, refl, ap, ◌∙◌, ⊎_elim, add-one, arith}
use Rattle.std.specs.Option.{MatchOption, option_map}
use Rattle.std.specs.List.{AllWithin, HoldsAt, find, range_with_len, list_all, count_by}
use Rattle.std.proofs.lemmas.Bool.{cases_eq}
use Rattle.std.proofs.lemmas.List.{at_drop_more, at_drop_all}
use Rattle.std.proofs.lemmas.List.Sums.{sum_by-cons}
use Rattle.code.specs.Spans.{lowest_no, same}
use Rattle.code.specs.Encode.{informed_count}
use Rattle.code.specs.Orders.{exchanges_keep, exchange_keeps}
use Rattle.code.proofs.Lowest.{lowest_true, lowest_false, all_pass}

-- the lowest of some positions that fails, where those before it pass
lowest_first : (test : ℕ → Bool) (at count i : ℕ) → at ≤ i → i < at + count → ((k : ℕ) → at ≤ k → k < i → test k ≡ true) → test i ≡ false → lowest_no test at count ≡ Some i
lowest_first test at zero i low high before here = absurd (omega arith)
lowest_first test at (suc count) i low high before here =
    ⊎_elim
    (λ e. lowest_false test at count (ap test e ∙ here) ∙ ap Some e)
    (λ ne. lowest_true test at count (before at (omega arith) (omega arith))
    ∙ lowest_first test (suc at) count i (omega arith) (omega arith) (λ k h. before k (omega arith)) here)
    (cases_eq at i)

-- the first element of a list that fails, as `position` gives it
pub lowest_from_position : (test : ℕ → Bool) (xs : List ℕ) (o : Option ℕ) →
    MatchOption o (AllWithin (λ x. test x ≡ true) xs 0 (length xs))
    (λ i. (i < length xs) × HoldsAt (λ x. test x ≡ false) xs i × AllWithin (λ x. test x ≡ true) xs 0 i) →
    o ≡ lowest_no (λ p. test (get_or xs p 0)) 0 (length xs)
lowest_from_position test xs None all = sym (all_pass (λ p. test (get_or xs p 0)) 0 (length xs) (λ p low high. all p 0 low (omega arith)))
lowest_from_position test xs (Some i) (lt, here, before) =
    sym (lowest_first (λ p. test (get_or xs p 0)) 0 (length xs) i (omega arith) (omega arith) (λ k low h. before k 0 low h) (here 0))

pub unmapped : (o : Option ℕ) → option_map (λ x. x) o ≡ o
unmapped None = refl
unmapped (Some x) = refl

-- the lowest of some positions that fails, as `find` gives it
pub lowest_from_find : (test : ℕ → Bool) (at count : ℕ) → find (λ p. not (test p)) (range_with_len at count) ≡ lowest_no test at count
lowest_from_find test at zero = refl
lowest_from_find test at (suc count) =
    elim (test at) as (λ b. cond (not b) (Some at) (find (λ p. not (test p)) (range_with_len (at + 1) count)) ≡ cond b (lowest_no test (suc at) count) (Some at)) [
      | true ↦ lowest_from_find test (at + 1) count ∙ ap (λ k. lowest_no test k count) (add-one at)
      | false ↦ refl
    ]

-- are all marks of a row this one
pub same_from_all : (v : ℕ) (row : List ℕ) → list_all (λ m. eqb m v) row ≡ same row (replicate (length row) v)
same_from_all v [] = refl
same_from_all v (m ∷ row) = ap (λ b. eqb m v && b) (same_from_all v row)

all_last : (test : ℕ → Bool) (at count : ℕ) → list_all test (range_with_len at (suc count)) ≡ (list_all test (range_with_len at count) && test (at + count))
all_last test at zero =
    let e : at ≡ at + 0 = omega arith in
    elim (test at) as (λ b. (b && true) ≡ b) [ true ↦ refl | false ↦ refl ] ∙ ap test e
all_last test at (suc count) =
    let e : at + 1 + count ≡ at + suc count = omega arith in
    ap (λ b. test at && b) (all_last test (at + 1) count ∙ ap (λ k. list_all test (range_with_len (at + 1) count) && test k) e)
    ∙ elim (test at) as (λ b. (b && (list_all test (range_with_len (at + 1) count) && test (at + suc count))) ≡ ((b && list_all test (range_with_len (at + 1) count)) && test (at + suc count))) [ true ↦ refl | false ↦ refl ]

-- do all exchanges keep the law
pub exchanges_from_all : (ranks : List ℕ) (p count : ℕ) → list_all (exchange_keeps ranks p) (range_with_len 0 count) ≡ exchanges_keep ranks p count
exchanges_from_all ranks p zero = refl
exchanges_from_all ranks p (suc count) =
    let e : 0 + count ≡ count = omega arith in
    all_last (exchange_keeps ranks p) 0 count
    ∙ ap (λ k. list_all (exchange_keeps ranks p) (range_with_len 0 count) && exchange_keeps ranks p k) e
    ∙ ap (λ b. b && exchange_keeps ranks p count) (exchanges_from_all ranks p count)

-- how many positions are informed
counted_from : (marks : List ℕ) (at count : ℕ) → at + count ≡ length marks → count_by (λ p. eqb (get_or marks p 0) 1) (range_with_len at count) ≡ informed_count (drop at marks)
counted_from marks at zero e = sym (at_drop_all informed_count marks at (omega arith))
counted_from marks at (suc count) e =
    let rest = counted_from marks (at + 1) count (omega arith) in
    let here : cond (eqb (get_or marks at 0) 1) 1 0 + count_by (λ p. eqb (get_or marks p 0) 1) (range_with_len (at + 1) count) ≡ cond (eqb (get_or marks at 0) 1) (suc (informed_count (drop (at + 1) marks))) (informed_count (drop (at + 1) marks)) =
    elim (eqb (get_or marks at 0) 1) as (λ b. cond b 1 0 + count_by (λ p. eqb (get_or marks p 0) 1) (range_with_len (at + 1) count) ≡ cond b (suc (informed_count (drop (at + 1) marks))) (informed_count (drop (at + 1) marks))) [
      | true ↦ omega (arith, rest)
      | false ↦ omega (arith, rest)
    ] in
    sum_by-cons (λ p. cond (eqb (get_or marks p 0) 1) 1 0) at (range_with_len (at + 1) count) ∙ here ∙ sym (at_drop_more informed_count marks at 0 (omega arith))

pub counted : (marks : List ℕ) (count : ℕ) → count ≡ length marks → count_by (λ p. eqb (get_or marks p 0) 1) (range_with_len 0 count) ≡ informed_count marks
counted marks count e = counted_from marks 0 count (omega arith)
