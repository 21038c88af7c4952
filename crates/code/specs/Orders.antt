-- Orders and the ranked maps made from them: cited by `Order` and `Ranked`. Assumes nothing.
use Rattle.std.specs.Prelude.{◌≡◌, ℕ, zero, suc, ◌+◌, ◌-◌, ◌*◌, ◌/◌, ◌%◌, ◌^◌, ◌<◌, ◌≤◌, Bool, true, false, cond, not, ◌&&◌, ◌⊎◌, List, [], ◌∷◌, map, length, take, Some, None, Ok, Err, Option, Result, ◌==◌, nat_le, nat_lt, slice_index}
use Rattle.code.specs.declared.faults.MapFault.{MapFault}
use Rattle.code.specs.declared.faults.MapFault.TheVariants.{Exponent, Length, Rank, Law, Count, Outside}
use Rattle.code.specs.Spans.{good_exponent, lowest_no}

-- ranks as they are written: two bytes each, the high byte first
unfoldable pub ranks_of : List ℕ → List ℕ
ranks_of [] = []
ranks_of (h ∷ []) = []
ranks_of (h ∷ (l ∷ bytes)) = (h * 256 + l) ∷ ranks_of bytes

-- bit b of a position
abbrev pub bit_at : ℕ → ℕ → ℕ
bit_at p b = p / 2 ^ b % 2

-- a move from p to q: bit 0 is set where it was 0, or a 1 at bit b and a 0 at bit b + 1 are exchanged
abbrev pub Move : ℕ → ℕ → Type 0
Move p q = ((bit_at p 0 ≡ 0) × (q ≡ p + 1)) ⊎ ((b : ℕ) × (bit_at p b ≡ 1) × (bit_at p (b + 1) ≡ 0) × (q + 2 ^ b ≡ p + 2 ^ (b + 1)))

-- a position of 2 ^ n keeps the law: every position one move away has a lower rank
abbrev pub KeepsLaw : ℕ → List ℕ → ℕ → Type 0
KeepsLaw n ranks p = (q : ℕ) → q < 2 ^ n → Move p q → slice_index ranks q < slice_index ranks p

-- the exchange at bits b and b + 1, if it can be made at p, leads to a lower rank
abbrev pub exchange_keeps : List ℕ → ℕ → ℕ → Bool
exchange_keeps ranks p b = cond (p / 2 ^ b % 4 == 1) (nat_lt (slice_index ranks (p + 2 ^ b)) (slice_index ranks p)) true

-- the exchanges at the pairs of bits below bit n
abbrev pub exchanges_keep : List ℕ → ℕ → ℕ → Bool
exchanges_keep ranks p zero = true
exchanges_keep ranks p (suc b) = exchanges_keep ranks p b && exchange_keeps ranks p b

-- setting bit 0, if it can be done at p, leads to a lower rank
abbrev pub setting_keeps : List ℕ → ℕ → Bool
setting_keeps ranks p = cond (p % 2 == 0) (nat_lt (slice_index ranks (p + 1)) (slice_index ranks p)) true

-- the law as it is tested at one position of 2 ^ n
unfoldable pub keeps_law : ℕ → List ℕ → ℕ → Bool
keeps_law n ranks p = setting_keeps ranks p && exchanges_keep ranks p (n - 1)

-- the law in words of bits is the law as it is tested
abbrev pub LawAsTested : Type 0
LawAsTested = (n : ℕ) (ranks : List ℕ) (p : ℕ) → 1 ≤ n → p < 2 ^ n →
    ((keeps_law n ranks p ≡ true) → KeepsLaw n ranks p) × (KeepsLaw n ranks p → keeps_law n ranks p ≡ true)

-- what it is to be an order of 2 ^ n positions: n from 1 to 10, a rank below 2 ^ n for each, no rank twice, and every position keeps the law
pub record Lawful (n : ℕ) (ranks : List ℕ) : Type 0 where
  pub low : 1 ≤ n
  pub high : n ≤ 10
  pub long : length ranks ≡ 2 ^ n
  pub below : (p : ℕ) → p < 2 ^ n → slice_index ranks p < 2 ^ n
  pub different : (p q : ℕ) → p < 2 ^ n → q < 2 ^ n → slice_index ranks p ≡ slice_index ranks q → p ≡ q
  pub law : (p : ℕ) → p < 2 ^ n → KeepsLaw n ranks p

-- what an order answers of a position
abbrev pub rank_answer : List ℕ → ℕ → Result ℕ MapFault
rank_answer ranks p = cond (nat_lt p (length ranks)) (Ok (slice_index ranks p)) (Err Outside)

-- is a number among some others
abbrev pub among : ℕ → List ℕ → Bool
among x [] = false
among x (y ∷ ys) = cond (x == y) true (among x ys)

-- a rank is below the count of positions and unlike those before it
abbrev pub fresh_rank : List ℕ → ℕ → Bool
fresh_rank ranks p = nat_lt (slice_index ranks p) (length ranks) && not (among (slice_index ranks p) (take p ranks))

-- the first question about an order's ranks that is answered no, or none
unfoldable pub ranks_fault : ℕ → List ℕ → Option MapFault
ranks_fault n ranks =
    elim (lowest_no (fresh_rank ranks) 0 (2 ^ n)) [
      | Some p ↦ Some (Rank p)
      | None ↦ elim (lowest_no (keeps_law n ranks) 0 (2 ^ n)) [ Some p ↦ Some (Law p) | None ↦ None ]
    ]

-- the first question about an order that is answered no, or none
unfoldable pub order_fault : ℕ → List ℕ → Option MapFault
order_fault n bytes =
    cond (not (good_exponent n)) (Some Exponent)
    (cond (not (length bytes == 2 * 2 ^ n)) (Some Length) (ranks_fault n (ranks_of bytes)))

-- position i is informed if its rank is below K
unfoldable pub ranked_marks : List ℕ → ℕ → List ℕ
ranked_marks ranks k = map (λ r. cond (nat_lt r k) 1 0) ranks

-- the question about K
abbrev pub count_fault : ℕ → ℕ → Option MapFault
count_fault n k = cond (nat_le k (2 ^ n)) None (Some Count)
