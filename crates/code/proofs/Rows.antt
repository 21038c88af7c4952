-- The transform of a row from those of its halves. Assumes nothing.
use Rattle.std.proofs.Common.{◌≡◌, ℕ, zero, suc, ◌/◌, ◌^◌, List, ◌++◌, length, take, drop, refl, ap, ◌∙◌, ap₂, arith, pow_pos}
use native.Mathlib.Nat.{two-pow-succ}
use Rattle.std.proofs.lemmas.List.{length-append, length-take, length-drop, take_at, drop_at}
use Rattle.code.specs.Transform.{xor_row, join_halves, transform}
use Rattle.code.proofs.Transforms.{keeps_length}

-- a row with no half is its own transform
pub row_alone : (e : ℕ) (xs : List ℕ) → length xs ≡ 2 ^ e → length xs / 2 ≡ 0 → xs ≡ transform e xs
unfolding transform
row_alone zero xs long none = refl
row_alone (suc e) xs long none = absurd (omega (arith, two-pow-succ e, pow_pos e))

-- a row whose halves l and r were transformed, and then XORed
pub row_done : (e : ℕ) (xs front back l r out : List ℕ) → length xs ≡ 2 ^ e → (length xs / 2 ≡ 0 → ⊥)
    → front ≡ take (length xs / 2) xs → back ≡ drop (length xs / 2) xs
    → ((d : ℕ) → length front ≡ 2 ^ d → l ≡ transform d front) → ((d : ℕ) → length back ≡ 2 ^ d → r ≡ transform d back)
    → out ≡ (let half = length (l ++ r) / 2 in xor_row (take half (l ++ r)) (drop half (l ++ r)) ++ drop half (l ++ r))
    → out ≡ transform e xs
unfolding transform
row_done zero xs front back l r out long some hf hb hl hr ho = absurd (some (omega arith))
row_done (suc d) xs front back l r out long some hf hb hl hr ho =
    let half : length xs / 2 ≡ 2 ^ d = omega (arith, two-pow-succ d) in
    let lf : length front ≡ 2 ^ d = ap length hf ∙ simp length-take (omega (arith, two-pow-succ d)) in
    let lb : length back ≡ 2 ^ d = ap length hb ∙ simp length-drop (omega (arith, two-pow-succ d)) in
    let ll : length l ≡ 2 ^ d = ap length (hl d lf) ∙ keeps_length d front lf in
    let lr : length r ≡ 2 ^ d = ap length (hr d lb) ∙ keeps_length d back lb in
    let at : length l ≡ length (l ++ r) / 2 = simp length-append (omega arith) in
    let is-l : l ≡ transform d (take (2 ^ d) xs) = hl d lf ∙ ap (transform d) (hf ∙ ap (λ k. take k xs) half) in
    let is-r : r ≡ transform d (drop (2 ^ d) xs) = hr d lb ∙ ap (transform d) (hb ∙ ap (λ k. drop k xs) half) in
    ho ∙ ap₂ join_halves (take_at l r (length (l ++ r) / 2) at) (drop_at l r (length (l ++ r) / 2) at)
    ∙ ap₂ join_halves is-l is-r
