-- Numbers read in reverse, and the place to turn in a span and in its halves. Assumes nothing.
use Rattle.std.proofs.Common.{◌≡◌, ℕ, zero, suc, ◌+◌, ◌-◌, ◌*◌, ◌/◌, ◌%◌, ◌^◌, ◌<◌, ◌≤◌, min, ◌⊎◌, refl, ap, ◌∙◌, ap₂, inl, inr, ⊎_elim, mul-add, arith}
use native.Mathlib.Nat.{two-pow-succ}
use Rattle.std.proofs.lemmas.Bool.{cases_lt}
use Rattle.cancellation.specs.Rules.{reversed, Turns}

twice : (a e : ℕ) → a * 2 ^ suc e ≡ a * 2 ^ e + a * 2 ^ e
twice a e = ap (λ k. a * k) (two-pow-succ e) ∙ mul-add a (2 ^ e) (2 ^ e)

-- with a 0 put in front of it, a number read in reverse is doubled
pub reversed_low : (e j : ℕ) → j < 2 ^ e → reversed (suc e) j ≡ 2 * reversed e j
reversed_low zero j h =
    let n : j ≡ 0 = omega arith in
    ap (λ k. reversed 1 k) n
reversed_low (suc e) j h =
    let half : j / 2 < 2 ^ e = omega (arith, two-pow-succ e) in
    let ih = reversed_low e (j / 2) half in
    let d = twice (j % 2) e in
    omega arith

-- with a 1 in front, it is doubled and one more
pub reversed_high : (e j : ℕ) → j < 2 ^ e → reversed (suc e) (2 ^ e + j) ≡ 2 * reversed e j + 1
reversed_high zero j h =
    let n : j ≡ 0 = omega arith in
    ap (λ k. reversed 1 (1 + k)) n
reversed_high (suc e) j h =
    let p = two-pow-succ e in
    let half : j / 2 < 2 ^ e = omega arith in
    let ih = reversed_high e (j / 2) half in
    let low : (2 ^ suc e + j) % 2 ≡ j % 2 = omega arith in
    let rest : (2 ^ suc e + j) / 2 ≡ 2 ^ e + j / 2 = omega arith in
    let d = twice (j % 2) e in
    ap₂ (λ x y. x * 2 ^ suc e + reversed (suc e) y) low rest ∙ omega arith

-- the place p lies at place j of the half whose value is smaller, of the left half if both are equal
abbrev pub Half : ℕ → (ℕ → ℕ) → ℕ → ℕ → Type 0
Half e z p j = ((z (2 ^ e + j) < z j) × (p ≡ 2 ^ e + j)) ⊎ ((z j ≤ z (2 ^ e + j)) × (p ≡ j))

-- the place to turn in a span, from that in its left half, whose sizes are the lesser of two
module _ (e : ℕ) (z c : ℕ → ℕ) (lesser : (q : ℕ) → q < 2 ^ e → c q ≡ min (z q) (z (2 ^ e + q))) where
  module _ (p j : ℕ) (turns : Turns (suc e) z (2 ^ suc e) p) (within : j < 2 ^ e) (half : Half e z p j) where
    sizes : c j ≡ z p
    sizes =
        let l = lesser j within in
        ⊎_elim (λ h. let s : z p ≡ z (2 ^ e + j) = ap z h.1 in let t = h.0 in omega arith)
        (λ h. let s : z p ≡ z j = ap z h.1 in let t = h.0 in omega arith) half

    doubled : 2 * reversed e j ≤ reversed (suc e) p
    doubled =
        ⊎_elim (λ h. let s : reversed (suc e) p ≡ reversed (suc e) (2 ^ e + j) = ap (reversed (suc e)) h.1 in let r = reversed_high e j within in omega arith)
        (λ h. let s : reversed (suc e) p ≡ reversed (suc e) j = ap (reversed (suc e)) h.1 in let r = reversed_low e j within in omega arith) half

    half_least : (q : ℕ) → q < 2 ^ e → c j ≤ c q
    half_least q h =
        let w = two-pow-succ e in
        let s = sizes in
        let l = lesser q h in
        let a = turns.least q (omega arith) in
        let b = turns.least (2 ^ e + q) (omega arith) in
        omega arith

    half_first : (q : ℕ) → q < 2 ^ e → c q ≡ c j → reversed e j ≤ reversed e q
    half_first q h same =
        let w = two-pow-succ e in
        let s = sizes in
        let l = lesser q h in
        let d = doubled in
        let low = reversed_low e q h in
        let high = reversed_high e q h in
        let m : (z q ≡ z p) ⊎ (z (2 ^ e + q) ≡ z p) = ⊎_elim (λ lt. inl (omega arith)) (λ le. inr (omega arith)) (cases_lt (z q) (z (2 ^ e + q))) in
        ⊎_elim (λ m. let f = turns.first q (omega arith) m in omega arith) (λ m. let f = turns.first (2 ^ e + q) (omega arith) m in omega arith) m

    pub turns_half : Turns e c (2 ^ e) j
    turns_half = record { within = within; least = half_least; first = half_first }

  -- it lies in the right half only if the value there is smaller
  pub halved : (p : ℕ) → Turns (suc e) z (2 ^ suc e) p → (j : ℕ) × (j < 2 ^ e) × Half e z p j
  halved p turns =
      let w = two-pow-succ e in
      let t = turns.within in
      ⊎_elim (λ low. (p, low, inr (turns.least (2 ^ e + p) (omega arith), refl)))
      (λ high.
      let j = p - 2 ^ e in
      let is : p ≡ 2 ^ e + j = omega arith in
      let within : j < 2 ^ e = omega arith in
      let s : z p ≡ z (2 ^ e + j) = ap z is in
      let le = turns.least j (omega arith) in
      let r : reversed (suc e) p ≡ reversed (suc e) (2 ^ e + j) = ap (reversed (suc e)) is in
      let r-high = reversed_high e j within in
      let r-low = reversed_low e j within in
      (j, within, inl (⊎_elim (λ lt. lt) (λ ge. let f = turns.first j (omega arith) (omega arith) in let n : ⊥ = omega arith in absurd n) (cases_lt (z (2 ^ e + j)) (z j)), is)))
      (cases_lt p (2 ^ e))
