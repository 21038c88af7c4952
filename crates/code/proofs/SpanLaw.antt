-- The law of orders within one span, by a function from the span's places to their ranks. Assumes nothing.
use Rattle.std.proofs.Common.{◌≡◌, ℕ, zero, suc, ◌+◌, ◌-◌, ◌*◌, ◌/◌, ◌%◌, ◌^◌, ◌<◌, ◌≤◌, ◌⊎◌, sym, ap, ◌∙◌, inl, inr, arith, pow_pos}
use native.Mathlib.Nat.{two-pow-succ, pow-succ', div-div-eq-div-mul}
use Rattle.std.proofs.lemmas.Bool.{cases_eq}

-- 2 ^ e places keep the law among themselves
pub record SpanLaw (e : ℕ) (f : ℕ → ℕ) : Type 0 where
  pub setting : (i : ℕ) → 1 ≤ e → i < 2 ^ e → i % 2 ≡ 0 → f (i + 1) < f i
  pub exchange : (i b : ℕ) → b + 2 ≤ e → i < 2 ^ e → i / 2 ^ b % 4 ≡ 1 → f (i + 2 ^ b) < f i

abbrev pub evens : (ℕ → ℕ) → ℕ → ℕ
evens f j = f (2 * j)

abbrev pub odds : (ℕ → ℕ) → ℕ → ℕ
odds f j = f (2 * j + 1)

-- a shift by one more bit
shift_more : (i j b : ℕ) → i / 2 ≡ j → i / 2 ^ suc b ≡ j / 2 ^ b
shift_more i j b half = ap (λ d. i / d) (pow-succ' 2 b) ∙ sym (div-div-eq-div-mul i 2 (2 ^ b)) ∙ ap (λ q. q / 2 ^ b) half

-- a power of two is even
pow_even : (e : ℕ) → 1 ≤ e → 2 ^ e % 2 ≡ 0
pow_even zero long = omega arith
pow_even (suc e) long = omega (arith, two-pow-succ e)

module _ (e : ℕ) (f : ℕ → ℕ) (law : SpanLaw (suc e) f) where
  -- from an even place to the odd one after it
  up : (j : ℕ) → j < 2 ^ e → f (2 * j + 1) < f (2 * j)
  up j within = law.setting (2 * j) (omega arith) (omega (arith, two-pow-succ e)) (omega arith)

  -- from an odd place to the even one after it
  over : (j : ℕ) → 1 ≤ e → j < 2 ^ e → j % 2 ≡ 0 → f (2 * j + 2) < f (2 * j + 1)
  over j long within even =
      let moved : f (2 * j + 1 + 1) < f (2 * j + 1) = law.exchange (2 * j + 1) 0 (omega arith) (omega (arith, two-pow-succ e)) (omega arith) in
      let there : 2 * j + 2 ≡ 2 * j + 1 + 1 = omega arith in
      omega (arith, ap f there)

  -- an exchange of two bits above bit 0
  above : (i j b : ℕ) → i / 2 ≡ j → i < 2 ^ suc e → b + 2 ≤ e → j / 2 ^ b % 4 ≡ 1 → f (i + 2 * 2 ^ b) < f i
  above i j b half within long pair =
      let there : i + 2 * 2 ^ b ≡ i + 2 ^ suc b = ap (λ d. i + d) (sym (pow-succ' 2 b)) in
      let moved = law.exchange i (suc b) (omega arith) within (ap (λ q. q % 4) (shift_more i j b half) ∙ pair) in
      omega (arith, ap f there, moved)

  pub evens_lawful : SpanLaw e (evens f)
  evens_lawful =
      record {
        setting = λ j long within even.
            let there : 2 * (j + 1) ≡ 2 * j + 2 = omega arith in
            omega (arith, up j within, over j long within even, ap f there);
        exchange = λ j b long within pair.
            let there : 2 * (j + 2 ^ b) ≡ 2 * j + 2 * 2 ^ b = omega arith in
            omega (arith, above (2 * j) j b (omega arith) (omega (arith, two-pow-succ e)) long pair, ap f there);
      }

  pub odds_lawful : SpanLaw e (odds f)
  odds_lawful =
      record {
        setting = λ j long within even.
            let there : 2 * (j + 1) ≡ 2 * j + 2 = omega arith in
            omega (arith, up (j + 1) (omega (arith, pow_even e long)), over j long within even, ap f there, ap (λ x. f (x + 1)) there);
        exchange = λ j b long within pair.
            let there : 2 * (j + 2 ^ b) + 1 ≡ 2 * j + 1 + 2 * 2 ^ b = omega arith in
            omega (arith, above (2 * j + 1) j b (omega arith) (omega (arith, two-pow-succ e)) long pair, ap f there);
      }

-- an even place or an odd one
parity : (i : ℕ) → (2 * (i / 2) ≡ i) ⊎ (2 * (i / 2) + 1 ≡ i)
parity i = elim (cases_eq (i % 2) 0) [ inl even ↦ inl (omega arith) | inr odd ↦ inr (omega arith) ]

-- the last place has the lowest rank
pub last_lowest : (e : ℕ) (f : ℕ → ℕ) → SpanLaw e f → (i : ℕ) → i < 2 ^ e → f (2 ^ e - 1) ≤ f i
last_lowest zero f law i within =
    let only : i ≡ 0 = omega arith in
    omega (arith, ap f only)
last_lowest (suc e) f law i within =
    let below : i / 2 < 2 ^ e = omega (arith, two-pow-succ e) in
    let last : 2 * (2 ^ e - 1) + 1 ≡ 2 ^ suc e - 1 = omega (arith, two-pow-succ e, pow_pos e) in
    let deep = last_lowest e (odds f) (odds_lawful e f law) (i / 2) below in
    elim (parity i) [
      | inl even ↦ omega (arith, deep, up e f law (i / 2) below, ap f last, ap f even)
      | inr odd ↦ omega (arith, deep, ap f last, ap f odd)
    ]

-- the first place has the highest rank
pub first_highest : (e : ℕ) (f : ℕ → ℕ) → SpanLaw e f → (i : ℕ) → i < 2 ^ e → f i ≤ f 0
first_highest zero f law i within =
    let only : i ≡ 0 = omega arith in
    omega (arith, ap f only)
first_highest (suc e) f law i within =
    let below : i / 2 < 2 ^ e = omega (arith, two-pow-succ e) in
    let deep = first_highest e (evens f) (evens_lawful e f law) (i / 2) below in
    elim (parity i) [
      | inl even ↦ omega (arith, deep, ap f even)
      | inr odd ↦ omega (arith, deep, up e f law (i / 2) below, ap f odd)
    ]

-- of the others the last but one has the lowest rank
pub last_but_one_lowest : (e : ℕ) (f : ℕ → ℕ) → SpanLaw e f → 1 ≤ e → (i : ℕ) → i + 1 < 2 ^ e → f (2 ^ e - 2) ≤ f i
last_but_one_lowest zero f law long i within = omega arith
last_but_one_lowest (suc zero) f law long i within =
    let only : i ≡ 0 = omega arith in
    omega (arith, ap f only)
last_but_one_lowest (suc (suc e)) f law long i within =
    let p = two-pow-succ (suc e) in
    let q = two-pow-succ e in
    let r = pow_pos e in
    let even-case = last_lowest (suc e) (evens f) (evens_lawful (suc e) f law) (i / 2) (omega arith) in
    let odd-case : 2 * (i / 2) + 1 ≡ i → f (2 * (2 ^ suc e - 2) + 1) ≤ f i = λ odd.
    let deep = last_but_one_lowest (suc e) (odds f) (odds_lawful (suc e) f law) (omega arith) (i / 2) (omega arith) in
    omega (arith, deep, ap f odd) in
    let step = over (suc e) f law (2 ^ suc e - 2) (omega arith) (omega arith) (omega arith) in
    let there : 2 * (2 ^ suc e - 2) + 2 ≡ 2 ^ suc (suc e) - 2 = omega arith in
    let end : 2 * (2 ^ suc e - 1) ≡ 2 ^ suc (suc e) - 2 = omega arith in
    elim (parity i) [
      | inl even ↦ omega (arith, even-case, ap f even, ap f end)
      | inr odd ↦ omega (arith, odd-case odd, step, ap f there)
    ]

-- of the others the second has the highest rank
pub second_highest : (e : ℕ) (f : ℕ → ℕ) → SpanLaw e f → 1 ≤ e → (i : ℕ) → 0 < i → i < 2 ^ e → f i ≤ f 1
second_highest zero f law long i other within = omega arith
second_highest (suc zero) f law long i other within =
    let only : i ≡ 1 = omega arith in
    omega (arith, ap f only)
second_highest (suc (suc e)) f law long i other within =
    let p = two-pow-succ (suc e) in
    let q = two-pow-succ e in
    let r = pow_pos e in
    let odd-case = first_highest (suc e) (odds f) (odds_lawful (suc e) f law) (i / 2) (omega arith) in
    let even-case : 2 * (i / 2) ≡ i → f i ≤ f 2 = λ even.
    let deep = second_highest (suc e) (evens f) (evens_lawful (suc e) f law) (omega arith) (i / 2) (omega arith) (omega arith) in
    omega (arith, deep, ap f even) in
    let step = over (suc e) f law 0 (omega arith) (omega arith) (omega arith) in
    elim (parity i) [
      | inl even ↦ omega (arith, even-case even, step)
      | inr odd ↦ omega (arith, odd-case, ap f odd)
    ]
