-- The test of a span: how it is made, and what it gives. Assumes nothing.
use Rattle.std.proofs.Common.{◌≡◌, ℕ, zero, suc, ◌+◌, ◌-◌, ◌/◌, ◌%◌, ◌^◌, ◌≤◌, Bool, true, false, eqb, leb, sym, refl, ap, ◌∙◌, ⊎_elim, inl, inr, arith, pow_pos, pow_mono, count_ones}
use lib.Count.{ones_step}
use native.Mathlib.Nat.{two-pow-succ}
use Rattle.std.specs.Int.{is_power_of_two}
use Rattle.std.proofs.lemmas.Nat.{ones_le_self, zero_from_ones}
use Rattle.std.proofs.lemmas.Bool.{cases_lt, cases_eq, and_parts, or_cases, or_left, or_right, eqb-true, eq-eqb, true≢false, leb-true, le-leb, lt-leb}
use Rattle.code.specs.Spans.{power_up_to, is_span}

-- a length that passes the test is a power of two
pub power_is : (n t : ℕ) → power_up_to n t ≡ true → (e : ℕ) × (e ≤ n) × (t ≡ 2 ^ e)
unfolding power_up_to
power_is zero t h = (0, omega arith, eqb-true t 1 h)
power_is (suc n) t h =
    elim (or_cases (eqb t (2 ^ suc n)) (power_up_to n t) h) [
      | inl here ↦ (suc n, omega arith, eqb-true t (2 ^ suc n) here)
      | inr lower ↦ let deep = power_is n t lower in (deep.0, omega (arith, deep.1), deep.2)
    ]

pub power_long : (n t : ℕ) → power_up_to n t ≡ true → 1 ≤ t
power_long n t h = let there = power_is n t h in omega (arith, there.2, pow_pos there.0)

pub power_most : (n t : ℕ) → power_up_to n t ≡ true → t ≤ 2 ^ n
power_most n t h =
    let there = power_is n t h in
    let most : 2 ^ there.0 ≤ 2 ^ n = pow_mono there.1 in
    omega (arith, there.2)

-- every power up to 2 ^ n passes
pub power_at : (n e : ℕ) → e ≤ n → power_up_to n (2 ^ e) ≡ true
unfolding power_up_to
power_at zero e h = let z : 2 ^ e ≡ 1 = let none : e ≡ 0 = omega arith in rw none in eq-eqb (2 ^ e) 1 z
power_at (suc n) e h =
    ⊎_elim
    (λ same. or_left (eqb (2 ^ e) (2 ^ suc n)) (power_up_to n (2 ^ e)) (eq-eqb (2 ^ e) (2 ^ suc n) (ap (λ k. 2 ^ k) same)))
    (λ other. or_right (eqb (2 ^ e) (2 ^ suc n)) (power_up_to n (2 ^ e)) (power_at n e (omega arith)))
    (cases_eq e (suc n))

-- a number with one digit set is a power of two
pub one_digit : (d n : ℕ) → n ≤ d → count_ones n ≡ 1 → (e : ℕ) × (n ≡ 2 ^ e)
one_digit zero n h one = absurd (omega (arith, ones_le_self n))
one_digit (suc d) n h one =
    let s = ones_step n in
    elim (cases_eq (n % 2) 0) [
      | inl even ↦
          let some : 1 ≤ n = omega (arith, ones_le_self n) in
          let half = one_digit d (n / 2) (omega arith) (omega arith) in
          (suc half.0, omega (arith, half.1, two-pow-succ half.0))
      | inr odd ↦ let none = zero_from_ones (n / 2) (omega arith) in (0, omega arith)
    ]

pub power_digit : (e : ℕ) → count_ones (2 ^ e) ≡ 1
power_digit zero = let s = ones_step 1 in let none = ones_le_self 0 in omega arith
power_digit (suc e) =
    let s = ones_step (2 ^ suc e) in
    let half : 2 ^ suc e / 2 ≡ 2 ^ e = omega (arith, two-pow-succ e) in
    let same = ap count_ones half in
    omega (arith, power_digit e, two-pow-succ e)

-- a power of two is tested by its size
pub power_small : (n t : ℕ) → is_power_of_two t ≡ true → leb t (2 ^ n) ≡ power_up_to n t
power_small n t one = go (power_up_to n t) refl
  where
    go : (b : Bool) → power_up_to n t ≡ b → leb t (2 ^ n) ≡ b
    go true h = le-leb t (2 ^ n) (power_most n t h)
    go false h =
        let is = one_digit t t (omega arith) (eqb-true (count_ones t) 1 one) in
        ⊎_elim
        (λ large. lt-leb t (2 ^ n) (let more : 2 ^ suc n ≤ 2 ^ is.0 = pow_mono large in omega (arith, is.1, two-pow-succ n, pow_pos n)))
        (λ small. absurd (true≢false (sym (ap (power_up_to n) is.1 ∙ power_at n is.0 small) ∙ h)))
        (cases_lt n is.0)

pub power_other : (n t : ℕ) → is_power_of_two t ≡ false → false ≡ power_up_to n t
power_other n t other = go (power_up_to n t) refl
  where
    go : (b : Bool) → power_up_to n t ≡ b → false ≡ power_up_to n t
    go true h = let is = power_is n t h in absurd (true≢false (sym (eq-eqb (count_ones t) 1 (ap count_ones is.2 ∙ power_digit is.0)) ∙ other))
    go false h = sym h

-- the last question of the test
pub span_last : (n s t : ℕ) → true ≡ power_up_to n t → s % t ≡ 0 → leb s (2 ^ n - t) ≡ is_span n s t
span_last n s t power whole =
    let most = power_most n t (sym power) in
    let fits : leb s (2 ^ n - t) ≡ leb (s + t) (2 ^ n) = elim (cases_lt (2 ^ n - t) s) [
      | inl past ↦ lt-leb s (2 ^ n - t) past ∙ sym (lt-leb (s + t) (2 ^ n) (omega arith))
      | inr before ↦ le-leb s (2 ^ n - t) before ∙ sym (le-leb (s + t) (2 ^ n) (omega arith))
    ] in
    let start = eq-eqb (s % t) 0 whole in
    rw (← power, start, fits)

module _ (n s t : ℕ) (span : is_span n s t ≡ true) where
  pub span_power : power_up_to n t ≡ true
  span_power = (and_parts (power_up_to n t) _ span).0

  pub span_whole : s % t ≡ 0
  span_whole = eqb-true (s % t) 0 (and_parts (eqb (s % t) 0) _ (and_parts (power_up_to n t) _ span).1).0

  pub span_within : s + t ≤ 2 ^ n
  span_within = leb-true (s + t) (2 ^ n) (and_parts (eqb (s % t) 0) _ (and_parts (power_up_to n t) _ span).1).1

  pub span_long : 1 ≤ t
  span_long = power_long n t span_power

  pub span_most : n ≤ 10 → s + t ≤ 2 ^ 10
  span_most small = let most : 2 ^ n ≤ 2 ^ 10 = pow_mono small in omega (arith, span_within)
