-- The spans of an accepted order keep the law among themselves. Assumes nothing.
use Rattle.std.proofs.Common.{◌≡◌, ℕ, zero, suc, ◌+◌, ◌-◌, ◌*◌, ◌/◌, ◌%◌, ◌^◌, ◌<◌, ◌≤◌, Bool, true, false, cond, eqb, List, length, get_or, is_some, None, ap, ◌∙◌, inl, inr, mul_assoc, arith, pow_pos, pow_mono, pow-add}
use native.Mathlib.Nat.{div-add-mod, add-mul-div_left}
use Rattle.std.proofs.lemmas.Bool.{cases_eq, and_parts, eq-eqb, ltb-true}
use Rattle.code.specs.Orders.{ranks_of, exchange_keeps, exchanges_keep, setting_keeps, keeps_law, order_fault}
use Rattle.code.proofs.Accepted.{none_from, good_from, long_from, ranks_from}
use Rattle.code.proofs.Lowest.{none_fails}
use Rattle.code.proofs.SpanLaw.{SpanLaw}
use Rattle.code.proofs.Written.{length-ranks_of}

-- an accepted order: n from 1 to 10, 2 ^ n ranks, the law at each position
pub record Accepted (n : ℕ) (ranks : List ℕ) : Type 0 where
  pub low : 1 ≤ n
  pub high : n ≤ 10
  pub long : length ranks ≡ 2 ^ n
  pub law : (p : ℕ) → p < 2 ^ n → keeps_law n ranks p ≡ true

pub accepted_from : (n : ℕ) (bytes : List ℕ) → order_fault n bytes ≡ None → Accepted n (ranks_of bytes)
accepted_from n bytes none =
    let good = good_from n bytes none in
    record {
      low = good.0;
      high = good.1;
      long = length-ranks_of bytes (2 ^ n) (long_from n bytes none);
      law = λ p within. none_fails (keeps_law n (ranks_of bytes)) 0 (2 ^ n) (ranks_from n bytes none).1 p (omega arith) (omega arith);
    }

-- what an order holds for as long as it exists
pub accepted_by : (n : ℕ) (bytes : List ℕ) → is_some (order_fault n bytes) ≡ false → Accepted n (ranks_of bytes)
accepted_by n bytes holds = accepted_from n bytes (none_from (order_fault n bytes) holds)

-- the two bytes of a rank are there
pub rank_place : (n : ℕ) (bytes : List ℕ) → is_some (order_fault n bytes) ≡ false → (p : ℕ) → p < 2 ^ n → (2 * p + 1 < length bytes) × (p < 2 ^ 10)
rank_place n bytes holds p within =
    let none = none_from (order_fault n bytes) holds in
    let most : 2 ^ n ≤ 2 ^ 10 = pow_mono (accepted_from n bytes none).high in
    (omega (arith, long_from n bytes none), omega arith)

-- of the exchanges below bit m, one
exchange_at : (ranks : List ℕ) (p m : ℕ) → exchanges_keep ranks p m ≡ true → (b : ℕ) → b < m → exchange_keeps ranks p b ≡ true
exchange_at ranks p zero all b below = absurd (omega arith)
exchange_at ranks p (suc m) all b below =
    let parts = and_parts (exchanges_keep ranks p m) (exchange_keeps ranks p m) all in
    elim (cases_eq b m) [
      | inl here ↦ ap (exchange_keeps ranks p) here ∙ parts.1
      | inr lower ↦ exchange_at ranks p m parts.0 b (omega arith)
    ]

-- a test that guards another, passed
guarded : (g b : Bool) → cond g b true ≡ true → g ≡ true → b ≡ true
guarded true b h is = h
guarded false b h is = cc

-- a multiple of 2 ^ e has no bit below bit e
multiple : (s e b : ℕ) → s % 2 ^ e ≡ 0 → b ≤ e → s ≡ 2 ^ b * (2 ^ (e - b) * (s / 2 ^ e))
multiple s e b whole low =
    let split : s ≡ 2 ^ e * (s / 2 ^ e) = omega (arith, div-add-mod s (2 ^ e)) in
    let sum : e ≡ b + (e - b) = omega arith in
    split ∙ ap (λ x. x * (s / 2 ^ e)) (ap (λ x. 2 ^ x) sum ∙ pow-add 2 b (e - b)) ∙ mul_assoc (2 ^ b) (2 ^ (e - b)) (s / 2 ^ e)

-- the two bits from bit b on, counted from the start of a span
same_pair : (s e i b : ℕ) → s % 2 ^ e ≡ 0 → b + 2 ≤ e → (s + i) / 2 ^ b % 4 ≡ i / 2 ^ b % 4
same_pair s e i b whole low =
    let w : ℕ = 2 ^ (e - (b + 2)) * (s / 2 ^ e) in
    let four : s ≡ 2 ^ b * (4 * w) = multiple s e (b + 2) whole low ∙ ap (λ x. x * w) (pow-add 2 b 2) ∙ mul_assoc (2 ^ b) 4 w in
    let sum : s + i ≡ i + 2 ^ b * (4 * w) = omega (arith, four) in
    let moved : (s + i) / 2 ^ b ≡ i / 2 ^ b + 4 * w = ap (λ x. x / 2 ^ b) sum ∙ add-mul-div_left i (4 * w) (pow_pos b) in
    omega (arith, moved)

-- a span of an accepted order is lawful
pub span_lawful : (n : ℕ) (ranks : List ℕ) → Accepted n ranks → (s e : ℕ) → e ≤ n → s % 2 ^ e ≡ 0 → s + 2 ^ e ≤ 2 ^ n → SpanLaw e (λ i. get_or ranks (s + i) 0)
unfolding keeps_law
span_lawful n ranks accepted s e short whole within =
    record {
      setting = λ i some below even.
          let double : s ≡ 2 * (2 ^ (e - 1) * (s / 2 ^ e)) = multiple s e 1 whole some in
          let parts = and_parts (setting_keeps ranks (s + i)) (exchanges_keep ranks (s + i) (n - 1)) (accepted.law (s + i) (omega arith)) in
          let lower = ltb-true _ _ (guarded (eqb ((s + i) % 2) 0) _ parts.0 (eq-eqb _ _ (omega arith))) in
          let there : s + (i + 1) ≡ s + i + 1 = omega arith in
          omega (arith, lower, ap (λ p. get_or ranks p 0) there);
      exchange = λ i b low below pair.
          let parts = and_parts (setting_keeps ranks (s + i)) (exchanges_keep ranks (s + i) (n - 1)) (accepted.law (s + i) (omega arith)) in
          let one = exchange_at ranks (s + i) (n - 1) parts.1 b (omega arith) in
          let lower = ltb-true _ _ (guarded (eqb ((s + i) / 2 ^ b % 4) 1) _ one (eq-eqb _ _ (same_pair s e i b whole low ∙ pair))) in
          let there : s + (i + 2 ^ b) ≡ s + i + 2 ^ b = omega arith in
          omega (arith, lower, ap (λ p. get_or ranks p 0) there);
    }
