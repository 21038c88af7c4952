-- Which numbers are 2 ^ e. Assumes nothing.
use Rattle.std.proofs.Common.{◌≡◌, ℕ, ◌^◌, true, false, count_ones, sym, ap, ◌∙◌, ⊎_elim, arith}
use lib.Pow.{pow-lt}
use Rattle.std.specs.Int.{is_power_of_two}
use Rattle.std.proofs.lemmas.Bool.{cases_order, eqb-true, eq-eqb, true≢false}
use Rattle.code.proofs.SpanTests.{one_digit, power_digit}

pub pow_one : (d e : ℕ) → 2 ^ d ≡ 2 ^ e → d ≡ e
pow_one d e same =
    ⊎_elim (λ eq. eq) (⊎_elim (λ lt. let p = pow-lt lt in let n : ⊥ = omega arith in absurd n) (λ lt. let p = pow-lt lt in let n : ⊥ = omega arith in absurd n)) (cases_order d e)

-- a number that passes the library's test is a power of two
pub power_of : (n : ℕ) → is_power_of_two n ≡ true → (e : ℕ) × (n ≡ 2 ^ e)
power_of n is = one_digit n n (omega arith) (eqb-true (count_ones n) 1 is)

-- and one that does not is none
pub no_power : (n : ℕ) → is_power_of_two n ≡ false → (e : ℕ) → n ≡ 2 ^ e → ⊥
no_power n other e is = true≢false (sym (eq-eqb (count_ones n) 1 (ap count_ones is ∙ power_digit e)) ∙ other)
