-- What the count of positions tells of n. Assumes nothing.
use Rattle.std.proofs.Common.{◌≡◌, ℕ, ◌^◌, Bool, true, false, Ok, Err, if◌then◌else◌, refl}
use Rattle.code.specs.declared.faults.MapFault.{MapFault}
use Rattle.code.specs.declared.faults.MapFault.TheVariants.{Exponent}
use Rattle.code.specs.Spans.{good_exponent}

-- a count was answered, so n is from 1 to 10 and the count is 2 ^ n
pub counted : (n count : ℕ) → Ok count ≡ (if good_exponent n then Ok (2 ^ n) else Err Exponent) → (good_exponent n ≡ true) × (count ≡ 2 ^ n)
counted n count = go (good_exponent n)
  where
    go : (b : Bool) → Ok count ≡ (if b then Ok (2 ^ n) else Err Exponent) → (b ≡ true) × (count ≡ 2 ^ n)
    go true e = (refl, cc e)
    go false e = absurd (cc e)

-- no count was answered, so n is not
pub uncounted : (n : ℕ) (fault : MapFault) → Err fault ≡ (if good_exponent n then Ok (2 ^ n) else Err Exponent) → (good_exponent n ≡ false) × (fault ≡ Exponent)
uncounted n fault = go (good_exponent n)
  where
    go : (b : Bool) → Err fault ≡ (if b then Ok (2 ^ n) else Err Exponent) → (b ≡ false) × (fault ≡ Exponent)
    go true e = absurd (cc e)
    go false e = (refl, cc e)
