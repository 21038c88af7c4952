-- What the questions about a list of marks tell of it. Assumes nothing.
use Rattle.std.proofs.Common.{◌≡◌, ℕ, ◌^◌, ◌≤◌, Bool, true, false, eqb, leb, List, length, get_or, is_some, Some, None, Option, sym, refl, ap, ◌∙◌, ⊎_elim, arith}
use Rattle.std.specs.Option.{option_map}
use Rattle.std.proofs.lemmas.List.{get_or_past}
use Rattle.std.proofs.lemmas.Bool.{eq-eqb, ne_eqb, eqb-true, eqb-false, true≢false, leb-true, and_parts, cases_lt}
use Rattle.code.specs.declared.faults.MapFault.{MapFault}
use Rattle.code.specs.declared.faults.MapFault.TheVariants.{Exponent, Length, Bit}
use Rattle.code.specs.Spans.{good_exponent, lowest_no, is_bit, listed_fault, Means}
use Rattle.code.proofs.Lowest.{none_fails}

abbrev pub bits_of : List ℕ → Option ℕ
bits_of bytes = lowest_no (λ p. is_bit (get_or bytes p 0)) 0 (length bytes)

module _ (n : ℕ) (bytes : List ℕ) where
  pub bad_exponent : good_exponent n ≡ false → listed_fault n bytes ≡ Some Exponent
  unfolding listed_fault
  bad_exponent bad = rw bad

  pub bad_length : good_exponent n ≡ true → (length bytes ≡ 2 ^ n → ⊥) → listed_fault n bytes ≡ Some Length
  unfolding listed_fault
  bad_length good other = rw (good, ne_eqb (length bytes) (2 ^ n) other)

  pub bits_asked : good_exponent n ≡ true → length bytes ≡ 2 ^ n → listed_fault n bytes ≡ option_map Bit (bits_of bytes)
  unfolding listed_fault
  bits_asked good long = rw (good, eq-eqb (length bytes) (2 ^ n) long)

-- a number whose every question was answered yes
none_from : {X : Type 0} (o : Option X) (f : X → MapFault) → is_some (option_map f o) ≡ false → o ≡ None
none_from None f e = refl
none_from (Some x) f e = absurd (true≢false e)

pub bits_below_two : (bytes : List ℕ) → bits_of bytes ≡ None → (i : ℕ) → get_or bytes i 0 ≤ 1
bits_below_two bytes none i =
    ⊎_elim
    (λ h. leb-true (get_or bytes i 0) 1 (none_fails (λ p. is_bit (get_or bytes p 0)) 0 (length bytes) none i (omega arith) (omega arith)))
    (λ h. let past : get_or bytes i 0 ≡ 0 = get_or_past bytes i 0 h in omega arith)
    (cases_lt i (length bytes))

-- an accepted list of marks is one that a map can mean
pub listed_means : (n : ℕ) (bytes : List ℕ) → is_some (listed_fault n bytes) ≡ false → Means n bytes
listed_means n bytes accepted = by_exponent (good_exponent n) refl
  where
    refuse : {f : MapFault} → listed_fault n bytes ≡ Some f → Means n bytes
    refuse found = absurd (true≢false (sym (ap is_some found) ∙ accepted))

    by_length : good_exponent n ≡ true → (b : Bool) → eqb (length bytes) (2 ^ n) ≡ b → Means n bytes
    by_length good true same =
        let long = eqb-true (length bytes) (2 ^ n) same in
        let all = none_from (bits_of bytes) Bit (sym (ap is_some (bits_asked n bytes good long)) ∙ accepted) in
        let ends = and_parts (leb 1 n) (leb n 10) good in
        record {
          low = leb-true 1 n ends.0;
          high = leb-true n 10 ends.1;
          long = long;
          bits = bits_below_two bytes all;
        }
    by_length good false other = refuse (bad_length n bytes good (eqb-false (length bytes) (2 ^ n) other))

    by_exponent : (b : Bool) → good_exponent n ≡ b → Means n bytes
    by_exponent true good = by_length good (eqb (length bytes) (2 ^ n)) refl
    by_exponent false bad = refuse (bad_exponent n bytes bad)
