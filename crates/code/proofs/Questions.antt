-- The questions about an order, one after another.
use Rattle.std.proofs.Common.{◌≡◌, ℕ, ◌*◌, ◌^◌, true, false, List, length, Some, None, Option, sym, ap, ◌∙◌}
use Rattle.std.proofs.lemmas.Bool.{eq-eqb, ne_eqb}
use Rattle.code.specs.declared.faults.MapFault.{MapFault}
use Rattle.code.specs.declared.faults.MapFault.TheVariants.{Exponent, Length, Rank, Law}
use Rattle.code.specs.Spans.{good_exponent, lowest_no}
use Rattle.code.specs.Orders.{ranks_of, fresh_rank, keeps_law, ranks_fault, order_fault}

-- what the two questions about ranks found
abbrev pub either : Option ℕ → Option ℕ → Option MapFault
either bad breach = elim bad [ Some p ↦ Some (Rank p) | None ↦ elim breach [ Some p ↦ Some (Law p) | None ↦ None ] ]

-- n is not from 1 to 10
pub fault_exponent : (n : ℕ) (bytes : List ℕ) → false ≡ good_exponent n → Some Exponent ≡ order_fault n bytes
unfolding order_fault
fault_exponent n bytes h = rw (sym h)

module _ (n : ℕ) (bytes : List ℕ) (good : good_exponent n ≡ true) where
  -- there are not 2 * 2 ^ n bytes
  pub fault_length : (length bytes ≡ 2 * 2 ^ n → ⊥) → Some Length ≡ order_fault n bytes
  unfolding order_fault
  fault_length h = rw (good, ne_eqb (length bytes) (2 * 2 ^ n) h)

  fault_ranks : length bytes ≡ 2 * 2 ^ n → order_fault n bytes ≡ either (lowest_no (fresh_rank (ranks_of bytes)) 0 (2 ^ n)) (lowest_no (keeps_law n (ranks_of bytes)) 0 (2 ^ n))
  unfolding order_fault ranks_fault
  fault_ranks long = rw (good, eq-eqb (length bytes) (2 * 2 ^ n) long)

  -- a rank is too large or stands before
  pub fault_rank : length bytes ≡ 2 * 2 ^ n → (p : ℕ) → Some p ≡ lowest_no (fresh_rank (ranks_of bytes)) 0 (2 ^ n) → Some (Rank p) ≡ order_fault n bytes
  fault_rank long p e = ap (λ o. either o (lowest_no (keeps_law n (ranks_of bytes)) 0 (2 ^ n))) e ∙ sym (fault_ranks long)

  -- a position does not keep the law
  pub fault_law : length bytes ≡ 2 * 2 ^ n → (p : ℕ) → None ≡ lowest_no (fresh_rank (ranks_of bytes)) 0 (2 ^ n) → Some p ≡ lowest_no (keeps_law n (ranks_of bytes)) 0 (2 ^ n) → Some (Law p) ≡ order_fault n bytes
  fault_law long p e f = ap (either None) f ∙ ap (λ o. either o (lowest_no (keeps_law n (ranks_of bytes)) 0 (2 ^ n))) e ∙ sym (fault_ranks long)

  -- no question is answered no
  pub fault_none : length bytes ≡ 2 * 2 ^ n → None ≡ lowest_no (fresh_rank (ranks_of bytes)) 0 (2 ^ n) → None ≡ lowest_no (keeps_law n (ranks_of bytes)) 0 (2 ^ n) → None ≡ order_fault n bytes
  fault_none long e f = ap (either None) f ∙ ap (λ o. either o (lowest_no (keeps_law n (ranks_of bytes)) 0 (2 ^ n))) e ∙ sym (fault_ranks long)
