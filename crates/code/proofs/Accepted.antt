-- An order is accepted where its ranks are lawful, and only there.
use Rattle.std.proofs.Common.{◌≡◌, ℕ, zero, suc, ◌*◌, ◌^◌, ◌<◌, ◌≤◌, Bool, true, false, cond, not, eqb, ltb, leb, List, [], ◌∷◌, length, get_or, take, is_some, Some, None, Ok, Option, Result, sym, refl, ap, ◌∙◌, ⊎_elim, arith, length-take, get_or-take}
use Rattle.std.proofs.lemmas.Bool.{cases_order, eq-eqb, eqb-true, ne_eqb, cond_both, and_parts, and_from, le-leb, leb-true, ltb-true, lt-ltb, not-true, not_from_false, both_ways}
use Rattle.code.specs.declared.faults.MapFault.{MapFault}
use Rattle.code.specs.declared.faults.MapFault.TheVariants.{Exponent, Length}
use Rattle.code.specs.Faults.{answer_to}
use Rattle.code.specs.Spans.{good_exponent, lowest_no}
use Rattle.code.specs.Orders.{ranks_of, among, fresh_rank, keeps_law, ranks_fault, order_fault, Lawful}
use Rattle.code.proofs.Lowest.{none_fails, all_pass}
use Rattle.code.proofs.Written.{length-ranks_of}
use Rattle.code.proofs.Questions.{either, fault_none}
use Rattle.code.proofs.Moves.{law_from_test, test_from_law}

-- a question that was answered yes, and what the later ones found
passed : (t : Bool) (f : MapFault) (rest : Option MapFault) → cond (not t) (Some f) rest ≡ None → (t ≡ true) × (rest ≡ None)
passed true f rest h = (refl, h)
passed false f rest h = let z : ◌≡◌ {A = ℕ} 0 1 = cc in absurd (omega arith)

neither : (bad breach : Option ℕ) → either bad breach ≡ None → (bad ≡ None) × (breach ≡ None)
neither None None h = (refl, refl)
neither None (Some p) h = let z : ◌≡◌ {A = ℕ} 0 1 = cc in absurd (omega arith)
neither (Some p) None h = let z : ◌≡◌ {A = ℕ} 0 1 = cc in absurd (omega arith)
neither (Some p) (Some q) h = let z : ◌≡◌ {A = ℕ} 0 1 = cc in absurd (omega arith)

pub none_from : (o : Option MapFault) → is_some o ≡ false → o ≡ None
none_from None h = refl
none_from (Some f) h = absurd (both_ways true h refl)

pub good_from : (n : ℕ) (bytes : List ℕ) → order_fault n bytes ≡ None → (1 ≤ n) × (n ≤ 10)
unfolding order_fault
good_from n bytes h =
    let both = and_parts (leb 1 n) (leb n 10) (passed (good_exponent n) Exponent _ h).0 in
    (leb-true 1 n both.0, leb-true n 10 both.1)

-- an accepted order has two bytes for each position
pub long_from : (n : ℕ) (bytes : List ℕ) → order_fault n bytes ≡ None → length bytes ≡ 2 * 2 ^ n
unfolding order_fault
long_from n bytes h = eqb-true (length bytes) (2 * 2 ^ n) (passed (eqb (length bytes) (2 * 2 ^ n)) Length _ (passed (good_exponent n) Exponent _ h).1).0

pub ranks_from : (n : ℕ) (bytes : List ℕ) → order_fault n bytes ≡ None → (lowest_no (fresh_rank (ranks_of bytes)) 0 (2 ^ n) ≡ None) × (lowest_no (keeps_law n (ranks_of bytes)) 0 (2 ^ n) ≡ None)
unfolding order_fault ranks_fault
ranks_from n bytes h =
    neither _ _ (passed (eqb (length bytes) (2 * 2 ^ n)) Length _ (passed (good_exponent n) Exponent _ h).1).1

-- a rank is among those before a later position
among_before : (xs : List ℕ) (p q : ℕ) → p < q → p < length xs → among (get_or xs p 0) (take q xs) ≡ true
among_before [] p q pq lt = absurd (omega arith)
among_before (x ∷ xs) zero zero pq lt = absurd (omega arith)
among_before (x ∷ xs) zero (suc q) pq lt = rw (eq-eqb x x refl)
among_before (x ∷ xs) (suc p) zero pq lt = absurd (omega arith)
among_before (x ∷ xs) (suc p) (suc q) pq lt =
    cond_both (eqb (get_or xs p 0) x) true _ (λ t. t ≡ true) (λ e. refl) (λ e. among_before xs p q (omega arith) (omega arith))

-- a number that is like none of some others
among_none : (x : ℕ) (ys : List ℕ) → ((k : ℕ) → k < length ys → get_or ys k 0 ≡ x → ⊥) → among x ys ≡ false
among_none x [] none = refl
among_none x (y ∷ ys) none =
    rw (ne_eqb x y (λ e. none 0 (omega arith) (sym e))) (among_none x ys (λ k lt. none (suc k) (omega arith)))

fresh_apart : (ranks : List ℕ) (p q : ℕ) → p < q → q < length ranks → fresh_rank ranks q ≡ true → get_or ranks p 0 ≡ get_or ranks q 0 → ⊥
fresh_apart ranks p q pq lt fresh same =
    let new : among (get_or ranks q 0) (take q ranks) ≡ false = not-true _ (and_parts (ltb (get_or ranks q 0) (length ranks)) _ fresh).1 in
    both_ways _ new (rw same at (among_before ranks p q pq (omega arith)))

-- an accepted order is lawful
pub lawful_from : (n : ℕ) (bytes : List ℕ) → order_fault n bytes ≡ None → Lawful n (ranks_of bytes)
lawful_from n bytes h = record {
  low = (good_from n bytes h).0;
  high = (good_from n bytes h).1;
  long = long;
  below = λ p lt. below p lt;
  different = λ p q lp lq e. ⊎_elim (λ same. same) (λ apart. absurd (⊎_elim
      (λ pq. fresh_apart ranks p q pq (omega (arith, long)) (fresh q lq) e)
      (λ qp. fresh_apart ranks q p qp (omega (arith, long)) (fresh p lp) (sym e)) apart)) (cases_order p q);
  law = λ p lt. law_from_test n ranks p (none_fails (keeps_law n ranks) 0 (2 ^ n) (ranks_from n bytes h).1 p (omega arith) (omega arith));
}
  where
    ranks : List ℕ
    ranks = ranks_of bytes

    long : length (ranks_of bytes) ≡ 2 ^ n
    long = length-ranks_of bytes (2 ^ n) (long_from n bytes h)

    fresh : (p : ℕ) → p < 2 ^ n → fresh_rank (ranks_of bytes) p ≡ true
    fresh p lt = none_fails (fresh_rank (ranks_of bytes)) 0 (2 ^ n) (ranks_from n bytes h).0 p (omega arith) (omega arith)

    below : (p : ℕ) → p < 2 ^ n → get_or (ranks_of bytes) p 0 < 2 ^ n
    below p lt = rw long at (ltb-true _ _ (and_parts (ltb (get_or (ranks_of bytes) p 0) (length (ranks_of bytes))) _ (fresh p lt)).0)

-- a lawful order in its two bytes for each position is accepted
pub accepted_from : (n : ℕ) (bytes : List ℕ) → length bytes ≡ 2 * 2 ^ n → Lawful n (ranks_of bytes) → order_fault n bytes ≡ None
accepted_from n bytes long lawful =
    sym (fault_none n bytes (and_from (leb 1 n) (leb n 10) (le-leb 1 n lawful.low) (le-leb n 10 lawful.high)) long
    (sym (all_pass (fresh_rank (ranks_of bytes)) 0 (2 ^ n) (λ p low lt. fresh p (omega arith))))
    (sym (all_pass (keeps_law n (ranks_of bytes)) 0 (2 ^ n) (λ p low lt. test_from_law n (ranks_of bytes) p lawful.low (omega arith) (lawful.law p (omega arith))))))
  where
    before : (p : ℕ) → p < 2 ^ n → (k : ℕ) → k < length (take p (ranks_of bytes)) → get_or (take p (ranks_of bytes)) k 0 ≡ get_or (ranks_of bytes) p 0 → ⊥
    before p lt k kt e =
        let kp : k < p = omega (arith, length-take p (ranks_of bytes)) in
        let same : k ≡ p = lawful.different k p (omega arith) lt (rw (get_or-take) at e) in
        omega arith

    fresh : (p : ℕ) → p < 2 ^ n → fresh_rank (ranks_of bytes) p ≡ true
    fresh p lt =
        and_from (ltb (get_or (ranks_of bytes) p 0) (length (ranks_of bytes))) (not (among (get_or (ranks_of bytes) p 0) (take p (ranks_of bytes))))
        (lt-ltb _ _ (rw lawful.long (lawful.below p lt)))
        (not_from_false _ (among_none (get_or (ranks_of bytes) p 0) (take p (ranks_of bytes)) (before p lt)))

-- a call that was accepted found no fault
none_of : (found : Option MapFault) → answer_to found ≡ Ok tt → found ≡ None
none_of None e = refl
none_of (Some f) e = absurd (cc e)

-- what is known where the questions about an order gave this answer
pub asked : (n : ℕ) (bytes : List ℕ) (found : Option MapFault) (told : Result (Unit {0}) MapFault) → told ≡ answer_to found → found ≡ order_fault n bytes → record {
  answer : told ≡ answer_to (order_fault n bytes);
  lawful : told ≡ Ok tt → Lawful n (ranks_of bytes);
  all : length bytes ≡ 2 * 2 ^ n → Lawful n (ranks_of bytes) → told ≡ Ok tt;
}
asked n bytes found told is e =
    record {
      answer = is ∙ ap answer_to e;
      lawful = λ accepted. lawful_from n bytes (none_of (order_fault n bytes) (sym (ap answer_to e) ∙ sym is ∙ accepted));
      all = λ long lawful. is ∙ ap answer_to (e ∙ accepted_from n bytes long lawful);
    }
