-- The words of Rate-1 and SPC are the cheapest. Assumes nothing.
use Rattle.std.proofs.Common.{◌≡◌, ℕ, zero, suc, ◌+◌, ◌^◌, ◌<◌, ◌≤◌, Bool, true, false, cond, eqb, ◌⊎◌, List, [], ◌∷◌, length, get_or, take, drop, sym, refl, ap, ◌∙◌, ap₂, inl, inr, ⊎_elim, arith, take-append-drop, pow_pos}
use lib.Bits.{bit_xor, xor_zero_r}
use Rattle.std.proofs.lemmas.List.{get_or_append_left}
use Rattle.std.proofs.lemmas.Bool.{cases_Bool, eqb-true, eqb-false}
use Rattle.soft.specs.Kind.{Kind}
use Rattle.code.specs.declared.kinds.SpanKind.TheVariants.{Spc}
use Rattle.code.specs.Spans.{pattern}
use Rattle.code.specs.Transform.{xor_row, transform}
use Rattle.code.proofs.Transforms.{keeps_length, length-xor_row, get_or-xor_row}
use Rattle.cancellation.specs.Rows.{bit, signs}
use Rattle.cancellation.specs.Rules.{size_at, parity, Turns, turned_at, evened}
use Rattle.cancellation.specs.Cost.{cost, Cheapest}
use Rattle.cancellation.proofs.Combined.{left_long, right_long, no_tail, same_tail}
use Rattle.cancellation.proofs.Turned.{parity_append}

-- the first entry of a transform is the XOR of the word
pub transform_front : (e : ℕ) (word : List ℕ) → length word ≡ 2 ^ e → get_or (transform e word) 0 0 ≡ parity word
unfolding transform
transform_front zero [] long = let h : ⊥ = omega arith in absurd h
transform_front zero (b ∷ []) long = sym (xor_zero_r b)
transform_front zero (b ∷ (c ∷ word)) long = let h : ⊥ = omega arith in absurd h
transform_front (suc e) word long =
    let l = transform e (take (2 ^ e) word) in
    let r = transform e (drop (2 ^ e) word) in
    let ll : length l ≡ 2 ^ e = keeps_length e (take (2 ^ e) word) (left_long e word long) in
    let lr : length r ≡ 2 ^ e = keeps_length e (drop (2 ^ e) word) (right_long e word long) in
    let lx : length (xor_row l r) ≡ 2 ^ e = length-xor_row l r (ll ∙ sym lr) ∙ ll in
    get_or_append_left (xor_row l r) r 0 0 (omega (arith, pow_pos e))
    ∙ get_or-xor_row l r 0 (ll ∙ sym lr)
    ∙ ap₂ bit_xor (transform_front e (take (2 ^ e) word) (left_long e word long)) (transform_front e (drop (2 ^ e) word) (right_long e word long))
    ∙ sym (parity_append (take (2 ^ e) word) (drop (2 ^ e) word))
    ∙ ap parity (take-append-drop (2 ^ e) word)

module _ {S : Type 0} (kind : Kind S) where
  same_bit : (s : Bool) → eqb (bit s) (bit s) ≡ true
  same_bit true = refl
  same_bit false = refl

  turned_bit : (s : Bool) → eqb (bit_xor (bit s) 1) (bit s) ≡ false
  turned_bit true = refl
  turned_bit false = refl

  pub cost_signs : (values : List S) → cost kind values (signs kind values) ≡ 0
  cost_signs [] = refl
  cost_signs (v ∷ values) = ap₂ (λ t rest. cond t 0 (kind.size v) + rest) (same_bit (kind.sign v)) (cost_signs values)

  cost_turned : (p : ℕ) (values : List S) → p < length values → cost kind values (turned_at p (signs kind values)) ≡ size_at kind values p
  cost_turned p [] h = let n : ⊥ = omega arith in absurd n
  cost_turned zero (v ∷ values) h =
      ap₂ (λ t rest. cond t 0 (kind.size v) + rest) (turned_bit (kind.sign v)) (cost_signs values) ∙ omega arith
  cost_turned (suc p) (v ∷ values) h =
      ap₂ (λ t rest. cond t 0 (kind.size v) + rest) (same_bit (kind.sign v)) (cost_turned p values (omega arith)) ∙ omega arith

  -- a word whose XOR is not that of the signs differs from them at some place
  differs : (least : ℕ) (values : List S) (word : List ℕ) → length word ≡ length values → ((q : ℕ) → q < length values → least ≤ size_at kind values q) →
      (parity word ≡ parity (signs kind values)) ⊎ (least ≤ cost kind values word)
  differs least [] [] long small = inl refl
  differs least [] (b ∷ word) long small = no_tail b word long
  differs least (v ∷ values) [] long small = no_tail v values (sym long)
  differs least (v ∷ values) (b ∷ word) long small =
      let rest = differs least values word (same_tail b word v values long) (λ q h. small (suc q) (omega arith)) in
      let here = small 0 (omega arith) in
      ⊎_elim
      (λ is.
      let c : cond (eqb b (bit (kind.sign v))) 0 (kind.size v) ≡ 0 = ap (λ t. cond t 0 (kind.size v)) is in
      ⊎_elim (λ same. inl (ap₂ bit_xor (eqb-true b (bit (kind.sign v)) is) same)) (λ le. inr (omega arith)) rest)
      (λ not.
      let c : cond (eqb b (bit (kind.sign v))) 0 (kind.size v) ≡ kind.size v = ap (λ t. cond t 0 (kind.size v)) not in
      inr (omega arith))
      (cases_Bool (eqb b (bit (kind.sign v))))

  pub cheapest_signs : (e : ℕ) (marks : List ℕ) (values : List S) (word : List ℕ) → word ≡ signs kind values → Cheapest kind e marks values word
  cheapest_signs e marks values word is other long allowed = let c = ap (cost kind values) is ∙ cost_signs values in omega arith

  pub cheapest_even : (e : ℕ) (values : List S) (word : List ℕ) (p : ℕ) → length values ≡ 2 ^ e → Turns e (size_at kind values) (2 ^ e) p → word ≡ evened kind values p →
      Cheapest kind e (pattern Spc (2 ^ e)) values word
  cheapest_even e values word p long turns is other other-long allowed =
      let front : parity other ≡ 0 = sym (transform_front e other other-long) ∙ allowed 0 refl in
      let t = turns.within in
      ⊎_elim
      (λ even.
      cheapest_signs e (pattern Spc (2 ^ e)) values word (is ∙ ap (λ b. cond b (signs kind values) (turned_at p (signs kind values))) even) other other-long allowed)
      (λ odd.
      let c : cost kind values word ≡ size_at kind values p =
      ap (cost kind values) (is ∙ ap (λ b. cond b (signs kind values) (turned_at p (signs kind values))) odd) ∙ cost_turned p values (omega arith) in
      ⊎_elim (λ same. absurd (eqb-false (parity (signs kind values)) 0 odd (sym same ∙ front))) (λ le. omega arith)
      (differs (size_at kind values p) values other (other-long ∙ sym long) (λ q h. turns.least q (omega arith))))
      (cases_Bool (eqb (parity (signs kind values)) 0))
