-- Cancellation on rows whose signs are right. Assumes nothing.
use Rattle.std.proofs.Common.{◌≡◌, ℕ, zero, suc, ◌+◌, ◌^◌, ◌<◌, Bool, true, false, cond, eqb, List, [], ◌∷◌, length, get_or, take, drop, sym, refl, ap, ◌∙◌, ap₂, arith}
use native.Mathlib.Nat.{two-pow-succ}
use Rattle.std.proofs.lemmas.List.{take_at, drop_at, get_or-take, get_or-drop}
use Rattle.soft.specs.Kind.{Kind, Laws}
use Rattle.code.specs.Transform.{xor_row, join_halves, transform}
use Rattle.code.proofs.Transforms.{keeps_length, length-xor_row, xor_row-twice}
use Rattle.cancellation.specs.Rows.{bit, signs, join_row, left_values, right_values}
use Rattle.cancellation.specs.Cancel.{decided, cancel}
use Rattle.cancellation.proofs.Combined.{left_long, right_long, take_signs, drop_signs, signs_check, signs_join, left_values_long, right_values_long}

-- bits that are 0 at each frozen position
abbrev pub Laid : ℕ → List ℕ → List ℕ → Type 0
Laid e marks bits = (i : ℕ) → i < 2 ^ e → eqb (get_or marks i 0) 1 ≡ false → get_or bits i 0 ≡ 0

module _ (e : ℕ) (marks bits : List ℕ) (laid : Laid (suc e) marks bits) where
  laid_left : Laid e (take (2 ^ e) marks) (take (2 ^ e) bits)
  laid_left i h f =
      get_or-take (2 ^ e) bits i 0 h
      ∙ laid i (omega (arith, two-pow-succ e)) (ap (λ m. eqb m 1) (sym (get_or-take (2 ^ e) marks i 0 h)) ∙ f)

  laid_right : Laid e (drop (2 ^ e) marks) (drop (2 ^ e) bits)
  laid_right i h f =
      get_or-drop (2 ^ e) bits i 0
      ∙ laid (2 ^ e + i) (omega (arith, two-pow-succ e)) (ap (λ m. eqb m 1) (sym (get_or-drop (2 ^ e) marks i 0)) ∙ f)

module _ {S : Type 0} (kind : Kind S) (laws : Laws kind) where
  -- a single position
  right_decided : (marks : List ℕ) (values : List S) (bits : List ℕ) → length marks ≡ 1 → length values ≡ 1 →
      Laid 0 marks bits → signs kind values ≡ bits → decided kind marks values ≡ signs kind values
  right_decided [] values bits hm hv laid right = let h : ⊥ = omega arith in absurd h
  right_decided (m ∷ marks) [] bits hm hv laid right = let h : ⊥ = omega arith in absurd h
  right_decided (m ∷ marks) (v ∷ (w ∷ values)) bits hm hv laid right = let h : ⊥ = omega arith in absurd h
  right_decided (m ∷ marks) (v ∷ []) bits hm hv laid right = go (eqb m 1) refl
    where
      go : (t : Bool) → eqb m 1 ≡ t → decided kind (m ∷ marks) (v ∷ []) ≡ signs kind (v ∷ [])
      go true is = ap (λ b. cond b (bit (kind.sign v)) 0 ∷ []) is
      go false is =
          ap (λ b. cond b (bit (kind.sign v)) 0 ∷ []) is
          ∙ ap (λ b. b ∷ []) (sym (ap (λ bs. get_or bs 0 0) right ∙ laid 0 (omega arith) is))

  -- values whose signs are a word that the marks allow are decoded to that word
  pub right_signs : (e : ℕ) (marks bits : List ℕ) (values : List S) → length marks ≡ 2 ^ e → length bits ≡ 2 ^ e → length values ≡ 2 ^ e →
      Laid e marks bits → signs kind values ≡ transform e bits → cancel kind e marks values ≡ signs kind values
  unfolding cancel transform
  right_signs zero marks bits values hm hb hv laid right = right_decided marks values bits hm hv laid right
  right_signs (suc e) marks bits values hm hb hv laid right =
      let h = 2 ^ e in
      let l = transform e (take h bits) in
      let r = transform e (drop h bits) in
      let ll : length l ≡ h = keeps_length e (take h bits) (left_long e bits hb) in
      let lr : length r ≡ h = keeps_length e (drop h bits) (right_long e bits hb) in
      let lx : length (xor_row l r) ≡ h = length-xor_row l r (ll ∙ sym lr) ∙ ll in
      let a = take h values in
      let b = drop h values in
      let sa : signs kind a ≡ xor_row l r = take_signs kind h values ∙ ap (take h) right ∙ take_at (xor_row l r) r h lx in
      let sb : signs kind b ≡ r = drop_signs kind h values ∙ ap (drop h) right ∙ drop_at (xor_row l r) r h lx in
      let sc : signs kind (left_values kind e values) ≡ l = signs_check kind laws a b ∙ ap₂ xor_row sa sb ∙ xor_row-twice l r (ll ∙ sym lr) in
      let left : cancel kind e (take h marks) (left_values kind e values) ≡ l =
      right_signs e (take h marks) (take h bits) (left_values kind e values) (left_long e marks hm) (left_long e bits hb) (left_values_long kind e values hv) (laid_left e marks bits laid) sc ∙ sc in
      let back : xor_row (signs kind a) (signs kind b) ≡ l = ap₂ xor_row sa sb ∙ xor_row-twice l r (ll ∙ sym lr) in
      let sj : signs kind (right_values kind e values l) ≡ r =
      ap (λ βs. signs kind (join_row kind a b βs)) (sym back) ∙ signs_join kind laws a b (left_long e values hv ∙ sym (right_long e values hv)) ∙ sb in
      let again : cancel kind e (drop h marks) (right_values kind e values l) ≡ r =
      right_signs e (drop h marks) (drop h bits) (right_values kind e values l) (right_long e marks hm) (right_long e bits hb) (right_values_long kind e values hv l ll) (laid_right e marks bits laid) sj ∙ sj in
      ap (λ x. join_halves x (cancel kind e (drop h marks) (right_values kind e values x))) left
      ∙ ap (join_halves l) again
      ∙ sym right
