-- Laws of rows of soft numbers. Assumes nothing.
use Rattle.std.proofs.Common.{◌≡◌, ℕ, zero, suc, ◌^◌, ◌<◌, Bool, true, false, eqb, List, [], ◌∷◌, ◌++◌, length, get_or, take, drop, sym, refl, ap, ◌∙◌, ap₂, arith}
use native.Mathlib.Nat.{two-pow-succ}
use lib.Bits.{bit_xor}
use Rattle.std.proofs.lemmas.List.{length-take, length-drop}
use Rattle.soft.specs.Kind.{Kind, Laws, differ, sign_of_join}
use Rattle.code.specs.Transform.{xor_row}
use Rattle.cancellation.specs.Rows.{bit, signs, check_row, join_row, left_values, right_values}

pub bit_differ : (x y : Bool) → bit (differ x y) ≡ bit_xor (bit x) (bit y)
bit_differ true true = refl
bit_differ true false = refl
bit_differ false true = refl
bit_differ false false = refl

-- the lengths of the halves of a row of 2 ^ suc e
module _ {X : Type 0} (e : ℕ) (row : List X) (long : length row ≡ 2 ^ suc e) where
  pub left_long : length (take (2 ^ e) row) ≡ 2 ^ e
  left_long = simp length-take (omega (arith, two-pow-succ e))

  pub right_long : length (drop (2 ^ e) row) ≡ 2 ^ e
  right_long = simp length-drop (omega (arith, two-pow-succ e))

-- with β the XOR of both signs, c and b agree
pub agreed : (s t : Bool) (x y : ℕ) → sign_of_join (differ s (eqb (bit_xor (bit s) (bit t)) 1)) x t y ≡ t
agreed true true x y = refl
agreed true false x y = refl
agreed false true x y = refl
agreed false false x y = refl

pub same_tail : {X Y : Type 0} (x : X) (xs : List X) (y : Y) (ys : List Y) → length (x ∷ xs) ≡ length (y ∷ ys) → length xs ≡ length ys
same_tail x xs y ys e = omega arith

pub no_tail : {X Z : Type 0} (x : X) (xs : List X) → length (x ∷ xs) ≡ 0 → Z
no_tail x xs e = let h : ⊥ = omega arith in absurd h

module _ {S : Type 0} (kind : Kind S) where
  pub length_signs : (vs : List S) → length (signs kind vs) ≡ length vs
  length_signs [] = refl
  length_signs (v ∷ vs) = ap suc (length_signs vs)

  pub length-check_row : (xs ys : List S) → length xs ≡ length ys → length (check_row kind xs ys) ≡ length xs
  length-check_row [] ys e = refl
  length-check_row (x ∷ xs) [] e = sym e
  length-check_row (x ∷ xs) (y ∷ ys) e = ap suc (length-check_row xs ys (same_tail x xs y ys e))

  pub length-join_row : (xs ys : List S) (βs : List ℕ) → length xs ≡ length ys → length xs ≡ length βs → length (join_row kind xs ys βs) ≡ length xs
  length-join_row [] ys βs e f = refl
  length-join_row (x ∷ xs) [] βs e f = sym e
  length-join_row (x ∷ xs) (y ∷ ys) [] e f = sym f
  length-join_row (x ∷ xs) (y ∷ ys) (β ∷ βs) e f = ap suc (length-join_row xs ys βs (same_tail x xs y ys e) (same_tail x xs β βs f))

  pub take_signs : (n : ℕ) (vs : List S) → signs kind (take n vs) ≡ take n (signs kind vs)
  take_signs zero vs = refl
  take_signs (suc n) [] = refl
  take_signs (suc n) (v ∷ vs) = ap (λ rest. bit (kind.sign v) ∷ rest) (take_signs n vs)

  pub drop_signs : (n : ℕ) (vs : List S) → signs kind (drop n vs) ≡ drop n (signs kind vs)
  drop_signs zero vs = refl
  drop_signs (suc n) [] = refl
  drop_signs (suc n) (v ∷ vs) = drop_signs n vs

  pub signs_append : (xs ys : List S) → signs kind (xs ++ ys) ≡ signs kind xs ++ signs kind ys
  signs_append [] ys = refl
  signs_append (x ∷ xs) ys = ap (λ rest. bit (kind.sign x) ∷ rest) (signs_append xs ys)

  pub get_or-check_row : (xs ys : List S) (q : ℕ) → q < length xs → length xs ≡ length ys →
      get_or (check_row kind xs ys) q kind.fill ≡ kind.check (get_or xs q kind.fill) (get_or ys q kind.fill)
  get_or-check_row [] ys q h e = let n : ⊥ = omega arith in absurd n
  get_or-check_row (x ∷ xs) [] q h e = no_tail x xs e
  get_or-check_row (x ∷ xs) (y ∷ ys) zero h e = refl
  get_or-check_row (x ∷ xs) (y ∷ ys) (suc q) h e = get_or-check_row xs ys q (omega arith) (same_tail x xs y ys e)

  pub get_or-join_row : (xs ys : List S) (βs : List ℕ) (q : ℕ) → q < length xs → length xs ≡ length ys → length xs ≡ length βs →
      get_or (join_row kind xs ys βs) q kind.fill ≡ kind.join (get_or xs q kind.fill) (get_or ys q kind.fill) (eqb (get_or βs q 0) 1)
  get_or-join_row [] ys βs q h e f = let n : ⊥ = omega arith in absurd n
  get_or-join_row (x ∷ xs) [] βs q h e f = no_tail x xs e
  get_or-join_row (x ∷ xs) (y ∷ ys) [] q h e f = no_tail x xs f
  get_or-join_row (x ∷ xs) (y ∷ ys) (β ∷ βs) zero h e f = refl
  get_or-join_row (x ∷ xs) (y ∷ ys) (β ∷ βs) (suc q) h e f = get_or-join_row xs ys βs q (omega arith) (same_tail x xs y ys e) (same_tail x xs β βs f)

  -- a row of 2 ^ suc e has halves of 2 ^ e
  module _ (e : ℕ) (values : List S) (long : length values ≡ 2 ^ suc e) where
    pub left_values_long : length (left_values kind e values) ≡ 2 ^ e
    left_values_long = length-check_row _ _ (left_long e values long ∙ sym (right_long e values long)) ∙ left_long e values long

    pub right_values_long : (βs : List ℕ) → length βs ≡ 2 ^ e → length (right_values kind e values βs) ≡ 2 ^ e
    right_values_long βs h =
        length-join_row _ _ βs (left_long e values long ∙ sym (right_long e values long)) (left_long e values long ∙ sym h) ∙ left_long e values long

  module _ (laws : Laws kind) where
    pub signs_check : (xs ys : List S) → signs kind (check_row kind xs ys) ≡ xor_row (signs kind xs) (signs kind ys)
    signs_check [] ys = refl
    signs_check (x ∷ xs) [] = refl
    signs_check (x ∷ xs) (y ∷ ys) =
        ap₂ (λ b rest. b ∷ rest) (ap bit (laws.check_sign x y) ∙ bit_differ (kind.sign x) (kind.sign y)) (signs_check xs ys)

    -- joined with the XOR of both rows' signs, a row keeps the signs of the second
    pub signs_join : (xs ys : List S) → length xs ≡ length ys → signs kind (join_row kind xs ys (xor_row (signs kind xs) (signs kind ys))) ≡ signs kind ys
    signs_join [] [] e = refl
    signs_join [] (y ∷ ys) e = no_tail y ys (sym e)
    signs_join (x ∷ xs) [] e = no_tail x xs e
    signs_join (x ∷ xs) (y ∷ ys) e =
        ap₂ (λ b rest. b ∷ rest)
        (ap bit (laws.join_sign x y _ ∙ agreed (kind.sign x) (kind.sign y) (kind.size x) (kind.size y)))
        (signs_join xs ys (same_tail x xs y ys e))
