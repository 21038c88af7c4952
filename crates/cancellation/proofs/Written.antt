-- What the loops over rows leave in them. Assumes nothing.
use Rattle.std.proofs.Common.{◌≡◌, ℕ, ◌+◌, ◌*◌, ◌<◌, Bool, true, false, eqb, List, [], ◌∷◌, ◌++◌, length, get_or, take, drop, Ok, sym, refl, ap, ◌∙◌, arith, append_assoc, ap₂}
use lib.Bits.{bit_xor, xor_zero_r}
use Rattle.std.proofs.Math.Seq.{take-add}
use Rattle.std.proofs.lemmas.List.{length-take, length-drop, ext_get_or, take_more}
use mir.Val.{bool_byte}
use Rattle.soft.specs.Kind.{Kind}
use Rattle.cancellation.specs.Rows.{bit, signs, check_row, join_row, Rowed}
use Rattle.cancellation.specs.Rules.{parity}
use Rattle.cancellation.proofs.Combined.{length-check_row, length-join_row, get_or-check_row, get_or-join_row, signs_append}
use Rattle.cancellation.proofs.Turned.{parity_append}

-- the check and the join of two rows, written place by place
module _ {S : Type 0} (kind : Kind S) where
  pub checked : (xs ys new : List S) → length xs ≡ length ys → length new ≡ length xs →
      ((k : ℕ) → k < length xs → get_or new k kind.fill ≡ kind.check (get_or xs k kind.fill) (get_or ys k kind.fill)) → new ≡ check_row kind xs ys
  checked xs ys new same long each =
      ext_get_or kind.fill new (check_row kind xs ys) (long ∙ sym (length-check_row kind xs ys same))
      (λ k h. each k (omega arith) ∙ sym (get_or-check_row kind xs ys k (omega arith) same))

  pub joined : (xs ys new : List S) (βs : List ℕ) → length xs ≡ length ys → length xs ≡ length βs → length new ≡ length xs →
      ((k : ℕ) → k < length xs → get_or new k kind.fill ≡ kind.join (get_or xs k kind.fill) (get_or ys k kind.fill) (eqb (get_or βs k 0) 1)) → new ≡ join_row kind xs ys βs
  joined xs ys new βs same same-β long each =
      ext_get_or kind.fill new (join_row kind xs ys βs) (long ∙ sym (length-join_row kind xs ys βs same same-β))
      (λ k h. each k (omega arith) ∙ sym (get_or-join_row kind xs ys βs k (omega arith) same same-β))

-- a row of three parts of which the last is written
module _ {S : Type 0} (h : ℕ) (rows left rest right room : List S) (long : length rows ≡ 3 * h)
    (is-left : left ≡ take h rows) (is-rest : rest ≡ drop h rows) (is-right : right ≡ take h rest) where
  pub left_long : length left ≡ h
  left_long = ap length is-left ∙ simp length-take (omega arith)

  pub rest_long : length rest ≡ 2 * h
  rest_long = ap length is-rest ∙ simp length-drop (omega arith)

  pub right_long : length right ≡ h
  right_long = ap length is-right ∙ simp length-take (omega (arith, rest_long))

  pub right_is : right ≡ take h (drop h rows)
  right_is = is-right ∙ ap (take h) is-rest

  pub third_written : (made : List S) → left ++ (right ++ made) ≡ take (2 * h) rows ++ made
  third_written made =
      let two : h + h ≡ 2 * h = omega arith in
      sym (append_assoc left right made)
      ∙ ap (λ row. row ++ made) (ap₂ (λ a b. a ++ b) is-left right_is ∙ sym (take-add h h rows) ∙ ap (λ n. take n rows) two)

-- rows of the lengths that were asked for
pub rowed : {X : Type 0} (asked : ℕ → Type 0) (made : ℕ → List X) (before after : List X) (n : ℕ) →
    asked n → ((h : ℕ) → asked h → h ≡ n) → after ≡ made n → Rowed asked made before after (Ok tt)
rowed asked made before after n has only is =
    record { done = λ h a. (refl, is ∙ ap made (sym (only h a))); refused = λ none. absurd (none n has) }

-- the bits of a row, one more
module _ {S : Type 0} (kind : Kind S) (values : List S) (i : ℕ) (v : S) (within : i < length values) (read : v ≡ get_or values i v) where
  more : take (i + 1) values ≡ take i values ++ (v ∷ [])
  more = take_more values i v within ∙ ap (λ x. take i values ++ (x ∷ [])) (sym read)

  pub signs_more : signs kind (take i values) ++ (bit (kind.sign v) ∷ []) ≡ signs kind (take (i + 1) values)
  signs_more = sym (ap (signs kind) more ∙ signs_append kind (take i values) (v ∷ []))

  pub parity_more : bit_xor (parity (signs kind (take i values))) (bit (kind.sign v)) ≡ parity (signs kind (take (i + 1) values))
  parity_more =
      sym (ap parity (sym signs_more) ∙ parity_append (signs kind (take i values)) (bit (kind.sign v) ∷ [])
      ∙ ap (bit_xor (parity (signs kind (take i values)))) (xor_zero_r (bit (kind.sign v))))

-- a sign as the byte that the code writes
pub byte_is : (b : Bool) → bool_byte b ≡ bit b
byte_is true = refl
byte_is false = refl
