-- Each span rule gives what cancellation gives on its pattern. Assumes nothing.
use Rattle.std.proofs.Common.{◌≡◌, ℕ, zero, suc, ◌+◌, ◌-◌, ◌^◌, ◌<◌, min, Bool, true, false, cond, ◌&&◌, eqb, ltb, List, [], ◌∷◌, ◌++◌, length, get_or, take, drop, replicate, sym, refl, ap, ◌∙◌, ap₂, ⊎_elim, true≢false, append_assoc, arith, take-append-drop, pow_pos}
use native.Mathlib.Nat.{two-pow-succ}
use lib.Bits.{bit_xor}
use lib.ListN.{length-replicate, get_or-replicate, replicate-append-replicate}
use Rattle.std.proofs.lemmas.List.{take_at, drop_at, get_or-take, get_or-drop}
use Rattle.std.proofs.lemmas.Bool.{lt-ltb, le-ltb}
use Rattle.soft.specs.Kind.{Kind, Laws, differ, sign_of_join}
use Rattle.code.specs.declared.kinds.SpanKind.TheVariants.{Rep, Spc}
use Rattle.code.specs.Spans.{pattern}
use Rattle.code.specs.Transform.{xor_row, join_halves, transform}
use Rattle.code.proofs.Transforms.{keeps_length, length-xor_row, undoes_itself, xor_row-twice}
use Rattle.cancellation.specs.Rows.{bit, signs, join_row, left_values, right_values}
use Rattle.cancellation.specs.Cancel.{cancel}
use Rattle.cancellation.specs.Rules.{size_at, last_left, repeated, parity, Turns, turned_at, evened}
use Rattle.cancellation.proofs.Combined.{left_long, right_long, length_signs, take_signs, drop_signs, signs_check, signs_join, left_values_long, right_values_long, get_or-check_row, agreed, no_tail, same_tail}
use Rattle.cancellation.proofs.Cancels.{Laid, right_signs}
use Rattle.cancellation.proofs.Turned.{turned_left, turned_both, turned_front, turned_back, parity-xor_row, parity_append, length_turned}
use Rattle.cancellation.proofs.Reversed.{Half, halved, turns_half}

-- the halves of each pattern
abbrev pub Halves : ℕ → List ℕ → List ℕ → List ℕ → Type 0
Halves e marks l r = (take (2 ^ e) marks ≡ l) × (drop (2 ^ e) marks ≡ r)

cut : (e : ℕ) (marks l r : List ℕ) → marks ≡ l ++ r → length l ≡ 2 ^ e → Halves e marks l r
cut e marks l r is long = (ap (take (2 ^ e)) is ∙ take_at l r (2 ^ e) long, ap (drop (2 ^ e)) is ∙ drop_at l r (2 ^ e) long)

pub constant_halves : (x e : ℕ) → Halves e (replicate (2 ^ suc e) x) (replicate (2 ^ e) x) (replicate (2 ^ e) x)
constant_halves x e =
    cut e _ _ _ (ap (λ n. replicate n x) (two-pow-succ e) ∙ sym (replicate-append-replicate (2 ^ e) (2 ^ e) x)) (length-replicate (2 ^ e) x)

rep_count : (e : ℕ) → 2 ^ suc e - 1 ≡ 2 ^ e + (2 ^ e - 1)
rep_count e = omega (arith, two-pow-succ e, pow_pos e)

spc_count : (e : ℕ) → 2 ^ suc e - 1 ≡ (2 ^ e - 1) + 2 ^ e
spc_count e = omega (arith, two-pow-succ e, pow_pos e)

spc_long : (e : ℕ) → suc (length {A = ℕ} (replicate (2 ^ e - 1) 1)) ≡ 2 ^ e
spc_long e = simp length-replicate (omega (arith, pow_pos e))

pub rep_halves : (x e : ℕ) → Halves e (replicate (2 ^ suc e - 1) 0 ++ (x ∷ [])) (replicate (2 ^ e) 0) (replicate (2 ^ e - 1) 0 ++ (x ∷ []))
rep_halves x e =
    cut e _ _ _
    (ap (λ k. replicate k 0 ++ (x ∷ [])) (rep_count e) ∙ ap (λ r. r ++ (x ∷ [])) (sym (replicate-append-replicate (2 ^ e) (2 ^ e - 1) 0))
    ∙ append_assoc (replicate (2 ^ e) 0) (replicate (2 ^ e - 1) 0) (x ∷ []))
    (length-replicate (2 ^ e) 0)

spc_halves : (e : ℕ) → Halves e (pattern Spc (2 ^ suc e)) (pattern Spc (2 ^ e)) (replicate (2 ^ e) 1)
spc_halves e =
    cut e _ _ _ (ap (λ k. 0 ∷ replicate k 1) (spc_count e) ∙ ap (λ r. 0 ∷ r) (sym (replicate-append-replicate (2 ^ e - 1) (2 ^ e) 1))) (spc_long e)

pub zeros_xor : (row : List ℕ) (n : ℕ) → length row ≡ n → xor_row (replicate n 0) row ≡ row
zeros_xor [] zero e = refl
zeros_xor [] (suc n) e = refl
zeros_xor (x ∷ row) zero e = no_tail x row e
zeros_xor (x ∷ row) (suc n) e = ap (λ rest. x ∷ rest) (zeros_xor row n (omega arith))

module _ {S : Type 0} (kind : Kind S) where
  -- cancellation of a span whose halves have these marks
  cancel_halves : (e : ℕ) (marks l r : List ℕ) (values : List S) → Halves e marks l r →
      cancel kind (suc e) marks values ≡ join_halves (cancel kind e l (left_values kind e values)) (cancel kind e r (right_values kind e values (cancel kind e l (left_values kind e values))))
  unfolding cancel
  cancel_halves e marks l r values h =
      ap₂ (λ x y. join_halves (cancel kind e x (left_values kind e values)) (cancel kind e y (right_values kind e values (cancel kind e x (left_values kind e values))))) h.0 h.1

  pub zeros : (e : ℕ) (values : List S) → length values ≡ 2 ^ e → cancel kind e (replicate (2 ^ e) 0) values ≡ replicate (2 ^ e) 0
  unfolding cancel
  zeros zero [] long = let h : ⊥ = omega arith in absurd h
  zeros zero (v ∷ values) long = refl
  zeros (suc e) values long =
      let h = 2 ^ e in
      let left : cancel kind e (replicate h 0) (left_values kind e values) ≡ replicate h 0 = zeros e (left_values kind e values) (left_values_long kind e values long) in
      let right : cancel kind e (replicate h 0) (right_values kind e values (replicate h 0)) ≡ replicate h 0 =
      zeros e (right_values kind e values (replicate h 0)) (right_values_long kind e values long (replicate h 0) (length-replicate h 0)) in
      cancel_halves e _ _ _ values (constant_halves 0 e)
      ∙ ap (λ x. join_halves x (cancel kind e (replicate h 0) (right_values kind e values x))) left
      ∙ ap (join_halves (replicate h 0)) right
      ∙ ap (λ x. x ++ replicate h 0) (zeros_xor (replicate h 0) h (length-replicate h 0))
      ∙ replicate-append-replicate h h 0 ∙ ap (λ n. replicate n 0) (sym (two-pow-succ e))

  pub repeats : (e : ℕ) (values : List S) → length values ≡ 2 ^ e → cancel kind e (pattern Rep (2 ^ e)) values ≡ repeated kind e values
  unfolding cancel
  repeats zero [] long = let h : ⊥ = omega arith in absurd h
  repeats zero (v ∷ values) long = refl
  repeats (suc e) values long =
      let h = 2 ^ e in
      let next = right_values kind e values (replicate h 0) in
      let next-long = right_values_long kind e values long (replicate h 0) (length-replicate h 0) in
      let s = bit (kind.sign (get_or (last_left kind e next) 0 kind.fill)) in
      let left = zeros e (left_values kind e values) (left_values_long kind e values long) in
      cancel_halves e _ _ _ values (rep_halves 1 e)
      ∙ ap (λ x. join_halves x (cancel kind e (pattern Rep h) (right_values kind e values x))) left
      ∙ ap (join_halves (replicate h 0)) (repeats e next next-long)
      ∙ ap (λ x. x ++ replicate h s) (zeros_xor (replicate h s) h (length-replicate h s))
      ∙ replicate-append-replicate h h s ∙ ap (λ n. replicate n s) (sym (two-pow-succ e))

  module _ (laws : Laws kind) where
    pub ones : (e : ℕ) (values : List S) → length values ≡ 2 ^ e → cancel kind e (replicate (2 ^ e) 1) values ≡ signs kind values
    ones e values long =
        let word = signs kind values in
        let word-long : length word ≡ 2 ^ e = length_signs kind values ∙ long in
        let free : Laid e (replicate (2 ^ e) 1) (transform e word) =
        λ i h f. absurd (true≢false (ap (λ m. eqb m 1) (sym (get_or-replicate (2 ^ e) i 1 0 h)) ∙ f)) in
        right_signs kind laws e (replicate (2 ^ e) 1) (transform e word) values (length-replicate (2 ^ e) 1) (keeps_length e word word-long) long free
        (sym (undoes_itself e word word-long))

    -- the sizes of the left half's values
    lesser : (e : ℕ) (values : List S) → length values ≡ 2 ^ suc e → (q : ℕ) → q < 2 ^ e →
        size_at kind (left_values kind e values) q ≡ min (size_at kind values q) (size_at kind values (2 ^ e + q))
    lesser e values long q h =
        let la = left_long e values long in
        ap kind.size (get_or-check_row kind (take (2 ^ e) values) (drop (2 ^ e) values) q (omega arith) (la ∙ sym (right_long e values long)))
        ∙ laws.check_size _ _
        ∙ ap₂ (λ x y. min (kind.size x) (kind.size y)) (get_or-take (2 ^ e) values q kind.fill h) (get_or-drop (2 ^ e) values q kind.fill)

    -- with β the XOR of both signs turned, the larger of both decides, b where they are equal
    against : (s t : Bool) (x y : ℕ) → bit (sign_of_join (differ s (eqb (bit_xor (bit_xor (bit s) (bit t)) 1) 1)) x t y) ≡ cond (ltb y x) (bit_xor (bit t) 1) (bit t)
    against s t x y = go s t (ltb y x)
      where
        go : (s t larger : Bool) →
            (let c = differ s (eqb (bit_xor (bit_xor (bit s) (bit t)) 1) 1) in bit (cond (differ c t && larger) c t)) ≡ cond larger (bit_xor (bit t) 1) (bit t)
        go true true true = refl
        go true true false = refl
        go true false true = refl
        go true false false = refl
        go false true true = refl
        go false true false = refl
        go false false true = refl
        go false false false = refl

    cond_cons : (t : Bool) (x y : ℕ) (rest : List ℕ) → cond t x y ∷ rest ≡ cond t (x ∷ rest) (y ∷ rest)
    cond_cons true x y rest = refl
    cond_cons false x y rest = refl

    cons_cond : (t : Bool) (x : ℕ) (l r : List ℕ) → x ∷ cond t l r ≡ cond t (x ∷ l) (x ∷ r)
    cons_cond true x l r = refl
    cons_cond false x l r = refl

    -- joined with the XOR of both rows' signs, one bit of it turned, a row keeps the signs of the second, save there if the first is larger
    signs_against : (j : ℕ) (xs ys : List S) → j < length xs → length xs ≡ length ys →
        signs kind (join_row kind xs ys (turned_at j (xor_row (signs kind xs) (signs kind ys))))
        ≡ cond (ltb (size_at kind ys j) (size_at kind xs j)) (turned_at j (signs kind ys)) (signs kind ys)
    signs_against j [] ys h e = let n : ⊥ = omega arith in absurd n
    signs_against j (x ∷ xs) [] h e = no_tail x xs e
    signs_against zero (x ∷ xs) (y ∷ ys) h e =
        ap₂ (λ b rest. b ∷ rest)
        (ap bit (laws.join_sign x y _) ∙ against (kind.sign x) (kind.sign y) (kind.size x) (kind.size y))
        (signs_join kind laws xs ys (same_tail x xs y ys e))
        ∙ cond_cons (ltb (kind.size y) (kind.size x)) _ _ (signs kind ys)
    signs_against (suc j) (x ∷ xs) (y ∷ ys) h e =
        ap₂ (λ b rest. b ∷ rest)
        (ap bit (laws.join_sign x y _ ∙ agreed (kind.sign x) (kind.sign y) (kind.size x) (kind.size y)))
        (signs_against j xs ys (omega arith) (same_tail x xs y ys e))
        ∙ cons_cond (ltb (size_at kind ys j) (size_at kind xs j)) (bit (kind.sign y)) _ _

    -- a span of 2 ^ suc e from its left half
    module _ (e : ℕ) (values : List S) (long : length values ≡ 2 ^ suc e) where
      front_signs : List ℕ
      front_signs = signs kind (take (2 ^ e) values)

      back_signs : List ℕ
      back_signs = signs kind (drop (2 ^ e) values)

      same_long : length front_signs ≡ length back_signs
      unfolding front_signs back_signs
      same_long = length_signs kind _ ∙ left_long e values long ∙ sym (right_long e values long) ∙ sym (length_signs kind _)

      front_long : length front_signs ≡ 2 ^ e
      unfolding front_signs
      front_long = length_signs kind _ ∙ left_long e values long

      both_signs : front_signs ++ back_signs ≡ signs kind values
      unfolding front_signs back_signs
      both_signs = ap₂ (λ x y. x ++ y) (take_signs kind (2 ^ e) values) (drop_signs kind (2 ^ e) values) ∙ take-append-drop (2 ^ e) (signs kind values)

      -- the signs of the left half's values
      summed : List ℕ
      summed = xor_row front_signs back_signs

      summed_is : signs kind (left_values kind e values) ≡ summed
      unfolding summed front_signs back_signs
      summed_is = signs_check kind laws (take (2 ^ e) values) (drop (2 ^ e) values)

      parity_kept : parity summed ≡ parity (signs kind values)
      unfolding summed
      parity_kept = parity-xor_row front_signs back_signs same_long ∙ sym (parity_append front_signs back_signs) ∙ ap parity both_signs

      -- the right half, once the left half has these bits
      right_given : (βs : List ℕ) → length βs ≡ 2 ^ e →
          cancel kind e (replicate (2 ^ e) 1) (right_values kind e values βs) ≡ signs kind (join_row kind (take (2 ^ e) values) (drop (2 ^ e) values) βs)
      right_given βs h = ones e (right_values kind e values βs) (right_values_long kind e values long βs h)

      summed_long : length summed ≡ 2 ^ e
      unfolding summed
      summed_long = length-xor_row front_signs back_signs same_long ∙ front_long

      right_even : cancel kind e (replicate (2 ^ e) 1) (right_values kind e values summed) ≡ back_signs
      unfolding summed front_signs back_signs
      right_even = right_given summed summed_long ∙ signs_join kind laws _ _ (left_long e values long ∙ sym (right_long e values long))

      word_even : join_halves summed back_signs ≡ signs kind values
      unfolding summed
      word_even = ap (λ x. x ++ back_signs) (xor_row-twice front_signs back_signs same_long) ∙ both_signs

      module _ (p j : ℕ) (within : j < 2 ^ e) (half : Half e (size_at kind values) p j) where
        right_odd : cancel kind e (replicate (2 ^ e) 1) (right_values kind e values (turned_at j summed))
            ≡ cond (ltb (size_at kind values (2 ^ e + j)) (size_at kind values j)) (turned_at j back_signs) back_signs
        unfolding summed front_signs back_signs
        right_odd =
            let la = left_long e values long in
            right_given (turned_at j summed) (length_turned j summed ∙ summed_long)
            ∙ signs_against j (take (2 ^ e) values) (drop (2 ^ e) values) (omega arith) (la ∙ sym (right_long e values long))
            ∙ ap₂ (λ x y. cond (ltb (kind.size x) (kind.size y)) (turned_at j back_signs) back_signs) (get_or-drop (2 ^ e) values j kind.fill) (get_or-take (2 ^ e) values j kind.fill within)

        word_odd : join_halves (turned_at j summed) (cond (ltb (size_at kind values (2 ^ e + j)) (size_at kind values j)) (turned_at j back_signs) back_signs) ≡ turned_at p (signs kind values)
        unfolding summed
        word_odd =
            ⊎_elim
            (λ h.
            ap (λ t. join_halves (turned_at j summed) (cond t (turned_at j back_signs) back_signs)) (lt-ltb _ _ h.0)
            ∙ ap (λ x. x ++ turned_at j back_signs) (turned_both j summed back_signs (summed_long ∙ sym front_long ∙ same_long) ∙ xor_row-twice front_signs back_signs same_long)
            ∙ sym (turned_back j (2 ^ e) front_signs back_signs front_long)
            ∙ ap₂ turned_at (sym h.1) both_signs)
            (λ h.
            ap (λ t. join_halves (turned_at j summed) (cond t (turned_at j back_signs) back_signs)) (le-ltb _ _ h.0)
            ∙ ap (λ x. x ++ back_signs) (turned_left j summed back_signs (summed_long ∙ sym front_long ∙ same_long) ∙ ap (turned_at j) (xor_row-twice front_signs back_signs same_long))
            ∙ sym (turned_front j front_signs back_signs (let l = front_long in omega arith))
            ∙ ap₂ turned_at (sym h.1) both_signs)
            half

        -- by the XOR of the signs
        joined : (t : Bool) →
            (let left = cond t summed (turned_at j summed) in join_halves left (cancel kind e (replicate (2 ^ e) 1) (right_values kind e values left)))
            ≡ cond t (signs kind values) (turned_at p (signs kind values))
        joined true = ap (join_halves summed) right_even ∙ word_even
        joined false = ap (join_halves (turned_at j summed)) right_odd ∙ word_odd

        left_is : evened kind (left_values kind e values) j ≡ cond (eqb (parity (signs kind values)) 0) summed (turned_at j summed)
        left_is =
            ap (λ x. cond (eqb (parity x) 0) x (turned_at j x)) summed_is
            ∙ ap (λ x. cond (eqb x 0) summed (turned_at j summed)) parity_kept

        evens_more : cancel kind e (pattern Spc (2 ^ e)) (left_values kind e values) ≡ evened kind (left_values kind e values) j →
            cancel kind (suc e) (pattern Spc (2 ^ suc e)) values ≡ evened kind values p
        evens_more left =
            cancel_halves e _ _ _ values (spc_halves e)
            ∙ ap (λ x. join_halves x (cancel kind e (replicate (2 ^ e) 1) (right_values kind e values x))) (left ∙ left_is)
            ∙ joined (eqb (parity (signs kind values)) 0)

    pub evens : (e : ℕ) (values : List S) (p : ℕ) → length values ≡ 2 ^ e → Turns e (size_at kind values) (2 ^ e) p →
        cancel kind e (pattern Spc (2 ^ e)) values ≡ evened kind values p
    unfolding cancel
    evens zero [] p long turns = let h : ⊥ = omega arith in absurd h
    evens zero (v ∷ (w ∷ values)) p long turns = let h : ⊥ = omega arith in absurd h
    evens zero (v ∷ []) (suc p) long turns = let t = turns.within in let h : ⊥ = omega arith in absurd h
    evens zero (v ∷ []) zero long turns = elim (kind.sign v) as (λ s. (0 ∷ []) ≡ cond (eqb (bit_xor (bit s) 0) 0) (bit s ∷ []) (bit_xor (bit s) 1 ∷ [])) [ true ↦ refl | false ↦ refl ]
    evens (suc e) values p long turns =
        let c = left_values kind e values in
        let found = halved e (size_at kind values) (size_at kind c) (lesser e values long) p turns in
        let j = found.0 in
        let within = found.1 in
        evens_more e values long p j within found.2
        (evens e c j (left_values_long kind e values long)
        (turns_half e (size_at kind values) (size_at kind c) (lesser e values long) p j turns within found.2))
