-- A row halved in place. Assumes nothing.
use Rattle.std.proofs.Common.{◌≡◌, ℕ, zero, suc, ◌+◌, ◌-◌, ◌/◌, ◌^◌, ◌<◌, ◌≤◌, Bool, false, eqb, List, [], ◌∷◌, ◌++◌, length, get_or, take, drop, replicate, sym, refl, ap, ◌∙◌, ap₂, ⊎_elim, arith, pow_pos}
use native.Mathlib.Nat.{two-pow-succ}
use mir.Val.{bool_byte}
use lib.ListN.{length-replicate, get_or-replicate}
use Rattle.std.proofs.lemmas.List.{length-take, length-drop, length-append, get_or_append_left, get_or-append_right, get_or-take, get_or-drop, get_or_default, ext_get_or}
use Rattle.std.proofs.lemmas.Bool.{cases_lt}
use Rattle.soft.specs.Kind.{Kind}
use Rattle.cancellation.specs.Rows.{bit, join_row}
use Rattle.cancellation.specs.Rules.{last_left, repeated, folded}
use Rattle.cancellation.proofs.Written.{byte_is}
use Rattle.cancellation.proofs.Combined.{right_long, length-join_row, get_or-join_row}

-- a row of two parts of which the first was written
module _ {X : Type 0} (d : X) (h : ℕ) (old new made : List X) (long : length old ≡ h + h) (kept : length new ≡ length old) (made-long : length made ≡ h) where
  half_written : ((k : ℕ) → k < h → get_or new k d ≡ get_or made k d) → ((k : ℕ) → h ≤ k → get_or new k d ≡ get_or old k d) → new ≡ made ++ drop h old
  half_written front back =
      ext_get_or d new (made ++ drop h old) (simp (length-append, length-drop) (omega arith))
      (λ k below. ⊎_elim
      (λ b. front k b ∙ sym (get_or_append_left made (drop h old) d k (omega arith)))
      (λ b. let at : h + (k - h) ≡ k = omega arith in
      back k b ∙ sym (get_or-append_right made (drop h old) h k d made-long b ∙ get_or-drop h old (k - h) d ∙ ap (λ n. get_or old n d) at))
      (cases_lt k h))

no_beta : (h k : ℕ) → k < h → eqb (get_or (replicate h 0) k 0) 1 ≡ false
no_beta h k b = ap (λ β. eqb β 1) (get_or-replicate h k 0 0 b)

module _ {S : Type 0} (kind : Kind S) where
  -- one halving of a row
  abbrev pub folded_once : ℕ → List S → List S
  folded_once h values = join_row kind (take h values) (drop h values) (replicate h 0)

  folded_once-long : (h : ℕ) (values : List S) → length values ≡ h + h → length (folded_once h values) ≡ h
  folded_once-long h values long =
      let l : length (take h values) ≡ h = simp length-take (omega arith) in
      let r : length (drop h values) ≡ h = simp length-drop (omega arith) in
      length-join_row kind (take h values) (drop h values) (replicate h 0) (l ∙ sym r) (l ∙ sym (length-replicate h 0)) ∙ l

  folded_at : (h : ℕ) (old : List S) (k : ℕ) → length old ≡ h + h → k < h →
      get_or (folded_once h old) k kind.fill ≡ kind.join (get_or old k kind.fill) (get_or old (h + k) kind.fill) false
  folded_at h old k long b =
      let l : length (take h old) ≡ h = simp length-take (omega arith) in
      let r : length (drop h old) ≡ h = simp length-drop (omega arith) in
      get_or-join_row kind (take h old) (drop h old) (replicate h 0) k (omega arith) (l ∙ sym r) (l ∙ sym (length-replicate h 0))
      ∙ ap (kind.join _ _) (no_beta h k b)
      ∙ ap₂ (λ x y. kind.join x y false) (get_or-take h old k kind.fill b) (get_or-drop h old k kind.fill)

  -- the first of two parts was joined onto, and the second stays
  -- Kept: a page of docs/ names it.
  pub folded_once_lem : (h : ℕ) (old new : List S) → length old ≡ h + h → length new ≡ length old →
      ((k : ℕ) → k < h → get_or new k kind.fill ≡ kind.join (get_or old k kind.fill) (get_or old (h + k) kind.fill) false) →
      ((k : ℕ) → h ≤ k → get_or new k kind.fill ≡ get_or old k kind.fill) →
      new ≡ folded_once h old ++ drop h old
  folded_once_lem h old new long kept front back =
      half_written kind.fill h old new (folded_once h old) long kept (folded_once-long h old long) (λ k b. front k b ∙ sym (folded_at h old k long b)) back

  -- a row joined onto the one before it
  pub joined_onto : (left right new : List S) → length left ≤ length right → length new ≡ length left →
      ((k : ℕ) → k < length left → get_or new k kind.fill ≡ kind.join (get_or left k kind.fill) (get_or right k kind.fill) false) →
      new ≡ join_row kind left right (replicate (length left) 0)
  joined_onto [] right [] le long each = refl
  joined_onto [] right (n ∷ new) le long each = absurd (omega arith)
  joined_onto (x ∷ left) [] new le long each = absurd (omega arith)
  joined_onto (x ∷ left) (y ∷ right) [] le long each = absurd (omega arith)
  joined_onto (x ∷ left) (y ∷ right) (n ∷ new) le long each =
      ap₂ (λ a row. a ∷ row) (each 0 (omega arith)) (joined_onto left right new (omega arith) (omega arith) (λ k h. each (suc k) (omega arith)))

  pub folded_long : (e : ℕ) (values : List S) → length values ≡ 2 ^ e → length (folded kind e values) ≡ 2 ^ e
  folded_long zero values long = long
  folded_long (suc e) values long =
      let w = two-pow-succ e in
      let once = folded_once-long (2 ^ e) values (long ∙ w) in
      let ih = folded_long e (folded_once (2 ^ e) values) once in
      let r = right_long e values long in
      length-append (folded kind e (folded_once (2 ^ e) values)) (drop (2 ^ e) values) ∙ omega arith

  -- the value left stands in front
  pub folded_front : (e : ℕ) (values : List S) (d : S) → length values ≡ 2 ^ e → get_or (folded kind e values) 0 d ≡ get_or (last_left kind e values) 0 d
  folded_front zero values d long = refl
  folded_front (suc e) values d long =
      let once = folded_once-long (2 ^ e) values (long ∙ two-pow-succ e) in
      let l = folded_long e (folded_once (2 ^ e) values) once in
      get_or_append_left (folded kind e (folded_once (2 ^ e) values)) (drop (2 ^ e) values) d 0 (omega (arith, pow_pos e))
      ∙ folded_front e (folded_once (2 ^ e) values) d once

  -- a row whose two halves were joined onto the first of them, which was then halved on
  pub folded_on : (e : ℕ) (values left right once rest : List S) → length values ≡ 2 ^ e → (length values / 2 ≡ 0 → ⊥)
      → left ≡ take (length values / 2) values → right ≡ drop (length values / 2) values
      → once ≡ join_row kind left right (replicate (length left) 0) → ((d : ℕ) → length once ≡ 2 ^ d → rest ≡ folded kind d once)
      → rest ++ right ≡ folded kind e values
  folded_on zero values left right once rest long some hl hr ho hd = absurd (some (omega arith))
  folded_on (suc d) values left right once rest long some hl hr ho hd =
      let w = two-pow-succ d in
      let half : length values / 2 ≡ 2 ^ d = omega (arith, w) in
      let ll : length left ≡ 2 ^ d = ap length hl ∙ simp length-take (omega (arith, w)) in
      let is : once ≡ folded_once (2 ^ d) values = ho ∙ ap₂ (λ a b. join_row kind a b (replicate (length left) 0)) (hl ∙ ap (λ k. take k values) half) (hr ∙ ap (λ k. drop k values) half)
      ∙ ap (λ n. join_row kind (take (2 ^ d) values) (drop (2 ^ d) values) (replicate n 0)) ll in
      let lo : length once ≡ 2 ^ d = ap length is ∙ folded_once-long (2 ^ d) values (long ∙ w) in
      ap₂ (λ x y. x ++ y) (hd d lo ∙ ap (folded kind d) is) (hr ∙ ap (λ k. drop k values) half)

  -- a row with no half is halved
  pub folded_alone : (e : ℕ) (values : List S) → length values ≡ 2 ^ e → length values / 2 ≡ 0 → values ≡ folded kind e values
  folded_alone zero values long none = refl
  folded_alone (suc e) values long none = absurd (omega (arith, two-pow-succ e, pow_pos e))

  -- a row of bits, each the sign of the value in front
  pub repeated_front : (e n : ℕ) (values row : List S) (v : S) (s : Bool) → length values ≡ 2 ^ e → row ≡ folded kind e values → v ≡ get_or row 0 v → s ≡ kind.sign v → n ≡ 2 ^ e →
      replicate n (bool_byte s) ≡ repeated kind e values
  repeated_front e n values row v s long is read sign count =
      let l = ap length is ∙ folded_long e values long in
      let front : v ≡ get_or (last_left kind e values) 0 kind.fill =
      read ∙ get_or_default row 0 v kind.fill (omega (arith, pow_pos e)) ∙ ap (λ r. get_or r 0 kind.fill) is ∙ folded_front e values kind.fill long in
      ap₂ replicate count (byte_is s ∙ ap bit (sign ∙ ap kind.sign front))
