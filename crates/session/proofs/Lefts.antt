-- What is left of a session after a command, and where the command's operands stand, over plain values.
use Rattle.std.proofs.Common.{◌≡◌, ℕ, ◌+◌, ◌-◌, List, length, drop, sym, ap, ◌∙◌, inl, inr, arith, length-drop}
use Rattle.std.proofs.lemmas.List.{drop-drop, drop_all}
use Rattle.std.proofs.lemmas.Bool.{cases_lt}
use Rattle.session.specs.States.{Left}

-- what follows some bytes is left of them
pub left_drop : (k : ℕ) (xs : List ℕ) → Left xs (drop k xs)
left_drop k xs = elim (cases_lt k (length xs)) [
  | inl h ↦ (omega (arith, length-drop k xs), ap (λ m. drop m xs) (omega (arith, length-drop k xs)))
  | inr h ↦ (omega (arith, length-drop k xs), drop_all k xs h ∙ sym (drop_all (length xs - length (drop k xs)) xs (omega (arith, length-drop k xs))))
]

-- what is left of what is left
pub left_left : (xs ys zs : List ℕ) → Left xs ys → Left ys zs → Left xs zs
left_left xs ys zs g h =
    let e : length xs - length ys + (length ys - length zs) ≡ length xs - length zs = omega (arith, g.0, h.0) in
    (omega (arith, g.0, h.0), h.1 ∙ (ap (drop (length ys - length zs)) g.1 ∙ (drop-drop (length ys - length zs) (length xs - length ys) xs ∙ ap (λ m. drop m xs) e)))
