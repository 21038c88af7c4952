use Rattle.std.proofs.Common.{true, false, sym, refl, ◌∙◌}
use Rattle.code.proofs.Sames.{fitted}
use Rattle.code.proofs.patterns.kind_of.Goals as goal

pub returns-then-is_constant : goal.returns-then-is_constant
returns-then-is_constant c = sym (fitted c.args.row.now true _ _ _ (sym c.is_constant.ensures ∙ c.if-is_constant.true) refl refl refl)

pub returns-then-is_constant-2 : goal.returns-then-is_constant-2
returns-then-is_constant-2 c =
    sym (fitted c.args.row.now false true _ _
    (sym c.is_constant.ensures ∙ c.if-is_constant.false) (sym c.is_constant-2.ensures ∙ c.if-is_constant-2.true) refl refl)

-- Kept, here and below: each answer names what its branch found, and the branches have records of different types.
pub returns-then-is_repetition : goal.returns-then-is_repetition
returns-then-is_repetition c =
    sym (fitted c.args.row.now false false true _
    (sym c.is_constant.ensures ∙ c.if-is_constant.false) (sym c.is_constant-2.ensures ∙ c.if-is_constant-2.false)
    (sym c.is_repetition.ensures ∙ c.if-is_repetition.true) refl)

pub returns-then-is_single_parity : goal.returns-then-is_single_parity
returns-then-is_single_parity c =
    sym (fitted c.args.row.now false false false true
    (sym c.is_constant.ensures ∙ c.if-is_constant.false) (sym c.is_constant-2.ensures ∙ c.if-is_constant-2.false)
    (sym c.is_repetition.ensures ∙ c.if-is_repetition.false) (sym c.is_single_parity.ensures ∙ c.if-is_single_parity.true))

pub returns : goal.returns
returns c =
    sym (fitted c.args.row.now false false false false
    (sym c.is_constant.ensures ∙ c.if-is_constant.false) (sym c.is_constant-2.ensures ∙ c.if-is_constant-2.false)
    (sym c.is_repetition.ensures ∙ c.if-is_repetition.false) (sym c.is_single_parity.ensures ∙ c.if-is_single_parity.false))
