use Rattle.std.proofs.Common.{sym, refl, ◌∙◌, arith}
use Rattle.std.proofs.lemmas.Bool.{eq-eqb, ne_eqb, and_right}
use Rattle.code.proofs.Sames.{rep_row, and_true}
use Rattle.code.proofs.patterns.is_repetition.Goals as goal

pub returns-then-last-eq1 : goal.returns-then-last-eq1
returns-then-last-eq1 c =
    c.is_constant.ensures ∙ sym (rep_row c.args.row.now _ (omega arith) refl ∙ and_true _ _ (eq-eqb _ 1 c.if-last-eq1.true))

pub returns-else-last-eq1 : goal.returns-else-last-eq1
returns-else-last-eq1 c =
    ne_eqb _ 1 c.if-last-eq1.false ∙ sym (rep_row c.args.row.now _ (omega arith) refl ∙ and_right _ _ (ne_eqb _ 1 c.if-last-eq1.false))
