use Rattle.std.proofs.Common.{sym, ◌∙◌}
use Rattle.code.proofs.Moves.{law_at_exchanges, law_breach}
use Rattle.code.proofs.law.Place.keeps_law.Goals as goal

pub returns-then-setting_keeps : goal.returns-then-setting_keeps
returns-then-setting_keeps c = c.exchanges_keep.ensures ∙ law_at_exchanges c.args.self.ranks.n _ c.args.self.p (sym c.if-setting_keeps.ensures)

pub returns-else-setting_keeps : goal.returns-else-setting_keeps
returns-else-setting_keeps c = c.if-setting_keeps.false ∙ law_breach c.args.self.ranks.n _ c.args.self.p (sym c.if-setting_keeps.ensures)
