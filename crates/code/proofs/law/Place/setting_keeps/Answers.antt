use Rattle.std.proofs.Common.{arith}
use Rattle.code.proofs.Moves.{setting_within}
use Rattle.code.proofs.law.Place.setting_keeps.Goals as goal

pub at-requires : goal.at-requires
at-requires c = omega (arith, setting_within c.args.self.ranks.n c.args.self.p c.args.self.ranks.some c.args.self.within c.if-self-eq0.true)
