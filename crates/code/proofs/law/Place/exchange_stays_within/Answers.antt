use Rattle.code.proofs.Moves.{exchange_within}
use Rattle.code.proofs.law.Place.exchange_stays_within.Goals as goal

pub returns : goal.returns
returns c = exchange_within c.args.self.ranks.n c.args.self.p c.args.b c.requires c.args.self.within
