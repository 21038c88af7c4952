use Rattle.std.proofs.Common.{refl}
use Rattle.code.proofs.Marks.{listed_means}
use Rattle.code.proofs.listed_map.ListedMap.n.Goals as goal

pub returns : goal.returns
returns c = record { means = listed_means _ _ c.args.self.now.accepted; value = refl }
