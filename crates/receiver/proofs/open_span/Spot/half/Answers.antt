use Rattle.std.proofs.Common.{arith}
use Rattle.std.proofs.lemmas.Grind.{common_steps}
use Rattle.receiver.proofs.Places.{split_pow}
use Rattle.receiver.proofs.open_span.Spot.half.Goals as goal

pub returns-clause-twice : goal.returns-clause-twice
returns-clause-twice c = λ some. let two = split_pow c.args.self.e some in grind (arith, common_steps)
