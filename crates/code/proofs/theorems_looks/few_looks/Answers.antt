use Rattle.code.proofs.Looks.{few_looks}
use Rattle.code.proofs.theorems_looks.few_looks.Goals as goal

pub returns : goal.returns
returns c = few_looks
