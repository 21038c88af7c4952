use Rattle.code.proofs.Transforms.{undoes_itself}
use Rattle.code.proofs.theorems_transform.transform_undoes_itself.Goals as goal

pub returns : goal.returns
returns c = undoes_itself
