use Rattle.code.proofs.Transforms.{keeps_length}
use Rattle.code.proofs.theorems_transform.transform_keeps_length.Goals as goal

pub returns : goal.returns
returns c = keeps_length
