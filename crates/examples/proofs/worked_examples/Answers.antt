use Rattle.examples.proofs.Rows.{worked, told}
use Rattle.examples.proofs.worked_examples.Goals as goal

pub returns : goal.returns
returns c = record { rows = worked; reports = told }
