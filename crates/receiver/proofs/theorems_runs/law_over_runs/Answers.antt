use Rattle.receiver.proofs.Runs.{law_holds, whole_adding}
use Rattle.receiver.proofs.Standing.{steps_ruled}
use Rattle.receiver.proofs.theorems_runs.law_over_runs.Goals as goal

pub returns : goal.returns
returns g c = record { law = law_holds g.S.Soft.kind g.S.Soft.laws; ruled = steps_ruled g.S.Soft.kind; adding = whole_adding }
