-- The rows of the table of worked examples, each proved by computing. Assumes nothing.
use Rattle.std.proofs.Common.{refl}
use Rattle.code.specs.Orders.{ranks_of, keeps_law, ranks_fault, order_fault, ranked_marks}
use Rattle.code.specs.Spans.{kind_of, power_up_to}
use Rattle.code.specs.Transform.{transform}
use Rattle.cancellation.specs.Cancel.{cancel}
use Rattle.receiver.specs.Work.{one, split, made_of, walked}
use Rattle.examples.specs.Worked.{WorkedExamples, WorkedReports}

infixr 5 ◌also◌
-- a row, and those after it
◌also◌ : {A B : Type 0} → A → B → A × B
a also b = (a, b)

pub worked : WorkedExamples
unfolding ranks_of keeps_law ranks_fault order_fault ranked_marks kind_of power_up_to transform cancel made_of walked
worked =
    refl also refl also refl also refl also refl also refl also refl also refl also refl also refl also refl also refl
    also refl also refl also refl also refl also refl also refl
    also (split refl (one refl) (one refl), refl, refl) also refl also refl also tt

pub told : WorkedReports
unfolding ranks_of keeps_law ranks_fault order_fault ranked_marks kind_of power_up_to
told = (refl, refl, refl, refl, refl)
