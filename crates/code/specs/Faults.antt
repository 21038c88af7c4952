-- What layer 1 reports of each refusal: cited by `From<MapFault>` for `Report` and by every promise about a number, a layer or a place. Assumes nothing.
use Rattle.std.specs.Prelude.{ℕ, Some, None, Ok, Err, Option, Result}
use Rattle.code.specs.declared.faults.MapFault.{MapFault}
use Rattle.code.specs.declared.faults.MapFault.TheVariants.{Exponent, Length, Rank, Law, Count, Bit, Outside, Buffer}
use Rattle.code.specs.declared.faults.Report.{Report}

-- a refusal of layer 1, by its number and its place
abbrev pub layer_one : ℕ → ℕ → Report
layer_one n at = record { number = n; layer = 1; place = at }

-- the number, the layer and the place of each refusal
abbrev pub report_of : MapFault → Report
report_of Exponent = layer_one 1 0
report_of Length = layer_one 2 0
report_of (Rank at) = layer_one 3 at
report_of (Law at) = layer_one 4 at
report_of Count = layer_one 5 0
report_of (Bit at) = layer_one 6 at
report_of Outside = layer_one 7 0
report_of Buffer = layer_one 8 0

-- the answer of a call whose questions found this fault, or none
abbrev pub answer_to : Option MapFault → Result (Unit {0}) MapFault
answer_to None = Ok tt
answer_to (Some f) = Err f

-- what is in force after a call that puts `new` in the place of `old`, unless a question was answered no
abbrev pub in_force : {X : Type 0} → Option MapFault → X → X → X
in_force None new old = new
in_force (Some f) new old = old

-- the answer alone of a call that makes something
abbrev pub outcome : {X : Type 0} → Result X MapFault → Result (Unit {0}) MapFault
outcome (Ok x) = Ok tt
outcome (Err f) = Err f
