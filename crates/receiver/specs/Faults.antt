-- What layer 2 reports of each refusal: cited by `ReceiverFault::report`. Assumes nothing.
use Rattle.std.specs.Prelude.{ℕ}
use Rattle.code.specs.declared.faults.Report.{Report}
use Rattle.code.specs.Faults as code
use Rattle.receiver.specs.declared.faults.ReceiverFault.{ReceiverFault}
use Rattle.receiver.specs.declared.faults.ReceiverFault.TheVariants.{Map, Length, Memory, WordInHand, NoWord, Unfinished, Cap, Byte}

-- a refusal of layer 2, by its number and its place
abbrev pub layer_two : ℕ → ℕ → Report
layer_two n at = record { number = n; layer = 2; place = at }

-- the number, the layer and the place of each refusal; a map's is handed on whole
abbrev pub report_of : ReceiverFault → Report
report_of (Map f) = code.report_of f
report_of Length = layer_two 8 0
report_of Memory = layer_two 9 0
report_of WordInHand = layer_two 10 0
report_of NoWord = layer_two 11 0
report_of Unfinished = layer_two 12 0
report_of Cap = layer_two 13 0
report_of (Byte at) = layer_two 14 at
