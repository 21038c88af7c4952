-- What layer 3 reports of each refusal: cited where a `SessionFault` becomes a `Report`, and by the lines of a session. Assumes nothing.
use Rattle.std.specs.Prelude.{ℕ}
use Rattle.code.specs.declared.faults.MapFault.{MapFault}
use Rattle.code.specs.declared.faults.Report.{Report}
use Rattle.receiver.specs.declared.faults.ReceiverFault.TheVariants.{Map}
use Rattle.receiver.specs.Faults as receiver
use Rattle.session.specs.declared.faults.SessionFault.{SessionFault}
use Rattle.session.specs.declared.faults.SessionFault.TheVariants.{Receiver, TooLong, Header, Letter, Cut, NoMap, NoOrder, Slot}

-- a refusal of layer 3, by its number and its place
abbrev pub layer_three : ℕ → ℕ → Report
layer_three n at = record { number = n; layer = 3; place = at }

-- the number, the layer and the place of each refusal; one from below is handed on whole
abbrev pub report_of : SessionFault → Report
report_of (Receiver f) = receiver.report_of f
report_of TooLong = layer_three 19 0
report_of Header = layer_three 15 0
report_of (Letter at) = layer_three 15 at
report_of (Cut at) = layer_three 16 at
report_of (NoMap at) = layer_three 17 at
report_of (NoOrder at) = layer_three 17 at
report_of (Slot at) = layer_three 18 at

-- a map's refusal as the session's
abbrev pub of_map : MapFault → SessionFault
of_map f = Receiver (Map f)
