-- How a session that was read begins: cited by `open` and by what does its commands. Assumes nothing.
use Rattle.std.specs.Prelude.{Ok, Err, Result}
use Rattle.session.specs.declared.faults.SessionFault.{SessionFault}
use Rattle.session.specs.declared.opened.Opened.{Opened}
use Rattle.session.specs.Sessions.{Opening}

-- a session that was opened, as how it begins
abbrev pub opened_as : Opened → Opening
opened_as o = record { number = o.header.number; make = o.header.make; commands = o.commands.now }

-- how a session begins, or why it was refused, as it was read
abbrev pub opening_of : Result Opened SessionFault → Result Opening SessionFault
opening_of (Ok o) = Ok (opened_as o)
opening_of (Err f) = Err f
