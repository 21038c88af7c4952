-- What a reading means, as plain data: cited by `read_command`. Assumes nothing.
use Rattle.std.specs.Prelude.{Ok, Err, Result}
use Rattle.session.specs.declared.faults.SessionFault.{SessionFault}
use Rattle.session.specs.declared.reading.Reading.{Reading}
use Rattle.session.specs.Commands.{Read, request_of}

-- a command that was read, and the session after it
abbrev pub reading_of : Result Reading SessionFault → Result Read SessionFault
reading_of (Ok r) = Ok (record { request = request_of r.command; rest = r.rest.now })
reading_of (Err f) = Err f
