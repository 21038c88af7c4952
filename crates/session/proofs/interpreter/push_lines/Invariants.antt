use Rattle.std.proofs.Common.{◌++◌, length, string_bytes}
use Rattle.receiver.specs.Lent.{SameLoans}
use Rattle.session.specs.Sessions.{lines_from, nothing}
use Rattle.session.proofs.Turns.{Between}
use Rattle.session.proofs.interpreter.push_lines.Given as goal

abbrev pub invariant-loop-rest : goal.invariant-loop-rest
invariant-loop-rest g l = record {
  between : Between g.S.Soft.kind l.make l.sources.session.now l.sources.shelf.now
      (string_bytes l.initial.text ++ lines_from g.S.Soft.kind (length l.opened.commands.now) l.opened.header.make l.opened.sources.shelf.now (length l.opened.sources.session.now) 0 l.opened.commands.now nothing)
      (string_bytes l.text) l.rest l.number l.state l.memory;
  lent : SameLoans l.initial.memory l.memory;
}

abbrev pub decreases-loop-rest : goal.decreases-loop-rest
decreases-loop-rest g l = length l.rest
