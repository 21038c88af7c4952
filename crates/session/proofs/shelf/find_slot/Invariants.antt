use Rattle.std.proofs.Common.{◌≡◌, ◌-◌}
use Rattle.session.specs.Shelf.{slot_record}
use Rattle.session.proofs.shelf.find_slot.Given as goal

abbrev pub invariant-loop-passed : goal.invariant-loop-passed
invariant-loop-passed l = slot_record (l.slot - l._passed) l.at l.shelf ≡ slot_record l.slot 0 l.shelf
