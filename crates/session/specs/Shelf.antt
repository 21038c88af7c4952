-- The shelf of orders: cited by `find_slot` and `Sources`. Assumes nothing.
use Rattle.std.specs.Prelude.{ℕ, zero, suc, ◌+◌, ◌*◌, ◌^◌, cond, ◌&&◌, List, [], ◌∷◌, length, drop, Some, None, Option, nat_le}
use Rattle.code.specs.Spans.{good_exponent}
use Rattle.session.specs.declared.shelf.Record.{Record}
use Rattle.session.specs.declared.shelf.Source.{Source}
use Rattle.session.specs.declared.shelf.Source.TheVariants.{Session, Shelf}

-- a record that begins at `at`: n, then two bytes for each position
abbrev pub record_of : ℕ → ℕ → Record
record_of at n = record { n = n; place = at + 1; count = 2 * 2 ^ n }

-- the order record whose first byte has the offset `at`, if it is whole and its n is from 1 to 10
abbrev pub record_from : ℕ → List ℕ → Option Record
record_from at [] = None
record_from at (n ∷ bytes) = cond (good_exponent n && nat_le (2 * 2 ^ n) (length bytes)) (Some (record_of at n)) None

-- the record of a slot, counted from the one that begins at `at`; a record that is not whole ends the shelf
unfoldable pub slot_record : ℕ → ℕ → List ℕ → Option Record
slot_record zero at shelf = record_from at (drop at shelf)
slot_record (suc slot) at shelf = elim (record_from at (drop at shelf)) [ None ↦ None | Some r ↦ slot_record slot (r.place + r.count) shelf ]

-- what a source of orders holds
abbrev pub held_by : Source → List ℕ → List ℕ → List ℕ
held_by Session session shelf = session
held_by Shelf session shelf = shelf
