-- The records of the shelf, as the code finds them.
use Rattle.std.proofs.Common.{◌≡◌, ℕ, zero, suc, ◌+◌, ◌-◌, ◌<◌, ◌≤◌, List, drop, Some, None, refl, arith}
use Rattle.session.specs.declared.shelf.Record.{Record}
use Rattle.session.specs.Shelf.{record_from, slot_record}

-- past a record that is found, one slot less
pub slot_more : (slot passed at : ℕ) (shelf : List ℕ) (r : Record) → passed < slot → Some r ≡ record_from at (drop at shelf) →
    slot_record (slot - (passed + 1)) (r.place + r.count) shelf ≡ slot_record (slot - passed) at shelf
unfolding slot_record
slot_more slot passed at shelf r more e =
    let p : slot - passed ≡ suc (slot - (passed + 1)) = omega arith in
    rw (p, ← e, slot_record)

-- where no record is found, no slot is
pub slot_none : (left at : ℕ) (shelf : List ℕ) → None ≡ record_from at (drop at shelf) → None ≡ slot_record left at shelf
unfolding slot_record
slot_none zero at shelf e = e
slot_none (suc left) at shelf e = rw (← e, slot_record)

-- the slot that is left is the next record
pub slot_here : (left at : ℕ) (shelf : List ℕ) → left ≤ 0 → record_from at (drop at shelf) ≡ slot_record left at shelf
unfolding slot_record
slot_here zero at shelf h = refl
slot_here (suc left) at shelf h = absurd (omega arith)
