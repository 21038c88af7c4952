-- Memory that was found large enough. Assumes nothing.
use Rattle.std.proofs.Common.{◌≡◌, ℕ, ◌*◌, ◌^◌, true, leb, List, length, Bool, false, cond, Ok, Some, None, refl, arith}
use Rattle.std.proofs.lemmas.Bool.{and_parts, leb-true}
use Rattle.receiver.specs.declared.memory.Step.{Step}
use Rattle.receiver.specs.declared.faults.ReceiverFault.TheVariants.{Memory}
use Rattle.receiver.specs.Admissions.{replied}
use Rattle.receiver.specs.Agreement.{roomy}
use Rattle.receiver.specs.Steps.{Roomy}

pub room_found : {S : Type 0} (n : ℕ) (soft : List S) (steps : List Step) (row : List ℕ) → roomy n soft steps row ≡ true → Roomy n soft steps row
room_found n soft steps row found =
    let a = and_parts (leb (2 * 2 ^ n) (length soft)) _ found in
    let b = and_parts (leb 64 (length steps)) (leb (2 ^ n) (length row)) a.1 in
    record { soft_room = leb-true (2 * 2 ^ n) (length soft) a.0; step_room = leb-true 64 (length steps) b.0; bit_room = leb-true (2 ^ n) (length row) b.1 }

-- the same, of the question that was answered yes
pub room_answered : {S : Type 0} (n : ℕ) (soft : List S) (steps : List Step) (row : List ℕ) → Ok (tt {0}) ≡ replied (cond (roomy n soft steps row) None (Some Memory)) (tt {0}) → Roomy n soft steps row
room_answered n soft steps row ok = go (roomy n soft steps row) refl ok
  where
    go : (b : Bool) → roomy n soft steps row ≡ b → Ok (tt {0}) ≡ replied (cond b None (Some Memory)) (tt {0}) → Roomy n soft steps row
    go true e h = room_found n soft steps row e
    go false e h = let z : ◌≡◌ {A = ℕ} 0 1 = cc in absurd (omega arith)
