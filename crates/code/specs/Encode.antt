-- The encoder: cited by `encode`. Assumes nothing.
use Rattle.std.specs.Prelude.{ℕ, suc, cond, not, ◌&&◌, List, [], ◌∷◌, length, drop, Some, None, Option, ◌==◌, slice_index}
use Rattle.std.specs.Option.{option_map}
use Rattle.code.specs.declared.faults.MapFault.{MapFault}
use Rattle.code.specs.declared.faults.MapFault.TheVariants.{Bit, Buffer}
use Rattle.code.specs.Spans.{lowest_no, is_bit}
use Rattle.code.specs.Transform.{transform}

-- how many positions are informed
abbrev pub informed_count : List ℕ → ℕ
informed_count [] = 0
informed_count (m ∷ marks) = cond (m == 1) (suc (informed_count marks)) (informed_count marks)

-- the message on the informed positions in rising order, 0 on the frozen ones
abbrev pub laid : List ℕ → List ℕ → List ℕ
laid [] message = []
laid (m ∷ marks) message = cond (m == 1) (slice_index message 0 ∷ laid marks (drop 1 message)) (0 ∷ laid marks message)

-- the entries at the informed positions, in rising order
abbrev pub informed : List ℕ → List ℕ → List ℕ
informed [] bits = []
informed (m ∷ marks) bits = cond (m == 1) (slice_index bits 0 ∷ informed marks (drop 1 bits)) (informed marks (drop 1 bits))

-- the word of a message: the transform of the message laid on the map
abbrev pub encoded : ℕ → List ℕ → List ℕ → List ℕ
encoded n marks message = transform n (laid marks message)

-- the first question about a message and an output of `room` bytes that is answered no, or none
unfoldable pub encode_fault : List ℕ → List ℕ → ℕ → Option MapFault
encode_fault marks message room =
    cond (not (length message == informed_count marks)) (Some Buffer)
    (cond (not (room == length marks)) (Some Buffer)
    (option_map Bit (lowest_no (λ i. is_bit (slice_index message i)) 0 (length message))))

-- the question about a word and a message of these lengths: does each have the right one
unfoldable pub message_fault : List ℕ → ℕ → ℕ → Option MapFault
message_fault marks word message = cond (message == informed_count marks && word == length marks) None (Some Buffer)
