-- What a session answers: cited by `transcript`. Assumes nothing.
use Rattle.std.specs.Prelude.{◌≡◌, ℕ, zero, suc, ◌-◌, ◌^◌, Bool, true, false, cond, ◌&&◌, List, [], ◌∷◌, ◌++◌, length, Some, None, Ok, Err, decimal, Option, Result, nat_le}
use Rattle.std.specs.Option.{option_map}
use Rattle.code.specs.declared.faults.MapFault.{MapFault}
use Rattle.code.specs.Spans.{part, listed_fault}
use Rattle.code.specs.Orders.{order_fault, ranks_of, ranked_marks, count_fault}
use Rattle.code.specs.Encode.{informed_count, encode_fault, encoded}
use Rattle.soft.specs.Kind.{Kind}
use Rattle.soft.specs.Whole.{whole}
use Rattle.soft.specs.Erasure.{erasure}
use Rattle.receiver.specs.Calls as receiver
use Rattle.receiver.specs.Calls.{Call, Answer, Outcome, called}
use Rattle.receiver.specs.Model.{Model, fresh}
use Rattle.session.specs.declared.faults.SessionFault.{SessionFault}
use Rattle.session.specs.declared.faults.SessionFault.TheVariants as fault
use Rattle.session.specs.declared.commands.Make.{Make}
use Rattle.session.specs.declared.commands.Number.{Number}
use Rattle.session.specs.declared.commands.Number.TheVariants.{Whole, Erasure}
use Rattle.session.specs.declared.commands.Sizes.{Sizes}
use Rattle.session.specs.Faults.{report_of, of_map}
use Rattle.session.specs.Commands.{Request, slot, order, ranked, listed, encode, caps, word, short_word, advance, taking, dropping, read_command, header_of}
use Rattle.session.specs.Shelf.{slot_record}
use Rattle.session.specs.Text.{bits_text, message_text, refused_line, done_line}

-- what is in force: an order, by its n and its bytes, and, from the first map on, the receiver over the map in force
pub record InForce (S : Type 0) : Type 0 where
  pub order : Option (ℕ × List ℕ)
  pub receiver : Option (Model S)

-- at the beginning, nothing
abbrev pub nothing : {S : Type 0} → InForce S
nothing = record { order = None; receiver = None }

-- what a command answers, a refusal or the fields that its line adds, and what it leaves in force
pub record Done (S : Type 0) : Type 0 where
  pub answer : Result (List (List ℕ)) SessionFault
  pub after : InForce S

-- a refusal leaves all as it was
abbrev pub refuse : {S : Type 0} → SessionFault → InForce S → Done S
refuse f s = record { answer = Err f; after = s }

-- an order is put in force, and n is answered
abbrev pub offer : {S : Type 0} → Option MapFault → ℕ → List ℕ → InForce S → Done S
offer None n bytes s = record { answer = Ok (decimal n ∷ []); after = record { order = Some (n, bytes); receiver = s.receiver } }
offer (Some f) n bytes s = refuse (of_map f) s

-- what a receiver's answer adds to the line: `more` where it answers nothing more
abbrev pub told : List (List ℕ) → Answer → Result (List (List ℕ)) SessionFault
told more (receiver.refused f) = Err (fault.Receiver f)
told more receiver.done = Ok more
told more (receiver.went steps ends) = Ok (decimal steps ∷ (decimal (cond ends 1 0) ∷ []))
told more (receiver.took steps message bits) = Ok (decimal steps ∷ (message_text message ∷ (bits_text bits ∷ [])))

-- the receiver is as a call left it
abbrev pub tell : {S : Type 0} → List (List ℕ) → InForce S → Outcome S → Done S
tell more s o = record { answer = told more o.answer; after = record { order = s.order; receiver = Some o.after } }

-- a map is put in force, and the count of its informed positions is answered: the first makes the receiver, a later one remaps it
abbrev pub chosen_in : {S : Type 0} → Kind S → ℕ → List ℕ → InForce S → Option (Model S) → Done S
chosen_in kind n marks s None = record { answer = Ok (decimal (informed_count marks) ∷ []); after = record { order = s.order; receiver = Some (fresh n marks) } }
chosen_in kind n marks s (Some m) = tell (decimal (informed_count marks) ∷ []) s (called kind (receiver.remap n marks) m)

-- the map's own questions come first
abbrev pub choose : {S : Type 0} → Kind S → Option MapFault → ℕ → List ℕ → InForce S → Done S
choose kind (Some f) n marks s = refuse (of_map f) s
choose kind None n marks s = chosen_in kind n marks s s.receiver

-- a word is answered
abbrev pub reply : {S : Type 0} → Option MapFault → List ℕ → InForce S → Done S
reply None bits s = record { answer = Ok (bits_text bits ∷ []); after = s }
reply (Some f) bits s = refuse (of_map f) s

-- `O`
abbrev pub do_order : {S : Type 0} → ℕ → List ℕ → InForce S → Done S
do_order n bytes s = offer (order_fault n bytes) n bytes s

-- `S`
abbrev pub do_slot : {S : Type 0} → List ℕ → ℕ → ℕ → InForce S → Done S
do_slot shelf at number s =
    elim (slot_record number 0 shelf) [ None ↦ refuse (fault.Slot at) s | Some r ↦ do_order r.n (part shelf r.place r.count) s ]

-- `K`
abbrev pub do_ranked : {S : Type 0} → Kind S → ℕ → ℕ → InForce S → Done S
do_ranked kind at k s =
    elim s.order [
      | None ↦ refuse (fault.NoOrder at) s
      | Some o ↦ choose kind (count_fault o.0 k) o.0 (ranked_marks (ranks_of o.1) k) s
    ]

-- `L`
abbrev pub do_listed : {S : Type 0} → Kind S → ℕ → List ℕ → InForce S → Done S
do_listed kind n marks s = choose kind (listed_fault n marks) n marks s

-- the word of a message, if there is a map
abbrev pub encoded_in : {S : Type 0} → ℕ → List ℕ → InForce S → Option (Model S) → Done S
encoded_in at message s None = refuse (fault.NoMap at) s
encoded_in at message s (Some m) = reply (encode_fault m.marks message (length m.marks)) (encoded m.n m.marks message) s

-- `E`
abbrev pub do_encode : {S : Type 0} → ℕ → List ℕ → InForce S → Done S
do_encode at message s = encoded_in at message s s.receiver

-- a call of the receiver, if there is a map
abbrev pub called_in : {S : Type 0} → Kind S → ℕ → List (List ℕ) → (Model S → Call) → InForce S → Option (Model S) → Done S
called_in kind at more asks s None = refuse (fault.NoMap at) s
called_in kind at more asks s (Some m) = tell more s (called kind (asks m) m)

abbrev pub do_call : {S : Type 0} → Kind S → ℕ → List (List ℕ) → (Model S → Call) → InForce S → Done S
do_call kind at more asks s = called_in kind at more asks s s.receiver

-- `B`
abbrev pub do_caps : {S : Type 0} → Kind S → ℕ → ℕ → ℕ → InForce S → Done S
do_caps kind at first second = do_call kind at (decimal first ∷ (decimal second ∷ [])) (λ m. receiver.set_caps first second)

-- `W`: the work memory is large enough for every code
abbrev pub do_word : {S : Type 0} → Kind S → ℕ → List ℕ → InForce S → Done S
do_word kind at bytes = do_call kind at [] (λ m. receiver.word true bytes)

-- `V`
abbrev pub do_short_word : {S : Type 0} → Kind S → ℕ → List ℕ → InForce S → Done S
do_short_word kind at bytes = do_call kind at [] (λ m. receiver.short_word true bytes)

-- `A`
abbrev pub do_advance : {S : Type 0} → Kind S → ℕ → ℕ → InForce S → Done S
do_advance kind at allowance = do_call kind at [] (λ m. receiver.advance true allowance)

-- `T`: both buffers are exactly right
abbrev pub do_take : {S : Type 0} → Kind S → ℕ → InForce S → Done S
do_take kind at = do_call kind at [] (λ m. receiver.take true (informed_count m.marks) (2 ^ m.n))

-- `X`
abbrev pub do_drop : {S : Type 0} → Kind S → ℕ → InForce S → Done S
do_drop kind at = do_call kind at [] (λ m. receiver.drop_word)

-- what a command, whose letter stands at offset `at`, answers and leaves in force
unfoldable pub perform : {S : Type 0} → Kind S → List ℕ → ℕ → Request → InForce S → Done S
perform kind shelf at (slot number) s = do_slot shelf at number s
perform kind shelf at (order n bytes) s = do_order n bytes s
perform kind shelf at (ranked k) s = do_ranked kind at k s
perform kind shelf at (listed n marks) s = do_listed kind n marks s
perform kind shelf at (encode message) s = do_encode at message s
perform kind shelf at (caps first second) s = do_caps kind at first second s
perform kind shelf at (word bytes) s = do_word kind at bytes s
perform kind shelf at (short_word bytes) s = do_short_word kind at bytes s
perform kind shelf at (advance allowance) s = do_advance kind at allowance s
perform kind shelf at taking s = do_take kind at s
perform kind shelf at dropping s = do_drop kind at s

-- the line of a command
abbrev pub answer_line : ℕ → ℕ → Result (List (List ℕ)) SessionFault → List ℕ
answer_line number letter (Ok more) = done_line number letter more
answer_line number letter (Err f) = refused_line number letter (report_of f)

-- how many positions the map in force, if there is one, informs, and how many it has
abbrev pub sizes_in : {S : Type 0} → Option (Model S) → Option Sizes
sizes_in None = None
sizes_in (Some m) = Some (record { informed = informed_count m.marks; positions = 2 ^ m.n })

-- the lines of the commands that are left of a session of `size` bytes, of which the next has this number; each command takes a byte or more, so that there are at most as many as bytes
unfoldable pub lines_from : {S : Type 0} → Kind S → ℕ → Make → List ℕ → ℕ → ℕ → List ℕ → InForce S → List ℕ
lines_from kind zero make shelf size number bytes s = []
lines_from kind (suc most) make shelf size number [] s = []
lines_from kind (suc most) make shelf size number (letter ∷ bytes) s =
    let at = size - suc (length bytes) in
    elim (read_command make (sizes_in s.receiver) at letter bytes) [
      | Err f ↦ refused_line number letter (report_of f)
      | Ok r ↦
          let done = perform kind shelf at r.request s in
          answer_line number letter done.answer ++ lines_from kind most make shelf size (suc number) r.rest done.after
    ]

-- how a session begins: its kind of soft number, the make of map that it chooses among, and its commands
pub record Opening : Type 0 where
  pub number : Number
  pub make : Make
  pub commands : List ℕ

-- is the header right?
abbrev pub opened : List ℕ → Result Opening SessionFault
opened [] = Err fault.Header
opened (a ∷ []) = Err fault.Header
opened (a ∷ (b ∷ bytes)) = elim (header_of a b) [ Err f ↦ Err f | Ok h ↦ Ok (record { number = h.number; make = h.make; commands = bytes }) ]

-- the first questions: are session and shelf at most 65,536 bytes each, and is the header right?
abbrev pub opening : List ℕ → List ℕ → Result Opening SessionFault
opening session shelf = cond (nat_le (length session) 65536 && nat_le (length shelf) 65536) (opened session) (Err fault.TooLong)

-- the lines of all commands of a session that begins well, in its kind of soft number
abbrev pub lines_of : ℕ → List ℕ → Opening → List ℕ
lines_of size shelf o =
    elim o.number [
      | Whole ↦ lines_from whole (length o.commands) o.make shelf size 0 o.commands nothing
      | Erasure ↦ lines_from erasure (length o.commands) o.make shelf size 0 o.commands nothing
    ]

-- what a session prints
unfoldable pub answers : List ℕ → List ℕ → List ℕ
answers session shelf = elim (opening session shelf) [ Err f ↦ refused_line 0 63 (report_of f) | Ok o ↦ lines_of (length session) shelf o ]

-- does a command choose an order?
abbrev pub chooses_order : Request → Bool
chooses_order (slot number) = true
chooses_order (order n bytes) = true
chooses_order (ranked k) = false
chooses_order (listed n marks) = false
chooses_order (encode message) = false
chooses_order (caps first second) = false
chooses_order (word bytes) = false
chooses_order (short_word bytes) = false
chooses_order (advance allowance) = false
chooses_order taking = false
chooses_order dropping = false

-- does a command choose a map?
abbrev pub chooses_map : Request → Bool
chooses_map (slot number) = false
chooses_map (order n bytes) = false
chooses_map (ranked k) = true
chooses_map (listed n marks) = true
chooses_map (encode message) = false
chooses_map (caps first second) = false
chooses_map (word bytes) = false
chooses_map (short_word bytes) = false
chooses_map (advance allowance) = false
chooses_map taking = false
chooses_map dropping = false

-- the map in force, by its n and its marks
abbrev pub map_in : {S : Type 0} → InForce S → Option (ℕ × List ℕ)
map_in s = option_map (λ m. (m.n, m.marks)) s.receiver

-- a refused command leaves all in force as it was
abbrev pub RefusedLeavesAll : {S : Type 0} → Kind S → Type 0
RefusedLeavesAll {S} kind =
    (shelf : List ℕ) (at : ℕ) (q : Request) (s : InForce S) (f : SessionFault) → (perform kind shelf at q s).answer ≡ Err f → (perform kind shelf at q s).after ≡ s

-- the order in force changes only by a command that chooses an order, and the map in force only by one that chooses a map
abbrev pub ChangesOnlyByChoice : {S : Type 0} → Kind S → Type 0
ChangesOnlyByChoice {S} kind = (shelf : List ℕ) (at : ℕ) (q : Request) (s : InForce S) →
    (chooses_order q ≡ false → (perform kind shelf at q s).after.order ≡ s.order) × (chooses_map q ≡ false → map_in (perform kind shelf at q s).after ≡ map_in s)
