-- A receiver as its user sees it, and what each call answers and leaves: cited by the contracts of the receiver's calls. Assumes nothing.
use Rattle.std.specs.Prelude.{ℕ, ◌+◌, ◌-◌, ◌^◌, Bool, true, false, cond, not, ◌&&◌, List, [], ◌++◌, map, length, replicate, is_some, Some, None, Option, ◌==◌, nat_le, slice_index}
use Rattle.std.specs.Option.{option_map}
use Rattle.code.specs.Spans.{lowest_no}
use Rattle.code.specs.Encode.{informed, informed_count}
use Rattle.code.specs.Transform.{transform}
use Rattle.soft.specs.Kind.{Kind}
use Rattle.receiver.specs.declared.faults.ReceiverFault.{ReceiverFault}
use Rattle.receiver.specs.declared.faults.ReceiverFault.TheVariants.{Length, Memory, WordInHand, NoWord, Unfinished, Cap, Byte}
use Rattle.receiver.specs.Work.{Caps, Span, Place, at, first, finished, word_of, walked, made_of}

-- a word in hand: the whole word with its marks and values, where the work stands, and the steps made
pub record Hand (S : Type 0) : Type 0 where
  pub root : Span S
  pub place : Place
  pub steps : ℕ

-- what is in force: the map, by its n and its marks, the caps, and the word in hand, if there is one
pub record Model (S : Type 0) : Type 0 where
  pub n : ℕ
  pub marks : List ℕ
  pub caps : Caps
  pub hand : Option (Hand S)

-- caps 10 and 10
abbrev pub ten_ten : Caps
ten_ten = record { first = 10; second = 10 }

-- a new receiver
abbrev pub fresh : {S : Type 0} → ℕ → List ℕ → Model S
fresh n marks = record { n = n; marks = marks; caps = ten_ten; hand = None }

-- the value of a byte; one that does not read has none, and the fill stands for it
abbrev pub value_of : {S : Type 0} → Kind S → Option S → S
value_of kind None = kind.fill
value_of kind (Some v) = v

-- the values of a word: those read, then the fill
abbrev pub values_of : {S : Type 0} → Kind S → ℕ → List ℕ → List S
values_of kind n bytes = map (λ b. value_of kind (kind.read b)) bytes ++ replicate (2 ^ n - length bytes) kind.fill

-- the whole word
abbrev pub root_of : {S : Type 0} → ℕ → List ℕ → List S → Span S
root_of n marks values = record { e = n; start = 0; marks = marks; values = values }

-- is no step left
abbrev pub is_finished : Place → Bool
is_finished (at next path) = false
is_finished finished = true

-- the same with this word in hand, or with none
abbrev pub handed : {S : Type 0} → Model S → Option (Hand S) → Model S
handed m hand = record { n = m.n; marks = m.marks; caps = m.caps; hand = hand }

-- remap: is no word in hand
abbrev pub remap_fault : {S : Type 0} → Model S → Option ReceiverFault
remap_fault m = cond (is_some m.hand) (Some WordInHand) None

-- another map in force
abbrev pub remapped : {S : Type 0} → ℕ → List ℕ → Model S → Model S
remapped n marks m = record { n = n; marks = marks; caps = m.caps; hand = m.hand }

-- caps: are both at most 10
abbrev pub caps_fault : ℕ → ℕ → Option ReceiverFault
caps_fault a b = cond (nat_le a 10 && nat_le b 10) None (Some Cap)

-- other caps in force
abbrev pub capped : {S : Type 0} → ℕ → ℕ → Model S → Model S
capped a b m = record { n = m.n; marks = m.marks; caps = record { first = a; second = b }; hand = m.hand }

-- a word has N bytes
abbrev pub full_length : ℕ → ℕ → Bool
full_length n m = m == 2 ^ n

-- a short word has from 1 to N bytes
abbrev pub short_length : ℕ → ℕ → Bool
short_length n m = nat_le 1 m && nat_le m (2 ^ n)

-- word and short word: is no word in hand, is the length right, is the memory large enough, does every byte read
abbrev pub word_fault_by : {S : Type 0} → Kind S → Bool → ℕ → (ℕ → ℕ → Bool) → Bool → List ℕ → Option ReceiverFault
word_fault_by kind inHand n fits roomy bytes =
    cond inHand (Some WordInHand)
    (cond (not (fits n (length bytes))) (Some Length)
    (cond (not roomy) (Some Memory)
    (option_map Byte (lowest_no (λ i. is_some (kind.read (slice_index bytes i))) 0 (length bytes)))))

-- the same, of what is in force
unfoldable pub word_fault : {S : Type 0} → Kind S → Model S → (ℕ → ℕ → Bool) → Bool → List ℕ → Option ReceiverFault
word_fault kind m fits roomy bytes = word_fault_by kind (is_some m.hand) m.n fits roomy bytes

-- a word of these bytes in hand, of which no step is made
abbrev pub worded : {S : Type 0} → Kind S → List ℕ → Model S → Model S
worded kind bytes m = handed m (Some (record { root = root_of m.n m.marks (values_of kind m.n bytes); place = at first []; steps = 0 }))

-- advance: is a word in hand, is the memory large enough
abbrev pub advance_fault : {S : Type 0} → Model S → Bool → Option ReceiverFault
advance_fault m roomy = cond (is_some m.hand) (cond roomy None (Some Memory)) (Some NoWord)

-- the word in hand after an advance
abbrev pub further : {S : Type 0} → Kind S → Caps → ℕ → Hand S → Hand S
further kind caps b h = record {
  root = h.root;
  place = walked kind h.root caps b h.place;
  steps = h.steps + made_of kind h.root caps b h.place;
}

-- what is in force after an advance
abbrev pub advanced : {S : Type 0} → Kind S → ℕ → Model S → Model S
advanced kind b m = handed m (option_map (further kind m.caps b) m.hand)

-- the steps that an advance makes
abbrev pub advance_made : {S : Type 0} → Kind S → ℕ → Caps → Option (Hand S) → ℕ
advance_made kind b caps None = 0
advance_made kind b caps (Some h) = made_of kind h.root caps b h.place

-- whether none remains after it
abbrev pub advance_ends : {S : Type 0} → Kind S → ℕ → Caps → Option (Hand S) → Bool
advance_ends kind b caps None = false
advance_ends kind b caps (Some h) = is_finished (walked kind h.root caps b h.place)

-- take, where the work on the word stands: is it finished, is the memory large enough, are both buffers right
abbrev pub take_fault_at : Place → Bool → Bool → Option ReceiverFault
take_fault_at (at next path) roomy right = Some Unfinished
take_fault_at finished roomy right = cond roomy (cond right None (Some Length)) (Some Memory)

-- take: is a word in hand, and then the same
abbrev pub take_fault : {S : Type 0} → Option (Hand S) → Bool → Bool → Option ReceiverFault
take_fault None roomy right = Some NoWord
take_fault (Some h) roomy right = take_fault_at h.place roomy right

-- both buffers are exactly right: a message byte for each informed position, a word byte for each position
abbrev pub right_buffers : ℕ → List ℕ → ℕ → ℕ → Bool
right_buffers n marks message word = message == informed_count marks && word == 2 ^ n

-- the word that is taken
abbrev pub taken_word : {S : Type 0} → Kind S → Option (Hand S) → List ℕ
taken_word kind None = []
taken_word kind (Some h) = word_of kind h.root

-- the message in a word: its transform at the informed positions
abbrev pub message_in : ℕ → List ℕ → List ℕ → List ℕ
message_in n marks word = informed marks (transform n word)

-- the steps that were made of it
abbrev pub taken_steps : {S : Type 0} → Option (Hand S) → ℕ
taken_steps None = 0
taken_steps (Some h) = h.steps

-- drop: is a word in hand
abbrev pub drop_fault : {S : Type 0} → Model S → Option ReceiverFault
drop_fault m = cond (is_some m.hand) None (Some NoWord)

-- the word is ended
abbrev pub ended : {S : Type 0} → Model S → Model S
ended m = handed m None
