-- The law over runs: what holds of every list of calls to a new receiver, read off the calls and their answers alone. Cited by the seven calls of a receiver, through the histories, and by `law_over_runs`. Assumes nothing.
use Rattle.std.specs.Prelude.{◌≡◌, ℕ, ◌+◌, ◌-◌, ◌*◌, ◌^◌, ◌<◌, ◌≤◌, Bool, true, false, cond, List, [], ◌∷◌, ◌++◌, length, replicate, is_some, Some, None, Option, slice_index_or}
use Rattle.soft.specs.Kind.{Kind}
use Rattle.code.specs.declared.kinds.SpanKind.{SpanKind}
use Rattle.code.specs.declared.kinds.SpanKind.TheVariants.{Rate0, Rate1, Rep, Spc}
use Rattle.code.specs.Spans.{kind_of, Means}
use Rattle.code.specs.Encode.{informed}
use Rattle.code.specs.Transform.{transform}
use Rattle.cancellation.specs.Cancel.{cancel}
use Rattle.cancellation.specs.Cost.{Adds, Cheapest}
use Rattle.receiver.specs.declared.faults.ReceiverFault.{ReceiverFault}
use Rattle.receiver.specs.declared.faults.ReceiverFault.TheVariants.{Length, Memory, WordInHand, NoWord, Unfinished}
use Rattle.receiver.specs.Work.{Caps, Span, Side, settled, span_at, word_of, Took, Begun}
use Rattle.receiver.specs.Model.{ten_ten, values_of, root_of, caps_fault, full_length, short_length, word_fault_by, right_buffers, fresh}
use Rattle.receiver.specs.Calls.{Call, remap, set_caps, word, short_word, advance, take, drop_word, Answer, refused, done, went, took, answers_to}

-- What is seen in a history.

-- what happens to a receiver: a call, and its answer
pub record Event : Type 0 where
  pub call : Call
  pub answer : Answer

-- the word in hand: its values, the caps in force as each of its steps was made, and the sum of the allowances of the advances accepted since
pub record Held (S : Type 0) : Type 0 where
  pub values : List S
  pub caps : List Caps
  pub allowance : ℕ

-- the map in force, by its n and its marks, the caps in force, and the word in hand, if there is one
pub record Seen (S : Type 0) : Type 0 where
  pub n : ℕ
  pub marks : List ℕ
  pub caps : Caps
  pub hand : Option (Held S)

-- before the first call: the first map, caps 10 and 10, no word
abbrev pub seen_first : {S : Type 0} → ℕ → List ℕ → Seen S
seen_first n marks = record { n = n; marks = marks; caps = ten_ten; hand = None }

-- another word in hand, or none
abbrev pub with_hand : {S : Type 0} → Option (Held S) → Seen S → Seen S
with_hand hand seen = record { n = seen.n; marks = seen.marks; caps = seen.caps; hand = hand }

-- the steps that an advance answers; other answers name none
abbrev pub steps_in : Answer → ℕ
steps_in (refused fault) = 0
steps_in done = 0
steps_in (went steps none) = steps
steps_in (took steps message bits) = 0

-- was the call accepted
abbrev pub accepted : Answer → Bool
accepted (refused fault) = false
accepted done = true
accepted (went steps none) = true
accepted (took steps message bits) = true

-- a word is put in hand: no step is made, and nothing is allowed
abbrev pub newly : {S : Type 0} → Kind S → List ℕ → Seen S → Seen S
newly kind bytes seen = with_hand (Some (record { values = values_of kind seen.n bytes; caps = []; allowance = 0 })) seen

-- an advance with this allowance made so many steps, under the caps in force
abbrev pub longer : {S : Type 0} → Caps → ℕ → ℕ → Held S → Held S
longer caps allowance steps held = record {
  values = held.values;
  caps = held.caps ++ replicate steps caps;
  allowance = held.allowance + allowance;
}

-- the same of the word in hand, if there is one
abbrev pub longer_hand : {S : Type 0} → Caps → ℕ → ℕ → Option (Held S) → Option (Held S)
longer_hand caps allowance steps None = None
longer_hand caps allowance steps (Some held) = Some (longer caps allowance steps held)

-- what an accepted call puts in force, where its answer names so many steps
abbrev pub put_by : {S : Type 0} → Kind S → Call → ℕ → Seen S → Seen S
put_by kind (remap n marks) steps seen = record { n = n; marks = marks; caps = seen.caps; hand = seen.hand }
put_by kind (set_caps a b) steps seen = record { n = seen.n; marks = seen.marks; caps = record { first = a; second = b }; hand = seen.hand }
put_by kind (word roomy bytes) steps seen = newly kind bytes seen
put_by kind (short_word roomy bytes) steps seen = newly kind bytes seen
put_by kind (advance roomy b) steps seen = with_hand (longer_hand seen.caps b steps seen.hand) seen
put_by kind (take roomy message room) steps seen = with_hand None seen
put_by kind drop_word steps seen = with_hand None seen

-- what is seen after an event: a refusal changes nothing
abbrev pub seen_after : {S : Type 0} → Kind S → Event → Seen S → Seen S
seen_after kind event seen = cond (accepted event.answer) (put_by kind event.call (steps_in event.answer) seen) seen

-- What the law asks.

-- the caps in force as step i was made
abbrev pub caps_at : List Caps → ℕ → Caps
caps_at caps i = slice_index_or caps i ten_ten

-- the whole word in hand, under the map in force
abbrev pub whole_word : {S : Type 0} → Seen S → Held S → Span S
whole_word seen held = root_of seen.n seen.marks held.values

-- by so many steps every word is finished: 4 N - 3
abbrev pub enough : ℕ → ℕ
enough n = 4 * 2 ^ n - 3

-- a kind whose sizes add: joins add them up to a limit that 1024 values, as read, do not pass together
pub record Adding {S : Type 0} (kind : Kind S) : Type 0 where
  pub limit : ℕ
  pub adds : Adds limit kind.size_rule
  pub small : (byte : ℕ) (value : S) → kind.read byte ≡ Some value → kind.size value * 1024 ≤ limit

-- a span's word costs no more than any that its marks allow: with Rate-1 and SPC always, with Rep where sizes add
abbrev pub CheapAs : {S : Type 0} → Kind S → SpanKind → Span S → Type 0
CheapAs kind Rate0 span = Unit {0}
CheapAs kind Rate1 span = Cheapest kind span.e span.marks span.values (word_of kind span)
CheapAs kind Rep span = Adding kind → Cheapest kind span.e span.marks span.values (word_of kind span)
CheapAs kind Spc span = Cheapest kind span.e span.marks span.values (word_of kind span)

-- every span settled so far, under the caps of its first step, has a kind, and the word that cancellation gives it is as cheap as that kind says; that the bits in memory are that word is what
-- the contract of advance says
abbrev pub Costs : {S : Type 0} → Kind S → Span S → List Caps → Type 0
Costs kind root caps =
    (path : List Side) (i : ℕ) → Begun kind root (caps_at caps) path i → i < length caps → settled (caps_at caps i) (span_at kind root path) ≡ true →
    (k : SpanKind) × (kind_of (span_at kind root path).marks ≡ Some k) × CheapAs kind k (span_at kind root path)

-- an accepted advance of a word that is held so afterwards: its allowance, the steps it answers, and whether it answers that none remains
pub record Advances {S : Type 0} (kind : Kind S) (n : ℕ) (root : Span S) (after : Held S) (allowance steps : ℕ) (none : Bool) : Type 0 where
  pub most : steps ≤ allowance
  pub all : none ≡ false → steps ≡ allowance
  pub ends : enough n ≤ after.allowance → none ≡ true
  -- none remains just when all the steps that the rule gives are made
  pub count : none ≡ true → Took kind (caps_at after.caps) 0 root (length after.caps)
  pub remain : none ≡ false → (t : ℕ) → Took kind (caps_at after.caps) 0 root t → length after.caps < t
  pub costs : Costs kind root after.caps

-- an accepted take of the word held
pub record Takes {S : Type 0} (kind : Kind S) (n : ℕ) (marks : List ℕ) (held : Held S) (steps : ℕ) (message bits : List ℕ) : Type 0 where
  pub right : bits ≡ cancel kind n marks held.values
  pub beside : message ≡ informed marks (transform n bits)
  -- the sum of the steps answered, and the steps that the rule gives, each span under the caps in force at its first step
  pub sum : steps ≡ length held.caps
  pub count : Took kind (caps_at held.caps) 0 (root_of n marks held.values) steps
  pub costs : Costs kind (root_of n marks held.values) held.caps

-- why a take of the word held is refused; as unfinished only while the allowances are not enough
pub data Untaken {S : Type 0} (kind : Kind S) (n : ℕ) (root : Span S) (held : Held S) (roomy right : Bool) : ReceiverFault → Type 0 where
  unfinished : held.allowance < enough n → ((t : ℕ) → Took kind (caps_at held.caps) 0 root t → length held.caps < t) → Untaken kind n root held roomy right Unfinished
  unroomy : Took kind (caps_at held.caps) 0 root (length held.caps) → roomy ≡ false → Untaken kind n root held roomy right Memory
  unfit : Took kind (caps_at held.caps) 0 root (length held.caps) → roomy ≡ true → right ≡ false → Untaken kind n root held roomy right Length

-- this holds of the word in hand, or that where there is none
abbrev pub OfHand : {S : Type 0} → (Held S → Type 0) → Type 0 → Option (Held S) → Type 0
OfHand P none None = none
OfHand P none (Some held) = P held

-- what an advance may answer
abbrev pub LawfulAdvance : {S : Type 0} → Kind S → Seen S → Bool → ℕ → Answer → Type 0
LawfulAdvance kind seen roomy b (refused fault) = OfHand (λ held. (roomy ≡ false) × (fault ≡ Memory)) (fault ≡ NoWord) seen.hand
LawfulAdvance kind seen roomy b done = ⊥
LawfulAdvance kind seen roomy b (went steps none) =
    OfHand (λ held. (roomy ≡ true) × Advances kind seen.n (whole_word seen held) (longer seen.caps b steps held) b steps none) ⊥ seen.hand
LawfulAdvance kind seen roomy b (took steps message bits) = ⊥

-- what a take may answer
abbrev pub LawfulTake : {S : Type 0} → Kind S → Seen S → Bool → Bool → Answer → Type 0
LawfulTake kind seen roomy right (refused fault) = OfHand (λ held. Untaken kind seen.n (whole_word seen held) held roomy right fault) (fault ≡ NoWord) seen.hand
LawfulTake kind seen roomy right done = ⊥
LawfulTake kind seen roomy right (went steps none) = ⊥
LawfulTake kind seen roomy right (took steps message bits) =
    OfHand (λ held. (roomy ≡ true) × (right ≡ true) × Takes kind seen.n seen.marks held steps message bits) ⊥ seen.hand

-- a call that answers nothing more is refused for this fault, or done
abbrev pub plain : Option ReceiverFault → Answer
plain None = done
plain (Some fault) = refused fault

-- what a call may answer after what was seen
abbrev pub Lawful : {S : Type 0} → Kind S → Seen S → Call → Answer → Type 0
Lawful kind seen (remap n marks) answer = answer ≡ plain (cond (is_some seen.hand) (Some WordInHand) None)
Lawful kind seen (set_caps a b) answer = answer ≡ plain (caps_fault a b)
Lawful kind seen (word roomy bytes) answer = answer ≡ plain (word_fault_by kind (is_some seen.hand) seen.n full_length roomy bytes)
Lawful kind seen (short_word roomy bytes) answer = answer ≡ plain (word_fault_by kind (is_some seen.hand) seen.n short_length roomy bytes)
Lawful kind seen (advance roomy b) answer = LawfulAdvance kind seen roomy b answer
Lawful kind seen (take roomy message room) answer = LawfulTake kind seen roomy (right_buffers seen.n seen.marks message room) answer
Lawful kind seen drop_word answer = answer ≡ plain (cond (is_some seen.hand) None (Some NoWord))

-- every call is answered, and lawfully after what was seen before it
unfoldable pub LawFrom : {S : Type 0} → Kind S → Seen S → List Call → List Answer → Type 0
LawFrom kind seen [] [] = Unit {0}
LawFrom kind seen [] (answer ∷ answers) = ⊥
LawFrom kind seen (call ∷ calls) [] = ⊥
LawFrom kind seen (call ∷ calls) (answer ∷ answers) =
    Lawful kind seen call answer × LawFrom kind (seen_after kind (record { call = call; answer = answer }) seen) calls answers

-- the law over the calls to a new receiver, made over this map, and their answers
abbrev pub Law : {S : Type 0} → Kind S → ℕ → List ℕ → List Call → List Answer → Type 0
Law kind n marks calls answers = LawFrom kind (seen_first n marks) calls answers

-- a map that is to be put in force means a list of marks
abbrev pub Mapped : Call → Type 0
Mapped (remap n marks) = Means n marks
Mapped (set_caps a b) = Unit {0}
Mapped (word roomy bytes) = Unit {0}
Mapped (short_word roomy bytes) = Unit {0}
Mapped (advance roomy b) = Unit {0}
Mapped (take roomy message room) = Unit {0}
Mapped drop_word = Unit {0}

-- every map that some calls put in force means a list of marks
unfoldable pub AllMapped : List Call → Type 0
AllMapped [] = Unit {0}
AllMapped (call ∷ calls) = Mapped call × AllMapped calls

-- for this kind, any maps and any calls, the law holds of what the receiver's definition answers
abbrev pub LawOverRuns : {S : Type 0} → Kind S → Type 0
LawOverRuns kind = (n : ℕ) (marks : List ℕ) → Means n marks → (calls : List Call) → AllMapped calls → Law kind n marks calls (answers_to kind calls (fresh n marks))

-- whatever the caps, the rule gives a span of T positions one number of steps, at most 4 T - 3
abbrev pub StepsRuled : {S : Type 0} → Kind S → Type 0
StepsRuled {S} kind =
    (caps : ℕ → Caps) (k : ℕ) (span : Span S) → (k' : ℕ) × Took kind caps k span k' × (k' ≤ k + enough span.e) × ((other : ℕ) → Took kind caps k span other → k' ≡ other)
