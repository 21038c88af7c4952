-- What a call of the receiver does to the state of a session, over plain values.
use Rattle.std.proofs.Common.{◌≡◌, ℕ, ◌^◌, ◌≤◌, Bool, true, List, [], ◌∷◌, length, Some, None, Ok, decimal, Option, Result, sym, refl, ap, ◌∙◌, subst}
use Rattle.code.specs.Encode.{informed_count}
use Rattle.soft.specs.Kind.{Kind}
use Rattle.receiver.specs.declared.faults.ReceiverFault.{ReceiverFault}
use Rattle.receiver.specs.declared.memory.Memory.{Memory}
use Rattle.receiver.specs.declared.receiver.Receiver.{Receiver}
use Rattle.receiver.specs.Agreement.{roomy}
use Rattle.receiver.specs.Calls.{Call, Answer, called, outcome, done, remap, advance}
use Rattle.receiver.specs.Histories.{plain, went_to}
use Rattle.receiver.specs.Lent.{SameLoans}
use Rattle.receiver.specs.Model.{Model, fresh, word_fault, worded}
use Rattle.receiver.specs.Words.{word_door, TakenInHand, advance_door, Goes}
use Rattle.session.specs.declared.chosen.Chosen.{Chosen}
use Rattle.session.specs.declared.faults.SessionFault.{SessionFault}
use Rattle.session.specs.declared.state.State.{State}
use Rattle.session.specs.Chosen.{exponent_of, marks_of}
use Rattle.session.specs.Sessions.{InForce, told, chosen_in, choose, called_in, do_call}
use Rattle.session.specs.States.{Room, Agreed, AgreedIf, Stands, Did}
use Rattle.session.proofs.Calling.{Answers, word_agreed, advance_agreed}

-- memory that was lent is as long as it was
pub roomy_still : {S : Type 0} (memory memory' : Memory S) → Room memory → SameLoans memory memory' → Room memory'
roomy_still memory memory' room same = record { soft_room = same.soft_long ∙ room.soft_room; step_room = same.pending_long ∙ room.step_room; bit_room = same.bits_long ∙ room.bit_room }

module _ {S : Type 0} (kind : Kind S) (s : InForce S) (state : State S) (memory : Memory S) (r : Receiver Chosen S) (st : Stands kind s state memory) (is : state.receiver ≡ Some r) where
  -- the receiver in force
  record There : Type 0 where
    pub model : Model S
    pub model_is : s.receiver ≡ Some model
    pub agrees : Agreed kind model r memory

  there : There
  there = go s.receiver refl (subst (λ o. AgreedIf kind s.receiver o memory) is st.receiver)
    where
      go : (o : Option (Model S)) → s.receiver ≡ o → AgreedIf kind o (Some r) memory → There
      go None e h = absurd h
      go (Some m) e h = record { model = m; model_is = e; agrees = h }

  module _ (a : Result (List (List ℕ)) SessionFault) (answer : Answer) (r' : Receiver Chosen S) (memory' : Memory S) (room : Room memory') where
    -- a call of the receiver
    pub call_did : (at : ℕ) (more : List (List ℕ)) (asks : Model S → Call) → a ≡ told more answer →
        ((m : Model S) → Agreed kind m r memory → Answers kind m r' memory' (asks m) answer) → Did kind (do_call kind at more asks s) a (record { order = state.order; receiver = Some r' }) memory'
    call_did at more asks e h =
        let k = h there.model there.agrees in
        subst (λ (o : Option (Model S)). Did kind (called_in kind at more asks s o) a (record { order = state.order; receiver = Some r' }) memory') (sym there.model_is)
        (record { answer = e ∙ ap (told more) k.0; after = record { order = st.order; receiver = k.1; room = room } })

    -- a map that was made remaps it
    pub map_did : (n : ℕ) (marks : List ℕ) → a ≡ told (decimal (informed_count marks) ∷ []) answer →
        ((m : Model S) → Agreed kind m r memory → Answers kind m r' memory' (remap n marks) answer) → Did kind (choose kind None n marks s) a (record { order = state.order; receiver = Some r' }) memory'
    map_did n marks e h =
        let k = h there.model there.agrees in
        subst (λ (o : Option (Model S)). Did kind (chosen_in kind n marks s o) a (record { order = state.order; receiver = Some r' }) memory') (sym there.model_is)
        (record { answer = e ∙ ap (told (decimal (informed_count marks) ∷ [])) k.0; after = record { order = st.order; receiver = k.1; room = room } })
    -- word and short word, of a length that `fits`

  module _ (a : Result (List (List ℕ)) SessionFault) (r' : Receiver Chosen S) (memory' : Memory S) (same : SameLoans memory memory') (rest : (r'.map ≡ r.map) × (r'.caps ≡ r.caps)) where
    pub word_did : (at : ℕ) (fits : ℕ → ℕ → Bool) (bytes : List ℕ) (asks : Model S → Call) (answer : Result (Unit {0}) ReceiverFault) → a ≡ told [] (plain answer) →
        ((m : Model S) → called kind (asks m) m ≡ outcome (word_fault kind m fits true bytes) done (worded kind bytes m) m) → ((n : ℕ) → fits n (length bytes) ≡ true → length bytes ≤ 2 ^ n) →
        TakenInHand kind (exponent_of r.map) (word_door kind r.state (fits (exponent_of r.map) (length bytes)) (roomy (exponent_of r.map) memory.soft.now memory.pending.now memory.bits.now) bytes) bytes memory.soft.now memory'.soft.now memory.pending.now memory'.pending.now memory.bits.now memory'.bits.now r.state r'.state answer →
        Did kind (do_call kind at [] asks s) a (record { order = state.order; receiver = Some r' }) memory'
    word_did at fits bytes asks answer e is-so short taken =
        call_did a (plain answer) r' memory' (roomy_still memory memory' st.room same) at [] asks e (λ m agrees. word_agreed kind m r r' memory memory' agrees fits bytes (asks m) answer st.room rest (is-so m) short taken)

    pub advance_did : (at allowance : ℕ) (answer : Result (ℕ × Bool) ReceiverFault) → a ≡ told [] (went_to answer) →
        Goes kind (exponent_of r.map) (marks_of r.map) r.caps allowance (advance_door r.state (roomy (exponent_of r.map) memory.soft.now memory.pending.now memory.bits.now)) r.state r'.state memory.soft.now memory.pending.now memory.bits.now memory'.soft.now memory'.pending.now memory'.bits.now answer →
        Did kind (do_call kind at [] (λ m. advance true allowance) s) a (record { order = state.order; receiver = Some r' }) memory'
    advance_did at allowance answer e goes =
        call_did a (went_to answer) r' memory' (roomy_still memory memory' st.room same) at [] (λ m. advance true allowance) e (λ m agrees. advance_agreed kind m r r' memory memory' agrees allowance answer st.room rest goes)

-- a map that was made makes the first receiver
pub made_did : {S : Type 0} (kind : Kind S) (s : InForce S) (state : State S) (memory : Memory S) → Stands kind s state memory → state.receiver ≡ None → (n : ℕ) (marks : List ℕ) (r' : Receiver Chosen S) → Agreed kind (fresh n marks) r' memory →
    Did kind (choose kind None n marks s) (Ok (decimal (informed_count marks) ∷ [])) (record { order = state.order; receiver = Some r' }) memory
made_did {S} kind s state memory st none n marks r' agrees = go s.receiver (subst (λ o. AgreedIf kind s.receiver o memory) none st.receiver)
  where
    go : (o : Option (Model S)) → AgreedIf kind o None memory → Did kind (chosen_in kind n marks s o) (Ok (decimal (informed_count marks) ∷ [])) (record { order = state.order; receiver = Some r' }) memory
    go None h = record { answer = refl; after = record { order = st.order; receiver = agrees; room = st.room } }
    go (Some m) h = absurd h
