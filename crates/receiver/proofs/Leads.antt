-- One call more after any that have led here. Assumes nothing.
use Rattle.std.proofs.Common.{◌≡◌, ℕ, ◌^◌, ◌≤◌, Bool, true, cond, leb, List, [], ◌∷◌, ◌++◌, length, is_some, Some, None, Option, Result, sym, refl, ap, ◌∙◌, subst, ap₂}
use Rattle.std.proofs.lemmas.Bool.{le-leb, and_from, false≢true}
use Rattle.receiver.specs.declared.faults.ReceiverFault.{ReceiverFault}
use Rattle.receiver.specs.Admissions.{replied, in_force}
use Rattle.code.specs.Spans.{Means}
use Rattle.soft.specs.Kind.{Kind, Laws}
use Rattle.receiver.specs.declared.caps.Caps.{Caps as Kept}
use Rattle.receiver.specs.declared.memory.Step.{Step}
use Rattle.receiver.specs.declared.states.State.{State}
use Rattle.receiver.specs.declared.states.State.TheVariants.{Idle, Working, Finished}
use Rattle.receiver.specs.declared.faults.ReceiverFault.TheVariants.{Cap}
use Rattle.receiver.specs.Agreement.{Agrees, roomy}
use Rattle.receiver.specs.Calls.{Call, advance, take, Answer, refused, done, went, took, outcome, called, answers_to}
use Rattle.receiver.specs.Histories.{after_calls, plain, went_to, taken_as, Continues, Stays, Anew}
use Rattle.receiver.specs.Law.{accepted, Law, Mapped, AllMapped}
use Rattle.receiver.specs.Model.{Model, fresh, caps_fault, capped, word_fault, worded, advanced, advance_made, advance_ends, right_buffers, take_fault, taken_steps, taken_word, message_in, ended}
use Rattle.receiver.specs.Words.{TakenInHand, word_door, advance_door, take_door, steps_kept, Goes}
use Rattle.receiver.proofs.Refines.{agrees_word, word_door_lem, advance_door_lem, take_door_lem}
use Rattle.receiver.proofs.Runs.{law_holds}

-- what a function makes of what is in force
pub in_force-ap : {X Y : Type 0} (f : X → Y) (fault : Option ReceiverFault) (x y : X) → f (in_force fault x y) ≡ in_force fault (f x) (f y)
in_force-ap f None x y = refl
in_force-ap f (Some fault) x y = refl

-- a receiver whose map, caps, state and memory are the same as another's
pub same_receiver : {S M : Type 0} (kind : Kind S) (exponent : M → ℕ) (marks : M → List ℕ) (x y : M) (caps caps' : Kept) (state state' : State) (soft soft' : List S) (steps steps' : List Step) (row row' : List ℕ) (m : Model S) →
    y ≡ x → caps' ≡ caps → state' ≡ state → soft' ≡ soft → steps' ≡ steps → row' ≡ row →
    Agrees kind m (exponent x) (marks x) caps state soft steps row → Agrees kind m (exponent y) (marks y) caps' state' soft' steps' row'
same_receiver kind exponent marks x y caps caps' state state' soft soft' steps steps' row row' m a b c d e f was =
    subst (λ z. Agrees kind m (exponent z) (marks z) caps' state' soft' steps' row') (sym a)
    (subst (λ z. Agrees kind m (exponent x) (marks x) z state' soft' steps' row') (sym b)
    (subst (λ z. Agrees kind m (exponent x) (marks x) caps z soft' steps' row') (sym c)
    (subst (λ z. Agrees kind m (exponent x) (marks x) caps state z steps' row') (sym d)
    (subst (λ z. Agrees kind m (exponent x) (marks x) caps state soft z row') (sym e)
    (subst (λ z. Agrees kind m (exponent x) (marks x) caps state soft steps z) (sym f) was)))))

module _ {S : Type 0} (kind : Kind S) where
  after_one : (calls : List Call) (this : Call) (m : Model S) → after_calls kind (calls ++ (this ∷ [])) m ≡ (called kind this (after_calls kind calls m)).after
  unfolding after_calls
  after_one [] this m = refl
  after_one (c ∷ calls) this m = after_one calls this (called kind c m).after

  answers_one : (calls : List Call) (this : Call) (m : Model S) → answers_to kind (calls ++ (this ∷ [])) m ≡ answers_to kind calls m ++ ((called kind this (after_calls kind calls m)).answer ∷ [])
  unfolding after_calls answers_to
  answers_one [] this m = refl
  answers_one (c ∷ calls) this m = ap (λ r. (called kind c m).answer ∷ r) (answers_one calls this (called kind c m).after)

  mapped_one : (calls : List Call) (this : Call) → AllMapped calls → Mapped this → AllMapped (calls ++ (this ∷ []))
  unfolding AllMapped
  mapped_one [] this all one = (one, tt)
  mapped_one (c ∷ calls) this all one = (all.0, mapped_one calls this all.1 one)

  pub continues : Laws kind → (this : Call) (answer : Answer) (n : ℕ) (marks : List ℕ) (caps : Kept) (state : State) (soft : List S) (steps : List Step) (row : List ℕ)
      (n' : ℕ) (marks' : List ℕ) (caps' : Kept) (state' : State) (soft' : List S) (steps' : List Step) (row' : List ℕ) → Mapped this →
      ((m : Model S) → Agrees kind m n marks caps state soft steps row → (answer ≡ (called kind this m).answer) × Agrees kind (called kind this m).after n' marks' caps' state' soft' steps' row') →
      Continues kind this answer n marks caps state soft steps row n' marks' caps' state' soft' steps' row'
  continues laws this answer n marks caps state soft steps row n' marks' caps' state' soft' steps' row' mapped refines n0 marks0 calls led =
      let m = after_calls kind calls (fresh n0 marks0) in
      let step = refines m led.agrees in
      let all = mapped_one calls this led.maps mapped in (
        record { map0 = led.map0; maps = all; agrees = subst (λ x. Agrees kind x n' marks' caps' state' soft' steps' row') (sym (after_one calls this (fresh n0 marks0))) step.1 },
        subst (λ answers. Law kind n0 marks0 (calls ++ (this ∷ [])) answers)
            (answers_one calls this (fresh n0 marks0) ∙ ap (λ a. answers_to kind calls (fresh n0 marks0) ++ (a ∷ [])) (sym step.0))
            (law_holds kind laws n0 marks0 led.map0 (calls ++ (this ∷ [])) all),
      )

  -- with no word in hand, a receiver is as a new one over its map that was given its caps, whatever its memory holds
  pub anew : (n : ℕ) (marks : List ℕ) (caps : Kept) (state : State) → Means n marks → caps.first ≤ 10 → caps.second ≤ 10 → Anew kind n marks caps state
  unfolding after_calls AllMapped
  anew n marks caps state means low high idle soft steps row =
      let allowed : caps_fault caps.first caps.second ≡ None =
      ap (λ b. cond b None (Some Cap)) (and_from (leb caps.first 10) (leb caps.second 10) (le-leb caps.first 10 low) (le-leb caps.second 10 high)) in
      let m : Model S = fresh n marks in
      let set : Model S = capped caps.first caps.second m in record {
        map0 = means;
        maps = (tt, tt);
        agrees = subst (λ f. Agrees kind (outcome f done set m).after n marks caps state soft steps row) (sym allowed) (record { n_is = refl; marks_are = refl; caps_are = refl; hand = idle });
      }

  -- a call that was refused, by the first of its questions that is answered no, whatever memory it was handed
  pub stays : Laws kind → {M : Type 0} (exponent : M → ℕ) (marks : M → List ℕ) (map map' : M) (caps caps' : Kept) (state state' : State) (this : Call) (answer : Answer) (door : Option ReceiverFault)
      (given : Model S → Answer) (after : Model S → Model S) → Mapped this →
      ((m : Model S) (soft : List S) (steps : List Step) (row : List ℕ) → Agrees kind m (exponent map) (marks map) caps state soft steps row → called kind this m ≡ outcome door (given m) (after m) m) →
      (door ≡ None → accepted answer ≡ true) → ((f : ReceiverFault) → door ≡ Some f → (answer ≡ refused f) × (state' ≡ state)) → (map' ≡ map) × (caps' ≡ caps) →
      Stays kind this answer (exponent map) (marks map) caps state (exponent map') (marks map') caps' state'
  stays laws exponent marks map map' caps caps' state state' this answer door given after mapped asks accepts refuses rest denied soft steps row = go door refl
    where
      go : (o : Option ReceiverFault) → door ≡ o → Continues kind this answer (exponent map) (marks map) caps state soft steps row (exponent map') (marks map') caps' state' soft steps row
      go None none = absurd (false≢true (sym denied ∙ accepts none))
      go (Some f) some = continues laws this answer _ _ caps state soft steps row _ _ caps' state' soft steps row mapped
          (λ m agrees.
          let is : called kind this m ≡ record { answer = refused f; after = m } = asks m soft steps row agrees ∙ ap (λ o. outcome o (given m) (after m) m) some in (
            (refuses f some).0 ∙ sym (ap (λ o. o.answer) is),
            subst (λ x. Agrees kind x (exponent map') (marks map') caps' state' soft steps row) (sym (ap (λ o. o.after) is))
                (same_receiver kind exponent marks map map' caps caps' state state' soft soft steps steps row row m rest.0 rest.1 (refuses f some).1 refl refl refl agrees),
          ))

  -- an advance that is asked for nothing more is accepted
  goes_on : (n : ℕ) (marks : List ℕ) (caps : Kept) (b : ℕ) (room : Bool) (state state' : State) (soft : List S) (steps : List Step) (row : List ℕ) (soft' : List S) (steps' : List Step) (row' : List ℕ) (r : Result (ℕ × Bool) ReceiverFault) →
      Goes kind n marks caps b (advance_door state room) state state' soft steps row soft' steps' row' r → advance_door state room ≡ None → accepted (went_to r) ≡ true
  goes_on n marks caps b room Idle state' soft steps row soft' steps' row' r goes none = absurd (false≢true (sym (ap is_some none)))
  goes_on n marks caps b room (Working height k) state' soft steps row soft' steps' row' r goes none = ap (λ x. accepted (went_to x)) (goes.works height k none refl).1.1.0
  goes_on n marks caps b room (Finished k) state' soft steps row soft' steps' row' r goes none = ap (λ x. accepted (went_to x)) (goes.still k none refl).0

  -- an advance that was refused, whatever memory it was handed
  pub advance_stays : Laws kind → {M : Type 0} (exponent : M → ℕ) (marks : M → List ℕ) (map map' : M) (caps caps' : Kept) (b : ℕ) (room : Bool) (state state' : State) (soft : List S) (steps : List Step) (row : List ℕ) (soft' : List S) (steps' : List Step) (row' : List ℕ)
      (r : Result (ℕ × Bool) ReceiverFault) → (map' ≡ map) × (caps' ≡ caps) →
      Goes kind (exponent map) (marks map) caps b (advance_door state room) state state' soft steps row soft' steps' row' r →
      Stays kind (advance room b) (went_to r) (exponent map) (marks map) caps state (exponent map') (marks map') caps' state'
  advance_stays laws exponent marks map map' caps caps' b room state state' soft steps row soft' steps' row' r rest goes =
      stays laws exponent marks map map' caps caps' state state' (advance room b) (went_to r) (advance_door state room)
      (λ m. went (advance_made kind b m.caps m.hand) (advance_ends kind b m.caps m.hand)) (advanced kind b) tt
      (λ m soft₁ steps₁ row₁ agrees. ap (λ o. outcome o (went (advance_made kind b m.caps m.hand) (advance_ends kind b m.caps m.hand)) (advanced kind b m) m)
      (sym (advance_door_lem kind m (exponent map) (marks map) caps state soft₁ steps₁ row₁ room agrees)))
      (goes_on _ _ _ _ room state state' soft steps row soft' steps' row' r goes)
      (λ f some. let held = goes.refused f some in (ap went_to held.0, held.1)) rest

  -- a take that was refused, whatever memory and buffers it was handed
  pub take_stays : Laws kind → {M : Type 0} (exponent : M → ℕ) (marks : M → List ℕ) (map map' : M) (caps caps' : Kept) (room : Bool) (state state' : State) (message message' bits bits' : List ℕ) (r : Result ℕ ReceiverFault) →
      (map' ≡ map) × (caps' ≡ caps) →
      r ≡ replied (take_door state room (right_buffers (exponent map) (marks map) (length message) (length bits))) (steps_kept state) →
      state' ≡ in_force (take_door state room (right_buffers (exponent map) (marks map) (length message) (length bits))) Idle state →
      Stays kind (take room (length message) (length bits)) (taken_as r message' bits') (exponent map) (marks map) caps state (exponent map') (marks map') caps' state'
  take_stays laws exponent marks map map' caps caps' room state state' message message' bits bits' r rest answered ended_as =
      let right : ℕ → List ℕ → Bool = λ n ms. right_buffers n ms (length message) (length bits) in
      let door = take_door state room (right (exponent map) (marks map)) in
      let given : Model S → Answer = λ m. took (taken_steps m.hand) (message_in m.n m.marks (taken_word kind m.hand)) (taken_word kind m.hand) in
      stays laws exponent marks map map' caps caps' state state' (take room (length message) (length bits)) (taken_as r message' bits') door given ended tt
      (λ m soft₁ steps₁ row₁ agrees. ap (λ o. outcome o (given m) (ended m) m)
      (ap₂ (λ n ms. take_fault m.hand room (right n ms)) agrees.n_is agrees.marks_are ∙ sym (take_door_lem kind m (exponent map) (marks map) caps state soft₁ steps₁ row₁ room (right (exponent map) (marks map)) agrees)))
      (λ none. ap (λ x. accepted (taken_as x message' bits')) (answered ∙ ap (λ o. replied o (steps_kept state)) none))
      (λ f some. (ap (λ x. taken_as x message' bits') (answered ∙ ap (λ o. replied o (steps_kept state)) some), ended_as ∙ ap (λ o. in_force o Idle state) some)) rest

  -- a word that was taken in hand after its length was tested, where `right` tells which lengths are right
  pub word_continues : Laws kind → {M : Type 0} (exponent : M → ℕ) (marks : M → List ℕ) (map map' : M) (caps caps' : Kept) (right : ℕ → ℕ → Bool) (call : Bool → List ℕ → Call) (fits : Bool) (bytes : List ℕ)
      (state state' : State) (soft soft' : List S) (steps steps' : List Step) (row row' : List ℕ) (r : Result (Unit {0}) ReceiverFault) →
      ((roomy : Bool) (m : Model S) → called kind (call roomy bytes) m ≡ outcome (word_fault kind m right roomy bytes) done (worded kind bytes m) m) → ((roomy : Bool) → Mapped (call roomy bytes)) →
      Means (exponent map) (marks map) → (right (exponent map) (length bytes) ≡ true → length bytes ≤ 2 ^ exponent map) → fits ≡ right (exponent map) (length bytes) →
      (map' ≡ map) × (caps' ≡ caps) →
      TakenInHand kind (exponent map) (word_door kind state fits (roomy (exponent map) soft steps row) bytes) bytes soft soft' steps steps' row row' state state' r →
      (let room = roomy (exponent map) soft steps row in
      TakenInHand kind (exponent map) (word_door kind state (right (exponent map) (length bytes)) room bytes) bytes soft soft' steps steps' row row' state state' r
      × Continues kind (call room bytes) (plain r) (exponent map) (marks map) caps state soft steps row (exponent map') (marks map') caps' state' soft' steps' row'
      × Stays kind (call room bytes) (plain r) (exponent map) (marks map) caps state (exponent map') (marks map') caps' state')
  word_continues laws exponent marks map map' caps caps' right call fits bytes state state' soft soft' steps steps' row row' r asks mapped means short tested rest was =
      let room = roomy (exponent map) soft steps row in
      let taken = subst (λ b. TakenInHand kind (exponent map) (word_door kind state b room bytes) bytes soft soft' steps steps' row row' state state' r) tested was in (
        taken,
        continues laws (call room bytes) (plain r) _ _ caps state soft steps row _ _ caps' state' soft' steps' row' (mapped room)
            (λ m agrees.
            let done = agrees_word kind m (exponent map) (marks map) caps right bytes state state' soft soft' steps steps' row row' r means short agrees taken in
            subst (λ o. (plain r ≡ o.answer) × Agrees kind o.after (exponent map') (marks map') caps' state' soft' steps' row') (sym (asks room m))
            (done.0, same_receiver kind exponent marks map map' caps caps' state' state' soft' soft' steps' steps' row' row' _ rest.0 rest.1 refl refl refl refl done.1)),
        stays laws exponent marks map map' caps caps' state state' (call room bytes) (plain r) (word_door kind state (right (exponent map) (length bytes)) room bytes) (λ m. done) (worded kind bytes) (mapped room)
            (λ m soft₁ steps₁ row₁ agrees. asks room m ∙ ap (λ o. outcome o done (worded kind bytes m) m) (sym (word_door_lem kind m (exponent map) (marks map) caps right bytes state soft₁ steps₁ row₁ room agrees)))
            (λ none. ap (λ x. accepted (plain x)) (taken.answered ∙ ap (λ o. replied o tt) none))
            (λ f some. (ap plain (taken.answered ∙ ap (λ o. replied o tt) some), taken.working ∙ ap (λ o. in_force o (Working 1 0) state) some)) rest,
      )
