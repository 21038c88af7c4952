-- Each call of a receiver that is as a model says answers as the model does, and leaves the receiver as the model then says. Assumes nothing.
use Rattle.std.proofs.Common.{◌≡◌, ℕ, zero, suc, ◌+◌, ◌-◌, ◌^◌, ◌≤◌, min, Bool, true, false, cond, not, eqb, leb, List, [], ◌∷◌, ◌++◌, length, get_or, take, drop, replicate, is_some, Some, None, Ok, Option, Result, sym, refl, ap, ◌∙◌, subst, ap₂, add-zero, arith, pow_mono}
use Rattle.std.proofs.lemmas.List.{take_at, append-nil, length-replicate}
use Rattle.std.proofs.lemmas.Bool.{ne_eqb, eqb-true, leb-true, and_parts}
use Rattle.std.specs.Option.{option_map}
use Rattle.code.specs.Spans.{lowest_no, Means}
use Rattle.soft.specs.Kind.{Kind}
use Rattle.receiver.specs.declared.caps.Caps.{Caps as Kept}
use Rattle.receiver.specs.declared.faults.ReceiverFault.{ReceiverFault}
use Rattle.receiver.specs.declared.faults.ReceiverFault.TheVariants.{Length, Memory, WordInHand, NoWord, Unfinished, Byte}
use Rattle.receiver.specs.declared.memory.Next.TheVariants as next
use Rattle.receiver.specs.declared.memory.Step.{Step}
use Rattle.receiver.specs.declared.states.State.{State}
use Rattle.receiver.specs.declared.states.State.TheVariants.{Idle, Working, Finished}
use Rattle.receiver.specs.declared.states.Asked.{Asked}
use Rattle.receiver.specs.declared.states.Asked.TheVariants.{Remap, Word, Advance, Take, Drop}
use Rattle.receiver.specs.Admissions.{admitted, replied, in_force}
use Rattle.receiver.specs.Agreement.{roomy, kept_at, HoldsHand, Agrees}
use Rattle.receiver.specs.Bounds.{remaining}
use Rattle.receiver.specs.Calls.{Call, done, took, outcome, called}
use Rattle.receiver.specs.Capping.{caps_of}
use Rattle.receiver.specs.Coherence.{Closed, Coherent}
use Rattle.receiver.specs.Histories.{plain, went_to, taken_as}
use Rattle.receiver.specs.Model
use Rattle.receiver.specs.Model.{Hand, Model, fresh, remap_fault, caps_fault, drop_fault, take_fault, take_fault_at, advance_fault, capped, remapped, ended}
use Rattle.receiver.specs.Words.{or_else, word_door, TakenInHand, advance_door, take_door, steps_kept, kept_after, Goes}
use Rattle.receiver.specs.Work.{Caps, Span, Place, at, finished, stepped, walked, made_of, word_of}
use Rattle.receiver.proofs.Counts.{remaining_step}
use Rattle.receiver.proofs.Walks.{walked_end, made_end}
use Rattle.receiver.proofs.Loads.{length_values}

-- an admitted word has the right length, and finds room
after_admission : (first later : Option ReceiverFault) → or_else first later ≡ None → later ≡ None
after_admission None later h = h
after_admission (Some f) later h = let z : ◌≡◌ {A = ℕ} 0 1 = cc in absurd (omega arith)

passed : {X : Type 0} (b : Bool) (x : X) (rest : Option X) → cond (not b) (Some x) rest ≡ None → (b ≡ true) × (rest ≡ None)
passed true x rest h = (refl, h)
passed false x rest h = let z : ◌≡◌ {A = ℕ} 0 1 = cc in absurd (omega arith)

module _ {S : Type 0} (kind : Kind S) (state : State) (fits room : Bool) (bytes : List ℕ) (none : word_door kind state fits room bytes ≡ None) where
  door_fits : fits ≡ true
  door_fits = (passed fits Length _ (after_admission (admitted state Word) _ none)).0

-- nothing has moved
moved : {S : Type 0} (kind : Kind S) (m : Model S) (n : ℕ) (marks : List ℕ) (caps : Kept) (state state' : State) (soft soft' : List S) (steps steps' : List Step) (row row' : List ℕ) →
    state' ≡ state → soft' ≡ soft → steps' ≡ steps → row' ≡ row → Agrees kind m n marks caps state soft steps row → Agrees kind m n marks caps state' soft' steps' row'
moved kind m n marks caps state state' soft soft' steps steps' row row' a b c d was =
    subst (λ x. Agrees kind m n marks caps x soft' steps' row') (sym a)
    (subst (λ x. Agrees kind m n marks caps state x steps' row') (sym b)
    (subst (λ x. Agrees kind m n marks caps state soft x row') (sym c)
    (subst (λ x. Agrees kind m n marks caps state soft steps x) (sym d) was)))

module _ {S : Type 0} (kind : Kind S) where
  -- the question about the word in hand
  wanted : Option (Hand S) → Asked → Option ReceiverFault
  wanted None asked = admitted Idle asked
  wanted (Some h) asked = admitted (kept_at h.place 0 0) asked

  same_door : (place : Place) (height steps : ℕ) (asked : Asked) → admitted (kept_at place height steps) asked ≡ admitted (kept_at place 0 0) asked
  same_door (at next path) height steps Remap = refl
  same_door (at next path) height steps Word = refl
  same_door (at next path) height steps Advance = refl
  same_door (at next path) height steps Take = refl
  same_door (at next path) height steps Drop = refl
  same_door finished height steps Remap = refl
  same_door finished height steps Word = refl
  same_door finished height steps Advance = refl
  same_door finished height steps Take = refl
  same_door finished height steps Drop = refl

  door_is : (n : ℕ) (marks : List ℕ) (hand : Option (Hand S)) (state : State) (soft : List S) (steps : List Step) (row : List ℕ) (asked : Asked) →
      HoldsHand kind n marks hand state soft steps row → admitted state asked ≡ wanted hand asked
  unfolding wanted
  door_is n marks None state soft steps row asked holds = ap (λ s. admitted s asked) holds
  door_is n marks (Some h) state soft steps row asked holds = ap (λ s. admitted s asked) holds.1.kept ∙ same_door h.place holds.0 h.steps asked

  wants_none : (hand : Option (Hand S)) → wanted hand Remap ≡ cond (is_some hand) (Some WordInHand) None
  unfolding wanted
  wants_none None = refl
  wants_none (Some h) = go h.place
    where
      go : (place : Place) → admitted (kept_at place 0 0) Remap ≡ Some WordInHand
      go (at next path) = refl
      go finished = refl

  wants_none_word : (hand : Option (Hand S)) → wanted hand Word ≡ cond (is_some hand) (Some WordInHand) None
  unfolding wanted
  wants_none_word None = refl
  wants_none_word (Some h) = go h.place
    where
      go : (place : Place) → admitted (kept_at place 0 0) Word ≡ Some WordInHand
      go (at next path) = refl
      go finished = refl

  wants_one_drop : (hand : Option (Hand S)) → wanted hand Drop ≡ cond (is_some hand) None (Some NoWord)
  unfolding wanted
  wants_one_drop None = refl
  wants_one_drop (Some h) = go h.place
    where
      go : (place : Place) → admitted (kept_at place 0 0) Drop ≡ None
      go (at next path) = refl
      go finished = refl

  wants_one_advance : (hand : Option (Hand S)) → wanted hand Advance ≡ cond (is_some hand) None (Some NoWord)
  unfolding wanted
  wants_one_advance None = refl
  wants_one_advance (Some h) = go h.place
    where
      go : (place : Place) → admitted (kept_at place 0 0) Advance ≡ None
      go (at next path) = refl
      go finished = refl

  pub agrees_new : (n : ℕ) (marks : List ℕ) (caps : Kept) (state : State) (soft : List S) (steps : List Step) (row : List ℕ) → caps_of caps ≡ Model.ten_ten → state ≡ Idle → Agrees kind (fresh n marks) n marks caps state soft steps row
  agrees_new n marks caps state soft steps row ten idle = record { n_is = refl; marks_are = refl; caps_are = sym ten; hand = idle }

  -- caps
  pub agrees_caps : (m : Model S) (n : ℕ) (marks : List ℕ) (caps caps' : Kept) (state : State) (soft : List S) (steps : List Step) (row : List ℕ) (a b : ℕ) (r : Result (Unit {0}) ReceiverFault) →
      Agrees kind m n marks caps state soft steps row → r ≡ replied (caps_fault a b) tt → caps_of caps' ≡ in_force (caps_fault a b) (record { first = a; second = b }) (caps_of caps) →
      (plain r ≡ (called kind (Call.set_caps a b) m).answer) × Agrees kind (called kind (Call.set_caps a b) m).after n marks caps' state soft steps row
  agrees_caps m n marks caps caps' state soft steps row a b r was answered now-caps = go (caps_fault a b) answered now-caps
    where
      go : (fault : Option ReceiverFault) → r ≡ replied fault tt → caps_of caps' ≡ in_force fault (record { first = a; second = b }) (caps_of caps) →
          (plain r ≡ (outcome fault done (capped a b m) m).answer) × Agrees kind (outcome fault done (capped a b m) m).after n marks caps' state soft steps row
      go None r-is caps-is = (ap plain r-is, record { n_is = was.n_is; marks_are = was.marks_are; caps_are = sym caps-is; hand = was.hand })
      go (Some f) r-is caps-is = (ap plain r-is, record { n_is = was.n_is; marks_are = was.marks_are; caps_are = was.caps_are ∙ sym caps-is; hand = was.hand })

  -- remap
  pub agrees_remap : (m : Model S) (n n' n'' : ℕ) (marks marks' marks'' : List ℕ) (caps : Kept) (state : State) (soft : List S) (steps : List Step) (row : List ℕ) (r : Result (Unit {0}) ReceiverFault) →
      Agrees kind m n marks caps state soft steps row → r ≡ replied (admitted state Remap) tt →
      n'' ≡ in_force (admitted state Remap) n' n → marks'' ≡ in_force (admitted state Remap) marks' marks →
      (plain r ≡ (called kind (Call.remap n' marks') m).answer) × Agrees kind (called kind (Call.remap n' marks') m).after n'' marks'' caps state soft steps row
  agrees_remap m n n' n'' marks marks' marks'' caps state soft steps row r was answered n-now marks-now =
      go m.hand was.hand (door_is n marks m.hand state soft steps row Remap was.hand ∙ wants_none m.hand)
    where
      go : (hand : Option (Hand S)) → HoldsHand kind n marks hand state soft steps row → admitted state Remap ≡ cond (is_some hand) (Some WordInHand) None →
          (plain r ≡ (outcome (cond (is_some hand) (Some WordInHand) None) done (record { n = n'; marks = marks'; caps = m.caps; hand = hand }) (record { n = m.n; marks = m.marks; caps = m.caps; hand = hand })).answer)
          × Agrees kind (outcome (cond (is_some hand) (Some WordInHand) None) done (record { n = n'; marks = marks'; caps = m.caps; hand = hand }) (record { n = m.n; marks = m.marks; caps = m.caps; hand = hand })).after n'' marks'' caps state soft steps row
      go None holds door = (
        ap plain (answered ∙ ap (λ o. replied o tt) door),
        record { n_is = sym (n-now ∙ ap (λ o. in_force o n' n) door); marks_are = sym (marks-now ∙ ap (λ o. in_force o marks' marks) door); caps_are = was.caps_are; hand = holds },
      )
      go (Some h) holds door =
          let n-same : n'' ≡ n = n-now ∙ ap (λ o. in_force o n' n) door in
          let marks-same : marks'' ≡ marks = marks-now ∙ ap (λ o. in_force o marks' marks) door in (
            ap plain (answered ∙ ap (λ o. replied o tt) door),
            subst (λ k. Agrees kind (record { n = m.n; marks = m.marks; caps = m.caps; hand = Some h }) k marks'' caps state soft steps row) (sym n-same)
                (subst (λ k. Agrees kind (record { n = m.n; marks = m.marks; caps = m.caps; hand = Some h }) n k caps state soft steps row) (sym marks-same)
                (record { n_is = was.n_is; marks_are = was.marks_are; caps_are = was.caps_are; hand = holds })),
          )

  -- drop
  pub agrees_drop : (m : Model S) (n : ℕ) (marks : List ℕ) (caps : Kept) (state state' : State) (soft : List S) (steps : List Step) (row : List ℕ) (r : Result (Unit {0}) ReceiverFault) →
      Agrees kind m n marks caps state soft steps row → r ≡ replied (admitted state Drop) tt → state' ≡ in_force (admitted state Drop) Idle state →
      (plain r ≡ (called kind Call.drop_word m).answer) × Agrees kind (called kind Call.drop_word m).after n marks caps state' soft steps row
  agrees_drop m n marks caps state state' soft steps row r was answered state-now =
      go m.hand was.hand (door_is n marks m.hand state soft steps row Drop was.hand ∙ wants_one_drop m.hand)
    where
      go : (hand : Option (Hand S)) → HoldsHand kind n marks hand state soft steps row → admitted state Drop ≡ cond (is_some hand) None (Some NoWord) →
          (plain r ≡ (outcome (cond (is_some hand) None (Some NoWord)) done (record { n = m.n; marks = m.marks; caps = m.caps; hand = None }) (record { n = m.n; marks = m.marks; caps = m.caps; hand = hand })).answer)
          × Agrees kind (outcome (cond (is_some hand) None (Some NoWord)) done (record { n = m.n; marks = m.marks; caps = m.caps; hand = None }) (record { n = m.n; marks = m.marks; caps = m.caps; hand = hand })).after n marks caps state' soft steps row
      go None holds door = (
        ap plain (answered ∙ ap (λ o. replied o tt) door),
        record { n_is = was.n_is; marks_are = was.marks_are; caps_are = was.caps_are; hand = state-now ∙ ap (λ o. in_force o Idle state) door ∙ holds },
      )
      go (Some h) holds door = (
        ap plain (answered ∙ ap (λ o. replied o tt) door),
        record { n_is = was.n_is; marks_are = was.marks_are; caps_are = was.caps_are; hand = state-now ∙ ap (λ o. in_force o Idle state) door },
      )

  -- the questions of each call are those of the model, whatever memory the call was handed
  pub word_door_lem : (m : Model S) (n : ℕ) (marks : List ℕ) (caps : Kept) (fits : ℕ → ℕ → Bool) (bytes : List ℕ) (state : State) (soft : List S) (steps : List Step) (row : List ℕ) (room : Bool) →
      Agrees kind m n marks caps state soft steps row →
      word_door kind state (fits n (length bytes)) room bytes ≡ Model.word_fault kind m fits room bytes
  unfolding Model.word_fault
  word_door_lem m n marks caps fits bytes state soft steps row room was =
      ap (λ o. or_else o (cond (not (fits n (length bytes))) (Some Length) (cond (not room) (Some Memory) (option_map Byte (lowest_no (λ i. is_some (kind.read (get_or bytes i 0))) 0 (length bytes))))))
      (door_is n marks m.hand state soft steps row Word was.hand ∙ wants_none_word m.hand)
      ∙ go (is_some m.hand) ∙ ap (λ k. Model.word_fault_by kind (is_some m.hand) k fits room bytes) (sym was.n_is)
    where
      go : (b : Bool) → or_else (cond b (Some WordInHand) None)
          (cond (not (fits n (length bytes))) (Some Length) (cond (not room) (Some Memory) (option_map Byte (lowest_no (λ i. is_some (kind.read (get_or bytes i 0))) 0 (length bytes)))))
          ≡ Model.word_fault_by kind b n fits room bytes
      go true = refl
      go false = refl

  pub advance_door_lem : (m : Model S) (n : ℕ) (marks : List ℕ) (caps : Kept) (state : State) (soft : List S) (steps : List Step) (row : List ℕ) (room : Bool) →
      Agrees kind m n marks caps state soft steps row → advance_door state room ≡ advance_fault m room
  advance_door_lem m n marks caps state soft steps row room was =
      ap (λ o. or_else o (cond room None (Some Memory))) (door_is n marks m.hand state soft steps row Advance was.hand ∙ wants_one_advance m.hand) ∙ go (is_some m.hand)
    where
      go : (b : Bool) → or_else (cond b None (Some NoWord)) (cond room None (Some Memory)) ≡ cond b (cond room None (Some Memory)) (Some NoWord)
      go true = refl
      go false = refl

  pub take_door_lem : (m : Model S) (n : ℕ) (marks : List ℕ) (caps : Kept) (state : State) (soft : List S) (steps : List Step) (row : List ℕ) (room right : Bool) →
      Agrees kind m n marks caps state soft steps row → take_door state room right ≡ take_fault m.hand room right
  unfolding wanted
  take_door_lem m n marks caps state soft steps row room right was = ap (λ o. or_else o (cond room (cond right None (Some Length)) (Some Memory))) (door_is n marks m.hand state soft steps row Take was.hand) ∙ go m.hand
    where
      by_place : (place : Place) → or_else (admitted (kept_at place 0 0) Take) (cond room (cond right None (Some Length)) (Some Memory)) ≡ take_fault_at place room right
      by_place (at next path) = refl
      by_place finished = refl

      go : (hand : Option (Hand S)) → or_else (wanted hand Take) (cond room (cond right None (Some Length)) (Some Memory)) ≡ take_fault hand room right
      go None = refl
      go (Some h) = by_place h.place

  -- word and short word, of a length that `fits`
  pub agrees_word : (m : Model S) (n : ℕ) (marks : List ℕ) (caps : Kept) (fits : ℕ → ℕ → Bool) (bytes : List ℕ) (state state' : State) (soft soft' : List S) (steps steps' : List Step) (row row' : List ℕ) (r : Result (Unit {0}) ReceiverFault) →
      Means n marks → (fits n (length bytes) ≡ true → length bytes ≤ 2 ^ n) →
      Agrees kind m n marks caps state soft steps row →
      TakenInHand kind n (word_door kind state (fits n (length bytes)) (roomy n soft steps row) bytes) bytes soft soft' steps steps' row row' state state' r →
      (plain r ≡ (outcome (Model.word_fault kind m fits (roomy n soft steps row) bytes) done (Model.worded kind bytes m) m).answer)
      × Agrees kind (outcome (Model.word_fault kind m fits (roomy n soft steps row) bytes) done (Model.worded kind bytes m) m).after n marks caps state' soft' steps' row'
  agrees_word m n marks caps fits bytes state state' soft soft' steps steps' row row' r means short was taken =
      go (word_door kind state (fits n (length bytes)) (roomy n soft steps row) bytes) refl
      (word_door_lem m n marks caps fits bytes state soft steps row (roomy n soft steps row) was)
    where
      later : word_door kind state (fits n (length bytes)) (roomy n soft steps row) bytes ≡ None → Agrees kind (Model.worded kind bytes m) n marks caps state' soft' steps' row'
      later none =
          let fitting = short (door_fits kind state (fits n (length bytes)) (roomy n soft steps row) bytes none) in
          let nn : 2 ^ m.n ≡ 2 ^ n = ap (λ k. 2 ^ k) was.n_is in
          let values : take (2 ^ n) soft' ≡ Model.values_of kind m.n bytes = taken.values none ∙ ap (λ k. Model.values_of kind k bytes) (sym was.n_is) in
          let long : length (Model.values_of kind m.n bytes) ≡ 2 ^ m.n = length_values kind m.n bytes (omega arith) in
          record {
            n_is = was.n_is;
            marks_are = was.marks_are;
            caps_are = was.caps_are;
            hand = (
              1,
              record {
                root = record { e = was.n_is; start = refl; full = record { marks = ap length was.marks_are ∙ means.long ∙ sym nn; values = long } };
                marks_are = was.marks_are;
                memory = record {
                  deep = omega arith;
                  long = tt;
                  high = refl;
                  soft_rows = ap (λ k. take k soft') (long ∙ nn) ∙ values;
                  pending = taken.first none ∙ ap (λ k. record { next = next.First; start = 0; e = k } ∷ []) (sym was.n_is);
                  bits = ap (take (2 ^ n)) (taken.bits ∙ ap (λ o. in_force o (replicate (2 ^ n) 2 ++ drop (2 ^ n) row) row) none)
                      ∙ take_at (replicate (2 ^ n) 2) (drop (2 ^ n) row) (2 ^ n) (length-replicate {A = ℕ} (2 ^ n) 2)
                      ∙ ap (λ k. replicate k 2) (sym nn) ∙ sym (append-nil (replicate (2 ^ m.n) 2));
                };
                kept = taken.working ∙ ap (λ o. in_force o (Working 1 0) state) none;
                few = omega arith;
              },
            );
          }

      go : (door : Option ReceiverFault) → word_door kind state (fits n (length bytes)) (roomy n soft steps row) bytes ≡ door →
          word_door kind state (fits n (length bytes)) (roomy n soft steps row) bytes ≡ Model.word_fault kind m fits (roomy n soft steps row) bytes →
          (plain r ≡ (outcome (Model.word_fault kind m fits (roomy n soft steps row) bytes) done (Model.worded kind bytes m) m).answer)
          × Agrees kind (outcome (Model.word_fault kind m fits (roomy n soft steps row) bytes) done (Model.worded kind bytes m) m).after n marks caps state' soft' steps' row'
      go None is same =
          let fault : Model.word_fault kind m fits (roomy n soft steps row) bytes ≡ None = sym same ∙ is in (
            ap plain (taken.answered ∙ ap (λ o. replied o tt) is) ∙ sym (ap (λ o. (outcome o done (Model.worded kind bytes m) m).answer) fault),
            subst (λ o. Agrees kind (outcome o done (Model.worded kind bytes m) m).after n marks caps state' soft' steps' row') (sym fault) (later is),
          )
      go (Some f) is same =
          let fault : Model.word_fault kind m fits (roomy n soft steps row) bytes ≡ Some f = sym same ∙ is in
          let kept = taken.kept f is in (
            ap plain (taken.answered ∙ ap (λ o. replied o tt) is) ∙ sym (ap (λ o. (outcome o done (Model.worded kind bytes m) m).answer) fault),
            subst (λ o. Agrees kind (outcome o done (Model.worded kind bytes m) m).after n marks caps state' soft' steps' row') (sym fault)
                (moved kind m n marks caps state state' soft soft' steps steps' row row' (taken.working ∙ ap (λ o. in_force o (Working 1 0) state) is) kept.0 kept.1
                (taken.bits ∙ ap (λ o. in_force o (replicate (2 ^ n) 2 ++ drop (2 ^ n) row) row) is) was),
          )

  -- as many steps as are made fewer remain
  remaining_walked : (root : Span S) (caps : Caps) (k : ℕ) (place : Place) → made_of kind root caps k place + remaining kind root (walked kind root caps k place) ≤ remaining kind root place
  unfolding walked made_of
  remaining_walked root caps zero place = omega arith
  remaining_walked root caps (suc k) finished = omega (arith, ap (remaining kind root) (walked_end kind root caps k))
  remaining_walked root caps (suc k) (at nxt path) =
      let later = remaining_walked root caps k (stepped kind root caps (at nxt path)) in
      omega (arith, remaining_step kind root caps nxt path)

  -- what is kept after an advance is what the place then asks for
  kept_now : (n : ℕ) (root : Span S) (place : Place) (height k : ℕ) (soft : List S) (steps : List Step) (row : List ℕ) → Coherent kind n root place height soft steps row →
      (kept_after height k ≡ kept_at place height k) × (eqb height 0 ≡ Model.is_finished place)
  kept_now n root (at nxt path) height k soft steps row was =
      (ap (λ h. kept_after h k) was.high ∙ ap (λ h. Working h k) (sym was.high), ne_eqb height 0 (λ (e : height ≡ 0). omega (arith, was.high)))
  kept_now n root finished height k soft steps row was = (ap (λ h. kept_after h k) was.high, ap (λ h. eqb h 0) was.high)

  -- a model with this word in hand
  abbrev with_hand : Model S → Option (Hand S) → Model S
  with_hand m hand = record { n = m.n; marks = m.marks; caps = m.caps; hand = hand }

  module _ (m : Model S) (n : ℕ) (marks : List ℕ) (caps : Kept) (b : ℕ) (state state' : State) (soft soft' : List S) (steps steps' : List Step) (row row' : List ℕ) (r : Result (ℕ × Bool) ReceiverFault)
      (small : n ≤ 10) (was : Agrees kind m n marks caps state soft steps row)
      (goes : Goes kind n marks caps b (advance_door state (roomy n soft steps row)) state state' soft steps row soft' steps' row' r) where
    abbrev AdvancedOf : Option (Hand S) → Type 0
    AdvancedOf hand =
        (went_to r ≡ (called kind (Call.advance (roomy n soft steps row) b) (with_hand m hand)).answer)
        × Agrees kind (called kind (Call.advance (roomy n soft steps row) b) (with_hand m hand)).after n marks caps state' soft' steps' row'

    kept_hand : (hand : Option (Hand S)) → HoldsHand kind n marks hand state soft steps row → Agrees kind (with_hand m hand) n marks caps state soft steps row
    kept_hand hand holds = record { n_is = was.n_is; marks_are = was.marks_are; caps_are = was.caps_are; hand = holds }

    unroomy : (h : Hand S) → HoldsHand kind n marks (Some h) state soft steps row → admitted state Advance ≡ None → roomy n soft steps row ≡ false → AdvancedOf (Some h)
    unroomy h holds door none =
        let asked : advance_door state (roomy n soft steps row) ≡ Some Memory = ap₂ (λ o c. or_else o (cond c None (Some Memory))) door none in
        let kept = goes.refused Memory asked in (
          ap went_to kept.0 ∙ sym (ap (λ c. (called kind (Call.advance c b) (with_hand m (Some h))).answer) none),
          subst (λ c. Agrees kind (called kind (Call.advance c b) (with_hand m (Some h))).after n marks caps state' soft' steps' row') (sym none)
              (moved kind (with_hand m (Some h)) n marks caps state state' soft soft' steps steps' row row' kept.1 kept.2 kept.3 kept.4 (kept_hand (Some h) holds)),
        )

    module _ (h : Hand S) (holds : HoldsHand kind n marks (Some h) state soft steps row) (door : admitted state Advance ≡ None) (roomed : roomy n soft steps row ≡ true) where
      asked : advance_door state (roomy n soft steps row) ≡ None
      asked = ap₂ (λ o c. or_else o (cond c None (Some Memory))) door roomed

      finish : (made : ℕ) → r ≡ Ok (made, Model.is_finished (walked kind h.root m.caps b h.place)) → made ≡ made_of kind h.root m.caps b h.place →
          HoldsHand kind n marks (Some (Model.further kind m.caps b h)) state' soft' steps' row' → AdvancedOf (Some h)
      finish made answered count holds' = (
        ap went_to (answered ∙ ap (λ k. Ok (k, Model.is_finished (walked kind h.root m.caps b h.place))) count) ∙ sym (ap (λ c. (called kind (Call.advance c b) (with_hand m (Some h))).answer) roomed),
        subst (λ c. Agrees kind (called kind (Call.advance c b) (with_hand m (Some h))).after n marks caps state' soft' steps' row') (sym roomed)
            (record { n_is = was.n_is; marks_are = was.marks_are; caps_are = was.caps_are; hand = holds' }),
      )

      by_place : (place : Place) → h.place ≡ place → AdvancedOf (Some h)
      by_place finished here =
          let still = goes.still h.steps asked (holds.1.kept ∙ ap (λ p. kept_at p holds.0 h.steps) here) in
          let stays : walked kind h.root m.caps b h.place ≡ h.place = ap (walked kind h.root m.caps b) here ∙ walked_end kind h.root m.caps b ∙ sym here in
          let none : made_of kind h.root m.caps b h.place ≡ 0 = ap (made_of kind h.root m.caps b) here ∙ made_end kind h.root m.caps b in
          let same : Model.further kind m.caps b h ≡ h =
          ap₂ (λ p k. record { root = h.root; place = p; steps = k }) stays (ap (λ k. h.steps + k) none ∙ add-zero h.steps) in
          finish 0 (still.0 ∙ ap (λ p. Ok (0, Model.is_finished p)) (sym (stays ∙ here))) (sym none)
          (subst (λ x. HoldsHand kind n marks (Some x) state' soft' steps' row') (sym same)
          (moved kind (with_hand m (Some h)) n marks caps state state' soft soft' steps steps' row row' still.1 still.2 still.3 still.4 (kept_hand (Some h) holds)).hand)
      by_place (at nxt path) here =
          let held = holds.1 in
          let works = goes.works holds.0 h.steps asked (held.kept ∙ ap (λ p. kept_at p holds.0 h.steps) here) in
          let made = works.0 in
          let facts = works.1.1 in
          let walk = facts.3 h.root h.place held.root held.marks_are held.memory in
          let caps-same : caps_of caps ≡ m.caps = sym was.caps_are in
          let memory : Coherent kind n h.root (walked kind h.root m.caps b h.place) works.1.0 soft' steps' row' =
          subst (λ c. Coherent kind n h.root (walked kind h.root c b h.place) works.1.0 soft' steps' row') caps-same walk.0 in
          let count : made ≡ made_of kind h.root m.caps b h.place = walk.1 ∙ ap (λ c. made_of kind h.root c b h.place) caps-same in
          let fewer = remaining_walked h.root m.caps b h.place in
          let ten : 2 ^ n ≤ 2 ^ 10 = pow_mono small in
          let exact : min (h.steps + made) (2 ^ 32 - 1) ≡ h.steps + made_of kind h.root m.caps b h.place = omega (arith, held.few) in
          let now = kept_now n h.root (walked kind h.root m.caps b h.place) works.1.0 (h.steps + made_of kind h.root m.caps b h.place) soft' steps' row' memory in
          finish made (facts.0 ∙ ap (λ f. Ok (made, f)) now.1) count (
            works.1.0,
            record {
              root = held.root;
              marks_are = held.marks_are;
              memory = memory;
              kept = facts.1 ∙ ap (kept_after works.1.0) exact ∙ now.0;
              few = omega (arith, held.few);
            },
          )

    by_room : (h : Hand S) → HoldsHand kind n marks (Some h) state soft steps row → admitted state Advance ≡ None → (room : Bool) → roomy n soft steps row ≡ room → AdvancedOf (Some h)
    by_room h holds door false none = unroomy h holds door none
    by_room h holds door true roomed = by_place h holds door roomed h.place refl

    by_hand : (hand : Option (Hand S)) → HoldsHand kind n marks hand state soft steps row → admitted state Advance ≡ cond (is_some hand) None (Some NoWord) → AdvancedOf hand
    by_hand None holds door =
        let kept = goes.refused NoWord (ap (λ o. or_else o (cond (roomy n soft steps row) None (Some Memory))) door) in
        (ap went_to kept.0, moved kind (with_hand m None) n marks caps state state' soft soft' steps steps' row row' kept.1 kept.2 kept.3 kept.4 (kept_hand None holds))
    by_hand (Some h) holds door = by_room h holds door (roomy n soft steps row) refl

    pub agrees_advance : (went_to r ≡ (called kind (Call.advance (roomy n soft steps row) b) m).answer)
        × Agrees kind (called kind (Call.advance (roomy n soft steps row) b) m).after n marks caps state' soft' steps' row'
    agrees_advance = by_hand m.hand was.hand (door_is n marks m.hand state soft steps row Advance was.hand ∙ wants_one_advance m.hand)

  -- take
  module _ (m : Model S) (n : ℕ) (marks : List ℕ) (caps : Kept) (state state' : State) (soft : List S) (steps : List Step) (row message word message' word' : List ℕ) (right : Bool) (r : Result ℕ ReceiverFault)
      (was : Agrees kind m n marks caps state soft steps row)
      (answered : r ≡ replied (take_door state (roomy n soft steps row) right) (steps_kept state))
      (word-now : word' ≡ in_force (take_door state (roomy n soft steps row) right) (take (2 ^ n) row) word)
      (message-now : message' ≡ in_force (take_door state (roomy n soft steps row) right) (Model.message_in n marks (take (2 ^ n) row)) message)
      (state-now : state' ≡ in_force (take_door state (roomy n soft steps row) right) Idle state) where
    abbrev TakenOf : Option (Hand S) → Type 0
    TakenOf hand =
        (taken_as r message' word' ≡ (outcome (take_fault hand (roomy n soft steps row) right) (took (Model.taken_steps hand) (Model.message_in m.n m.marks (Model.taken_word kind hand)) (Model.taken_word kind hand)) (ended m) (with_hand m hand)).answer)
        × Agrees kind (outcome (take_fault hand (roomy n soft steps row) right) (took (Model.taken_steps hand) (Model.message_in m.n m.marks (Model.taken_word kind hand)) (Model.taken_word kind hand)) (ended m) (with_hand m hand)).after n marks caps state' soft steps row

    taken_refused : (hand : Option (Hand S)) (f : ReceiverFault) → HoldsHand kind n marks hand state soft steps row →
        take_door state (roomy n soft steps row) right ≡ Some f → take_fault hand (roomy n soft steps row) right ≡ Some f → TakenOf hand
    taken_refused hand f holds door fault = (
      ap (λ x. taken_as x message' word') (answered ∙ ap (λ o. replied o (steps_kept state)) door)
          ∙ sym (ap (λ o. (outcome o (took (Model.taken_steps hand) (Model.message_in m.n m.marks (Model.taken_word kind hand)) (Model.taken_word kind hand)) (ended m) (with_hand m hand)).answer) fault),
      subst (λ o. Agrees kind (outcome o (took (Model.taken_steps hand) (Model.message_in m.n m.marks (Model.taken_word kind hand)) (Model.taken_word kind hand)) (ended m) (with_hand m hand)).after n marks caps state' soft steps row) (sym fault)
          (moved kind (with_hand m hand) n marks caps state state' soft soft steps steps row row (state-now ∙ ap (λ o. in_force o Idle state) door) refl refl refl
          (record { n_is = was.n_is; marks_are = was.marks_are; caps_are = was.caps_are; hand = holds })),
    )

    taken_done : (h : Hand S) → HoldsHand kind n marks (Some h) state soft steps row → h.place ≡ finished → state ≡ Finished h.steps →
        take_door state (roomy n soft steps row) right ≡ None → take_fault (Some h) (roomy n soft steps row) right ≡ None → TakenOf (Some h)
    taken_done h holds here kept door fault =
        let closed : Closed kind n h.root holds.0 row = subst (λ p. Coherent kind n h.root p holds.0 soft steps row) here holds.1.memory in
        let wordIs : word' ≡ word_of kind h.root = word-now ∙ ap (λ o. in_force o (take (2 ^ n) row) word) door ∙ closed.bits in
        let messageIs : message' ≡ Model.message_in m.n m.marks (word_of kind h.root) =
        message-now ∙ ap (λ o. in_force o (Model.message_in n marks (take (2 ^ n) row)) message) door ∙ ap (Model.message_in n marks) closed.bits
        ∙ ap₂ (λ k ms. Model.message_in k ms (word_of kind h.root)) (sym was.n_is) (sym was.marks_are) in
        let answer : r ≡ Ok h.steps = answered ∙ ap (λ o. replied o (steps_kept state)) door ∙ ap (λ s. Ok (steps_kept s)) kept in (
          ap (λ x. taken_as x message' word') answer ∙ ap₂ (took h.steps) messageIs wordIs
              ∙ sym (ap (λ o. (outcome o (took h.steps (Model.message_in m.n m.marks (word_of kind h.root)) (word_of kind h.root)) (ended m) (with_hand m (Some h))).answer) fault),
          subst (λ o. Agrees kind (outcome o (took h.steps (Model.message_in m.n m.marks (word_of kind h.root)) (word_of kind h.root)) (ended m) (with_hand m (Some h))).after n marks caps state' soft steps row) (sym fault)
              (record { n_is = was.n_is; marks_are = was.marks_are; caps_are = was.caps_are; hand = state-now ∙ ap (λ o. in_force o Idle state) door }),
        )

    taken_by : (h : Hand S) → HoldsHand kind n marks (Some h) state soft steps row → (place : Place) → h.place ≡ place → TakenOf (Some h)
    taken_by h holds (at nxt path) here =
        taken_refused (Some h) Unfinished holds
        (ap (λ s. take_door s (roomy n soft steps row) right) (holds.1.kept ∙ ap (λ p. kept_at p holds.0 h.steps) here))
        (ap (λ p. take_fault_at p (roomy n soft steps row) right) here)
    taken_by h holds finished here =
        let kept : state ≡ Finished h.steps = holds.1.kept ∙ ap (λ p. kept_at p holds.0 h.steps) here in
        let door : take_door state (roomy n soft steps row) right ≡ take_fault_at finished (roomy n soft steps row) right = ap (λ s. take_door s (roomy n soft steps row) right) kept in
        let fault : take_fault (Some h) (roomy n soft steps row) right ≡ take_fault_at finished (roomy n soft steps row) right = ap (λ p. take_fault_at p (roomy n soft steps row) right) here in
        go (take_fault_at finished (roomy n soft steps row) right) kept door fault
      where
        go : (o : Option ReceiverFault) → state ≡ Finished h.steps → take_door state (roomy n soft steps row) right ≡ o → take_fault (Some h) (roomy n soft steps row) right ≡ o → TakenOf (Some h)
        go None kept door fault = taken_done h holds here kept door fault
        go (Some f) kept door fault = taken_refused (Some h) f holds door fault

    taken_hand : (hand : Option (Hand S)) → HoldsHand kind n marks hand state soft steps row → TakenOf hand
    taken_hand None holds = taken_refused None NoWord holds (ap (λ s. take_door s (roomy n soft steps row) right) holds) refl
    taken_hand (Some h) holds = taken_by h holds h.place refl

    pub agrees_take : TakenOf m.hand
    agrees_take = taken_hand m.hand was.hand

  -- the same, of the call
  pub agrees_take_call : (m : Model S) (n : ℕ) (marks : List ℕ) (caps : Kept) (state state' : State) (soft : List S) (steps : List Step) (row message word message' word' : List ℕ) (r : Result ℕ ReceiverFault) →
      Agrees kind m n marks caps state soft steps row →
      r ≡ replied (take_door state (roomy n soft steps row) (Model.right_buffers n marks (length message) (length word))) (steps_kept state) →
      word' ≡ in_force (take_door state (roomy n soft steps row) (Model.right_buffers n marks (length message) (length word))) (take (2 ^ n) row) word →
      message' ≡ in_force (take_door state (roomy n soft steps row) (Model.right_buffers n marks (length message) (length word))) (Model.message_in n marks (take (2 ^ n) row)) message →
      state' ≡ in_force (take_door state (roomy n soft steps row) (Model.right_buffers n marks (length message) (length word))) Idle state →
      (taken_as r message' word' ≡ (called kind (Call.take (roomy n soft steps row) (length message) (length word)) m).answer)
      × Agrees kind (called kind (Call.take (roomy n soft steps row) (length message) (length word)) m).after n marks caps state' soft steps row
  agrees_take_call m n marks caps state state' soft steps row message word message' word' r was answered word-now message-now state-now =
      let these : Model.right_buffers n marks (length message) (length word) ≡ Model.right_buffers m.n m.marks (length message) (length word) =
      ap₂ (λ k ms. Model.right_buffers k ms (length message) (length word)) (sym was.n_is) (sym was.marks_are) in
      subst (λ right. (taken_as r message' word' ≡ (outcome (take_fault m.hand (roomy n soft steps row) right) (took (Model.taken_steps m.hand) (Model.message_in m.n m.marks (Model.taken_word kind m.hand)) (Model.taken_word kind m.hand)) (ended m) m).answer)
      × Agrees kind (outcome (take_fault m.hand (roomy n soft steps row) right) (took (Model.taken_steps m.hand) (Model.message_in m.n m.marks (Model.taken_word kind m.hand)) (Model.taken_word kind m.hand)) (ended m) m).after n marks caps state' soft steps row)
      these
      (agrees_take m n marks caps state state' soft steps row message word message' word' (Model.right_buffers n marks (length message) (length word)) r was answered word-now message-now state-now)

-- the lengths that fit are at most the positions
pub full_fits : (n k : ℕ) → Model.full_length n k ≡ true → k ≤ 2 ^ n
full_fits n k h = omega (arith, eqb-true k (2 ^ n) h)

pub short_fits : (n k : ℕ) → Model.short_length n k ≡ true → k ≤ 2 ^ n
short_fits n k h = leb-true k (2 ^ n) (and_parts (leb 1 k) (leb k (2 ^ n)) h).1
