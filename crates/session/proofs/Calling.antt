-- What the receiver's calls do to a receiver and its memory, over plain values.
use Rattle.std.proofs.Common.{◌≡◌, ℕ, suc, ◌*◌, ◌^◌, ◌≤◌, Bool, true, false, cond, eqb, leb, List, [], ◌∷◌, length, IsErrAnd, Some, None, Ok, Err, Option, Result, sym, refl, ap, ◌∙◌, subst, arith, pow_mono}
use Rattle.std.proofs.lemmas.Bool.{le-leb, leb-true, eqb-true, and_parts}
use Rattle.std.specs.Option.{option_copied_mut}
use Rattle.std.specs.Borrow.{MutBor}
use Rattle.std.specs.Int.{from_bool}
use Rattle.code.specs.Encode.{informed_count}
use Rattle.code.specs.Spans.{Means}
use Rattle.code.proofs.LawfulSpans.{accepted_by}
use Rattle.code.proofs.Looks.{marks_mean}
use Rattle.code.proofs.Marks.{listed_means}
use Rattle.soft.specs.Kind.{Kind}
use Rattle.receiver.specs.declared.caps.Caps.{Caps as Kept}
use Rattle.receiver.specs.declared.faults.ReceiverFault.{ReceiverFault}
use Rattle.receiver.specs.declared.memory.Memory.{Memory}
use Rattle.receiver.specs.declared.receiver.Receiver.{Receiver}
use Rattle.receiver.specs.declared.states.State.{State as Stage}
use Rattle.receiver.specs.declared.states.Asked.TheVariants as asked
use Rattle.receiver.specs.Admissions.{admitted, replied, in_force}
use Rattle.receiver.specs.Agreement.{Agrees, roomy}
use Rattle.receiver.specs.Calls as receiver
use Rattle.receiver.specs.Calls.{Call, called, outcome, done}
use Rattle.receiver.specs.Capping.{caps_of}
use Rattle.receiver.specs.Histories.{plain, went_to}
use Rattle.receiver.specs.Model.{Model, caps_fault, full_length, short_length, word_fault, worded}
use Rattle.receiver.specs.Words.{word_door, TakenInHand, advance_door, Goes}
use Rattle.receiver.proofs.Refines.{agrees_caps, agrees_remap, agrees_word, agrees_advance}
use Rattle.session.specs.declared.answers.Answer.{Answer}
use Rattle.session.specs.declared.chosen.Chosen.{Chosen}
use Rattle.session.specs.declared.chosen.Chosen.TheVariants.{Ranked, Listed}
use Rattle.session.specs.declared.faults.SessionFault.{SessionFault}
use Rattle.session.specs.declared.faults.SessionFault.TheVariants as fault
use Rattle.session.specs.Answers.{answer_of}
use Rattle.session.specs.Chosen.{exponent_of, marks_of}
use Rattle.session.specs.States.{Room, Agreed}

-- the map in force means a list of marks
pub chosen_means : (map : Chosen) → Means (exponent_of map) (marks_of map)
chosen_means (Ranked map) = marks_mean _ _ map.k (accepted_by map.order.n _ map.order.accepted)
chosen_means (Listed map) = listed_means _ _ map.accepted

-- no more positions are informed than there are
pub few_informed : (marks : List ℕ) → informed_count marks ≤ length marks
few_informed [] = omega arith
few_informed (m ∷ marks) = go (eqb m 1) (few_informed marks)
  where
    go : (b : Bool) → informed_count marks ≤ length marks → cond b (suc (informed_count marks)) (informed_count marks) ≤ suc (length marks)
    go true h = omega arith
    go false h = omega arith

-- the receiver that is lent is the one that is there
pub lent : {R : Type 0} (o : Option (MutBor R)) (there : Option R) (r : MutBor R) → option_copied_mut o ≡ there → o ≡ Some r → there ≡ Some r.now
lent o there r e f = sym e ∙ ap option_copied_mut f

-- yes as a number
pub one_for : (yes : Bool) → from_bool yes ≡ cond yes 1 0
one_for true = refl
one_for false = refl

-- a receiver's fault that a `?` handed up
pub handed_up : (r : Result Answer SessionFault) (f : ReceiverFault) → IsErrAnd r (λ e. e ≡ fault.Receiver f) → answer_of r ≡ Err (fault.Receiver f)
handed_up (Ok x) f h = absurd h
handed_up (Err e) f h = ap Err h

-- a word that fits is not too long
pub fits_whole : (bytes : List ℕ) (n : ℕ) → full_length n (length bytes) ≡ true → length bytes ≤ 2 ^ n
fits_whole bytes n e = let h : length bytes ≡ 2 ^ n = eqb-true (length bytes) (2 ^ n) e in omega arith

pub fits_short : (bytes : List ℕ) (n : ℕ) → short_length n (length bytes) ≡ true → length bytes ≤ 2 ^ n
fits_short bytes n e = leb-true (length bytes) (2 ^ n) (and_parts (leb 1 (length bytes)) (leb (length bytes) (2 ^ n)) e).1

-- the work memory of a session is large enough for every map
always_roomy : {S : Type 0} (map : Chosen) (memory : Memory S) → Room memory → roomy (exponent_of map) memory.soft.now memory.pending.now memory.bits.now ≡ true
always_roomy map memory room =
    let most : 2 ^ exponent_of map ≤ 2 ^ 10 = pow_mono (chosen_means map).high in
    rw (le-leb (2 * 2 ^ exponent_of map) (length memory.soft.now) (omega (arith, room.soft_room)), le-leb 64 (length memory.pending.now) (omega (arith, room.step_room)), le-leb (2 ^ exponent_of map) (length memory.bits.now) (omega (arith, room.bit_room)))

-- what is in force, seen through a function
in_force_of : {X Y : Type 0} (f : X → Y) (o : Option ReceiverFault) (new old now : X) → now ≡ in_force o new old → f now ≡ in_force o (f new) (f old)
in_force_of f None new old now e = ap f e
in_force_of f (Some x) new old now e = ap f e

-- what a call answers, and the receiver and memory that agree with the model afterwards
abbrev pub Answers : {S : Type 0} → Kind S → Model S → Receiver Chosen S → Memory S → Call → receiver.Answer → Type 0
Answers kind m r' memory' call answer = (answer ≡ (called kind call m).answer) × Agreed kind (called kind call m).after r' memory'

module _ {S : Type 0} (kind : Kind S) (m : Model S) (r r' : Receiver Chosen S) (memory memory' : Memory S) (a : Agreed kind m r memory) where
  -- a map and caps that stayed
  stayed : (m' : Model S) → (r'.map ≡ r.map) × (r'.caps ≡ r.caps) → Agrees kind m' (exponent_of r.map) (marks_of r.map) r.caps r'.state memory'.soft.now memory'.pending.now memory'.bits.now → Agreed kind m' r' memory'
  stayed m' rest h =
      subst (λ (x : Chosen). Agrees kind m' (exponent_of x) (marks_of x) r'.caps r'.state memory'.soft.now memory'.pending.now memory'.bits.now) (sym rest.0)
      (subst (λ (x : Kept). Agrees kind m' (exponent_of r.map) (marks_of r.map) x r'.state memory'.soft.now memory'.pending.now memory'.bits.now) (sym rest.1) h)

  -- word and short word, of a length that `fits`
  pub word_agreed : (fits : ℕ → ℕ → Bool) (bytes : List ℕ) (call : Call) (answer : Result (Unit {0}) ReceiverFault) → Room memory → (r'.map ≡ r.map) × (r'.caps ≡ r.caps) →
      called kind call m ≡ outcome (word_fault kind m fits true bytes) done (worded kind bytes m) m → ((n : ℕ) → fits n (length bytes) ≡ true → length bytes ≤ 2 ^ n) →
      TakenInHand kind (exponent_of r.map) (word_door kind r.state (fits (exponent_of r.map) (length bytes)) (roomy (exponent_of r.map) memory.soft.now memory.pending.now memory.bits.now) bytes) bytes memory.soft.now memory'.soft.now memory.pending.now memory'.pending.now memory.bits.now memory'.bits.now r.state r'.state answer →
      Answers kind m r' memory' call (plain answer)
  word_agreed fits bytes call answer room rest is short taken =
      let h = agrees_word kind m _ _ _ fits bytes _ _ _ _ _ _ _ _ answer (chosen_means r.map) (short (exponent_of r.map)) a taken in
      let P : receiver.Outcome S → Type 0 = λ o. (plain answer ≡ o.answer) × Agrees kind o.after (exponent_of r.map) (marks_of r.map) r.caps r'.state memory'.soft.now memory'.pending.now memory'.bits.now in
      let k = subst P (sym is) (subst (λ b. P (outcome (word_fault kind m fits b bytes) done (worded kind bytes m) m)) (always_roomy r.map memory room) h) in
      (k.0, stayed _ rest k.1)

  pub advance_agreed : (allowance : ℕ) (answer : Result (ℕ × Bool) ReceiverFault) → Room memory → (r'.map ≡ r.map) × (r'.caps ≡ r.caps) →
      Goes kind (exponent_of r.map) (marks_of r.map) r.caps allowance (advance_door r.state (roomy (exponent_of r.map) memory.soft.now memory.pending.now memory.bits.now)) r.state r'.state memory.soft.now memory.pending.now memory.bits.now memory'.soft.now memory'.pending.now memory'.bits.now answer →
      Answers kind m r' memory' (receiver.advance true allowance) (went_to answer)
  advance_agreed allowance answer room rest goes =
      let h = agrees_advance kind m _ _ _ allowance _ _ _ _ _ _ _ _ answer (chosen_means r.map).high a goes in
      let P : Bool → Type 0 = λ x. (went_to answer ≡ (called kind (receiver.advance x allowance) m).answer) × Agrees kind (called kind (receiver.advance x allowance) m).after (exponent_of r.map) (marks_of r.map) r.caps r'.state memory'.soft.now memory'.pending.now memory'.bits.now in
      let k = subst P (always_roomy r.map memory room) h in
      (k.0, stayed _ rest k.1)

module _ {S : Type 0} (kind : Kind S) (m : Model S) (r r' : Receiver Chosen S) (memory : Memory S) (a : Agreed kind m r memory) (answer : Result (Unit {0}) ReceiverFault) where
  pub caps_agreed : (first second : ℕ) (new : Kept) → caps_of new ≡ record { first = first; second = second } →
      answer ≡ replied (caps_fault first second) tt → r'.caps ≡ in_force (caps_fault first second) new r.caps → (r'.map ≡ r.map) × (r'.state ≡ r.state) →
      Answers kind m r' memory (receiver.set_caps first second) (plain answer)
  caps_agreed first second new new-is e f rest =
      let h = agrees_caps kind m _ _ _ r'.caps _ _ _ _ first second answer a e
      (subst (λ x. caps_of r'.caps ≡ in_force (caps_fault first second) x (caps_of r.caps)) new-is (in_force_of caps_of (caps_fault first second) new r.caps r'.caps f)) in (
        h.0,
        subst (λ (x : Chosen). Agrees kind (called kind (receiver.set_caps first second) m).after (exponent_of x) (marks_of x) r'.caps r'.state memory.soft.now memory.pending.now memory.bits.now) (sym rest.0)
            (subst (λ (x : Stage). Agrees kind (called kind (receiver.set_caps first second) m).after (exponent_of r.map) (marks_of r.map) r'.caps x memory.soft.now memory.pending.now memory.bits.now) (sym rest.1) h.1),
      )

  pub remap_agreed : (map : Chosen) → answer ≡ replied (admitted r.state asked.Remap) tt → r'.map ≡ in_force (admitted r.state asked.Remap) map r.map → (r'.caps ≡ r.caps) × (r'.state ≡ r.state) →
      Answers kind m r' memory (receiver.remap (exponent_of map) (marks_of map)) (plain answer)
  remap_agreed map e f rest =
      let h = agrees_remap kind m _ (exponent_of map) _ _ (marks_of map) _ _ _ _ _ _ answer a e (in_force_of exponent_of _ map r.map r'.map f) (in_force_of marks_of _ map r.map r'.map f) in (
        h.0,
        subst (λ (x : Stage). Agrees kind (called kind (receiver.remap (exponent_of map) (marks_of map)) m).after (exponent_of r'.map) (marks_of r'.map) r'.caps x memory.soft.now memory.pending.now memory.bits.now) (sym rest.1)
            (subst (λ (x : Kept). Agrees kind (called kind (receiver.remap (exponent_of map) (marks_of map)) m).after (exponent_of r'.map) (marks_of r'.map) x r.state memory.soft.now memory.pending.now memory.bits.now) (sym rest.0) h.1),
      )
