-- What commands do to the receiver, one by one and one after the other, over plain values.
use Rattle.std.proofs.Common.{◌≡◌, ℕ, zero, suc, ◌+◌, ◌-◌, ◌^◌, true, false, List, [], ◌∷◌, ◌++◌, length, is_some, Some, None, Ok, Err, Option, Result, sym, refl, ap, ◌∙◌, subst, append_assoc, arith}
use Rattle.code.specs.declared.faults.MapFault.{MapFault}
use Rattle.code.specs.Encode.{informed_count}
use Rattle.code.specs.Orders.{order_fault, count_fault, ranks_of, ranked_marks}
use Rattle.code.specs.Spans.{part, listed_fault, Means}
use Rattle.code.proofs.LawfulSpans.{accepted_by}
use Rattle.code.proofs.Looks.{marks_mean}
use Rattle.code.proofs.Marks.{listed_means}
use Rattle.soft.specs.Kind.{Kind, Laws}
use Rattle.soft.specs.Erasure.{erasure, erasure_laws}
use Rattle.soft.specs.Whole.{whole, whole_laws, stop}
use Rattle.receiver.specs.Calls as receiver
use Rattle.receiver.specs.Calls.{Call, called, answers_to}
use Rattle.receiver.specs.Histories.{after_calls}
use Rattle.receiver.specs.Law.{Law, Mapped, AllMapped}
use Rattle.receiver.specs.Model.{Model, fresh}
use Rattle.receiver.proofs.Runs.{law_holds}
use Rattle.session.specs.declared.commands.Make.{Make}
use Rattle.session.specs.declared.faults.SessionFault.{SessionFault}
use Rattle.session.specs.declared.faults.SessionFault.TheVariants as fault
use Rattle.session.specs.declared.shelf.Record.{Record}
use Rattle.session.specs.Commands.{Request, slot, order, ranked, listed, encode, caps, word, short_word, advance, taking, dropping, Read, read_command}
use Rattle.session.specs.Faults.{report_of}
use Rattle.session.specs.Shelf.{slot_record}
use Rattle.session.specs.Text.{refused_line}
use Rattle.session.specs.Sessions.{InForce, Done, nothing, refuse, offer, told, chosen_in, choose, called_in, do_order, perform, answer_line, lines_from, sizes_in, chooses_order, RefusedLeavesAll, ChangesOnlyByChoice}
use Rattle.session.specs.Runs.{Act, leaves, makes, calls, calling, mapping, act_of, besides, Acts, Turn, in_force_after, acts_of, text_of, calls_in, answers_in, Lawfully, LawfulActs, Reads, Ending, ended, unread, TextOf, SessionsLawful}
use Rattle.session.proofs.Keeping.{encoded_stay, refused_leaves_all, changes_only_by_choice}

-- an order in force was accepted
abbrev Accepted : Option (ℕ × List ℕ) → Type 0
Accepted None = Unit {0}
Accepted (Some o) = is_some (order_fault o.0 o.1) ≡ false

-- so it is in what a command leaves in force
abbrev AcceptedIn : {S : Type 0} → Done S → Type 0
AcceptedIn d = Accepted d.after.order

-- the maps that an act puts in force mean marks
abbrev Mean : Act → Type 0
Mean leaves = Unit {0}
Mean (makes n marks) = Means n marks
Mean (calls c a) = Mapped c

none_some : {A X : Type 0} {x : X} → None ≡ Some x → A
none_some e = absurd (cc)

module _ {S : Type 0} (kind : Kind S) (s : InForce S) where
  offered : (o : Option MapFault) (n : ℕ) (bytes : List ℕ) → (offer o n bytes s).after.receiver ≡ s.receiver
  offered None n bytes = refl
  offered (Some g) n bytes = refl

  slotted : (shelf : List ℕ) (at : ℕ) (o : Option Record) →
      Acts kind s (elim o [ None ↦ refuse (fault.Slot at) s | Some r ↦ do_order r.n (part shelf r.place r.count) s ]) leaves
  slotted shelf at None = refl
  slotted shelf at (Some r) = offered _ r.n (part shelf r.place r.count)

  chosen : (o : Option MapFault) (n : ℕ) (marks : List ℕ) → Acts kind s (choose kind o n marks s) (mapping kind o n marks s.receiver)
  chosen (Some g) n marks = refl
  chosen None n marks = go s.receiver refl
    where
      go : (r : Option (Model S)) → s.receiver ≡ r → Acts kind s (chosen_in kind n marks s r) (mapping kind None n marks r)
      go None is = (is, refl, refl)
      go (Some m) is = (m, is, refl, refl, refl)

  ranked_acts : (at k : ℕ) (o : Option (ℕ × List ℕ)) →
      Acts kind s (elim o [ None ↦ refuse (fault.NoOrder at) s | Some p ↦ choose kind (count_fault p.0 k) p.0 (ranked_marks (ranks_of p.1) k) s ])
      (elim o [ None ↦ leaves | Some p ↦ mapping kind (count_fault p.0 k) p.0 (ranked_marks (ranks_of p.1) k) s.receiver ])
  ranked_acts at k None = refl
  ranked_acts at k (Some p) = chosen (count_fault p.0 k) p.0 (ranked_marks (ranks_of p.1) k)

  called_acts : (at : ℕ) (more : List (List ℕ)) (asks : Model S → Call) → ((m : Model S) → more ≡ besides (asks m)) →
      Acts kind s (called_in kind at more asks s s.receiver) (calling kind asks s.receiver)
  called_acts at more asks same = go s.receiver refl
    where
      go : (r : Option (Model S)) → s.receiver ≡ r → Acts kind s (called_in kind at more asks s r) (calling kind asks r)
      go None is = refl
      go (Some m) is = (m, is, refl, refl, ap (λ x. told x (called kind (asks m) m).answer) (same m))

  -- what each command does
  acts_so : (shelf : List ℕ) (at : ℕ) (q : Request) → Acts kind s (perform kind shelf at q s) (act_of kind q s)
  unfolding perform
  acts_so shelf at (slot number) = slotted shelf at (slot_record number 0 shelf)
  acts_so shelf at (order n bytes) = offered (order_fault n bytes) n bytes
  acts_so shelf at (ranked k) = ranked_acts at k s.order
  acts_so shelf at (listed n marks) = chosen (listed_fault n marks) n marks
  acts_so shelf at (encode message) = ap (λ (x : InForce S). x.receiver) (encoded_stay kind s at message)
  acts_so shelf at (caps first second) = called_acts at _ (λ m. receiver.set_caps first second) (λ m. refl)
  acts_so shelf at (word bytes) = called_acts at _ (λ m. receiver.word true bytes) (λ m. refl)
  acts_so shelf at (short_word bytes) = called_acts at _ (λ m. receiver.short_word true bytes) (λ m. refl)
  acts_so shelf at (advance allowance) = called_acts at _ (λ m. receiver.advance true allowance) (λ m. refl)
  acts_so shelf at taking = called_acts at _ (λ m. receiver.take true (informed_count m.marks) (2 ^ m.n)) (λ m. refl)
  acts_so shelf at dropping = called_acts at _ (λ m. receiver.drop_word) (λ m. refl)

  mapping_means : (o : Option MapFault) (n : ℕ) (marks : List ℕ) → (o ≡ None → Means n marks) → (r : Option (Model S)) → Mean (mapping kind o n marks r)
  mapping_means (Some g) n marks means r = tt
  mapping_means None n marks means None = means refl
  mapping_means None n marks means (Some m) = means refl

  calling_means : (asks : Model S → Call) → ((m : Model S) → Mapped (asks m)) → (r : Option (Model S)) → Mean (calling kind asks r)
  calling_means asks mapped None = tt
  calling_means asks mapped (Some m) = mapped m

  ranked_means : (k : ℕ) (o : Option (ℕ × List ℕ)) → Accepted o →
      Mean (elim o [ None ↦ leaves | Some p ↦ mapping kind (count_fault p.0 k) p.0 (ranked_marks (ranks_of p.1) k) s.receiver ])
  ranked_means k None ok = tt
  ranked_means k (Some p) ok =
      mapping_means (count_fault p.0 k) p.0 (ranked_marks (ranks_of p.1) k) (λ e. marks_mean p.0 (ranks_of p.1) k (accepted_by p.0 p.1 ok)) s.receiver

  -- the maps that a command puts in force mean marks
  means_so : (q : Request) → Accepted s.order → Mean (act_of kind q s)
  means_so (slot number) ok = tt
  means_so (order n bytes) ok = tt
  means_so (ranked k) ok = ranked_means k s.order ok
  means_so (listed n marks) ok = mapping_means (listed_fault n marks) n marks (λ e. listed_means n marks (ap is_some e)) s.receiver
  means_so (encode message) ok = tt
  means_so (caps first second) ok = calling_means (λ m. receiver.set_caps first second) (λ m. tt) s.receiver
  means_so (word bytes) ok = calling_means (λ m. receiver.word true bytes) (λ m. tt) s.receiver
  means_so (short_word bytes) ok = calling_means (λ m. receiver.short_word true bytes) (λ m. tt) s.receiver
  means_so (advance allowance) ok = calling_means (λ m. receiver.advance true allowance) (λ m. tt) s.receiver
  means_so taking ok = calling_means (λ m. receiver.take true (informed_count m.marks) (2 ^ m.n)) (λ m. tt) s.receiver
  means_so dropping ok = calling_means (λ m. receiver.drop_word) (λ m. tt) s.receiver

  offer_accepted : (n : ℕ) (bytes : List ℕ) → Accepted s.order → AcceptedIn (do_order n bytes s)
  offer_accepted n bytes ok = go (order_fault n bytes) refl
    where
      go : (o : Option MapFault) → order_fault n bytes ≡ o → AcceptedIn (offer o n bytes s)
      go None e = ap is_some e
      go (Some g) e = ok

  slot_accepted : (shelf : List ℕ) (at : ℕ) (o : Option Record) → Accepted s.order →
      AcceptedIn (elim o [ None ↦ refuse (fault.Slot at) s | Some r ↦ do_order r.n (part shelf r.place r.count) s ])
  slot_accepted shelf at None ok = ok
  slot_accepted shelf at (Some r) ok = offer_accepted r.n (part shelf r.place r.count) ok

  -- a command that chooses no order leaves it
  kept : (shelf : List ℕ) (at : ℕ) (q : Request) → chooses_order q ≡ false → Accepted s.order → AcceptedIn (perform kind shelf at q s)
  kept shelf at q none ok = subst Accepted (sym ((changes_only_by_choice kind shelf at q s).0 none)) ok

  -- an order in force after a command was accepted
  accepted_so : (shelf : List ℕ) (at : ℕ) (q : Request) → Accepted s.order → AcceptedIn (perform kind shelf at q s)
  unfolding perform
  accepted_so shelf at (slot number) ok = slot_accepted shelf at (slot_record number 0 shelf) ok
  accepted_so shelf at (order n bytes) ok = offer_accepted n bytes ok
  accepted_so shelf at (ranked k) ok = kept shelf at (ranked k) refl ok
  accepted_so shelf at (listed n marks) ok = kept shelf at (listed n marks) refl ok
  accepted_so shelf at (encode message) ok = kept shelf at (encode message) refl ok
  accepted_so shelf at (caps first second) ok = kept shelf at (caps first second) refl ok
  accepted_so shelf at (word bytes) ok = kept shelf at (word bytes) refl ok
  accepted_so shelf at (short_word bytes) ok = kept shelf at (short_word bytes) refl ok
  accepted_so shelf at (advance allowance) ok = kept shelf at (advance allowance) refl ok
  accepted_so shelf at taking ok = kept shelf at taking refl ok
  accepted_so shelf at dropping ok = kept shelf at dropping refl ok

-- acts on a receiver that is there: their calls lead from it to the one in force, and their answers are the receiver's
record Driven {S : Type 0} (kind : Kind S) (m : Model S) (acts : List Act) (r : Option (Model S)) : Type 0 where
  maps : AllMapped (calls_in acts)
  led : r ≡ Some (after_calls kind (calls_in acts) m)
  same : answers_in acts ≡ answers_to kind (calls_in acts) m

module _ {S : Type 0} (kind : Kind S) where
  -- one act before others, where there is a receiver
  driven_one : (s : InForce S) (d : Done S) (m : Model S) (acts : List Act) (r : Option (Model S)) → s.receiver ≡ Some m → (act : Act) → Acts kind s d act → Mean act →
      ((m' : Model S) → d.after.receiver ≡ Some m' → Driven kind m' acts r) → Driven kind m (act ∷ acts) r
  unfolding calls_in answers_in AllMapped after_calls answers_to
  driven_one s d m acts r is leaves does means rest = let x = rest m (does ∙ is) in record { maps = x.maps; led = x.led; same = x.same }
  driven_one s d m acts r is (makes n marks) does means rest = none_some (sym does.0 ∙ is)
  driven_one s d m acts r is (calls c a) does means rest =
      let x = rest (called kind c does.0).after does.3 in
      let e : does.0 ≡ m = cc in
      record {
        maps = (means, x.maps);
        led = x.led ∙ ap (λ y. Some (after_calls kind (calls_in acts) (called kind c y).after)) e;
        same = ap (λ y. y ∷ answers_in acts) does.2 ∙ (ap (λ y. (called kind c does.0).answer ∷ y) x.same ∙ ap (λ y. (called kind c y).answer ∷ answers_to kind (calls_in acts) (called kind c y).after) e);
      }

  driven_all : (shelf : List ℕ) (turns : List Turn) (s : InForce S) (m : Model S) → s.receiver ≡ Some m → Accepted s.order →
      Driven kind m (acts_of kind shelf turns s) (in_force_after kind shelf turns s).receiver
  unfolding acts_of in_force_after calls_in answers_in AllMapped after_calls answers_to
  driven_all shelf [] s m is ok = record { maps = tt; led = is; same = refl }
  driven_all shelf (t ∷ turns) s m is ok =
      driven_one s (perform kind shelf t.at t.request s) m _ _ is (act_of kind t.request s) (acts_so kind s shelf t.at t.request) (means_so kind s t.request ok)
      (λ m' e. driven_all shelf turns (perform kind shelf t.at t.request s).after m' e (accepted_so kind s shelf t.at t.request ok))

  -- the calls after the act that makes the receiver
  lawfully : Laws kind → (n : ℕ) (marks : List ℕ) (acts : List Act) (r : Option (Model S)) → Means n marks → Driven kind (fresh n marks) acts r →
      Lawfully kind n marks (calls_in acts) (answers_in acts) r
  lawfully laws n marks acts r means x = record {
    first = means;
    maps = x.maps;
    led = x.led;
    same = x.same;
    law = subst (λ y. Law kind n marks (calls_in acts) y) (sym x.same) (law_holds kind laws n marks means (calls_in acts) x.maps);
  }

  -- one act before others, where there is none
  lawful_one : Laws kind → (s : InForce S) (d : Done S) (acts : List Act) (r : Option (Model S)) → s.receiver ≡ None → (act : Act) → Acts kind s d act → Mean act →
      (d.after.receiver ≡ None → LawfulActs kind acts r) → ((m : Model S) → d.after.receiver ≡ Some m → Driven kind m acts r) → LawfulActs kind (act ∷ acts) r
  unfolding LawfulActs
  lawful_one laws s d acts r is leaves does means before after = before (does ∙ is)
  lawful_one laws s d acts r is (makes n marks) does means before after = lawfully laws n marks acts r means (after (fresh n marks) does.1)
  lawful_one laws s d acts r is (calls c a) does means before after = none_some (sym is ∙ does.1)

  lawful_all : Laws kind → (shelf : List ℕ) (turns : List Turn) (s : InForce S) → s.receiver ≡ None → Accepted s.order →
      LawfulActs kind (acts_of kind shelf turns s) (in_force_after kind shelf turns s).receiver
  unfolding acts_of in_force_after LawfulActs
  lawful_all laws shelf [] s is ok = is
  lawful_all laws shelf (t ∷ turns) s is ok =
      let ok' = accepted_so kind s shelf t.at t.request ok in
      lawful_one laws s (perform kind shelf t.at t.request s) _ _ is (act_of kind t.request s) (acts_so kind s shelf t.at t.request) (means_so kind s t.request ok)
      (λ e. lawful_all laws shelf turns (perform kind shelf t.at t.request s).after e ok')
      (λ m e. driven_all shelf turns (perform kind shelf t.at t.request s).after m e ok')

  -- the lines from a command on, that is read or not
  text_one : (make : Make) (shelf : List ℕ) (size number letter : ℕ) (bytes : List ℕ) (s : InForce S) (next : List ℕ → InForce S → List ℕ) →
      ((rest : List ℕ) (s' : InForce S) → TextOf kind make shelf size (suc number) rest s' (next rest s')) → (at : ℕ) → at ≡ size - suc (length bytes) →
      (o : Result Read SessionFault) → read_command make (sizes_in s.receiver) at letter bytes ≡ o →
      TextOf kind make shelf size number (letter ∷ bytes) s
      (elim o [
        | Err f ↦ refused_line number letter (report_of f)
        | Ok r ↦ answer_line number letter (perform kind shelf at r.request s).answer ++ next r.rest (perform kind shelf at r.request s).after
      ])
  unfolding Reads text_of
  text_one make shelf size number letter bytes s next more at here (Err f) is = record {
    turns = [];
    last = refused_line number letter (report_of f);
    read = tt;
    ends = subst (λ k. Ending k (refused_line number letter (report_of f))) (let e : number ≡ number + 0 = omega arith in e) (unread letter f);
    lines = refl;
  }
  text_one make shelf size number letter bytes s next more at here (Ok r) is =
      let rest = more r.rest (perform kind shelf at r.request s).after in
      let line = answer_line number letter (perform kind shelf at r.request s).answer in
      record {
        turns = record { letter = letter; at = at; request = r.request } ∷ rest.turns;
        last = rest.last;
        read = (bytes, r.rest, refl, here, is, rest.read);
        ends = subst (λ k. Ending k rest.last) (let e : suc number + length rest.turns ≡ number + suc (length rest.turns) = omega arith in e) rest.ends;
        lines = ap (λ x. line ++ x) rest.lines ∙ sym (append_assoc line _ rest.last);
      }

  -- the lines of what is left of a session
  text_of_lem : (most : ℕ) (make : Make) (shelf : List ℕ) (size number : ℕ) (bytes : List ℕ) (s : InForce S) →
      TextOf kind make shelf size number bytes s (lines_from kind most make shelf size number bytes s)
  unfolding lines_from Reads text_of
  text_of_lem zero make shelf size number bytes s = record { turns = []; last = []; read = tt; ends = ended; lines = refl }
  text_of_lem (suc most) make shelf size number [] s = record { turns = []; last = []; read = tt; ends = ended; lines = refl }
  text_of_lem (suc most) make shelf size number (letter ∷ bytes) s =
      text_one make shelf size number letter bytes s (lines_from kind most make shelf size (suc number)) (text_of_lem most make shelf size (suc number)) (size - suc (length bytes)) refl
      (read_command make (sizes_in s.receiver) (size - suc (length bytes)) letter bytes) refl

pub sessions_lawful : {S : Type 0} (kind : Kind S) → Laws kind → SessionsLawful kind
sessions_lawful kind laws = record {
  lines = λ most make shelf size bytes. text_of_lem kind most make shelf size 0 bytes nothing;
  acts = λ shelf at q s. acts_so kind s shelf at q;
  law = λ shelf turns. lawful_all kind laws shelf turns nothing refl tt;
}

-- the laws of sessions in each kind of soft number
pub refused_leaves_both : (RefusedLeavesAll whole) × (RefusedLeavesAll erasure)
refused_leaves_both = (refused_leaves_all whole, refused_leaves_all erasure)

pub changes_both : (ChangesOnlyByChoice whole) × (ChangesOnlyByChoice erasure)
changes_both = (changes_only_by_choice whole, changes_only_by_choice erasure)

pub sessions_both : (SessionsLawful whole) × (SessionsLawful erasure)
sessions_both = (sessions_lawful whole (whole_laws stop), sessions_lawful erasure erasure_laws)
