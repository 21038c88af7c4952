-- What commands leave in force, over plain values.
use Rattle.std.proofs.Common.{◌≡◌, ℕ, ◌^◌, true, false, List, [], ◌∷◌, Some, None, Err, decimal, Option, sym, refl, ap, ◌∙◌}
use Rattle.code.specs.declared.faults.MapFault.{MapFault}
use Rattle.code.specs.Encode.{informed_count}
use Rattle.code.specs.Orders.{order_fault, count_fault, ranks_of, ranked_marks}
use Rattle.code.specs.Spans.{part, listed_fault}
use Rattle.soft.specs.Kind.{Kind}
use Rattle.receiver.specs.declared.faults.ReceiverFault.{ReceiverFault}
use Rattle.receiver.specs.Calls as receiver
use Rattle.receiver.specs.Calls.{Call, Answer, Outcome, outcome, called}
use Rattle.receiver.specs.Model.{Model, remap_fault, caps_fault, word_fault, full_length, short_length, advance_fault, take_fault, right_buffers, drop_fault}
use Rattle.session.specs.declared.faults.SessionFault.{SessionFault}
use Rattle.session.specs.declared.faults.SessionFault.TheVariants as fault
use Rattle.session.specs.declared.shelf.Record.{Record}
use Rattle.session.specs.Commands.{Request, slot, order, ranked, listed, encode, caps, word, short_word, advance, taking, dropping}
use Rattle.session.specs.Shelf.{slot_record}
use Rattle.session.specs.Sessions.{InForce, Done, refuse, offer, told, tell, chosen_in, choose, reply, encoded_in, called_in, do_order, do_slot, do_ranked, do_encode, perform, chooses_order, chooses_map, map_in, RefusedLeavesAll, ChangesOnlyByChoice}

-- an accepted call did not answer a refusal
abbrev pub Accepts : Answer → Type 0
Accepts (receiver.refused f) = ⊥
Accepts receiver.done = Unit {0}
Accepts (receiver.went steps ends) = Unit {0}
Accepts (receiver.took steps message bits) = Unit {0}

told_ok : (more : List (List ℕ)) (a : Answer) (f : SessionFault) → Accepts a → told more a ≡ Err f → ⊥
told_ok more (receiver.refused g) f ok e = ok
told_ok more receiver.done f ok e = cc
told_ok more (receiver.went steps ends) f ok e = cc
told_ok more (receiver.took steps message bits) f ok e = cc

-- where a command is refused, all stays in force; refused or not, the map stays, or the order
-- Kept, `refused` in both records: each says all that stays.
pub record MapsStay {S : Type 0} (s : InForce S) (d : Done S) : Type 0 where
  pub refused : (f : SessionFault) → d.answer ≡ Err f → d.after ≡ s
  pub map : map_in d.after ≡ map_in s

pub record OrdersStay {S : Type 0} (s : InForce S) (d : Done S) : Type 0 where
  pub refused : (f : SessionFault) → d.answer ≡ Err f → d.after ≡ s
  pub order : d.after.order ≡ s.order

pub record BothStay {S : Type 0} (s : InForce S) (d : Done S) : Type 0 where
  pub refused : (f : SessionFault) → d.answer ≡ Err f → d.after ≡ s
  pub order : d.after.order ≡ s.order
  pub map : map_in d.after ≡ map_in s

module _ {S : Type 0} (kind : Kind S) (s : InForce S) where
  offered : (o : Option MapFault) (n : ℕ) (bytes : List ℕ) → MapsStay s (offer o n bytes s)
  offered None n bytes = record { refused = λ f e. absurd (cc); map = refl }
  offered (Some g) n bytes = record { refused = λ f e. refl; map = refl }

  slotted : (shelf : List ℕ) (at number : ℕ) → MapsStay s (do_slot shelf at number s)
  slotted shelf at number = go (slot_record number 0 shelf)
    where
      go : (o : Option Record) → MapsStay s (elim o [ None ↦ refuse (fault.Slot at) s | Some r ↦ do_order r.n (part shelf r.place r.count) s ])
      go None = record { refused = λ f e. refl; map = refl }
      go (Some r) = offered _ r.n (part shelf r.place r.count)

  -- a call that is refused leaves the receiver
  telling : (more : List (List ℕ)) (m after : Model S) (answer : Answer) (o : Option ReceiverFault) → Accepts answer → s.receiver ≡ Some m →
      (f : SessionFault) → (tell more s (outcome o answer after m)).answer ≡ Err f → (tell more s (outcome o answer after m)).after ≡ s
  telling more m after answer None ok is f e = absurd (told_ok more answer f ok e)
  telling more m after answer (Some g) ok is f e = ap (λ (x : Option (Model S)). record { order = s.order; receiver = x }) (sym is)

  chosen : (o : Option MapFault) (n : ℕ) (marks : List ℕ) → OrdersStay s (choose kind o n marks s)
  chosen (Some g) n marks = record { refused = λ f e. refl; order = refl }
  chosen None n marks = go s.receiver refl
    where
      go : (r : Option (Model S)) → s.receiver ≡ r → OrdersStay s (chosen_in kind n marks s r)
      go None is = record { refused = λ f e. absurd (cc); order = refl }
      go (Some m) is = record { refused = telling (decimal (informed_count marks) ∷ []) m _ receiver.done (remap_fault m) tt is; order = refl }

  ranked_stay : (at k : ℕ) → OrdersStay s (do_ranked kind at k s)
  ranked_stay at k = go s.order
    where
      go : (o : Option (ℕ × List ℕ)) →
          OrdersStay s (elim o [ None ↦ refuse (fault.NoOrder at) s | Some p ↦ choose kind (count_fault p.0 k) p.0 (ranked_marks (ranks_of p.1) k) s ])
      go None = record { refused = λ f e. refl; order = refl }
      go (Some p) = chosen _ p.0 (ranked_marks (ranks_of p.1) k)

  pub encoded_stay : (at : ℕ) (message : List ℕ) → (do_encode at message s).after ≡ s
  encoded_stay at message = go s.receiver
    where
      replied : (o : Option MapFault) (bits : List ℕ) → (reply o bits s).after ≡ s
      replied None bits = refl
      replied (Some g) bits = refl

      go : (r : Option (Model S)) → (encoded_in at message s r).after ≡ s
      go None = refl
      go (Some m) = replied _ _

  -- a call that keeps the map, whose outcome is a refusal or an accepted answer
  called_stay : (at : ℕ) (more : List (List ℕ)) (asks : Model S → Call) (fault-of : Model S → Option ReceiverFault) (answer : Model S → Answer) (after : Model S → Model S) →
      ((m : Model S) → called kind (asks m) m ≡ outcome (fault-of m) (answer m) (after m) m) → ((m : Model S) → Accepts (answer m)) →
      ((m : Model S) → ((after m).n ≡ m.n) × ((after m).marks ≡ m.marks)) → BothStay s (called_in kind at more asks s s.receiver)
  called_stay at more asks fault-of answer after is ok same = go s.receiver refl
    where
      map_same : (m : Model S) (o : Option ReceiverFault) → map_in (tell more s (outcome o (answer m) (after m) m)).after ≡ Some (m.n, m.marks)
      map_same m None = rw ((same m).0, (same m).1)
      map_same m (Some g) = refl

      go : (r : Option (Model S)) → s.receiver ≡ r → BothStay s (called_in kind at more asks s r)
      go None here = record { refused = λ f e. refl; order = refl; map = refl }
      go (Some m) here = record {
        refused = λ f e. ap (λ o. (tell more s o).after) (is m) ∙ telling more m (after m) (answer m) (fault-of m) (ok m) here f (sym (ap (λ o. (tell more s o).answer) (is m)) ∙ e);
        order = refl;
        map = ap (λ o. map_in (tell more s o).after) (is m) ∙ (map_same m (fault-of m) ∙ ap (λ (x : Option (Model S)). map_in (record { order = s.order; receiver = x })) (sym here));
      }

  -- what a request that chooses nothing leaves
  stays : (shelf : List ℕ) (at : ℕ) (q : Request) → chooses_order q ≡ false → chooses_map q ≡ false → BothStay s (perform kind shelf at q s)
  unfolding perform
  stays shelf at (slot number) p q = absurd (cc)
  stays shelf at (order n bytes) p q = absurd (cc)
  stays shelf at (ranked k) p q = absurd (cc)
  stays shelf at (listed n marks) p q = absurd (cc)
  stays shelf at (encode message) p q =
      record { refused = λ f e. encoded_stay at message; order = ap (λ (x : InForce S). x.order) (encoded_stay at message); map = ap map_in (encoded_stay at message) }
  stays shelf at (caps first second) p q = called_stay at _ (λ m. receiver.set_caps first second) (λ m. caps_fault first second) (λ m. receiver.done) _ (λ m. refl) (λ m. tt) (λ m. (refl, refl))
  stays shelf at (word bytes) p q = called_stay at _ (λ m. receiver.word true bytes) (λ m. word_fault kind m full_length true bytes) (λ m. receiver.done) _ (λ m. refl) (λ m. tt) (λ m. (refl, refl))
  stays shelf at (short_word bytes) p q = called_stay at _ (λ m. receiver.short_word true bytes) (λ m. word_fault kind m short_length true bytes) (λ m. receiver.done) _ (λ m. refl) (λ m. tt) (λ m. (refl, refl))
  stays shelf at (advance allowance) p q = called_stay at _ (λ m. receiver.advance true allowance) (λ m. advance_fault m true) _ _ (λ m. refl) (λ m. tt) (λ m. (refl, refl))
  stays shelf at taking p q =
      called_stay at _ (λ m. receiver.take true (informed_count m.marks) (2 ^ m.n)) (λ m. take_fault m.hand true (right_buffers m.n m.marks (informed_count m.marks) (2 ^ m.n))) _ _ (λ m. refl) (λ m. tt) (λ m. (refl, refl))
  stays shelf at dropping p q = called_stay at _ (λ m. receiver.drop_word) drop_fault (λ m. receiver.done) _ (λ m. refl) (λ m. tt) (λ m. (refl, refl))

pub refused_leaves_all : {S : Type 0} (kind : Kind S) → RefusedLeavesAll kind
unfolding perform
refused_leaves_all kind shelf at (slot number) s = (slotted kind s shelf at number).refused
refused_leaves_all kind shelf at (order n bytes) s = (offered kind s (order_fault n bytes) n bytes).refused
refused_leaves_all kind shelf at (ranked k) s = (ranked_stay kind s at k).refused
refused_leaves_all kind shelf at (listed n marks) s = (chosen kind s (listed_fault n marks) n marks).refused
refused_leaves_all kind shelf at (encode message) s = (stays kind s shelf at (encode message) refl refl).refused
refused_leaves_all kind shelf at (caps first second) s = (stays kind s shelf at (caps first second) refl refl).refused
refused_leaves_all kind shelf at (word bytes) s = (stays kind s shelf at (word bytes) refl refl).refused
refused_leaves_all kind shelf at (short_word bytes) s = (stays kind s shelf at (short_word bytes) refl refl).refused
refused_leaves_all kind shelf at (advance allowance) s = (stays kind s shelf at (advance allowance) refl refl).refused
refused_leaves_all kind shelf at taking s = (stays kind s shelf at taking refl refl).refused
refused_leaves_all kind shelf at dropping s = (stays kind s shelf at dropping refl refl).refused

pub changes_only_by_choice : {S : Type 0} (kind : Kind S) → ChangesOnlyByChoice kind
unfolding perform
changes_only_by_choice kind shelf at (slot number) s = (λ e. absurd (cc), λ e. (slotted kind s shelf at number).map)
changes_only_by_choice kind shelf at (order n bytes) s = (λ e. absurd (cc), λ e. (offered kind s (order_fault n bytes) n bytes).map)
changes_only_by_choice kind shelf at (ranked k) s = (λ e. (ranked_stay kind s at k).order, λ e. absurd (cc))
changes_only_by_choice kind shelf at (listed n marks) s = (λ e. (chosen kind s (listed_fault n marks) n marks).order, λ e. absurd (cc))
changes_only_by_choice kind shelf at (encode message) s = (λ e. (stays kind s shelf at (encode message) refl refl).order, λ e. (stays kind s shelf at (encode message) refl refl).map)
changes_only_by_choice kind shelf at (caps first second) s = (λ e. (stays kind s shelf at (caps first second) refl refl).order, λ e. (stays kind s shelf at (caps first second) refl refl).map)
changes_only_by_choice kind shelf at (word bytes) s = (λ e. (stays kind s shelf at (word bytes) refl refl).order, λ e. (stays kind s shelf at (word bytes) refl refl).map)
changes_only_by_choice kind shelf at (short_word bytes) s = (λ e. (stays kind s shelf at (short_word bytes) refl refl).order, λ e. (stays kind s shelf at (short_word bytes) refl refl).map)
changes_only_by_choice kind shelf at (advance allowance) s = (λ e. (stays kind s shelf at (advance allowance) refl refl).order, λ e. (stays kind s shelf at (advance allowance) refl refl).map)
changes_only_by_choice kind shelf at taking s = (λ e. (stays kind s shelf at taking refl refl).order, λ e. (stays kind s shelf at taking refl refl).map)
changes_only_by_choice kind shelf at dropping s = (λ e. (stays kind s shelf at dropping refl refl).order, λ e. (stays kind s shelf at dropping refl refl).map)
