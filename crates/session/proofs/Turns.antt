-- The commands of a session one after the other, over plain values.
use Rattle.std.proofs.Common.{◌≡◌, ℕ, zero, suc, ◌+◌, ◌-◌, ◌<◌, ◌≤◌, List, [], ◌∷◌, ◌++◌, length, get_or, take, drop, Ok, Err, Result, refl, ap, ◌∙◌, append_assoc, add-one, arith, length-drop}
use Rattle.std.proofs.lemmas.List.{append-nil, drop-drop, take_rest}
use Rattle.session.specs.declared.commands.Make.{Make}
use Rattle.session.specs.declared.faults.SessionFault.{SessionFault}
use Rattle.soft.specs.Kind.{Kind}
use Rattle.session.specs.Faults.{report_of}
use Rattle.session.specs.Text.{refused_line}
use Rattle.session.specs.Commands.{Read, read_command}
use Rattle.session.specs.Sessions.{InForce, Done, perform, answer_line, sizes_in, lines_from}
use Rattle.receiver.specs.declared.memory.Memory.{Memory}
use Rattle.receiver.specs.Lent.{SameLoans}
use Rattle.session.specs.declared.state.State.{State}
use Rattle.session.specs.States.{Left, Stands, Did}
use Rattle.session.proofs.Lefts.{left_drop, left_left}

-- the text so far and the lines that are left are the whole text
pub record Going {S : Type 0} (kind : Kind S) (make : Make) (session shelf : List ℕ) (whole text rest : List ℕ) (number : ℕ) (s : InForce S) : Type 0 where
  pub most : ℕ
  pub enough : length rest ≤ most
  pub lines : text ++ lines_from kind most make shelf (length session) number rest s ≡ whole
  pub left : Left session rest
  pub few : number + length rest ≤ length session

-- no bytes, no lines
pub lines_none : {S : Type 0} (kind : Kind S) (most : ℕ) (make : Make) (shelf : List ℕ) (size number : ℕ) (s : InForce S) → lines_from kind most make shelf size number [] s ≡ []
unfolding lines_from
lines_none kind zero make shelf size number s = refl
lines_none kind (suc most) make shelf size number s = refl

module _ {S : Type 0} (kind : Kind S) (most : ℕ) (make : Make) (shelf : List ℕ) (size number letter : ℕ) (bytes text : List ℕ) (s : InForce S) where
  -- the lines that are left when a command was done
  pub lines_more : (r : Read) (next : List ℕ) (done : Done S) → Ok r ≡ read_command make (sizes_in s.receiver) (size - suc (length bytes)) letter bytes →
      done ≡ perform kind shelf (size - suc (length bytes)) r.request s → next ≡ text ++ answer_line number letter done.answer →
      next ++ lines_from kind most make shelf size (suc number) r.rest done.after ≡ text ++ lines_from kind (suc most) make shelf size number (letter ∷ bytes) s
  unfolding lines_from
  lines_more r next done e d n = rw (n, ← e, lines_from, ← d, append_assoc)

  -- the line of a command that ends the session
  pub lines_last : (f : SessionFault) (next : List ℕ) → Err f ≡ read_command make (sizes_in s.receiver) (size - suc (length bytes)) letter bytes →
      next ≡ text ++ refused_line number letter (report_of f) → next ≡ text ++ lines_from kind (suc most) make shelf size number (letter ∷ bytes) s
  unfolding lines_from
  lines_last f next e n = rw (n, ← e, lines_from)

-- the operands of a command stand one byte after its letter
pub operands_at : (session rest : List ℕ) → Left session rest → take (length rest - 1) (drop 1 rest) ≡ drop (length session - length rest + 1) session
operands_at session rest l = take_rest rest 1 ∙ (ap (drop 1) l.1 ∙ drop-drop 1 (length session - length rest) session)

-- a command takes a byte or more
pub shorter : (rest after : List ℕ) → 0 < length rest → Left (take (length rest - 1) (drop 1 rest)) after → length after < length rest
shorter rest after some l = omega (arith, l.0, ap length (take_rest rest 1), length-drop 1 rest)

-- a command that was done leads to the next
pub going_more : {S : Type 0} (kind : Kind S) (make : Make) (session shelf whole text rest : List ℕ) (number : ℕ) (s : InForce S) → Going kind make session shelf whole text rest number s →
    0 < length rest → (r : Read) (next : List ℕ) (done : Done S) →
    Ok r ≡ read_command make (sizes_in s.receiver) (length session - length rest) (get_or rest 0 0) (take (length rest - 1) (drop 1 rest)) →
    Left (take (length rest - 1) (drop 1 rest)) r.rest →
    done ≡ perform kind shelf (length session - length rest) r.request s → next ≡ text ++ answer_line number (get_or rest 0 0) done.answer →
    Going kind make session shelf whole next r.rest (number + 1) done.after
going_more kind make session shelf whole text [] number s g some r next done e l d n = absurd (omega arith)
going_more kind make session shelf whole text (letter ∷ bytes) number s g some r next done e l d n = go g.most g.enough g.lines
  where
    read : Ok r ≡ read_command make (sizes_in s.receiver) (length session - suc (length bytes)) letter bytes
    read = rw (take_rest (letter ∷ bytes) 1) at e

    after : Left bytes r.rest
    after = rw (take_rest (letter ∷ bytes) 1) at l

    go : (most : ℕ) → suc (length bytes) ≤ most → text ++ lines_from kind most make shelf (length session) number (letter ∷ bytes) s ≡ whole →
        Going kind make session shelf whole next r.rest (number + 1) done.after
    go zero h l = absurd (omega arith)
    go (suc most) h l = record {
      most = most;
      enough = omega (arith, after.0);
      lines = rw add-one (lines_more kind most make shelf (length session) number letter bytes text s r next done read d n ∙ l);
      left = left_left session (letter ∷ bytes) r.rest g.left (left_left (letter ∷ bytes) bytes r.rest (left_drop 1 (letter ∷ bytes)) after);
      few = omega (arith, after.0, g.few);
    }

-- a command that ends the session has the last line
pub going_last : {S : Type 0} (kind : Kind S) (make : Make) (session shelf whole text rest : List ℕ) (number : ℕ) (s : InForce S) → Going kind make session shelf whole text rest number s →
    0 < length rest → (f : SessionFault) (next : List ℕ) →
    Err f ≡ read_command make (sizes_in s.receiver) (length session - length rest) (get_or rest 0 0) (take (length rest - 1) (drop 1 rest)) →
    next ≡ text ++ refused_line number (get_or rest 0 0) (report_of f) → next ≡ whole
going_last kind make session shelf whole text [] number s g some f next e n = absurd (omega arith)
going_last kind make session shelf whole text (letter ∷ bytes) number s g some f next e n = go g.most g.enough g.lines
  where
    go : (most : ℕ) → suc (length bytes) ≤ most → text ++ lines_from kind most make shelf (length session) number (letter ∷ bytes) s ≡ whole → next ≡ whole
    go zero h l = absurd (omega arith)
    go (suc most) h l = lines_last kind most make shelf (length session) number letter bytes text s f next (rw (take_rest (letter ∷ bytes) 1) at e) n ∙ l

-- no bytes are left
pub going_done : {S : Type 0} (kind : Kind S) (make : Make) (session shelf whole text rest : List ℕ) (number : ℕ) (s : InForce S) → Going kind make session shelf whole text rest number s →
    length rest < 1 → text ≡ whole
going_done kind make session shelf whole text [] number s g none = rw (lines_none kind g.most make shelf (length session) number s, append-nil) at g.lines
going_done kind make session shelf whole text (letter ∷ bytes) number s g none = absurd (omega arith)

-- between two commands: what is in force, and that the state and its work memory are so
pub record Between {S : Type 0} (kind : Kind S) (make : Make) (session shelf : List ℕ) (whole text rest : List ℕ) (number : ℕ) (state : State S) (memory : Memory S) : Type 0 where
  pub force : InForce S
  pub stands : Stands kind force state memory
  pub going : Going kind make session shelf whole text rest number force

-- a command that was done leads to the next
pub between_more : {S : Type 0} (kind : Kind S) (make : Make) (session shelf whole text rest : List ℕ) (number : ℕ) (state : State S) (memory : Memory S)
    (b : Between kind make session shelf whole text rest number state memory) → 0 < length rest →
    (r : Read) (next : List ℕ) (state' : State S) (memory' : Memory S) (answer : Result (List (List ℕ)) SessionFault) →
    Ok r ≡ read_command make (sizes_in b.force.receiver) (length session - length rest) (get_or rest 0 0) (take (length rest - 1) (drop 1 rest)) →
    Left (take (length rest - 1) (drop 1 rest)) r.rest →
    Did kind (perform kind shelf (length session - length rest) r.request b.force) answer state' memory' →
    next ≡ text ++ answer_line number (get_or rest 0 0) answer →
    Between kind make session shelf whole next r.rest (number + 1) state' memory'
between_more kind make session shelf whole text rest number state memory b some r next state' memory' answer e l did n =
    record {
      force = (perform kind shelf (length session - length rest) r.request b.force).after;
      stands = did.after;
      going = going_more kind make session shelf whole text rest number b.force b.going some r next _ e l refl (n ∙ ap (λ x. text ++ answer_line number (get_or rest 0 0) x) did.answer);
    }

-- memory that stays lent, call after call
pub lent_on : {S : Type 0} (memory memory' memory'' : Memory S) → SameLoans memory memory' → SameLoans memory' memory'' → SameLoans memory memory''
lent_on memory memory' memory'' g h = record {
  soft = h.soft ∙ g.soft;
  pending = h.pending ∙ g.pending;
  bits = h.bits ∙ g.bits;
  soft_long = h.soft_long ∙ g.soft_long;
  pending_long = h.pending_long ∙ g.pending_long;
  bits_long = h.bits_long ∙ g.bits_long;
}
