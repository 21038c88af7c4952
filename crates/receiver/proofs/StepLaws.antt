-- What each step does to the work memory, as long as the memory says where the work stands. Assumes nothing.
use Rattle.std.proofs.Common.{◌≡◌, ℕ, suc, ◌-◌, ◌*◌, ◌^◌, ◌≤◌, List, [], ◌∷◌, ◌++◌, length, take, replicate, sym, refl, ap, ◌∙◌, append_assoc, arith}
use Rattle.std.proofs.lemmas.List.{length-append, length-replicate, take_at, replicate-append-replicate, length_push, append-nil}
use Rattle.soft.specs.Kind.{Kind}
use Rattle.code.specs.Spans.{part}
use Rattle.receiver.specs.declared.memory.Step.{Step}
use Rattle.receiver.specs.Stacks.{overwritten}
use Rattle.receiver.specs.Coherence.{Splits, pending_of, around, Open, Coherent}
use Rattle.receiver.specs.Steps.{base}
use Rattle.receiver.specs.Work.{Span, Root, Side, left, right, Next, first, second, final}
use Rattle.receiver.specs.Work.{half, word_of, left_of, right_of, span_at, rows, before, after, within, done}
use Rattle.receiver.proofs.Places.{split_pow, full_left, full_right, length_word, done_bits}
use Rattle.receiver.proofs.Paths.{path_e, path_full, path_some, path_start, rows_length, before_length}
use Rattle.receiver.proofs.Overwrites.{take_front, known_overwritten, take_extended, part_known}

module _ {S : Type 0} (kind : Kind S) (n : ℕ) (root : Span S) (is : Root n root) where
  pub around_length : (path : List Side) → length (around kind root path) ≡ length path
  around_length [] = refl
  around_length (left ∷ path) = length_push (around kind root path) (pending_of second (span_at kind root path)) ∙ (let h = around_length path in omega arith)
  around_length (right ∷ path) = length_push (around kind root path) (pending_of final (span_at kind root path)) ∙ (let h = around_length path in omega arith)

  -- the rows of the spans around the one at a path end where its own begins
  pub base_outer : (side : Side) (path : List Side) → length (side ∷ path) ≤ n → base n (span_at kind root (side ∷ path)).e ≡ length (rows kind root path)
  base_outer left path deep =
      let h = split_pow (span_at kind root path).e (path_some kind n root is left path deep) in
      let l = rows_length kind n root is path (omega arith) in
      omega arith
  base_outer right path deep =
      let h = split_pow (span_at kind root path).e (path_some kind n root is right path deep) in
      let l = rows_length kind n root is path (omega arith) in
      omega arith

  -- what is left of memory in which only the row of the span at a path, or what lies past it, has changed
  rows_outer : (side : Side) (path : List Side) (soft now : List S) → length (side ∷ path) ≤ n →
      take (length (rows kind root (side ∷ path))) soft ≡ rows kind root (side ∷ path) →
      take (base n (span_at kind root (side ∷ path)).e) now ≡ take (base n (span_at kind root (side ∷ path)).e) soft →
      take (length (rows kind root path)) now ≡ rows kind root path
  rows_outer side path soft now deep known same =
      let row = (span_at kind root (side ∷ path)).values in
      let b = base_outer side path deep in
      ap (λ k. take k now) (sym b) ∙ same ∙ ap (λ k. take k soft) b
      ∙ take_front (length (rows kind root path)) soft (rows kind root path ++ row) (length (rows kind root path ++ row)) (omega (arith, length-append (rows kind root path) row)) known
      ∙ take_at (rows kind root path) row (length (rows kind root path)) refl

  -- the pending steps but for the last
  steps_outer : (outer : List Step) (last : Step) (steps : List Step) (height : ℕ) → take height steps ≡ outer ++ (last ∷ []) → height ≡ suc (length outer) → take (height - 1) steps ≡ outer
  steps_outer outer last steps height known high =
      take_front (height - 1) steps (outer ++ (last ∷ [])) height (omega arith) known
      ∙ take_at outer (last ∷ []) (height - 1) (omega arith)

  -- the span at a path is done: its word stands at its positions, and of the rest only its own row has changed
  pub span_done : (nxt : Next) (path : List Side) (height : ℕ) (soft now : List S) (steps : List Step) (bits word : List ℕ) →
      Open kind n root nxt path height soft steps bits →
      take (base n (span_at kind root path).e) now ≡ take (base n (span_at kind root path).e) soft →
      take (2 ^ n) word ≡ before kind root path ++ (word_of kind (span_at kind root path) ++ after kind root path) →
      Coherent kind n root (done path) (height - 1) now steps word
  span_done nxt [] height soft now steps bits word was same stands =
      record { high = omega (arith, was.high); bits = stands ∙ sym (done_bits kind root []) }
  span_done nxt (left ∷ path) height soft now steps bits word was same stands =
      record {
        deep = omega (arith, was.deep);
        long = path_some kind n root is left path was.deep;
        high = omega (arith, was.high);
        soft_rows = rows_outer left path soft now was.deep was.soft_rows same;
        pending = steps_outer (around kind root (left ∷ path)) (pending_of nxt (span_at kind root (left ∷ path))) steps height was.pending (was.high ∙ ap suc (sym (around_length (left ∷ path))));
        bits = stands ∙ sym (done_bits kind root (left ∷ path));
      }
  span_done nxt (right ∷ path) height soft now steps bits word was same stands =
      record {
        deep = omega (arith, was.deep);
        long = path_some kind n root is right path was.deep;
        high = omega (arith, was.high);
        soft_rows = rows_outer right path soft now was.deep was.soft_rows same;
        pending = steps_outer (around kind root (right ∷ path)) (pending_of nxt (span_at kind root (right ∷ path))) steps height was.pending (was.high ∙ ap suc (sym (around_length (right ∷ path))));
        bits = stands ∙ sym (done_bits kind root (right ∷ path));
      }

  -- the bits of an open span are as many as its positions
  pub within_length : (nxt : Next) (path : List Side) → length path ≤ n → Splits nxt (span_at kind root path).e → length (within kind nxt (span_at kind root path)) ≡ 2 ^ (span_at kind root path).e
  within_length first path deep long = length-replicate {A = ℕ} (2 ^ (span_at kind root path).e) 2
  within_length second path deep long =
      let span = span_at kind root path in
      let full = path_full kind n root is path deep in
      let l = length_word kind (left_of kind span) (full_left kind span full long) in
      omega (arith, length-append (word_of kind (left_of kind span)) (replicate (half span) 2), length-replicate {A = ℕ} (half span) 2, split_pow span.e long)
  within_length final path deep long =
      let span = span_at kind root path in
      let full = path_full kind n root is path deep in
      let l = length_word kind (left_of kind span) (full_left kind span full long) in
      let r = length_word kind (right_of kind span) (full_right kind span full long) in
      omega (arith, length-append (word_of kind (left_of kind span)) (word_of kind (right_of kind span)), split_pow span.e long)

  -- the last row of soft memory
  row_known : (path : List Side) (soft : List S) → length path ≤ n → take (length (rows kind root path)) soft ≡ rows kind root path →
      part soft (base n (span_at kind root path).e) (2 ^ (span_at kind root path).e) ≡ (span_at kind root path).values
  row_known [] soft deep known =
      let full = is.full in
      let b : base n root.e ≡ 0 = omega (arith, ap (λ k. 2 ^ k) is.e) in
      ap (λ k. part soft k (2 ^ root.e)) b
      ∙ part_known soft [] root.values [] (length root.values) 0 (2 ^ root.e) (known ∙ sym (append-nil root.values)) refl full.values (omega (arith, full.values))
  row_known (side ∷ path) soft deep known =
      let row = (span_at kind root (side ∷ path)).values in
      let full = path_full kind n root is (side ∷ path) deep in
      part_known soft (rows kind root path) row [] (length (rows kind root path ++ row)) _ _
      (known ∙ ap (λ r. rows kind root path ++ r) (sym (append-nil row))) (sym (base_outer side path deep)) full.values
      (omega (arith, base_outer side path deep, full.values, length-append (rows kind root path) row))

  -- the span at a path as a part of each memory
  module _ (nxt : Next) (path : List Side) (height : ℕ) (soft : List S) (steps : List Step) (bits : List ℕ) (was : Open kind n root nxt path height soft steps bits) where
    pub row_there : part soft (base n (span_at kind root path).e) (2 ^ (span_at kind root path).e) ≡ (span_at kind root path).values
    row_there = row_known path soft was.deep was.soft_rows

    pub bits_there : part bits (span_at kind root path).start (2 ^ (span_at kind root path).e) ≡ within kind nxt (span_at kind root path)
    bits_there =
        part_known bits (before kind root path) (within kind nxt (span_at kind root path)) (after kind root path) (2 ^ n) (span_at kind root path).start (2 ^ (span_at kind root path).e)
        was.bits (before_length kind n root is path was.deep) (within_length nxt path was.deep was.long) (path_start kind n root is path was.deep).0

    -- a word is written at the positions of the span
    pub word_written : (word : List ℕ) → 2 ^ n ≤ length bits → length word ≡ 2 ^ (span_at kind root path).e →
        take (2 ^ n) (overwritten bits (span_at kind root path).start word) ≡ before kind root path ++ (word ++ after kind root path)
    word_written word room long =
        let fits = (path_start kind n root is path was.deep).0 in
        known_overwritten bits word (before kind root path) (within kind nxt (span_at kind root path)) (after kind root path) (2 ^ n) (span_at kind root path).start
        was.bits (before_length kind n root is path was.deep) (within_length nxt path was.deep was.long ∙ sym long) (omega arith) room

  -- the left step: the left half gets its values, and its first step comes next
  pub left_made : (path : List Side) (height : ℕ) (soft : List S) (steps steps' : List Step) (bits : List ℕ) →
      Open kind n root first path height soft steps bits → ((span_at kind root path).e ≡ 0 → ⊥) → 2 * 2 ^ n ≤ length soft →
      take (suc height) steps' ≡ (around kind root path ++ (pending_of second (span_at kind root path) ∷ [])) ++ (pending_of first (left_of kind (span_at kind root path)) ∷ []) →
      Open kind n root first (left ∷ path) (suc height) (overwritten soft (length (rows kind root path)) (left_of kind (span_at kind root path)).values) steps' bits
  left_made path height soft steps steps' bits was some room pending =
      let span = span_at kind root path in
      let deep : length (left ∷ path) ≤ n = omega (arith, path_e kind n root is path) in
      let rl = rows_length kind n root is path was.deep in
      record {
        deep = deep;
        long = tt;
        high = ap suc was.high;
        soft_rows = ap (λ k. take k (overwritten soft (length (rows kind root path)) (left_of kind span).values)) (length-append (rows kind root path) (left_of kind span).values)
            ∙ take_extended soft (left_of kind span).values (rows kind root path) (length (rows kind root path)) (omega arith) was.soft_rows;
        pending = pending;
        bits = was.bits ∙ ap (λ r. before kind root path ++ r)
            (ap (λ r. r ++ after kind root path) (ap (λ k. replicate k 2) (split_pow span.e some) ∙ sym (replicate-append-replicate (half span) (half span) 2)) ∙ append_assoc (replicate (half span) 2) (replicate (half span) 2) (after kind root path));
      }

  -- the right step: the right half gets its values, and its first step comes next
  pub right_made : (path : List Side) (height : ℕ) (soft : List S) (steps steps' : List Step) (bits : List ℕ) →
      Open kind n root second path height soft steps bits → 2 * 2 ^ n ≤ length soft →
      take (suc height) steps' ≡ (around kind root path ++ (pending_of final (span_at kind root path) ∷ [])) ++ (pending_of first (right_of kind (span_at kind root path)) ∷ []) →
      Open kind n root first (right ∷ path) (suc height) (overwritten soft (length (rows kind root path)) (right_of kind (span_at kind root path)).values) steps' bits
  right_made path height soft steps steps' bits was room pending =
      let span = span_at kind root path in
      let deep : length (right ∷ path) ≤ n = omega (arith, path_e kind n root is path, was.long) in
      let rl = rows_length kind n root is path was.deep in
      record {
        deep = deep;
        long = tt;
        high = ap suc was.high;
        soft_rows = ap (λ k. take k (overwritten soft (length (rows kind root path)) (right_of kind span).values)) (length-append (rows kind root path) (right_of kind span).values)
            ∙ take_extended soft (right_of kind span).values (rows kind root path) (length (rows kind root path)) (omega arith) was.soft_rows;
        pending = pending;
        bits = was.bits ∙ ap (λ r. before kind root path ++ r) (append_assoc (word_of kind (left_of kind span)) (replicate (half span) 2) (after kind root path))
            ∙ sym (append_assoc (before kind root path) (word_of kind (left_of kind span)) (replicate (half span) 2 ++ after kind root path));
      }
