-- The spans along a path from the whole word: their exponents, marks, starts and rows. Assumes nothing.
use Rattle.std.proofs.Common.{◌≡◌, ℕ, ◌+◌, ◌-◌, ◌*◌, ◌^◌, ◌≤◌, List, [], ◌∷◌, length, take, drop, sym, ap, ◌∙◌, ap₂, mul_assoc, add-mul, one-mul, zero-mul, mul-add, arith}
use Rattle.std.proofs.lemmas.List.{length-append, take-take, take_all, drop-drop, drop-take}
use Rattle.soft.specs.Kind.{Kind}
use Rattle.code.specs.Spans.{part}
use Rattle.receiver.specs.Work.{Span, Full, Root, Side, left, right}
use Rattle.receiver.specs.Work.{half, word_of, left_of, right_of, span_at, rows, before}
use Rattle.receiver.proofs.Places.{split_pow, full_left, full_right, length_word}

twice_times : (q h : ℕ) → q * (h + h) ≡ 2 * q * h
twice_times q h = omega (arith, mul-add q h h, mul_assoc 2 q h)

one_more : (q h : ℕ) → q * h + h ≡ (q + 1) * h
one_more q h = omega (arith, add-mul q 1 h, one-mul h)

module _ {S : Type 0} (kind : Kind S) (n : ℕ) (root : Span S) (is : Root n root) where
  pub path_e : (path : List Side) → (span_at kind root path).e ≡ n - length path
  path_e [] = is.e ∙ (let h : n ≡ n - 0 = omega arith in h)
  path_e (left ∷ path) = let h = path_e path in omega arith
  path_e (right ∷ path) = let h = path_e path in omega arith

  -- a span that has halves on the path is longer than one position
  pub path_some : (side : Side) (path : List Side) → length (side ∷ path) ≤ n → (span_at kind root path).e ≡ 0 → ⊥
  path_some side path deep = let h = path_e path in omega arith

  pub path_full : (path : List Side) → length path ≤ n → Full (span_at kind root path)
  path_full [] deep = is.full
  path_full (left ∷ path) deep = full_left kind (span_at kind root path) (path_full path (omega arith)) (path_some left path deep)
  path_full (right ∷ path) deep = full_right kind (span_at kind root path) (path_full path (omega arith)) (path_some right path deep)

  -- the marks of a span are those of its positions in the whole word
  pub path_marks : (path : List Side) → length path ≤ n →
      (span_at kind root path).marks ≡ part root.marks (span_at kind root path).start (2 ^ (span_at kind root path).e)
  path_marks [] deep =
      sym (take_all (2 ^ root.e) root.marks (let h = is.full.marks in omega arith))
      ∙ ap (λ s. part root.marks s (2 ^ root.e)) (sym is.start)
  path_marks (left ∷ path) deep =
      let span = span_at kind root path in
      let h = split_pow span.e (path_some left path deep) in
      ap (take (half span)) (path_marks path (omega arith))
      ∙ take-take (half span) (2 ^ span.e) (drop span.start root.marks) (omega arith)
  path_marks (right ∷ path) deep =
      let span = span_at kind root path in
      let h = split_pow span.e (path_some right path deep) in
      ap (drop (half span)) (path_marks path (omega arith))
      ∙ ap (λ t. drop (half span) (take t (drop span.start root.marks))) h
      ∙ drop-take (half span) (half span) (drop span.start root.marks)
      ∙ ap (take (half span)) (drop-drop (half span) span.start root.marks)

  -- a span lies within the word, and starts at a multiple of its length
  pub path_start : (path : List Side) → length path ≤ n →
      ((span_at kind root path).start + 2 ^ (span_at kind root path).e ≤ 2 ^ n) × ((q : ℕ) × ((span_at kind root path).start ≡ q * 2 ^ (span_at kind root path).e))
  path_start [] deep = (omega (arith, is.start, ap (λ k. 2 ^ k) is.e), (0, is.start ∙ sym (zero-mul (2 ^ root.e))))
  path_start (left ∷ path) deep =
      let span = span_at kind root path in
      let h = split_pow span.e (path_some left path deep) in
      let up = path_start path (omega arith) in
      (omega (arith, up.0), (2 * up.1.0, up.1.1 ∙ ap (λ t. up.1.0 * t) h ∙ twice_times up.1.0 (half span)))
  path_start (right ∷ path) deep =
      let span = span_at kind root path in
      let h = split_pow span.e (path_some right path deep) in
      let up = path_start path (omega arith) in
      (omega (arith, up.0), (2 * up.1.0 + 1, ap (λ x. x + half span) (up.1.1 ∙ ap (λ t. up.1.0 * t) h ∙ twice_times up.1.0 (half span)) ∙ one_more (2 * up.1.0) (half span)))

  -- the row of the span at a path begins where the rows of the longer ones end
  pub rows_length : (path : List Side) → length path ≤ n → length (rows kind root path) + 2 ^ (span_at kind root path).e ≡ 2 * 2 ^ n
  rows_length [] deep = let h = is.full.values in let k : 2 ^ root.e ≡ 2 ^ n = ap (λ j. 2 ^ j) is.e in omega arith
  rows_length (left ∷ path) deep =
      let span = span_at kind root path in
      let h = split_pow span.e (path_some left path deep) in
      let up = rows_length path (omega arith) in
      let v = (path_full (left ∷ path) deep).values in
      omega (arith, length-append (rows kind root path) (left_of kind span).values)
  rows_length (right ∷ path) deep =
      let span = span_at kind root path in
      let h = split_pow span.e (path_some right path deep) in
      let up = rows_length path (omega arith) in
      let v = (path_full (right ∷ path) deep).values in
      omega (arith, length-append (rows kind root path) (right_of kind span).values)

  pub before_length : (path : List Side) → length path ≤ n → length (before kind root path) ≡ (span_at kind root path).start
  before_length [] deep = sym is.start
  before_length (left ∷ path) deep = before_length path (omega arith)
  before_length (right ∷ path) deep =
      let span = span_at kind root path in
      let l = path_full (left ∷ path) deep in
      length-append (before kind root path) (word_of kind (left_of kind span))
      ∙ ap₂ ◌+◌ (before_length path (omega arith)) (length_word kind (left_of kind span) l)
