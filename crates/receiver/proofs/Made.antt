-- Each step, from what its functions promise to where the work then stands. Assumes nothing.
use Rattle.std.proofs.Common.{◌≡◌, ℕ, suc, ◌+◌, ◌-◌, ◌*◌, ◌^◌, ◌<◌, ◌≤◌, cond, List, [], ◌∷◌, ◌++◌, length, take, drop, set, Some, None, Ok, Err, Option, sym, refl, ap, ◌∙◌, subst, ap₂, arith}
use Rattle.std.proofs.lemmas.List.{take_more_set, length-set, take_at, drop_at, take_all, length-drop}
use Rattle.code.specs.declared.kinds.SpanKind.{SpanKind}
use Rattle.code.specs.declared.faults.MapFault.{MapFault}
use Rattle.code.specs.Spans.{kind_of, pattern, part, kind_answer, Means}
use Rattle.code.specs.Transform.{join_halves}
use Rattle.soft.specs.Kind.{Kind}
use Rattle.cancellation.specs.Rows.{check_row, join_row}
use Rattle.cancellation.specs.Cancel.{cancel}
use Rattle.receiver.specs.declared.memory.Step.{Step}
use Rattle.receiver.specs.declared.memory.Next.TheVariants as next
use Rattle.receiver.specs.Coherence.{kept, pending_of, around, Open, Coherent}
use Rattle.receiver.specs.Stacks.{overwritten, top_of}
use Rattle.receiver.specs.Steps.{settled_by, base, with_half}
use Rattle.receiver.specs.Work.{Caps, Span, Root, Side, left, right, Next, first, second, final, Place, at, half, word_of, left_of, right_of, span_at, rows, done, stepped}
use Rattle.receiver.proofs.Places.{split_pow, full_left, full_right, length_word, word_split}
use Rattle.receiver.proofs.Paths.{path_e, path_full, path_start, rows_length}
use Rattle.receiver.proofs.Overwrites.{take_front}
use Rattle.receiver.proofs.PartWrites.{part_first, part_second}
use Rattle.receiver.proofs.SpansAsked.{kind_marks, path_kind, path_settled, path_split}
use Rattle.receiver.proofs.Counts.{unsettled_some}
use Rattle.receiver.proofs.Tops.{top_known}
use Rattle.receiver.proofs.StepLaws.{span_done, row_there, bits_there, word_written, left_made, right_made, around_length}

-- a later step of a span in the place of the top, and a step of one of its halves above it
two_pushed : (outer : List Step) (last later half : Step) (steps : List Step) (below : ℕ) → take (below + 1) steps ≡ outer ++ (last ∷ []) → below ≡ length outer → below + 1 < length steps →
    take (below + 2) (with_half steps below later half) ≡ (outer ++ (later ∷ [])) ++ (half ∷ [])
two_pushed outer last later half steps below known high room =
    let two : below + 2 ≡ below + 1 + 1 = omega arith in
    let front : take below steps ≡ outer =
    take_front below steps (outer ++ (last ∷ [])) (below + 1) (omega arith) known ∙ take_at outer (last ∷ []) below (sym high) in
    ap (λ k. take k (with_half steps below later half)) two
    ∙ take_more_set (set steps below later) (below + 1) half (omega (arith, length-set steps below later))
    ∙ ap (λ r. r ++ (half ∷ [])) (take_more_set steps below later (omega arith) ∙ ap (λ r. r ++ (later ∷ [])) front)

-- the same height and memory
pub coherent_as : {S : Type 0} (kind : Kind S) (n : ℕ) (root : Span S) (place : Place) (h : ℕ) (soft : List S) (steps : List Step) (row : List ℕ) {h' : ℕ} {soft' : List S} {steps' : List Step} {row' : List ℕ} →
    h' ≡ h → soft' ≡ soft → steps' ≡ steps → row' ≡ row → Coherent kind n root place h soft steps row → Coherent kind n root place h' soft' steps' row'
coherent_as kind n root place h soft steps row {h'} {soft'} {steps'} {row'} a b c d was =
    subst (λ z. Coherent kind n root place z soft' steps' row') (sym a)
    (subst (λ z. Coherent kind n root place h z steps' row') (sym b)
    (subst (λ z. Coherent kind n root place h soft z row') (sym c)
    (subst (λ z. Coherent kind n root place h soft steps z) (sym d) was)))

-- what holds of each place where this comes next holds of one where it was found to come next
pub for_next : {S : Type 0} (kind : Kind S) (n : ℕ) (root : Span S) (caps : Caps) (path : List Side) (nxt found : Next) → nxt ≡ found →
    (height height' : ℕ) (soft soft' : List S) (steps steps' : List Step) (row row' : List ℕ) →
    (Open kind n root found path height soft steps row → Coherent kind n root (stepped kind root caps (at found path)) height' soft' steps' row') →
    Open kind n root nxt path height soft steps row → Coherent kind n root (stepped kind root caps (at nxt path)) height' soft' steps' row'
for_next kind n root caps path nxt found is height height' soft soft' steps steps' row row' =
    subst (λ x. (Open kind n root x path height soft steps row → Coherent kind n root (stepped kind root caps (at x path)) height' soft' steps' row') →
    Open kind n root nxt path height soft steps row → Coherent kind n root (stepped kind root caps (at nxt path)) height' soft' steps' row') is (λ f. f)

module _ {S : Type 0} (kind : Kind S) (n : ℕ) (marks : List ℕ) (means : Means n marks) (root : Span S) (is : Root n root) (these : root.marks ≡ marks) (path : List Side) where
  -- the kind that the map answers
  pub kind_known : length path ≤ n → (s t : ℕ) (o : Option SpanKind) → s ≡ (span_at kind root path).start → t ≡ 2 ^ (span_at kind root path).e →
      Ok o ≡ kind_answer n marks s t → o ≡ kind_of (span_at kind root path).marks
  kind_known deep s t o hs ht answered =
      let known = ap₂ (kind_answer n marks) hs ht ∙ path_kind kind n marks root is these path deep in cc

  -- the map does not refuse a span of the word
  pub kind_refused : length path ≤ n → (s t : ℕ) (f : MapFault) → s ≡ (span_at kind root path).start → t ≡ 2 ^ (span_at kind root path).e →
      Err f ≡ kind_answer n marks s t → ⊥
  kind_refused deep s t f hs ht answered =
      let never : Err f ≡ Ok (kind_of (span_at kind root path).marks) = answered ∙ ap₂ (kind_answer n marks) hs ht ∙ path_kind kind n marks root is these path deep in
      let z : ◌≡◌ {A = ℕ} 0 1 = cc in omega arith

-- the steps of the smallest open span
module _ {S : Type 0} (kind : Kind S) (n : ℕ) (root : Span S) (is : Root n root) (path : List Side) (caps : Caps) (nxt : Next) (below : ℕ) (soft : List S) (steps : List Step) (bits : List ℕ) (was : Open kind n root nxt path (below + 1) soft steps bits) (room : 2 ^ n ≤ length bits) where
  -- the word of a span that has a kind is what its rule gives
  rule_word : (k : SpanKind) (e b : ℕ) → e ≡ (span_at kind root path).e → b ≡ base n e → kind_of (span_at kind root path).marks ≡ Some k →
      cancel kind e (pattern k (2 ^ e)) (part soft b (2 ^ e)) ≡ word_of kind (span_at kind root path)
  rule_word k e b he hb known =
      let span = span_at kind root path in
      let full = path_full kind n root is path was.deep in
      let these-marks : pattern k (2 ^ span.e) ≡ span.marks = ap (pattern k) (sym full.marks) ∙ sym (kind_marks span.marks k known) in
      ap₂ (λ x y. cancel kind x (pattern k (2 ^ x)) (part soft y (2 ^ x))) he (hb ∙ ap (base n) he)
      ∙ ap₂ (cancel kind span.e) these-marks (row_there kind n root is nxt path (below + 1) soft steps bits was)

  pub settle_follows : (marks : List ℕ) → Means n marks → root.marks ≡ marks → nxt ≡ first → (k : SpanKind) (s e b : ℕ) (soft' : List S) (bits' : List ℕ) → s ≡ (span_at kind root path).start → e ≡ (span_at kind root path).e → b ≡ base n e →
      settled_by caps e (kind_of (span_at kind root path).marks) ≡ Some k → take b soft' ≡ take b soft →
      bits' ≡ overwritten bits s (cancel kind e (pattern k (2 ^ e)) (part soft b (2 ^ e))) →
      Coherent kind n root (stepped kind root caps (at first path)) below soft' steps bits'
  settle_follows marks means these isFirst k s e b soft' bits' hs he hb found kept written =
      let span = span_at kind root path in
      let b' = hb ∙ ap (base n) he in
      let both = path_settled kind n marks root is these path was.deep caps k (ap (λ x. settled_by caps x (kind_of span.marks)) (sym he) ∙ found) in
      let word = rule_word k e b he hb both.1 in
      let long : length (word_of kind span) ≡ 2 ^ span.e = length_word kind span (path_full kind n root is path was.deep) in
      let stands = ap (take (2 ^ n)) (written ∙ ap₂ (overwritten bits) hs word) ∙ word_written kind n root is nxt path (below + 1) soft steps bits was (word_of kind span) room long in
      let less : below + 1 - 1 ≡ below = omega arith in
      let all = subst (λ k. Coherent kind n root (done path) k soft' steps bits') less
      (span_done kind n root is nxt path (below + 1) soft soft' steps bits bits' was (ap (λ x. take x soft') (sym b') ∙ kept ∙ ap (λ x. take x soft) b') stands) in
      let place : stepped kind root caps (at first path) ≡ done path = ap (λ t. cond t (done path) (at first (left ∷ path))) both.0 in
      subst (λ p. Coherent kind n root p below soft' steps bits') (sym place) all

  -- the halves of the last row
  front_half : (e b h : ℕ) → e ≡ (span_at kind root path).e → b ≡ base n e → h ≡ 2 ^ (e - 1) → (e ≡ 0 → ⊥) → part soft b h ≡ take (half (span_at kind root path)) (span_at kind root path).values
  front_half e b h he hb hh some =
      let span = span_at kind root path in
      let le : 2 ^ (span.e - 1) ≤ 2 ^ span.e = omega (arith, split_pow span.e (λ z. some (he ∙ z))) in
      ap₂ (part soft) (hb ∙ ap (base n) he) (hh ∙ ap (λ x. 2 ^ (x - 1)) he)
      ∙ sym (part_first soft (base n span.e) (half span) (2 ^ span.e) le)
      ∙ ap (take (half span)) (row_there kind n root is nxt path (below + 1) soft steps bits was)

  back_half : (e b h : ℕ) → e ≡ (span_at kind root path).e → b ≡ base n e → h ≡ 2 ^ (e - 1) → (e ≡ 0 → ⊥) → part soft (b + h) h ≡ drop (half (span_at kind root path)) (span_at kind root path).values
  back_half e b h he hb hh some =
      let span = span_at kind root path in
      let full = path_full kind n root is path was.deep in
      let two = split_pow span.e (λ z. some (he ∙ z)) in
      let h' : h ≡ half span = hh ∙ ap (λ x. 2 ^ (x - 1)) he in
      ap₂ (λ x y. part soft (x + y) y) (hb ∙ ap (base n) he) h'
      ∙ sym (part_second soft (base n span.e) (half span) (half span) (2 ^ span.e) (omega arith))
      ∙ ap (λ r. take (half span) (drop (half span) r)) (row_there kind n root is nxt path (below + 1) soft steps bits was)
      ∙ take_all (half span) (drop (half span) span.values) (omega (arith, length-drop (half span) span.values, full.values))

  -- the row of a half begins where the rows of the open spans end
  rows_end : (e b h : ℕ) → e ≡ (span_at kind root path).e → b ≡ base n e → h ≡ 2 ^ (e - 1) → (e ≡ 0 → ⊥) → b + 2 * h ≡ length (rows kind root path)
  rows_end e b h he hb hh some =
      let span = span_at kind root path in
      let l = rows_length kind n root is path was.deep in
      let fits = (path_start kind n root is path was.deep).0 in
      let e' : 2 ^ e ≡ 2 ^ span.e = ap (λ x. 2 ^ x) he in
      let two = split_pow e some in
      omega arith

  pub left_follows : (marks : List ℕ) → Means n marks → root.marks ≡ marks → nxt ≡ first → (s e b h : ℕ) (soft' : List S) (steps' : List Step) → s ≡ (span_at kind root path).start → e ≡ (span_at kind root path).e → b ≡ base n e → h ≡ 2 ^ (e - 1) →
      2 * 2 ^ n ≤ length soft → below + 1 < length steps →
      settled_by caps e (kind_of (span_at kind root path).marks) ≡ None →
      soft' ≡ overwritten soft (b + 2 * h) (check_row kind (part soft b h) (part soft (b + h) h)) →
      steps' ≡ with_half steps below (pending_of second (span_at kind root path)) (pending_of first (left_of kind (span_at kind root path))) →
      Coherent kind n root (stepped kind root caps (at first path)) (below + 2) soft' steps' bits
  left_follows marks means these isFirst s e b h soft' steps' hs he hb hh roomy more found written pushed =
      let span = span_at kind root path in
      let unsettled = path_split kind n marks root is these path was.deep means caps (ap (λ x. settled_by caps x (kind_of span.marks)) (sym he) ∙ found) in
      let long = unsettled_some caps span unsettled in
      let some : e ≡ 0 → ⊥ = λ z. long (sym he ∙ z) in
      let first-was : Open kind n root first path (below + 1) soft steps bits = subst (λ x. Open kind n root x path (below + 1) soft steps bits) isFirst was in
      let row : soft' ≡ overwritten soft (length (rows kind root path)) (left_of kind span).values =
      written ∙ ap₂ (overwritten soft) (rows_end e b h he hb hh some) (ap₂ (check_row kind) (front_half e b h he hb hh some) (back_half e b h he hb hh some)) in
      let two : suc (below + 1) ≡ below + 2 = omega arith in
      let top = ap₂ take two pushed ∙ two_pushed (around kind root path) _ _ _ steps below was.pending (omega (arith, was.high, around_length kind n root is path)) more in
      let all = left_made kind n root is path (below + 1) soft steps steps' bits first-was long roomy top in
      let place : stepped kind root caps (at first path) ≡ at first (left ∷ path) = ap (λ t. cond t (done path) (at first (left ∷ path))) unsettled in
      subst (λ p. Coherent kind n root p (below + 2) soft' steps' bits) (sym place)
      (subst (λ k. Open kind n root first (left ∷ path) k soft' steps' bits) two
      (subst (λ r. Open kind n root first (left ∷ path) (suc (below + 1)) r steps' bits) (sym row) all))

  pub right_follows : nxt ≡ second → (s e b h : ℕ) (soft' : List S) (steps' : List Step) → s ≡ (span_at kind root path).start → e ≡ (span_at kind root path).e → b ≡ base n e → h ≡ 2 ^ (e - 1) →
      2 * 2 ^ n ≤ length soft → below + 1 < length steps → (e ≡ 0 → ⊥) →
      soft' ≡ overwritten soft (b + 2 * h) (join_row kind (part soft b h) (part soft (b + h) h) (part bits s h)) →
      steps' ≡ with_half steps below (pending_of final (span_at kind root path)) (pending_of first (right_of kind (span_at kind root path))) →
      Coherent kind n root (stepped kind root caps (at second path)) (below + 2) soft' steps' bits
  right_follows isSecond s e b h soft' steps' hs he hb hh roomy more some written pushed =
      let span = span_at kind root path in
      let second-was : Open kind n root second path (below + 1) soft steps bits = subst (λ x. Open kind n root x path (below + 1) soft steps bits) isSecond was in
      let long : span.e ≡ 0 → ⊥ = λ z. some (he ∙ z) in
      let full = path_full kind n root is path was.deep in
      let ll = length_word kind (left_of kind span) (full_left kind span full long) in
      let h' : h ≡ half span = hh ∙ ap (λ x. 2 ^ (x - 1)) he in
      let two = split_pow span.e long in
      let bits_left : part bits s h ≡ word_of kind (left_of kind span) =
      ap₂ (part bits) hs h'
      ∙ sym (part_first bits span.start (half span) (2 ^ span.e) (omega arith))
      ∙ ap (take (half span)) (bits_there kind n root is second path (below + 1) soft steps bits second-was)
      ∙ take_at (word_of kind (left_of kind span)) _ (half span) ll in
      let row : soft' ≡ overwritten soft (length (rows kind root path)) (right_of kind span).values =
      written ∙ ap₂ (overwritten soft) (rows_end e b h he hb hh some)
      (ap₂ (λ x y. join_row kind x y (part bits s h)) (front_half e b h he hb hh some) (back_half e b h he hb hh some) ∙ ap (join_row kind (take (half span) span.values) (drop (half span) span.values)) bits_left) in
      let two : suc (below + 1) ≡ below + 2 = omega arith in
      let top = ap₂ take two pushed ∙ two_pushed (around kind root path) _ _ _ steps below was.pending (omega (arith, was.high, around_length kind n root is path)) more in
      let all = right_made kind n root is path (below + 1) soft steps steps' bits second-was roomy top in
      subst (λ k. Open kind n root first (right ∷ path) k soft' steps' bits) two
      (subst (λ r. Open kind n root first (right ∷ path) (suc (below + 1)) r steps' bits) (sym row) all)

  pub final_follows : nxt ≡ final → (s e h : ℕ) (bits' : List ℕ) → s ≡ (span_at kind root path).start → e ≡ (span_at kind root path).e → h ≡ 2 ^ (e - 1) → (e ≡ 0 → ⊥) →
      bits' ≡ overwritten bits s (join_halves (part bits s h) (part bits (s + h) h)) →
      Coherent kind n root (stepped kind root caps (at final path)) below soft steps bits'
  final_follows isFinal s e h bits' hs he hh some written =
      let span = span_at kind root path in
      let final-was : Open kind n root final path (below + 1) soft steps bits = subst (λ x. Open kind n root x path (below + 1) soft steps bits) isFinal was in
      let long : span.e ≡ 0 → ⊥ = λ z. some (he ∙ z) in
      let full = path_full kind n root is path was.deep in
      let ll = length_word kind (left_of kind span) (full_left kind span full long) in
      let lr = length_word kind (right_of kind span) (full_right kind span full long) in
      let h' : h ≡ half span = hh ∙ ap (λ x. 2 ^ (x - 1)) he in
      let two = split_pow span.e long in
      let there = bits_there kind n root is final path (below + 1) soft steps bits final-was in
      let bits_left : part bits s h ≡ word_of kind (left_of kind span) =
      ap₂ (part bits) hs h'
      ∙ sym (part_first bits span.start (half span) (2 ^ span.e) (omega arith))
      ∙ ap (take (half span)) there ∙ take_at (word_of kind (left_of kind span)) _ (half span) ll in
      let bits-right : part bits (s + h) h ≡ word_of kind (right_of kind span) =
      ap₂ (λ x y. part bits (x + y) y) hs h'
      ∙ sym (part_second bits span.start (half span) (half span) (2 ^ span.e) (omega arith))
      ∙ ap (λ r. take (half span) (drop (half span) r)) there
      ∙ ap (take (half span)) (drop_at (word_of kind (left_of kind span)) _ (half span) ll)
      ∙ take_all (half span) (word_of kind (right_of kind span)) (omega arith) in
      let word : join_halves (part bits s h) (part bits (s + h) h) ≡ word_of kind span = ap₂ join_halves bits_left bits-right ∙ sym (word_split kind span long) in
      let stands = ap (take (2 ^ n)) (written ∙ ap₂ (overwritten bits) hs word) ∙ word_written kind n root is final path (below + 1) soft steps bits final-was (word_of kind span) room (length_word kind span full) in
      let less : below + 1 - 1 ≡ below = omega arith in
      subst (λ k. Coherent kind n root (done path) k soft steps bits') less (span_done kind n root is final path (below + 1) soft soft steps bits bits' final-was refl stands)

-- what comes next, told by what is kept
next_first : (nxt : Next) → kept nxt ≡ next.First → nxt ≡ first
next_first first h = refl
next_first second h = let z : ◌≡◌ {A = ℕ} 0 1 = cc in absurd (omega arith)
next_first final h = let z : ◌≡◌ {A = ℕ} 0 1 = cc in absurd (omega arith)

next_second : (nxt : Next) → kept nxt ≡ next.Second → nxt ≡ second
next_second first h = let z : ◌≡◌ {A = ℕ} 0 1 = cc in absurd (omega arith)
next_second second h = refl
next_second final h = let z : ◌≡◌ {A = ℕ} 0 1 = cc in absurd (omega arith)

next_final : (nxt : Next) → kept nxt ≡ next.Final → nxt ≡ final
next_final first h = let z : ◌≡◌ {A = ℕ} 0 1 = cc in absurd (omega arith)
next_final second h = let z : ◌≡◌ {A = ℕ} 0 1 = cc in absurd (omega arith)
next_final final h = refl

-- the step that is found on top of the pending ones is that of the smallest open span
module _ {S : Type 0} (kind : Kind S) (n : ℕ) (root : Span S) (is : Root n root) (nxt : Next) (path : List Side) (height : ℕ) (soft : List S) (steps : List Step) (bits : List ℕ) (was : Open kind n root nxt path height soft steps bits) where
  pub top_is : top_of height steps ≡ Some (pending_of nxt (span_at kind root path))
  top_is = top_known (around kind root path) _ steps height was.pending (was.high ∙ ap suc (sym (around_length kind n root is path)))

  pub found_top : (step : Step) → Some step ≡ top_of height steps → step ≡ pending_of nxt (span_at kind root path)
  found_top step found = let is = top_is in cc

  pub found_e : (step : Step) → Some step ≡ top_of height steps → step.e ≤ n
  found_e step found = omega (arith, ap (λ s. s.e) (found_top step found), path_e kind n root is path)

  pub found_start : (step : Step) → Some step ≡ top_of height steps → step.start + 2 ^ step.e ≤ 2 ^ n
  found_start step found =
      let top = found_top step found in
      let fits = (path_start kind n root is path was.deep).0 in
      omega (arith, ap (λ s. s.start) top, ap (λ s. 2 ^ s.e) top)

  -- the first step, the right step and the final step of the smallest open span, as what comes next was kept
  module _ (step : Step) (found : Some step ≡ top_of height steps) where
    pub at_first : step.next ≡ next.First → (step ≡ pending_of first (span_at kind root path)) × (nxt ≡ first)
    at_first is-first =
        let top = found_top step found in
        let e = next_first nxt (sym (ap (λ s. s.next) top) ∙ is-first) in
        (top ∙ ap (λ x. pending_of x (span_at kind root path)) e, e)

    pub at_second : step.next ≡ next.Second → (step ≡ pending_of second (span_at kind root path)) × (nxt ≡ second)
    at_second is-second =
        let top = found_top step found in
        let e = next_second nxt (sym (ap (λ s. s.next) top) ∙ is-second) in
        (top ∙ ap (λ x. pending_of x (span_at kind root path)) e, e)

    pub at_final : step.next ≡ next.Final → (step ≡ pending_of final (span_at kind root path)) × (nxt ≡ final)
    at_final is-final =
        let top = found_top step found in
        let e = next_final nxt (sym (ap (λ s. s.next) top) ∙ is-final) in
        (top ∙ ap (λ x. pending_of x (span_at kind root path)) e, e)
