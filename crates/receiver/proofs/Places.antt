-- Laws of the places of the work: lengths, starts, and what one step does to rows and bits. Assumes nothing.
use Rattle.std.proofs.Common.{◌≡◌, ℕ, suc, ◌+◌, ◌-◌, ◌^◌, List, [], ◌∷◌, ◌++◌, length, take, drop, replicate, sym, ap, ◌∙◌, append_assoc, arith}
use native.Mathlib.Nat.{two-pow-succ}
use Rattle.std.proofs.lemmas.List.{length-take, length-drop, append-nil}
use Rattle.soft.specs.Kind.{Kind}
use Rattle.code.specs.Transform.{join_halves}
use Rattle.cancellation.specs.Cancel.{cancel}
use Rattle.cancellation.proofs.Combined.{length-check_row, length-join_row}
use Rattle.cancellation.proofs.Messages.{length_cancel}
use Rattle.receiver.specs.Work.{Span, Full, Side, left, right}
use Rattle.receiver.specs.Work.{half, word_of, left_of, right_of, span_at, before, after, bits_at, done}

pub split_pow : (e : ℕ) → (e ≡ 0 → ⊥) → 2 ^ e ≡ 2 ^ (e - 1) + 2 ^ (e - 1)
split_pow e some = let s : suc (e - 1) ≡ e = omega arith in ap (λ k. 2 ^ k) (sym s) ∙ two-pow-succ (e - 1)

module _ {X : Type 0} (e : ℕ) (row : List X) (some : e ≡ 0 → ⊥) (long : length row ≡ 2 ^ e) where
  pub take_half : length (take (2 ^ (e - 1)) row) ≡ 2 ^ (e - 1)
  take_half = simp length-take (omega (arith, split_pow e some))

  pub drop_half : length (drop (2 ^ (e - 1)) row) ≡ 2 ^ (e - 1)
  drop_half = simp length-drop (omega (arith, split_pow e some))

module _ {S : Type 0} (kind : Kind S) where
  pub length_word : (span : Span S) → Full span → length (word_of kind span) ≡ 2 ^ span.e
  length_word span full = length_cancel kind span.e span.marks span.values full.marks full.values

  pub full_left : (span : Span S) → Full span → (span.e ≡ 0 → ⊥) → Full (left_of kind span)
  full_left span full some =
      let tv = take_half span.e span.values some full.values in
      let dv = drop_half span.e span.values some full.values in
      record {
        marks = take_half span.e span.marks some full.marks;
        values = length-check_row kind _ _ (tv ∙ sym dv) ∙ tv;
      }

  pub full_right : (span : Span S) → Full span → (span.e ≡ 0 → ⊥) → Full (right_of kind span)
  full_right span full some =
      let tv = take_half span.e span.values some full.values in
      let dv = drop_half span.e span.values some full.values in
      let ll = length_word (left_of kind span) (full_left span full some) in
      record {
        marks = drop_half span.e span.marks some full.marks;
        values = length-join_row kind _ _ _ (tv ∙ sym dv) (tv ∙ sym ll) ∙ tv;
      }

  -- the word of a split span from the words of its halves
  pub word_split : (span : Span S) → (span.e ≡ 0 → ⊥) → word_of kind span ≡ join_halves (word_of kind (left_of kind span)) (word_of kind (right_of kind span))
  unfolding cancel
  word_split span some =
      let s : span.e ≡ suc (span.e - 1) = omega arith in
      ap (λ e. cancel kind e span.marks span.values) s

  -- when a span is done its word stands at its positions
  pub done_bits : (root : Span S) (path : List Side) → bits_at kind root (done path) ≡ before kind root path ++ (word_of kind (span_at kind root path) ++ after kind root path)
  done_bits root [] = sym (append-nil (word_of kind root))
  done_bits root (left ∷ path) =
      ap (λ row. before kind root path ++ row)
      (append_assoc (word_of kind (left_of kind (span_at kind root path))) (replicate (half (span_at kind root path)) 2) (after kind root path))
  done_bits root (right ∷ path) =
      ap (λ row. before kind root path ++ row)
      (append_assoc (word_of kind (left_of kind (span_at kind root path))) (word_of kind (right_of kind (span_at kind root path))) (after kind root path))
      ∙ sym (append_assoc (before kind root path) (word_of kind (left_of kind (span_at kind root path))) (word_of kind (right_of kind (span_at kind root path)) ++ after kind root path))
