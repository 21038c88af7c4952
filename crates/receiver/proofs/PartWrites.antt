-- A part of memory that was lent and written, as the memory after it. Assumes nothing.
use Rattle.std.proofs.Common.{◌≡◌, ℕ, ◌+◌, ◌-◌, ◌≤◌, List, ◌++◌, length, take, drop, sym, ap, ◌∙◌, append_assoc, arith, take-append-drop}
use borrow.Rule.Slice.PartMut.{put_mid, post_of}
use Rattle.std.proofs.lemmas.List.{length-drop, take-take, drop-drop, drop-take, length-take-le}
use Rattle.code.specs.Spans.{part}
use Rattle.receiver.specs.Stacks.{overwritten}
use Rattle.receiver.proofs.Overwrites.{take_beyond}

module _ {X : Type 0} where
  pub put_is : (xs ys : List X) (at k : ℕ) → length ys ≡ k → put_mid at k xs ys ≡ overwritten xs at ys
  unfolding overwritten
  put_is xs ys at k long = ap (λ r. take at xs ++ (ys ++ r)) (drop-drop k at xs ∙ ap (λ j. drop (at + j) xs) (sym long))

  pub part_first : (xs : List X) (at h k : ℕ) → h ≤ k → take h (take k (drop at xs)) ≡ part xs at h
  part_first xs at h k le = take-take h k (drop at xs) le

  pub part_second : (xs : List X) (at h j k : ℕ) → h + j ≤ k → take j (drop h (take k (drop at xs))) ≡ part xs (at + h) j
  part_second xs at h j k le =
      let split : k ≡ h + (k - h) = omega arith in
      ap (λ m. take j (drop h (take m (drop at xs)))) split
      ∙ ap (take j) (drop-take h (k - h) (drop at xs))
      ∙ take-take j (k - h) (drop h (drop at xs)) (omega arith)
      ∙ ap (take j) (drop-drop h at xs)

  pub length_part : (xs : List X) (at t : ℕ) → at + t ≤ length xs → length (part xs at t) ≡ t
  length_part xs at t within = length-take-le t (drop at xs) (omega (arith, length-drop at xs))

  take_split : (xs : List X) (at j : ℕ) → at ≤ length xs → take (at + j) xs ≡ take at xs ++ take j (drop at xs)
  take_split xs at j room =
      ap (take (at + j)) (sym (take-append-drop at xs)) ∙ take_beyond (take at xs) (drop at xs) at j (length-take-le at xs room)

  -- a part whose front stayed and whose end was written
  pub end_written : (xs ys now : List X) (at j k : ℕ) → now ≡ take j (take k (drop at xs)) ++ ys → j + length ys ≡ k → at + k ≤ length xs →
      put_mid at k xs now ≡ overwritten xs (at + j) ys
  unfolding overwritten
  end_written xs ys now at j k is long within =
      let front : take j (take k (drop at xs)) ≡ take j (drop at xs) = take-take j k (drop at xs) (omega arith) in
      let lf : length (take j (drop at xs)) ≡ j = length-take-le j (drop at xs) (omega (arith, length-drop at xs)) in
      let kk : at + k ≡ (at + j) + length ys = omega arith in
      ap (λ r. take at xs ++ (r ++ post_of at k xs)) (is ∙ ap (λ r. r ++ ys) front)
      ∙ ap (λ r. take at xs ++ ((take j (drop at xs) ++ ys) ++ r)) (drop-drop k at xs ∙ ap (λ m. drop m xs) kk)
      ∙ ap (λ r. take at xs ++ r) (append_assoc (take j (drop at xs)) ys (drop ((at + j) + length ys) xs))
      ∙ sym (append_assoc (take at xs) (take j (drop at xs)) (ys ++ drop ((at + j) + length ys) xs))
      ∙ ap (λ r. r ++ (ys ++ drop ((at + j) + length ys) xs)) (sym (take_split xs at j (omega arith)))
