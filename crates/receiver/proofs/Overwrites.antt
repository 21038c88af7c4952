-- What a write to a part of a list leaves. Assumes nothing.
use Rattle.std.proofs.Common.{◌≡◌, ℕ, ◌+◌, ◌-◌, ◌≤◌, List, ◌++◌, length, take, drop, sym, ap, ◌∙◌, ap₂, append_assoc, arith}
use Rattle.std.proofs.lemmas.List.{length-append, length-take, take-take, take_at, drop_at, drop-take}
use Rattle.std.proofs.Math.Seq.{take-append-add}
use Rattle.code.specs.Spans.{part}
use Rattle.receiver.specs.Stacks.{overwritten}

module _ {X : Type 0} where
  -- as many as a list has and some more
  pub take_beyond : (p q : List X) (k j : ℕ) → length p ≡ k → take (k + j) (p ++ q) ≡ p ++ take j q
  take_beyond p q k j is = ap (λ m. take (m + j) (p ++ q)) (sym is) ∙ take-append-add p q j

  -- the front and the rest of what begins with a known list
  pub take_front : (m : ℕ) (xs p : List X) (k : ℕ) → m ≤ k → take k xs ≡ p → take m xs ≡ take m p
  take_front m xs p k le is = sym (take-take m k xs le) ∙ ap (take m) is

  -- a known front that goes on with what was written
  pub take_extended : (xs ys p : List X) (k : ℕ) → k ≤ length xs → take k xs ≡ p → take (k + length ys) (overwritten xs k ys) ≡ p ++ ys
  unfolding overwritten
  take_extended xs ys p k room is =
      let l : length (take k xs ++ ys) ≡ k + length ys = length-append (take k xs) ys ∙ omega (arith, length-take k xs) in
      ap (take (k + length ys)) (sym (append_assoc (take k xs) ys (drop (k + length ys) xs)))
      ∙ take_at (take k xs ++ ys) (drop (k + length ys) xs) (k + length ys) l
      ∙ ap (λ front. front ++ ys) is

  -- a part of a known front
  pub part_known : (xs a m b : List X) (total at t : ℕ) → take total xs ≡ a ++ (m ++ b) → length a ≡ at → length m ≡ t → at + t ≤ total → part xs at t ≡ m
  part_known xs a m b total at t is la lm within =
      let rest : drop at (take total xs) ≡ m ++ b = ap (drop at) is ∙ drop_at a (m ++ b) at la in
      let split : total ≡ at + (total - at) = omega arith in
      sym (take-take t (total - at) (drop at xs) (omega arith))
      ∙ ap (take t) (sym (drop-take at (total - at) xs) ∙ ap (λ k. drop at (take k xs)) (sym split) ∙ rest)
      ∙ take_at m b t lm

  -- a part of a known front is overwritten
  pub known_overwritten : (xs ys a m b : List X) (total at : ℕ) → take total xs ≡ a ++ (m ++ b) → length a ≡ at → length m ≡ length ys →
      at + length ys ≤ total → total ≤ length xs → take total (overwritten xs at ys) ≡ a ++ (ys ++ b)
  unfolding overwritten
  known_overwritten xs ys a m b total at is la lm within room =
      let front : take at xs ≡ a = take_front at xs (a ++ (m ++ b)) total (omega arith) is ∙ take_at a (m ++ b) at la in
      let split : total ≡ (at + length ys) + (total - (at + length ys)) = omega arith in
      let back : take (total - (at + length ys)) (drop (at + length ys) xs) ≡ b =
      sym (drop-take (at + length ys) (total - (at + length ys)) xs)
      ∙ ap (λ k. drop (at + length ys) (take k xs)) (sym split)
      ∙ ap (drop (at + length ys)) (is ∙ sym (append_assoc a m b))
      ∙ drop_at (a ++ m) b (at + length ys) (length-append a m ∙ omega arith) in
      let l : length (take at xs ++ ys) ≡ at + length ys = length-append (take at xs) ys ∙ omega (arith, length-take at xs) in
      ap (take total) (sym (append_assoc (take at xs) ys (drop (at + length ys) xs)))
      ∙ ap (λ k. take k ((take at xs ++ ys) ++ drop (at + length ys) xs)) split
      ∙ take_beyond (take at xs ++ ys) (drop (at + length ys) xs) (at + length ys) (total - (at + length ys)) l
      ∙ append_assoc (take at xs) ys (take (total - (at + length ys)) (drop (at + length ys) xs))
      ∙ ap₂ (λ p q. p ++ (ys ++ q)) front back
