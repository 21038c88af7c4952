-- The row of a half, written after the row of its span. Assumes nothing.
use Rattle.std.proofs.Common.{◌≡◌, ℕ, ◌+◌, ◌*◌, ◌≤◌, List, ◌++◌, length, take, drop, sym, ◌∙◌, ap₂, arith}
use borrow.Rule.Slice.PartMut.{put_mid}
use Rattle.code.specs.Spans.{part}
use Rattle.soft.specs.Kind.{Kind}
use Rattle.cancellation.specs.Rows.{check_row, join_row}
use Rattle.cancellation.proofs.Combined.{length-check_row, length-join_row}
use Rattle.receiver.specs.Stacks.{overwritten}
use Rattle.receiver.proofs.PartWrites.{part_first, part_second, length_part, end_written}

module _ {S : Type 0} (kind : Kind S) where
  -- how long the part is that is handed over
  pub three_halves : (soft : List S) (base half k : ℕ) → k ≡ 3 * half → base + 3 * half ≤ length soft → length (take k (drop base soft)) ≡ 3 * half
  three_halves soft base half k is within = length_part soft base k (omega arith) ∙ is

  pub left_written : (soft now : List S) (base half k : ℕ) → k ≡ 3 * half → base + 3 * half ≤ length soft →
      now ≡ take (2 * half) (take k (drop base soft)) ++ check_row kind (take half (take k (drop base soft))) (take half (drop half (take k (drop base soft)))) →
      put_mid base k soft now ≡ overwritten soft (base + 2 * half) (check_row kind (part soft base half) (part soft (base + half) half))
  left_written soft now base half k is within made =
      let row = check_row kind (part soft base half) (part soft (base + half) half) in
      let a = length_part soft base half (omega arith) in
      let b = length_part soft (base + half) half (omega arith) in
      let lr : length row ≡ half = length-check_row kind (part soft base half) (part soft (base + half) half) (a ∙ sym b) ∙ a in
      end_written soft row now base (2 * half) k
      (made ∙ ap₂ (λ x y. take (2 * half) (take k (drop base soft)) ++ check_row kind x y) (part_first soft base half k (omega arith)) (part_second soft base half half k (omega arith)))
      (omega arith) (omega arith)

  pub right_written : (soft now : List S) (left : List ℕ) (base half k : ℕ) → k ≡ 3 * half → base + 3 * half ≤ length soft → length left ≡ half →
      now ≡ take (2 * half) (take k (drop base soft)) ++ join_row kind (take half (take k (drop base soft))) (take half (drop half (take k (drop base soft)))) left →
      put_mid base k soft now ≡ overwritten soft (base + 2 * half) (join_row kind (part soft base half) (part soft (base + half) half) left)
  right_written soft now left base half k is within long made =
      let row = join_row kind (part soft base half) (part soft (base + half) half) left in
      let a = length_part soft base half (omega arith) in
      let b = length_part soft (base + half) half (omega arith) in
      let lr : length row ≡ half = length-join_row kind (part soft base half) (part soft (base + half) half) left (a ∙ sym b) (a ∙ sym long) ∙ a in
      end_written soft row now base (2 * half) k
      (made ∙ ap₂ (λ x y. take (2 * half) (take k (drop base soft)) ++ join_row kind x y left) (part_first soft base half k (omega arith)) (part_second soft base half half k (omega arith)))
      (omega arith) (omega arith)
