use Rattle.std.proofs.Common.{◌≡◌, ℕ, List, ◌++◌, take}
use Rattle.std.specs.Fmt.{HasWritten, IsPlainFormatter}
use Rattle.std.specs.Slice.Iter.{chunks_rest, chunks_size}
use Rattle.session.specs.Text.{bits_text}
use Rattle.session.proofs.text.BitsDisplay.fmt.Given as goal

abbrev pub invariant-loop-run : goal.invariant-loop-run
invariant-loop-run g l =
    (goal.iterator-loop-run g).can_next l.run-iterator
    × (goal.iterator-loop-run g).is_finite l.run-iterator
    × (chunks_size l.run-iterator ≡ 128)
    × (IsPlainFormatter l.initial.f → (done : List ℕ) × HasWritten g.W.Write.write_str_gives l.initial.f done l.f
    × (done ++ bits_text (chunks_rest l.run-iterator) ≡ bits_text l.self.0.now))

abbrev pub invariant-loop-bit : goal.invariant-loop-bit
invariant-loop-bit g l = IsPlainFormatter l.initial.f → HasWritten g.W.Write.write_str_gives l.initial.f (bits_text (take l.bit-index l.self.0.now)) l.f
