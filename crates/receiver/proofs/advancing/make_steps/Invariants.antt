use Rattle.std.proofs.Common.{◌≡◌, ◌^◌, ◌≤◌, drop}
use Rattle.receiver.specs.Capping.{caps_of}
use Rattle.receiver.specs.Coherence.{Coherent}
use Rattle.receiver.specs.Lent.{SameLoans}
use Rattle.receiver.specs.Work.{Span, Root, Place}
use Rattle.receiver.proofs.Walks.{Walked}
use Rattle.receiver.proofs.advancing.make_steps.Given as goal

abbrev pub invariant-loop-made : goal.invariant-loop-made
invariant-loop-made g l =
    let kind = g.S.Soft.kind in
    let n = g.M.Map.exponent l.map in
    record {
      walked : (root : Span g.row.S.Denot) (place : Place) → Root n root → root.marks ≡ g.M.Map.marks l.map →
          Coherent kind n root place l.from l.initial.memory.soft.now l.initial.memory.pending.now l.initial.memory.bits.now →
          Walked kind n root (caps_of l.caps) place l.made l.height l.memory.soft.now l.memory.pending.now l.memory.bits.now;
      few : l.height ≤ 64;
      beyond : drop (2 ^ n) l.memory.bits.now ≡ drop (2 ^ n) l.initial.memory.bits.now;
      lent : SameLoans l.initial.memory l.memory;
    }
