use Rattle.std.proofs.Common.{◌≡◌, ◌+◌, ◌<◌, ◌≤◌, ◌++◌, length, take, drop, sym, ap, ◌∙◌, ap₂, arith}
use Rattle.std.proofs.lemmas.List.{at_drop_all, take_all, append-nil}
use Rattle.std.proofs.lemmas.Bool.{eqb-true, eqb-false}
use Rattle.code.specs.Encode.{informed_count, informed}
use Rattle.code.proofs.Laying.{count_informed, count_frozen, informed_here, informed_not, laid_more}
use Rattle.code.proofs.encode.gather.Goals as goal
use Rattle.code.proofs.encode.gather.Goals.{then-is_informed, else-is_informed}

-- Kept, `within` here and in `lay`: a lemma would take the same facts as arguments and be as long.
pub bounds-message-next : goal.bounds-message-next
bounds-message-next g c =
    let marks = g.M.Map.marks c.args.map.now in
    let within : c.loop-p.p < length marks = omega (arith, c.requires.0, c.loop-p-test.true) in
    omega (arith, count_informed marks c.loop-p.p within (eqb-true _ 1 (sym c.if-is_informed.ensures)), c.loop-p.invariant.1, c.loop-p.auto.message)

pub loop-p-preserved : goal.loop-p-preserved
loop-p-preserved g c =
    let marks = g.M.Map.marks c.args.map.now in
    let bits = c.args.bits.now in
    let within : c.loop-p.p < length marks = omega (arith, c.requires.0, c.loop-p-test.true) in
    elim c.if-is_informed.branch [
      | then-is_informed w ↦
          let one = eqb-true _ 1 (sym w.if-is_informed.ensures) in
          let h = count_informed marks c.loop-p.p within one in
          let room : c.loop-p.next < length c.loop-p.message = omega (arith, h, c.loop-p.invariant.1, c.loop-p.auto.message) in (
            ap₂ (λ k row. take k row ++ informed (drop (c.loop-p.p + 1) marks) (drop (c.loop-p.p + 1) bits)) w.next-is w.message-is
                ∙ laid_more c.loop-p.message (informed marks bits) _ c.loop-p.next _ room
                (ap (λ rest. take c.loop-p.next c.loop-p.message ++ rest) (sym (informed_here marks bits c.loop-p.p within c.requires.0 one)) ∙ c.loop-p.invariant.0),
            omega (arith, h, w.next-is, c.loop-p.invariant.1),
          )
      | else-is_informed w ↦
          let other = eqb-false _ 1 (sym w.if-is_informed.ensures) in
          let h = count_frozen marks c.loop-p.p within other in (
            ap₂ (λ k row. take k row ++ informed (drop (c.loop-p.p + 1) marks) (drop (c.loop-p.p + 1) bits)) w.next-is w.message-is
                ∙ ap (λ rest. take c.loop-p.next c.loop-p.message ++ rest) (sym (informed_not marks bits c.loop-p.p within c.requires.0 other)) ∙ c.loop-p.invariant.0,
            omega (arith, h, w.next-is, c.loop-p.invariant.1),
          )
    ]

pub returns : goal.returns
returns g c =
    let marks = g.M.Map.marks c.args.map.now in
    let bits = c.args.bits.now in
    let done : length marks ≤ c.loop-p.p = omega (arith, c.requires.0, c.loop-p-test.false) in
    let none : informed_count (drop c.loop-p.p marks) ≡ 0 = at_drop_all informed_count marks c.loop-p.p done in
    let full : length c.loop-p.message ≤ c.loop-p.next = omega (arith, none, c.loop-p.invariant.1, c.loop-p.auto.message) in
    sym (sym c.loop-p.invariant.0
    ∙ ap₂ (λ front rest. front ++ rest) (take_all c.loop-p.next c.loop-p.message full) (at_drop_all (λ m. informed m (drop c.loop-p.p bits)) marks c.loop-p.p done)
    ∙ append-nil c.loop-p.message)
