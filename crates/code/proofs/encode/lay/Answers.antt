use Rattle.std.proofs.Common.{◌≡◌, ◌+◌, ◌<◌, ◌≤◌, ◌++◌, length, take, drop, sym, ap, ◌∙◌, ap₂, arith, length-drop}
use Rattle.std.proofs.lemmas.List.{at_drop_all, take_all, take_rest, append-nil}
use Rattle.std.proofs.lemmas.Bool.{eqb-true, eqb-false}
use Rattle.code.specs.Encode.{laid}
use Rattle.code.proofs.Laying.{count_informed, count_frozen, laid_informed, laid_frozen, laid_more}
use Rattle.code.proofs.encode.lay.Goals as goal
use Rattle.code.proofs.encode.lay.Goals.{then-is_informed+in-len1-up, then-is_informed+in_default, else-is_informed}

pub loop-p-preserved : goal.loop-p-preserved
loop-p-preserved g c =
    let marks = g.M.Map.marks c.args.map.now in
    let message = c.args.message.now in
    let rest = c.loop-p.rest.now in
    let room : c.loop-p.p < length c.loop-p.word = omega (arith, c.loop-p.auto.word, c.loop-p-test.true) in
    let within : c.loop-p.p < length marks = omega (arith, c.requires.0, c.loop-p-test.true) in
    elim c.if-is_informed.branch [
      | then-is_informed+in-len1-up w ↦
          let one = eqb-true _ 1 (sym w.if-is_informed.ensures) in
          let h = count_informed marks c.loop-p.p within one in
          let later : c.if-is_informed.rest.now ≡ drop 1 rest = ap (λ r. r.now) w.rest-is ∙ take_rest rest 1 in (
            ap₂ (λ row m. take (c.loop-p.p + 1) row ++ laid (drop (c.loop-p.p + 1) marks) m) w.word-is later
                ∙ laid_more c.loop-p.word (laid marks message) _ c.loop-p.p _ room
                (ap (λ r. take c.loop-p.p c.loop-p.word ++ r) (sym (laid_informed marks c.loop-p.p within rest 0 one)) ∙ c.loop-p.invariant.0),
            omega (arith, h, c.loop-p.invariant.1, ap length later, length-drop 1 rest),
          )
      | then-is_informed+in_default w ↦
          let one = eqb-true _ 1 (sym w.if-is_informed.ensures) in
          absurd (omega (arith, count_informed marks c.loop-p.p within one, c.loop-p.invariant.1, w.in_default.len_below))
      | else-is_informed w ↦
          let other = eqb-false _ 1 (sym w.if-is_informed.ensures) in
          let h = count_frozen marks c.loop-p.p within other in
          let same = ap (λ r. r.now) w.rest-is in (
            ap₂ (λ row m. take (c.loop-p.p + 1) row ++ laid (drop (c.loop-p.p + 1) marks) m) w.word-is same
                ∙ laid_more c.loop-p.word (laid marks message) _ c.loop-p.p _ room
                (ap (λ r. take c.loop-p.p c.loop-p.word ++ r) (sym (laid_frozen marks c.loop-p.p within rest 0 other)) ∙ c.loop-p.invariant.0),
            omega (arith, h, c.loop-p.invariant.1, ap length same),
          )
    ]

pub returns : goal.returns
returns g c =
    let marks = g.M.Map.marks c.args.map.now in
    let done : length marks ≤ c.loop-p.p = omega (arith, c.requires.0, c.loop-p-test.false) in
    let full : length c.loop-p.word ≤ c.loop-p.p = omega (arith, c.loop-p.auto.word, c.loop-p-test.false) in
    sym (sym c.loop-p.invariant.0
    ∙ ap₂ (λ front rest. front ++ rest) (take_all c.loop-p.p c.loop-p.word full) (at_drop_all (λ m. laid m c.loop-p.rest.now) marks c.loop-p.p done)
    ∙ append-nil c.loop-p.word)
