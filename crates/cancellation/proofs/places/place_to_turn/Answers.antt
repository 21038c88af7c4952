use Rattle.std.proofs.Common.{◌≡◌, ℕ, ◌+◌, ◌-◌, ◌^◌, ◌<◌, cond, eqb, length, take, drop, ltb, sym, ap, ap₂, ◌∙◌, subst, arith}
use Rattle.std.proofs.lemmas.List.{take_rest, length-drop}
use Rattle.cancellation.specs.Rules.{reversed, Turns, size_at}
use Rattle.cancellation.proofs.Sought.{earlier, turns_first, turns_keeps, turns_moves, size_first, size_later}
use Rattle.cancellation.proofs.places.place_to_turn.Goals as goal
use Rattle.cancellation.proofs.places.place_to_turn.Goals.{then-turns_before, else-turns_before}

pub loop-i-init : goal.loop-i-init
loop-i-init g c =
    let kind = g.S.Soft.kind in
    let first = size_first kind c.args.values.now _ c.in-len1-up.len_at_least c.first-item.is in
    (λ e long. turns_first e (size_at kind c.args.values.now), c.size-least.ensures ∙ first, omega arith)

pub loop-i-preserved : goal.loop-i-preserved
loop-i-preserved g c =
    let kind = g.S.Soft.kind in
    let values = c.args.values.now in
    let z = size_at kind values in
    let i = c.loop-i.i + 1 in
    let size : c.size-size.result ≡ z i = c.size-size.ensures ∙ size_later kind values c.loop-i.i _ c.loop-i-test.true c.index-rest-i.is in
    let p = c.loop-i.place in
    let rest : length (take (length values - 1) (drop 1 values)) ≡ length values - 1 = ap length (take_rest values 1) ∙ length-drop 1 values in
    let within : i < length values = omega (arith, c.loop-i-test.true, rest) in
    let before : p < length values = omega (arith, c.loop-i.invariant.2, within) in
    let told : (e : ℕ) → length values ≡ 2 ^ e → c.turns_before.result ≡ earlier e z i p = λ e long.
    c.turns_before.ensures e (omega (arith, long)) (omega (arith, long))
    ∙ ap₂ (λ a b. cond (eqb a b) (ltb (reversed e i) (reversed e p)) (ltb a b)) size c.loop-i.invariant.1 in
    elim c.if-turns_before.branch [
      | then-turns_before w ↦ (
        λ e long. subst (λ k. Turns e z (i + 1) k) (sym w.place-is) (turns_moves e z i p (c.loop-i.invariant.0 e long) (sym (told e long) ∙ w.if-turns_before.true)),
        w.least-is ∙ size ∙ ap z (sym w.place-is),
        omega (arith, w.place-is),
      )
      | else-turns_before w ↦ (
        λ e long. subst (λ k. Turns e z (i + 1) k) (sym w.place-is) (turns_keeps e z i p (c.loop-i.invariant.0 e long) (sym (told e long) ∙ w.if-turns_before.false)),
        w.least-is ∙ c.loop-i.invariant.1 ∙ ap z (sym w.place-is),
        omega (arith, w.place-is, c.loop-i.invariant.2),
      )
    ]

pub returns : goal.returns
returns g c =
    let values = c.args.values.now in
    let z = size_at g.S.Soft.kind values in
    let rest : length (take (length values - 1) (drop 1 values)) ≡ length values - 1 = ap length (take_rest values 1) ∙ length-drop 1 values in
    let all : c.loop-i.i + 1 ≡ length values = omega (arith, c.loop-i-test.false, c.loop-i.auto.i-end, rest, c.in-len1-up.len_at_least) in
    record {
      turns = λ e long. subst (λ n. Turns e z n c.loop-i.place) (all ∙ long) (c.loop-i.invariant.0 e long);
      within = omega (arith, c.loop-i.invariant.2, all);
    }
