use Rattle.std.proofs.Common.{◌≡◌, ◌+◌, ◌-◌, ◌*◌, ◌^◌, ◌<◌, ◌≤◌, length, sym, refl, ap, ◌∙◌, subst, ap₂, arith}
use Rattle.code.specs.Spans.{Means, kind_of}
use Rattle.receiver.specs.Capping.{caps_of}
use Rattle.receiver.specs.declared.memory.Next.TheVariants as next
use Rattle.receiver.specs.Steps.{base, settled_by, with_half}
use Rattle.receiver.specs.Work.{first, at, span_at, stepped}
use Rattle.receiver.proofs.Counts.{unsettled_some}
use Rattle.receiver.proofs.Made.{coherent_as, kind_known, kind_refused, settle_follows, left_follows}
use Rattle.receiver.proofs.SpansAsked.{means_known, path_split}
use Rattle.receiver.proofs.steps.first_step.Goals as goal

-- Kept, `means` here and below: the three branches have records of different types.
pub returns-in_default-clause-follows : goal.returns-in_default-clause-follows
returns-in_default-clause-follows g c = λ root path is these top was.
    let n = g.M.Map.exponent c.args.map.now in
    let marks = g.M.Map.marks c.args.map.now in
    let means : Means n marks = means_known c.n-n.ensures.value c.n-n.ensures.means in
    absurd (kind_refused g.S.Soft.kind n marks means root is these path was.deep _ _ _ (ap (λ s. s.start) top) (c.length.ensures ∙ ap (λ s. 2 ^ s.e) top) c.in_default.ensures)

pub returns-in-Some-clause-follows : goal.returns-in-Some-clause-follows
returns-in-Some-clause-follows g c = λ root path is these top was.
    let n = g.M.Map.exponent c.args.map.now in
    let marks = g.M.Map.marks c.args.map.now in
    let means : Means n marks = means_known c.n-n.ensures.value c.n-n.ensures.means in
    let span = c.args.span.now in
    let caps = caps_of c.args.caps in
    let o = kind_known g.S.Soft.kind n marks means root is these path was.deep _ _ _ (ap (λ s. s.start) top) (c.length.ensures ∙ ap (λ s. 2 ^ s.e) top) c.in-Ok.ensures in
    coherent_as g.S.Soft.kind n root (stepped g.S.Soft.kind root caps (at first path)) span.spot.below c.settle.new.self.soft.now span.pending.now c.settle.new.self.bits.now refl refl c.settle.ensures.pending refl
    (settle_follows g.S.Soft.kind n root is path caps first span.spot.below span.soft.now span.pending.now span.bits.now was (subst (λ k. 2 ^ k ≤ length span.bits.now) c.requires span.word)
    marks means these refl c.in-Some.kind _ _ _ _ _ (ap (λ s. s.start) top) (ap (λ s. s.e) top) (ap (λ k. base k span.spot.e) c.requires)
    (ap (settled_by caps span.spot.e) (sym o) ∙ sym c.in-Some.ensures) c.settle.ensures.soft c.settle.ensures.bits)

pub returns-in-None-clause-follows : goal.returns-in-None-clause-follows
returns-in-None-clause-follows g c = λ root path is these top was.
    let n = g.M.Map.exponent c.args.map.now in
    let marks = g.M.Map.marks c.args.map.now in
    let means : Means n marks = means_known c.n-n.ensures.value c.n-n.ensures.means in
    let span = c.args.span.now in
    let caps = caps_of c.args.caps in
    let o = kind_known g.S.Soft.kind n marks means root is these path was.deep _ _ _ (ap (λ s. s.start) top) (c.length.ensures ∙ ap (λ s. 2 ^ s.e) top) c.in-Ok.ensures in
    let found = ap (settled_by caps span.spot.e) (sym o) ∙ sym c.in-None.ensures in
    let hs = ap (λ s. s.start) top in
    let he = ap (λ s. s.e) top in
    let unsettled = path_split g.S.Soft.kind n marks root is these path was.deep means caps (ap (λ x. settled_by caps x (kind_of (span_at g.S.Soft.kind root path).marks)) (sym he) ∙ found) in
    let some : span.spot.e ≡ 0 → ⊥ = λ z. unsettled_some caps (span_at g.S.Soft.kind root path) unsettled (sym he ∙ z) in
    let few : span.spot.below + 1 < 64 = omega (arith, was.high, was.deep, means.high) in
    let q = c.check_halves.ensures.rest.0 in
    let pushed = c.give_way.ensures.pushed (λ z. some (sym (ap (λ s. s.e) q) ∙ z)) (omega (arith, few, ap (λ s. s.below) q)) in
    let steps = ap₂ (λ p h. with_half p c.check_halves.new.self.spot.below (record { next = next.Second; start = c.check_halves.new.self.spot.start; e = c.check_halves.new.self.spot.e }) h) c.check_halves.ensures.rest.1 c.left.ensures
    ∙ ap (λ s. with_half span.pending.now s.below (record { next = next.Second; start = s.start; e = s.e }) (record { next = next.First; start = span.spot.start; e = span.spot.e - 1 })) q
    ∙ ap₂ (λ a b. with_half span.pending.now span.spot.below (record { next = next.Second; start = a; e = b }) (record { next = next.First; start = a; e = b - 1 })) hs he in
    coherent_as g.S.Soft.kind n root (stepped g.S.Soft.kind root caps (at first path)) (span.spot.below + 2) c.check_halves.new.self.soft.now c.give_way.new.self.pending.now span.bits.now (pushed.0 ∙ ap (λ s. s.below + 2) q) c.give_way.ensures.rest.0 refl (c.give_way.ensures.rest.1 ∙ c.check_halves.ensures.rest.2)
    (left_follows g.S.Soft.kind n root is path caps first span.spot.below span.soft.now span.pending.now span.bits.now was (subst (λ k. 2 ^ k ≤ length span.bits.now) c.requires span.word)
    marks means these refl _ _ _ _ _ _ hs he (ap (λ k. base k span.spot.e) c.requires) refl (subst (λ k. 2 * 2 ^ k ≤ length span.soft.now) c.requires span.rows) (omega (arith, span.steps, few)) found (c.check_halves.ensures.soft some few)
    (pushed.1 ∙ steps))
