use Rattle.std.proofs.Common.{◌≡◌, ◌+◌, ◌-◌, ◌^◌, ◌<◌, sym, refl, ap, ◌∙◌, ap₂, arith, rules}
use Rattle.receiver.specs.declared.memory.Next.TheVariants as next
use Rattle.receiver.specs.Capping.{caps_of}
use Rattle.receiver.specs.Steps.{base, with_half}
use Rattle.receiver.specs.Work.{first, second, final, at, stepped}
use Rattle.receiver.proofs.Made.{coherent_as, for_next, found_e, found_start, at_first, at_second, at_final, right_follows, final_follows}
use Rattle.receiver.proofs.steps.make_step.Goals as goal

pub returns-in_default-of-clause-moves : goal.returns-in_default-of-clause-moves
returns-in_default-of-clause-moves g c = λ root nxt path is these was.
    let e = found_e g.S.Soft.kind _ root is nxt path _ _ _ _ was c.in-Some.step c.in-Some.ensures.answer in
    let s = found_start g.S.Soft.kind _ root is nxt path _ _ _ _ was c.in-Some.step c.in-Some.ensures.answer in
    absurd (c.of.ensures.none (search rules) e s c.requires.few)

pub returns-in-First-clause-moves : goal.returns-in-First-clause-moves
returns-in-First-clause-moves g c = λ root nxt path is these was.
    let kind = g.S.Soft.kind in
    let n = g.M.Map.exponent c.args.map.now in
    let memory = c.args.memory.now in
    let caps = caps_of c.args.caps in
    let spot = c.in-Some-of.spot in
    let now = c.first_step.new.span in
    let here = c.in-Some-of.ensures.some in
    let found = at_first kind n root is nxt path _ _ _ _ was c.in-Some.step c.in-Some.ensures.answer c.in-First.is in
    coherent_as kind n root (stepped kind root caps (at nxt path)) c.first_step.result now.soft.now now.pending.now now.bits.now refl (search rules) (search rules) (search rules)
    (for_next kind n root caps path nxt first found.1 c.args.height c.first_step.result memory.soft.now now.soft.now memory.pending.now now.pending.now memory.bits.now now.bits.now
    (λ opened. c.first_step.ensures.follows root path is these
    (ap₂ (λ a b. record { next = next.First; start = a; e = b }) (here.1 ∙ ap (λ s. s.start) found.0) (here.2 ∙ ap (λ s. s.e) found.0))
    (coherent_as kind n root (at first path) c.args.height memory.soft.now memory.pending.now memory.bits.now (omega (arith, here.3, c.requires.some)) refl c.top_step.ensures.pending refl opened)) was)

pub returns-in-Second-clause-moves : goal.returns-in-Second-clause-moves
returns-in-Second-clause-moves g c = λ root nxt path is these was.
    let kind = g.S.Soft.kind in
    let n = g.M.Map.exponent c.args.map.now in
    let memory = c.args.memory.now in
    let caps = caps_of c.args.caps in
    let spot = c.in-Some-of.spot in
    let joined = c.join_halves.new.self in
    let now = c.give_way.new.self in
    let here = c.in-Some-of.ensures.some in
    let found = at_second kind n root is nxt path _ _ _ _ was c.in-Some.step c.in-Some.ensures.answer c.in-Second.is in
    let hs = here.1 ∙ ap (λ s. s.start) found.0 in
    let he = here.2 ∙ ap (λ s. s.e) found.0 in
    coherent_as kind n root (stepped kind root caps (at nxt path)) c.give_way.result now.soft.now now.pending.now now.bits.now refl (search rules) (search rules) (search rules)
    (for_next kind n root caps path nxt second found.1 c.args.height c.give_way.result memory.soft.now now.soft.now memory.pending.now now.pending.now memory.bits.now now.bits.now
    (λ opened.
    let some : spot.e ≡ 0 → ⊥ = λ z. opened.long (sym he ∙ z) in
    let few : spot.below + 1 < 64 = omega (arith, here.0, here.3, was.high, was.deep, spot.small) in
    let q = c.join_halves.ensures.rest.0 in
    let pushed = c.give_way.ensures.pushed (λ z. some (sym (ap (λ s. s.e) q) ∙ z)) (omega (arith, few, ap (λ s. s.below) q)) in
    let steps = ap₂ (λ p h. with_half p joined.spot.below (record { next = next.Final; start = joined.spot.start; e = joined.spot.e }) h) (c.join_halves.ensures.rest.1 ∙ c.top_step.ensures.pending) c.right.ensures
    ∙ ap (λ s. with_half memory.pending.now s.below (record { next = next.Final; start = s.start; e = s.e }) (record { next = next.First; start = spot.start + 2 ^ (spot.e - 1); e = spot.e - 1 })) q
    ∙ ap₂ (λ a b. with_half memory.pending.now spot.below (record { next = next.Final; start = a; e = b }) (record { next = next.First; start = a + 2 ^ (b - 1); e = b - 1 })) hs he in
    coherent_as kind n root (stepped kind root caps (at second path)) (spot.below + 2) joined.soft.now now.pending.now memory.bits.now (pushed.0 ∙ ap (λ s. s.below + 2) q) c.give_way.ensures.rest.0 refl (c.give_way.ensures.rest.1 ∙ c.join_halves.ensures.rest.2)
    (right_follows kind n root is path caps second spot.below memory.soft.now memory.pending.now memory.bits.now
    (coherent_as kind n root (at second path) c.args.height memory.soft.now memory.pending.now memory.bits.now (omega (arith, here.3, c.requires.some)) refl refl refl opened) c.requires.room.bit_room
    refl _ _ _ _ _ _ hs he (ap (λ k. base k spot.e) here.0) refl c.requires.room.soft_room (omega (arith, c.requires.room.step_room, few)) some (c.join_halves.ensures.soft some few) (pushed.1 ∙ steps))) was)

pub returns-in-Final-clause-moves : goal.returns-in-Final-clause-moves
returns-in-Final-clause-moves g c = λ root nxt path is these was.
    let kind = g.S.Soft.kind in
    let n = g.M.Map.exponent c.args.map.now in
    let memory = c.args.memory.now in
    let caps = caps_of c.args.caps in
    let spot = c.in-Some-of.spot in
    let now = c.xor_halves.new.self in
    let here = c.in-Some-of.ensures.some in
    let found = at_final kind n root is nxt path _ _ _ _ was c.in-Some.step c.in-Some.ensures.answer c.in-Final.is in
    let hs = here.1 ∙ ap (λ s. s.start) found.0 in
    let he = here.2 ∙ ap (λ s. s.e) found.0 in
    coherent_as kind n root (stepped kind root caps (at nxt path)) spot.below now.soft.now now.pending.now now.bits.now refl (search rules) (search rules) (search rules)
    (for_next kind n root caps path nxt final found.1 c.args.height spot.below memory.soft.now now.soft.now memory.pending.now now.pending.now memory.bits.now now.bits.now
    (λ opened.
    let some : spot.e ≡ 0 → ⊥ = λ z. opened.long (sym he ∙ z) in
    coherent_as kind n root (stepped kind root caps (at final path)) spot.below memory.soft.now memory.pending.now now.bits.now refl c.xor_halves.ensures.rest.1 (c.xor_halves.ensures.rest.2 ∙ c.top_step.ensures.pending) refl
    (final_follows kind n root is path caps final spot.below memory.soft.now memory.pending.now memory.bits.now
    (coherent_as kind n root (at final path) c.args.height memory.soft.now memory.pending.now memory.bits.now (omega (arith, here.3, c.requires.some)) refl refl refl opened) c.requires.room.bit_room
    refl _ _ _ _ hs he refl some (c.xor_halves.ensures.bits some))) was)
