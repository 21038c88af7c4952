use Rattle.std.proofs.Common.{◌≤◌, refl, subst}
use Rattle.receiver.specs.Words.{answer_of}
use Rattle.receiver.proofs.Leads.{continues, same_receiver, advance_stays}
use Rattle.receiver.proofs.Refines.{agrees_advance}
use Rattle.receiver.proofs.receiver.Receiver.advance.Goals as goal

pub returns-clause-law : goal.returns-clause-law
returns-clause-law g c =
    let was = c.args.self.now in
    let inner = c.go_on.ensures in
    continues g.S.Soft.kind g.S.Soft.laws _ _ _ _ _ _ _ _ _ _ _ _ _ _ _ _ tt
    (λ m agrees.
    let means = c.n-n.ensures.means in
    let done = agrees_advance g.S.Soft.kind m _ _ was.caps c.args.allowance was.state c.go_on.new.self.state c.args.memory.now.soft.now c.go_on.new.memory.soft.now c.args.memory.now.pending.now c.go_on.new.memory.pending.now c.args.memory.now.bits.now c.go_on.new.memory.bits.now (answer_of c.go_on.result)
    (subst (λ k. k ≤ 10) c.n-n.ensures.value means.high) agrees inner.goes in
    (done.0, same_receiver g.S.Soft.kind g.M.Map.exponent g.M.Map.marks was.map _ _ _ _ _ _ _ _ _ _ _ _ inner.rest.0 inner.rest.1 refl refl refl refl done.1))

pub returns-clause-stays : goal.returns-clause-stays
returns-clause-stays g c =
    let was = c.args.self.now in
    let inner = c.go_on.ensures in
    advance_stays g.S.Soft.kind g.S.Soft.laws g.M.Map.exponent g.M.Map.marks was.map _ _ _ _ _ _ _ _ _ _ _ _ _ _ inner.rest inner.goes
