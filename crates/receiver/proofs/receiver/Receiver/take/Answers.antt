use Rattle.code.specs.Spans.{Means}
use Rattle.std.proofs.Common.{refl, sym, subst}
use Rattle.receiver.proofs.Leads.{continues, same_receiver, anew, take_stays}
use Rattle.receiver.proofs.Refines.{agrees_take_call}
use Rattle.receiver.proofs.SpansAsked.{means_known}
use Rattle.receiver.proofs.receiver.Receiver.take.Goals as goal

pub returns-clause-law : goal.returns-clause-law
returns-clause-law g c =
    let was = c.args.self.now in
    let inner = c.hand_over.ensures in
    continues g.S.Soft.kind g.S.Soft.laws _ _ _ _ _ _ _ _ _ _ _ _ _ _ _ _ tt
    (λ m agrees.
    let done = agrees_take_call g.S.Soft.kind m _ _ was.caps was.state c.hand_over.new.self.state c.args.memory.now.soft.now c.args.memory.now.pending.now c.args.memory.now.bits.now c.args.message.now c.args.word.now c.hand_over.new.message c.hand_over.new.word c.hand_over.result
    agrees inner.handed.answered inner.handed.written inner.handed.read inner.handed.ended in
    (done.0, same_receiver g.S.Soft.kind g.M.Map.exponent g.M.Map.marks was.map _ _ _ _ _ _ _ _ _ _ _ _ inner.rest.0 inner.rest.1 refl inner.kept.0 inner.kept.1 inner.kept.2 done.1))

pub returns-clause-stays : goal.returns-clause-stays
returns-clause-stays g c =
    let was = c.args.self.now in
    let inner = c.hand_over.ensures in
    take_stays g.S.Soft.kind g.S.Soft.laws g.M.Map.exponent g.M.Map.marks was.map _ _ _ _ _ _ _ _ _ _ _ inner.rest inner.handed.answered inner.handed.ended

pub returns-clause-anew : goal.returns-clause-anew
returns-clause-anew g c =
    let was = c.args.self.now in
    let inner = c.hand_over.ensures in
    let map = c.args.self.now.map in
    let means = means_known c.n-n.ensures.value c.n-n.ensures.means in
    anew g.S.Soft.kind _ _ _ _ (subst (λ x. Means (g.M.Map.exponent x) (g.M.Map.marks x)) (sym inner.rest.0) means) c.hand_over.new.self.low c.hand_over.new.self.high
