use Rattle.std.proofs.Common.{refl, ap, ◌∙◌}
use Rattle.receiver.specs.Capping.{caps_of}
use Rattle.receiver.specs.Model.{caps_fault}
use Rattle.receiver.proofs.Leads.{continues, in_force-ap, same_receiver}
use Rattle.receiver.proofs.Refines.{agrees_caps}
use Rattle.receiver.proofs.receiver.Receiver.set_caps.Goals as goal

pub returns-clause-law : goal.returns-clause-law
returns-clause-law g c =
    let was = c.args.self.now in
    let inner = c.put_caps.ensures in
    λ soft steps row. continues g.S.Soft.kind g.S.Soft.laws _ _ _ _ _ _ soft steps row _ _ _ _ soft steps row tt
    (λ m agrees.
    let done = agrees_caps g.S.Soft.kind m _ _ was.caps c.put_caps.new.self.caps was.state soft steps row c.args.first c.args.second c.put_caps.result agrees inner.answer
    (ap caps_of inner.caps ∙ in_force-ap caps_of (caps_fault c.args.first c.args.second) (record { first = c.args.first; second = c.args.second }) was.caps) in
    (done.0, same_receiver g.S.Soft.kind g.M.Map.exponent g.M.Map.marks was.map _ _ _ _ _ soft soft steps steps row row _ inner.rest.0 refl inner.rest.1 refl refl refl done.1))
