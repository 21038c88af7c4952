use Rattle.std.proofs.Common.{refl, ap, ◌∙◌}
use Rattle.receiver.specs.Admissions.{admitted}
use Rattle.receiver.specs.declared.states.Asked.TheVariants as Asked
use Rattle.receiver.proofs.Leads.{continues, in_force-ap, same_receiver}
use Rattle.receiver.proofs.Refines.{agrees_remap}
use Rattle.receiver.proofs.SpansAsked.{means_known}
use Rattle.receiver.proofs.receiver.Receiver.remap.Goals as goal

pub returns-clause-law : goal.returns-clause-law
returns-clause-law g c =
    let was = c.args.self.now in
    let inner = c.put_map.ensures in
    λ soft steps row. continues g.S.Soft.kind g.S.Soft.laws _ _ _ _ _ _ soft steps row _ _ _ _ soft steps row
    (means_known c.n-n.ensures.value c.n-n.ensures.means)
    (λ m agrees.
    let door = admitted was.state Asked.Remap in
    let done = agrees_remap g.S.Soft.kind m _ (g.M.Map.exponent c.args.map) (g.M.Map.exponent c.put_map.new.self.map) _ (g.M.Map.marks c.args.map) (g.M.Map.marks c.put_map.new.self.map) was.caps was.state soft steps row c.put_map.result agrees inner.answer
    (ap g.M.Map.exponent inner.map ∙ in_force-ap g.M.Map.exponent door c.args.map was.map)
    (ap g.M.Map.marks inner.map ∙ in_force-ap g.M.Map.marks door c.args.map was.map) in
    (done.0, same_receiver g.S.Soft.kind g.M.Map.exponent g.M.Map.marks c.put_map.new.self.map c.put_map.new.self.map _ _ _ _ soft soft steps steps row row _ refl inner.rest.0 inner.rest.1 refl refl refl done.1))
