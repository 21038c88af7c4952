use Rattle.code.specs.Spans.{Means}
use Rattle.std.proofs.Common.{refl, sym, subst}
use Rattle.receiver.proofs.Leads.{continues, same_receiver, anew}
use Rattle.receiver.proofs.Refines.{agrees_drop}
use Rattle.receiver.proofs.SpansAsked.{means_known}
use Rattle.receiver.proofs.receiver.Receiver.drop_word.Goals as goal

pub returns-clause-law : goal.returns-clause-law
returns-clause-law g c =
    let was = c.args.self.now in
    let inner = c.end_word.ensures in
    λ soft steps row. continues g.S.Soft.kind g.S.Soft.laws _ _ _ _ _ _ soft steps row _ _ _ _ soft steps row tt
    (λ m agrees.
    let done = agrees_drop g.S.Soft.kind m _ _ was.caps was.state c.end_word.new.self.state soft steps row c.end_word.result agrees inner.answer inner.state in
    (done.0, same_receiver g.S.Soft.kind g.M.Map.exponent g.M.Map.marks was.map _ _ _ _ _ soft soft steps steps row row _ inner.rest.0 inner.rest.1 refl refl refl refl done.1))

pub returns-clause-anew : goal.returns-clause-anew
returns-clause-anew g c =
    let was = c.args.self.now in
    let inner = c.end_word.ensures in
    let map = c.args.self.now.map in
    let means = means_known c.n-n.ensures.value c.n-n.ensures.means in
    anew g.S.Soft.kind _ _ _ _ (subst (λ x. Means (g.M.Map.exponent x) (g.M.Map.marks x)) (sym inner.rest.0) means) c.end_word.new.self.low c.end_word.new.self.high
