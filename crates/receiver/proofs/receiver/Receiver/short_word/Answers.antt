use Rattle.std.proofs.Common.{length, refl, rules}
use Rattle.code.specs.Spans.{Means}
use Rattle.receiver.specs.Calls.{short_word}
use Rattle.receiver.specs.Model.{short_length}
use Rattle.receiver.proofs.Leads.{word_continues}
use Rattle.receiver.proofs.Refines.{short_fits}
use Rattle.receiver.proofs.SpansAsked.{means_known}
use Rattle.receiver.proofs.receiver.Receiver.short_word.Goals as goal

pub returns : goal.returns
returns g c =
    let map = c.args.self.now.map in
    let n = g.M.Map.exponent map in
    let bytes = c.args.bytes.now in
    let means : Means n (g.M.Map.marks map) = means_known c.n-n.ensures.value c.n-n.ensures.means in
    let all = word_continues g.S.Soft.kind g.S.Soft.laws g.M.Map.exponent g.M.Map.marks map _ _ _ short_length short_word _ bytes _ _ _ _ _ _ _ _ _ (λ room m. refl) (λ room. tt)
    means (short_fits n (length bytes)) (let h = c.position_count.ensures.value in search rules) c.begin.ensures.rest c.begin.ensures.taken in
    record { taken = all.0; rest = c.begin.ensures.rest; lent = c.begin.ensures.lent; law = all.1; stays = all.2 }
