use Rattle.std.proofs.Common.{◌≡◌, true, false, is_some, rules, tests}
use Rattle.std.proofs.lemmas.Iterator.{IsFirst-from_position, YieldsList-from_slice}
use Rattle.code.proofs.Searched.{lowest_from_position}
use Rattle.receiver.proofs.loading.lowest_unread.Goals as goal

pub returns : goal.returns
returns g c =
    lowest_from_position (λ b. is_some (g.S.Soft.kind.read b)) c.args.bytes.now _
    (IsFirst-from_position _ _ _ (λ b. is_some (g.S.Soft.kind.read b) ≡ false) (λ b. is_some (g.S.Soft.kind.read b) ≡ true) c.position.ensures.ran (YieldsList-from_slice c.args.bytes.now cc)
    (λ x q k. search (rules, tests)) (λ x q k. search (rules, tests)))
