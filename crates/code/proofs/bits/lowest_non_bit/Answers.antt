use Rattle.std.proofs.Common.{◌≡◌, true, false, rules, tests}
use Rattle.std.proofs.lemmas.Iterator.{IsFirst-from_position, YieldsList-from_slice}
use Rattle.code.specs.Spans.{is_bit}
use Rattle.code.proofs.Searched.{lowest_from_position}
use Rattle.code.proofs.bits.lowest_non_bit.Goals as goal

pub returns : goal.returns
returns c =
    lowest_from_position is_bit c.args.bytes.now _
    (IsFirst-from_position _ _ _ (λ b. is_bit b ≡ false) (λ b. is_bit b ≡ true) c.position.ensures.ran (YieldsList-from_slice c.args.bytes.now cc)
    (λ x q k. search (rules, tests)) (λ x q k. search (rules, tests)))
