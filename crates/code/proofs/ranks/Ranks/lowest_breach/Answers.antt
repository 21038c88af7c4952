use Rattle.std.proofs.Common.{◌^◌, not, sym, ◌∙◌, arith, rules, tests}
use Rattle.std.proofs.lemmas.Iterator.{YieldsList-from_range}
use Rattle.std.proofs.lemmas.Iterator.Search.{find_from_yields_List}
use Rattle.code.specs.Orders.{ranks_of, keeps_law}
use Rattle.code.proofs.Searched.{unmapped, lowest_from_find}
use Rattle.code.proofs.ranks.Ranks.lowest_breach.Goals as goal

pub returns : goal.returns
returns c =
    let test = keeps_law c.args.self.n (ranks_of c.args.self.bytes.now) in
    let h = find_from_yields_List (λ p. not (test p)) _ _ c.find.result c.find.ensures.ran
    (YieldsList-from_range 0 c.two_to.result (2 ^ c.args.self.n) (cc) (omega (arith, c.two_to.ensures))) (λ x b q k. search (rules, tests)) in
    sym (unmapped c.find.result) ∙ h ∙ lowest_from_find test 0 (2 ^ c.args.self.n)
