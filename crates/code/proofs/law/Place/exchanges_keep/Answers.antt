use Rattle.std.proofs.Common.{◌-◌, ◌∙◌, arith, rules, tests}
use Rattle.std.proofs.lemmas.Iterator.{YieldsList-from_range}
use Rattle.std.proofs.lemmas.Iterator.Search.{all_from_yields_List}
use Rattle.code.specs.Orders.{ranks_of, exchange_keeps}
use Rattle.code.proofs.Searched.{exchanges_from_all}
use Rattle.code.proofs.law.Place.exchanges_keep.Goals as goal

pub returns : goal.returns
returns c =
    let n = c.args.self.ranks.n in
    all_from_yields_List (exchange_keeps (ranks_of c.args.self.ranks.bytes.now) c.args.self.p) _ _ _ c.all.ensures.ran
    (YieldsList-from_range 0 (n - 1) (n - 1) (cc) (omega arith)) (λ x b q k. search (rules, tests))
    ∙ exchanges_from_all (ranks_of c.args.self.ranks.bytes.now) c.args.self.p (n - 1)
