use Rattle.std.proofs.Common.{eqb, ◌∙◌, rules, tests}
use Rattle.std.proofs.lemmas.Iterator.{YieldsList-from_slice}
use Rattle.std.proofs.lemmas.Iterator.Search.{all_from_yields_List}
use Rattle.code.proofs.Searched.{same_from_all}
use Rattle.code.proofs.patterns.is_constant.Goals as goal

pub returns : goal.returns
returns c =
    all_from_yields_List (λ m. eqb m c.args.value) _ _ _ c.all.ensures.ran (YieldsList-from_slice c.args.row.now cc) (λ x b q k. search (rules, tests))
    ∙ same_from_all c.args.value c.args.row.now
