use Rattle.std.proofs.Common.{leb, ap, ◌∙◌, rules}
use Rattle.code.proofs.SpanTests.{power_small, power_other}
use Rattle.code.proofs.sizes.power_up_to.Goals as goal

pub returns-then-is_power_of_two : goal.returns-then-is_power_of_two
returns-then-is_power_of_two c =
    ap (leb c.args.length) c.two_to.ensures ∙ power_small c.args.n c.args.length (search rules)

pub returns-else-is_power_of_two : goal.returns-else-is_power_of_two
returns-else-is_power_of_two c = c.if-is_power_of_two.false ∙ power_other c.args.n c.args.length (search rules)
