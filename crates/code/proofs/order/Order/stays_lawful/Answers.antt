use Rattle.std.proofs.Common.{◌≡◌, false, is_some, rules}
use Rattle.code.specs.Orders.{order_fault}
use Rattle.code.proofs.Accepted.{none_from, lawful_from, long_from}
use Rattle.code.proofs.order.Order.stays_lawful.Goals as goal

pub returns : goal.returns
returns c =
    let told : is_some (order_fault c.args.self.now.n c.args.self.now.ranks.now) ≡ false = search rules in
    record { lawful = lawful_from _ _ (none_from _ told); whole = long_from _ _ (none_from _ told) }
