use Rattle.std.proofs.Common.{◌≡◌, ◌-◌, ◌^◌, length}
use Rattle.code.specs.Spans.{lowest_no}
use Rattle.code.specs.Orders.{ranks_of, fresh_rank}
use Rattle.code.proofs.Fresh.{Tells}
use Rattle.code.proofs.ranks.Ranks.lowest_bad.Given as goal

abbrev pub invariant-loop-p : goal.invariant-loop-p
invariant-loop-p l =
    (lowest_no (fresh_rank (ranks_of l.self.bytes.now)) 0 (2 ^ l.self.n) ≡ lowest_no (fresh_rank (ranks_of l.self.bytes.now)) l.p (2 ^ l.self.n - l.p))
    × Tells l.seen (ranks_of l.self.bytes.now) l.p
    × (length l.seen ≡ 1024)
