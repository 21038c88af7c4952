use Rattle.std.proofs.Common.{◌≡◌, ◌^◌, ◌<◌, length, refl, ◌∙◌, arith, length-set}
use Rattle.code.specs.Orders.{ranks_of, fresh_rank}
use Rattle.code.proofs.Written.{length-ranks_of}
use Rattle.code.proofs.Lowest.{lowest_none, lowest_more, lowest_found}
use Rattle.code.proofs.Fresh.{within_table, tells_none, tells_more, fresh_large, fresh_seen, fresh_new}
use Rattle.code.proofs.ranks.Ranks.lowest_bad.Goals as goal

pub loop-p-init : goal.loop-p-init
loop-p-init c = (lowest_none (fresh_rank (ranks_of c.args.self.bytes.now)) (2 ^ c.args.self.n), tells_none (ranks_of c.args.self.bytes.now), refl)

pub returns-then-rank-count : goal.returns-then-rank-count
returns-then-rank-count c =
    let ranks = ranks_of c.args.self.bytes.now in
    let large = fresh_large ranks c.loop-p.p (omega (arith, length-ranks_of c.args.self.bytes.now (2 ^ c.args.self.n) c.args.self.long)) in
    lowest_found (fresh_rank ranks) (2 ^ c.args.self.n) c.loop-p.p (omega arith) large c.loop-p.invariant.0

pub bounds-seen-rank : goal.bounds-seen-rank
bounds-seen-rank c = omega (arith, within_table c.args.self.n c.args.self.small)

pub returns-then-seen-rank : goal.returns-then-seen-rank
returns-then-seen-rank c =
    let ranks = ranks_of c.args.self.bytes.now in
    let small : c.at-rank.result < 1024 = omega (arith, within_table c.args.self.n c.args.self.small) in
    let seen = fresh_seen c.loop-p.seen ranks c.loop-p.p _ c.at-rank.ensures c.loop-p.invariant.1 small c.if-seen-rank.true in
    lowest_found (fresh_rank ranks) (2 ^ c.args.self.n) c.loop-p.p (omega arith) seen c.loop-p.invariant.0

pub bounds-seen-rank-in-loop-p : goal.bounds-seen-rank-in-loop-p
bounds-seen-rank-in-loop-p c = omega (arith, within_table c.args.self.n c.args.self.small)

pub loop-p-preserved : goal.loop-p-preserved
loop-p-preserved c =
    let ranks = ranks_of c.args.self.bytes.now in
    let long : length ranks ≡ 2 ^ c.args.self.n = length-ranks_of c.args.self.bytes.now (2 ^ c.args.self.n) c.args.self.long in
    let small : c.at-rank.result < 1024 = omega (arith, within_table c.args.self.n c.args.self.small) in
    let new = fresh_new c.loop-p.seen ranks c.loop-p.p _ c.at-rank.ensures c.loop-p.invariant.1 small (omega arith) c.if-seen-rank.false in (
      lowest_more (fresh_rank ranks) (2 ^ c.args.self.n) c.loop-p.p (omega arith) new c.loop-p.invariant.0,
      tells_more c.loop-p.seen ranks c.loop-p.p _ c.at-rank.ensures c.loop-p.invariant.1 c.loop-p.invariant.2 (omega arith),
      length-set c.loop-p.seen _ _ ∙ c.loop-p.invariant.2,
    )
