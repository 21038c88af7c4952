use Rattle.std.proofs.Common.{◌≡◌, ◌+◌, ◌-◌, ◌^◌, length, take, drop, sym, ap, ◌∙◌, ap₂, arith}
use Rattle.std.proofs.lemmas.Slice.{drop-put_mid}
use Rattle.code.specs.Spans.{part, pattern}
use Rattle.cancellation.specs.Cancel.{cancel}
use Rattle.receiver.specs.Stacks.{overwritten}
use Rattle.receiver.proofs.PartWrites.{put_is, length_part}
use Rattle.receiver.proofs.open_span.OpenSpan.settle.Goals as goal

pub returns-clause-bits : goal.returns-clause-bits
returns-clause-bits g c =
    let kind = g.S.Soft.kind in
    let soft = c.args.self.now.soft.now in
    let bits = c.args.self.now.bits.now in
    let b = c.base-base.result in
    let start = c.args.self.now.spot.start in
    let e = c.args.self.now.spot.e in
    let t = c.length-length.ensures in
    let k : b + c.length-length.result - b ≡ 2 ^ e = omega (arith, t) in
    let j : start + c.length-length.result - start ≡ 2 ^ e = omega (arith, t) in
    let row : length (take (b + c.length-length.result - b) (drop b soft)) ≡ 2 ^ e =
    ap (λ m. length (part soft b m)) k ∙ length_part soft b (2 ^ e) (omega (arith, c.base-base.ensures.room, c.args.self.now.rows)) in
    let room : length (take (start + c.length-length.result - start) (drop start bits)) ≡ 2 ^ e =
    ap (λ m. length (part bits start m)) j ∙ length_part bits start (2 ^ e) (omega (arith, c.args.self.now.spot.within, c.args.self.now.word)) in
    put_is bits _ start _ (c.settle.auto.bits ∙ room ∙ sym j)
    ∙ ap (overwritten bits start) (c.settle.ensures.settled.cancels e row room
    ∙ ap₂ (λ x m. cancel kind e (pattern c.args.kind (2 ^ e)) (part soft x m)) c.base-base.ensures.value k)

pub returns-clause-beyond : goal.returns-clause-beyond
returns-clause-beyond g c =
    let bits = c.args.self.now.bits.now in
    let start = c.args.self.now.spot.start in
    let n = c.args.self.now.spot.n in
    let t = c.length-length.ensures in
    drop-put_mid start (start + c.length-length.result - start) bits c.settle.new.bits (2 ^ n) (omega (arith, t, c.args.self.now.spot.within)) (omega (arith, c.args.self.now.word)) (c.settle.auto.bits ∙ length_part bits start (start + c.length-length.result - start) (omega (arith, t, c.args.self.now.spot.within, c.args.self.now.word)))
