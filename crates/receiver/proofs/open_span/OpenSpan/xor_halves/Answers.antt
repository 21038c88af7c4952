use Rattle.std.proofs.Common.{◌≡◌, ◌+◌, ◌-◌, ◌*◌, ◌^◌, length, take, drop, sym, ap, ◌∙◌, ap₂, arith}
use Rattle.std.proofs.lemmas.List.{length-drop, take_all}
use Rattle.std.proofs.lemmas.Slice.{drop-put_mid}
use Rattle.code.specs.Spans.{part}
use Rattle.code.specs.Transform.{join_halves}
use Rattle.receiver.specs.Stacks.{overwritten}
use Rattle.receiver.proofs.Places.{split_pow}
use Rattle.receiver.proofs.PartWrites.{put_is, part_first, part_second, length_part}
use Rattle.receiver.proofs.open_span.OpenSpan.xor_halves.Goals as goal

pub returns-clause-bits : goal.returns-clause-bits
returns-clause-bits g c = λ some.
    let bits = c.args.self.now.bits.now in
    let start = c.args.self.now.spot.start in
    let half = 2 ^ (c.args.self.now.spot.e - 1) in
    let k = start + c.length.result - start in
    let kk : k ≡ 2 * half = omega (arith, c.length.ensures, split_pow c.args.self.now.spot.e some) in
    let long : length (take k (drop start bits)) ≡ 2 * half = length_part bits start k (omega (arith, c.length.ensures, c.args.self.now.spot.within, c.args.self.now.word)) ∙ kk in
    let rest : drop half (take k (drop start bits)) ≡ part bits (start + half) half =
    sym (take_all half (drop half (take k (drop start bits))) (omega (arith, length-drop half (take k (drop start bits)), long)))
    ∙ part_second bits start half half k (omega arith) in
    put_is bits _ start k (c.xor_halves.auto.bits ∙ long ∙ sym kk)
    ∙ ap (overwritten bits start) ((c.xor_halves.ensures.done half long).1 ∙ ap₂ join_halves (part_first bits start half k (omega arith)) rest)

pub returns-clause-beyond : goal.returns-clause-beyond
returns-clause-beyond g c =
    let bits = c.args.self.now.bits.now in
    let start = c.args.self.now.spot.start in
    drop-put_mid start (start + c.length.result - start) bits c.xor_halves.new.bits (2 ^ c.args.self.now.spot.n) (omega (arith, c.length.ensures, c.args.self.now.spot.within)) (omega (arith, c.args.self.now.word)) (c.xor_halves.auto.bits ∙ length_part bits start (start + c.length.result - start) (omega (arith, c.length.ensures, c.args.self.now.spot.within, c.args.self.now.word)))
