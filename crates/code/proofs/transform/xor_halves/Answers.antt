use Rattle.std.proofs.Common.{◌++◌, ap, ◌∙◌, ap₂, arith}
use Rattle.code.specs.Transform.{xor_row}
use Rattle.code.proofs.Transforms.{xored}
use Rattle.code.proofs.transform.xor_halves.Goals as goal

pub returns : goal.returns
returns c =
    let left = c.split_at_mut-left.result.0.now in
    let right = c.split_at_mut-left.result.1.now in
    let done = xored left right c.loop-i.left (omega (arith, c.split_at_mut-left.ensures.front_len, c.split_at_mut-left.ensures.back_len)) c.loop-i.auto.left
    (λ k h. c.loop-i.invariant.0 k (omega (arith, c.loop-i-test.false))) in
    ap (λ row. row ++ right) done
    ∙ ap₂ (λ a b. xor_row a b ++ b) c.split_at_mut-left.ensures.front c.split_at_mut-left.ensures.back
