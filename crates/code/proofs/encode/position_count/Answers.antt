use Rattle.std.proofs.Common.{◌^◌, ◌≤◌, sym, ap, ◌∙◌, arith, pow_mono}
use Rattle.code.proofs.encode.position_count.Goals as goal

pub returns : goal.returns
returns g c =
    let small : 2 ^ c.n.result ≤ 2 ^ 10 = pow_mono c.n.ensures.means.high in
    record {
      value = c.two_to.ensures ∙ ap (λ k. 2 ^ k) c.n.ensures.value;
      marks = c.two_to.ensures ∙ sym c.n.ensures.means.long;
      bound = omega (arith, c.two_to.ensures);
    }
