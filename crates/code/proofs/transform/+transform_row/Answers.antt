use Rattle.std.proofs.Common.{arith}
use Rattle.code.proofs.Rows.{row_alone, row_done}
use Rattle.code.proofs.transform.+transform_row.Goals as goal

pub returns-then-bits-lt2 : goal.returns-then-bits-lt2
returns-then-bits-lt2 t c = λ e long. row_alone e c.args.bits.now long (omega (arith, c.if-bits-lt2.true))

pub returns : goal.returns
returns t c =
    λ e long. row_done e c.args.bits.now _ _ _ _ _ long (λ none. omega (arith, none, c.if-bits-lt2.false))
    c.split_at_mut-front.ensures.front c.split_at_mut-front.ensures.back c.transform_row.ensures c.transform_row-2.ensures c.xor_halves.ensures
