use Rattle.std.proofs.Common.{◌≡◌, Err, sym, refl, ap, ◌∙◌, arith, rules}
use Rattle.code.proofs.Accepted.{asked}
use Rattle.code.proofs.Exponents.{counted, uncounted}
use Rattle.code.proofs.Questions.{fault_exponent, fault_length, fault_rank, fault_law, fault_none}
use Rattle.code.proofs.reading.order_fault.Goals as goal

pub returns-in_err-positions : goal.returns-in_err-positions
returns-in_err-positions c =
    let why = uncounted c.args.n _ c.in_err-positions.ensures in
    let e : c.from_residual.result ≡ Err c.in_err-positions.field-0.0 = search rules in
    asked c.args.n c.args.bytes.now _ _ (e ∙ ap Err why.1) (fault_exponent c.args.n c.args.bytes.now (sym why.0))

pub returns-then-branch : goal.returns-then-branch
returns-then-branch c =
    let n = counted c.args.n _ c.in_ok-positions.ensures in
    asked c.args.n c.args.bytes.now _ _ refl (fault_length c.args.n c.args.bytes.now n.0 (λ e. c.if-branch.true (omega (arith, n.1))))

pub returns-in-Some : goal.returns-in-Some
returns-in-Some c =
    let n = counted c.args.n _ c.in_ok-positions.ensures in
    asked c.args.n c.args.bytes.now _ _ refl (fault_rank c.args.n c.args.bytes.now n.0 (omega (arith, n.1)) c.in-Some.p c.in-Some.ensures)

pub returns-in-Some-lowest_breach : goal.returns-in-Some-lowest_breach
returns-in-Some-lowest_breach c =
    let n = counted c.args.n _ c.in_ok-positions.ensures in
    asked c.args.n c.args.bytes.now _ _ refl (fault_law c.args.n c.args.bytes.now n.0 (omega (arith, n.1)) c.in-Some-lowest_breach.p c.in_default.ensures c.in-Some-lowest_breach.ensures)

pub returns-in-None : goal.returns-in-None
returns-in-None c =
    let n = counted c.args.n _ c.in_ok-positions.ensures in
    asked c.args.n c.args.bytes.now _ _ refl (fault_none c.args.n c.args.bytes.now n.0 (omega (arith, n.1)) c.in_default.ensures c.in-None.ensures)
