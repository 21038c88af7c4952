use Rattle.std.proofs.Common.{◌≡◌, ◌^◌, Err, length, sym, ap, ◌∙◌, arith, rules}
use Rattle.std.specs.Option.{option_map}
use Rattle.code.specs.Faults.{answer_to}
use Rattle.code.specs.declared.faults.MapFault.TheVariants.{Bit}
use Rattle.code.proofs.Exponents.{counted, uncounted}
use Rattle.code.proofs.Marks.{bad_exponent, bad_length, bits_asked}
use Rattle.code.proofs.listed_map.listed_fault.Goals as goal

pub returns-in_err-positions : goal.returns-in_err-positions
returns-in_err-positions c =
    let e : c.from_residual.result ≡ Err c.in_err-positions.field-0.0 = search rules in
    let why = uncounted c.args.n _ c.in_err-positions.ensures in
    e ∙ ap Err why.1 ∙ sym (ap answer_to (bad_exponent c.args.n c.args.bytes.now why.0))

-- Kept, `omega` here and below: with the test itself in its place, a test that lets a longer list pass would be refused for its form and not for this fact.
pub returns-then-branch : goal.returns-then-branch
returns-then-branch c =
    let n = counted c.args.n _ c.in_ok-positions.ensures in
    sym (ap answer_to (bad_length c.args.n c.args.bytes.now n.0 (λ e. omega (arith, e, n.1, c.if-branch.true))))

pub returns-in-Some : goal.returns-in-Some
returns-in-Some c =
    let n = counted c.args.n _ c.in_ok-positions.ensures in
    let long : length c.args.bytes.now ≡ 2 ^ c.args.n = omega (arith, n.1, c.if-branch.false) in
    sym (ap answer_to (bits_asked c.args.n c.args.bytes.now n.0 long ∙ ap (option_map Bit) (sym c.in-Some.ensures)))

pub returns-in-None : goal.returns-in-None
returns-in-None c =
    let n = counted c.args.n _ c.in_ok-positions.ensures in
    let long : length c.args.bytes.now ≡ 2 ^ c.args.n = omega (arith, n.1, c.if-branch.false) in
    sym (ap answer_to (bits_asked c.args.n c.args.bytes.now n.0 long ∙ ap (option_map Bit) (sym c.in-None.ensures)))
