use Rattle.std.proofs.Common.{Err}
use Rattle.session.proofs.Calling.{lent, one_for, handed_up}
use Rattle.session.proofs.Doing.{advance_did}
use Rattle.session.proofs.state.State.advance.Goals as goal

pub returns-clause-works : goal.returns-clause-works
returns-clause-works g c = λ s st.
    let h = c.in_ok-advance.ensures in
    advance_did g.S.Soft.kind s c.args.self.now c.args.memory.now c.in_ok-receiver.receiver.now st (lent _ _ _ c.as_mut.ensures.value c.in_ok-receiver.ensures.ok_part) _ c.advance.new.self c.advance.new.memory h.lent h.rest
    c.args.at c.args.allowance _ (cc (c.from.ensures, c.from-2.ensures, one_for c.in_ok-advance.advance.finished)) h.goes

pub returns-in_err-advance-clause-works : goal.returns-in_err-advance-clause-works
returns-in_err-advance-clause-works g c = λ s st.
    let h = c.in_err-advance.ensures in
    advance_did g.S.Soft.kind s c.args.self.now c.args.memory.now c.in_ok-receiver.receiver.now st (lent _ _ _ c.as_mut.ensures.value c.in_ok-receiver.ensures.ok_part) _ c.advance.new.self c.advance.new.memory h.lent h.rest
    c.args.at c.args.allowance (Err c.in_err-advance.field-0.0) (handed_up _ c.in_err-advance.field-0.0 c.from_residual-in_err-advance.ensures.1) h.goes
