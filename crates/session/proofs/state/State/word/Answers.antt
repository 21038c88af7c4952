use Rattle.std.proofs.Common.{true, Ok, Err, refl}
use Rattle.receiver.specs.Calls.{word}
use Rattle.receiver.specs.Model.{full_length}
use Rattle.session.proofs.Calling.{lent, handed_up, fits_whole}
use Rattle.session.proofs.Doing.{word_did}
use Rattle.session.proofs.state.State.word.Goals as goal

pub returns-clause-works : goal.returns-clause-works
returns-clause-works g c = λ s st.
    let h = c.in_ok-word.ensures in
    word_did g.S.Soft.kind s c.args.self.now c.args.memory.now c.in_ok-receiver.receiver.now st (lent _ _ _ c.as_mut.ensures.value c.in_ok-receiver.ensures.ok_part) _ c.word.new.self c.word.new.memory h.lent h.rest
    c.args.at full_length c.args.bytes.now (λ m. word true c.args.bytes.now) (Ok tt) refl (λ m. refl) (fits_whole c.args.bytes.now) h.taken

pub returns-in_err-word-clause-works : goal.returns-in_err-word-clause-works
returns-in_err-word-clause-works g c = λ s st.
    let h = c.in_err-word.ensures in
    word_did g.S.Soft.kind s c.args.self.now c.args.memory.now c.in_ok-receiver.receiver.now st (lent _ _ _ c.as_mut.ensures.value c.in_ok-receiver.ensures.ok_part) _ c.word.new.self c.word.new.memory h.lent h.rest
    c.args.at full_length c.args.bytes.now (λ m. word true c.args.bytes.now) (Err c.in_err-word.field-0.0) (handed_up _ c.in_err-word.field-0.0 c.from_residual-in_err-word.ensures.1) (λ m. refl) (fits_whole c.args.bytes.now) h.taken
