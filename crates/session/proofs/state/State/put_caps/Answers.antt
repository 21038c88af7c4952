use Rattle.std.proofs.Common.{[], ◌∷◌, Ok, decimal, refl}
use Rattle.receiver.specs.Calls.{set_caps}
use Rattle.receiver.specs.Histories.{plain}
use Rattle.session.proofs.Calling.{lent, caps_agreed}
use Rattle.session.proofs.Doing.{call_did}
use Rattle.session.proofs.state.State.put_caps.Goals as goal

pub returns : goal.returns
returns g c = λ s memory st.
    let h = c.in_ok-set_caps.ensures in
    call_did g.S.Soft.kind s c.args.self.now memory c.in_ok-receiver.receiver.now st (lent _ _ _ c.as_mut.ensures.value c.in_ok-receiver.ensures.ok_part) _ (plain (Ok tt)) c.set_caps.new.self memory st.room
    c.args.at (decimal c.args.first ∷ (decimal c.args.second ∷ [])) (λ m. set_caps c.args.first c.args.second) (cc (c.from.ensures, c.from-2.ensures))
    (λ m a. caps_agreed g.S.Soft.kind m c.in_ok-receiver.receiver.now c.set_caps.new.self memory a (Ok tt) c.args.first c.args.second _ refl h.answer h.caps h.rest)
