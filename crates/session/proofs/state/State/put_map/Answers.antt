use Rattle.std.proofs.Common.{Ok, refl}
use Rattle.receiver.specs.Histories.{plain, after_calls}
use Rattle.session.specs.Chosen.{exponent_of, marks_of}
use Rattle.session.proofs.Calling.{remap_agreed}
use Rattle.session.proofs.Doing.{map_did, made_did}
use Rattle.session.proofs.state.State.put_map.Goals as goal
use Rattle.session.proofs.state.State.put_map.Goals.{in-Some+in_ok-remap-in-Some, in-None}

pub returns : goal.returns
unfolding after_calls
returns g c = λ s memory st.
    let kind = g.S.Soft.kind in
    let map = c.args.map in
    elim c.match-self.branch [
      | in-Some+in_ok-remap-in-Some w ↦
          let h = w.in_ok-remap-in-Some.ensures in
          rw (w.self-is, c.informed_count.ensures)
          (map_did kind s c.args.self.now memory w.in-Some.receiver st w.in-Some.is _ (plain (Ok tt)) w.remap.new.self memory st.room (exponent_of map) (marks_of map) refl
          (λ m a. remap_agreed kind m w.in-Some.receiver w.remap.new.self memory a (Ok tt) map h.answer h.map h.rest))
      | in-None w ↦
          rw (w.self-is, c.informed_count.ensures)
          (made_did kind s c.args.self.now memory st w.in-None.is (exponent_of map) (marks_of map) w.new.result (w.new.ensures.led memory.soft.now memory.pending.now memory.bits.now).agrees)
    ]
