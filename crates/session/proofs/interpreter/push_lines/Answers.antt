use Rattle.std.proofs.Common.{◌<◌, length, refl, le_refl, arith, ltb-false, ltb-true}
use Rattle.std.proofs.lemmas.Result.{on_ok_weaker}
use Rattle.session.specs.Sessions.{nothing}
use Rattle.session.proofs.Turns.{going_last, going_done, between_more, lent_on}
use Rattle.session.proofs.interpreter.push_lines.Goals as goal

-- Kept: an invariant of several parts is answered as a whole, also the parts that the check finds.
pub loop-rest-init : goal.loop-rest-init
loop-rest-init g c = record {
  between = record {
    force = nothing;
    stands = c.new-state.ensures _ c.requires;
    going = record { most = length c.args.opened.commands.now; enough = le_refl _; lines = refl; left = c.args.opened.left; few = omega (arith, c.args.opened.left.0) };
  };
  lent = record { soft = refl; pending = refl; bits = refl; soft_long = refl; pending_long = refl; bits_long = refl };
}

pub loop-rest-preserved : goal.loop-rest-preserved
loop-rest-preserved g c =
    let some : 0 < length c.loop-rest.rest.now = omega (arith, ltb-false) in
    let b = c.loop-rest.invariant.between in
    let sizes = c.sizes.ensures b.force _ b.stands in
    record {
      between = between_more g.S.Soft.kind _ _ _ _ _ _ _ _ _ b some _ _ _ _ _ (simp sizes at c.in-Ok.ensures.read) c.in-Ok.ensures.left (c.run-answer.ensures.works b.force b.stands) c.in_ok-write-in-Ok.ensures.bytes;
      lent = lent_on _ _ _ c.loop-rest.invariant.lent c.run-answer.ensures.lent;
    }

pub returns-in-Err-clause-lines : goal.returns-in-Err-clause-lines
returns-in-Err-clause-lines g c =
    let some : 0 < length c.loop-rest.rest.now = omega (arith, ltb-false) in
    let b = c.loop-rest.invariant.between in
    let sizes = c.sizes.ensures b.force _ b.stands in
    on_ok_weaker c.write-in-Err.result (going_last g.S.Soft.kind _ _ _ _ _ _ _ _ b.going some _ _ (simp sizes at c.in-Err.ensures.read)) c.write-in-Err.ensures.bytes

pub returns-clause-lines : goal.returns-clause-lines
returns-clause-lines g c = going_done g.S.Soft.kind _ _ _ _ _ _ _ _ c.loop-rest.invariant.between.going (omega (arith, ltb-true))
