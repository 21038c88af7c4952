use Rattle.std.proofs.Common.{refl, ◌∙◌, rules}
use Rattle.receiver.specs.Capping.{caps_of}
use Rattle.receiver.proofs.Walks.{walked_start, walked_step, walked_out}
use Rattle.receiver.proofs.advancing.make_steps.Goals as goal

-- Kept: an invariant of several parts is answered as a whole, also the parts that the check finds.
pub loop-made-init : goal.loop-made-init
loop-made-init g c =
    record {
      walked = λ root place is these was. walked_start g.S.Soft.kind _ root (caps_of c.args.caps) place _ _ _ _ was;
      few = c.requires.few;
      beyond = refl;
      lent = search rules;
    }

-- Kept: an invariant of several parts is answered as a whole, also the parts that the check finds.
pub loop-made-preserved : goal.loop-made-preserved
loop-made-preserved g c =
    record {
      walked = λ root place is these was.
          walked_step g.S.Soft.kind _ root (caps_of c.args.caps) place c.loop-made.made c.loop-made.height _ _ _ _ _ _ _ (search rules) (c.loop-made.invariant.walked root place is these was)
          (λ nxt path opened. c.make_step-height.ensures.moves root nxt path is these opened);
      few = c.make_step-height.ensures.inside.few;
      beyond = c.make_step-height.ensures.inside.beyond ∙ c.loop-made.invariant.beyond;
      lent = search rules;
    }

pub returns-then-height-eq0-clause-walks : goal.returns-then-height-eq0-clause-walks
returns-then-height-eq0-clause-walks g c = λ root place is these was.
    walked_out g.S.Soft.kind _ root (caps_of c.args.caps) place c.args.allowance c.loop-made.made c.loop-made.height _ _ _ (search rules) (search rules) (c.loop-made.invariant.walked root place is these was)
