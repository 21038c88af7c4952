use Rattle.std.proofs.Common.{string_bytes, length, ap, ap₂, ◌∙◌, rules}
use Rattle.session.specs.Opened.{opened_as}
use Rattle.session.specs.Sessions.{lines_of}
use Rattle.session.proofs.Openings.{answers_lines, answers_refused}
use Rattle.session.proofs.Runs.{refused_leaves_both, changes_both, sessions_both}
use Rattle.session.proofs.interpreter.transcript.Goals as goal
use Rattle.session.proofs.interpreter.transcript.Goals.{in-Ok+in_ok-push_session-in-Ok, in-Err+in_ok-write-in-Err}

pub returns : goal.returns
returns c = record {
  text =
      elim c.match-open.branch [
        | in-Ok+in_ok-push_session-in-Ok w ↦ ap string_bytes w.text-is ∙ (simp c.new-text.ensures.bytes at w.in_ok-push_session-in-Ok.ensures ∙ (ap₂ (λ s h. lines_of (length s) h (opened_as w.in-Ok.opened)) w.in-Ok.ensures.same.0 w.in-Ok.ensures.same.1 ∙ answers_lines _ _ _ w.in-Ok.ensures.begins))
        | in-Err+in_ok-write-in-Err w ↦ ap string_bytes w.text-is ∙ (simp c.new-text.ensures.bytes at w.in_ok-write-in-Err.ensures.bytes ∙ answers_refused _ _ _ w.in-Err.ensures.begins)
      ];
  refused = refused_leaves_both;
  chosen = changes_both;
  runs = sessions_both;
}

-- Kept: the four clauses are answered as a whole, and each way out gives the same three theorems.
pub returns-in_err-push_session-in-Ok : goal.returns-in_err-push_session-in-Ok
returns-in_err-push_session-in-Ok c = record { text = search rules; refused = refused_leaves_both; chosen = changes_both; runs = sessions_both }

-- Kept: the four clauses are answered as a whole, and each way out gives the same three theorems.
pub returns-in_err-write-in-Err : goal.returns-in_err-write-in-Err
returns-in_err-write-in-Err c = record { text = search rules; refused = refused_leaves_both; chosen = changes_both; runs = sessions_both }
