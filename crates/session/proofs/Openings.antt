-- How a session begins, over plain values.
use Rattle.std.proofs.Common.{◌≡◌, ℕ, List, length, Ok, Err}
use Rattle.session.specs.declared.faults.SessionFault.{SessionFault}
use Rattle.session.specs.Faults.{report_of}
use Rattle.session.specs.Text.{refused_line}
use Rattle.session.specs.Sessions.{Opening, opening, lines_of, answers}

-- what a session prints that begins well
pub answers_lines : (session shelf : List ℕ) (o : Opening) → Ok o ≡ opening session shelf →
    lines_of (length session) shelf o ≡ answers session shelf
unfolding answers
answers_lines session shelf o e = rw (← e, answers)

-- what a session prints that does not
pub answers_refused : (session shelf : List ℕ) (f : SessionFault) → Err f ≡ opening session shelf → refused_line 0 63 (report_of f) ≡ answers session shelf
unfolding answers
answers_refused session shelf f e = rw (← e, answers)
