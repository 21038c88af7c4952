use Rattle.std.proofs.Common.{◌≡◌, ℕ, List, ◌++◌, sym, ap, ◌∙◌, subst, rules, append_assoc, IsUtf8}
use Rattle.std.proofs.Output.{has_written_append}
use Rattle.std.proofs.lemmas.Str.{IsUtf8-from_ascii}
use Rattle.std.specs.Slice.Iter.{chunks_rest}
use Rattle.session.specs.Text.{bits_text}
use Rattle.session.proofs.Lines.{bits_ascii, runs_shown}
use Rattle.session.proofs.text.BitsDisplay.fmt.Goals as goal

pub unreachable-requires : goal.unreachable-requires
unreachable-requires g c =
    c.in_default.ensures.cases.0 (subst IsUtf8 (sym c.write_digits.ensures) (IsUtf8-from_ascii (bits_text c.in-Some.run'.now) (bits_ascii c.in-Some.run'.now)))

pub loop-run-preserved : goal.loop-run-preserved
loop-run-preserved g c =
    let run = c.in-Some.run'.now in
    let steps = c.in-Some.ensures.steps in
    let shown : c.in-Ok.text.now ≡ bits_text run = c.in-Ok.ensures.cases.0 ∙ c.write_digits.ensures in (
      search rules,
      tt,
      steps.0 ∙ c.loop-run.invariant.2,
      λ plain.
          let so_far = c.loop-run.invariant.3 plain in (
            so_far.0 ++ c.in-Ok.text.now,
            has_written_append _ _ _ _ _ _ so_far.1 (search rules),
            append_assoc so_far.0 _ _
                ∙ ap (λ (t : List ℕ). so_far.0 ++ t)
                (ap (λ (t : List ℕ). t ++ bits_text (chunks_rest c.next.new.self)) shown ∙ runs_shown _ run (chunks_rest c.next.new.self) steps.1.0)
                ∙ so_far.2,
          ),
    )
