-- What settling a span does: cited by `settle`. Assumes nothing.
use Rattle.std.specs.Prelude.{◌≡◌, ℕ, ◌^◌, List, length, Ok, Err, Result, ◌≢◌}
use Rattle.soft.specs.Kind.{Kind}
use Rattle.code.specs.declared.kinds.SpanKind.{SpanKind}
use Rattle.code.specs.declared.kinds.SpanKind.TheVariants.{Rate0, Rate1, Rep, Spc}
use Rattle.code.specs.Spans.{pattern}
use Rattle.cancellation.specs.declared.faults.RowFault.{RowFault}
use Rattle.cancellation.specs.declared.faults.RowFault.TheVariants.{Length}
use Rattle.cancellation.specs.Cancel.{cancel}
use Rattle.cancellation.specs.Rules.{Rule, folded}
use Rattle.cancellation.specs.Cost.{Cheap}

-- the row of a span after it was settled: Rep halves it in place, the other rules leave it as it was
abbrev pub row_after : {S : Type 0} → Kind S → SpanKind → ℕ → List S → List S
row_after kind Rate0 e values = values
row_after kind Rate1 e values = values
row_after kind Rep e values = folded kind e values
row_after kind Spc e values = values

-- the answer, the bits and the row once a span of some 2 ^ e positions is settled by its kind; refused, both are as they were
pub record Settled {S : Type 0} (kind : Kind S) (k : SpanKind) (values after : List S) (bits word : List ℕ) (answer : Result (Unit {0}) RowFault) : Type 0 where
  pub done : (e : ℕ) → length values ≡ 2 ^ e → length bits ≡ 2 ^ e → answer ≡ Ok tt
  pub cancels : (e : ℕ) → length values ≡ 2 ^ e → length bits ≡ 2 ^ e → word ≡ cancel kind e (pattern k (2 ^ e)) values
  pub rules : (e : ℕ) → length values ≡ 2 ^ e → length bits ≡ 2 ^ e → Rule kind k e values word
  pub cheap : (e : ℕ) → length values ≡ 2 ^ e → length bits ≡ 2 ^ e → Cheap kind k e values word
  pub row : (e : ℕ) → length values ≡ 2 ^ e → length bits ≡ 2 ^ e → after ≡ row_after kind k e values
  pub refused : ((e : ℕ) → length values ≡ 2 ^ e → length bits ≢ 2 ^ e) → (answer ≡ Err Length) × (after ≡ values) × (word ≡ bits)
