-- What cancellation promises for every kind of soft number: cited by `settle`. Assumes nothing.
use Rattle.std.specs.Prelude.{◌≡◌, ℕ, ◌^◌, List, length}
use Rattle.soft.specs.Kind.{Kind}
use Rattle.code.specs.Encode.{encoded, informed, informed_count}
use Rattle.code.specs.Transform.{transform}
use Rattle.cancellation.specs.Rows.{signs}
use Rattle.cancellation.specs.Cancel.{cancel}
use Rattle.cancellation.specs.Cost.{Allows}

-- values whose signs are the word of a message, at any sizes, are decoded to that word, and its transform at the informed positions is the message
abbrev pub RightSigns : {S : Type 0} → Kind S → Type 0
RightSigns {S} kind =
    (e : ℕ) (marks message : List ℕ) (values : List S) → length marks ≡ 2 ^ e → length values ≡ 2 ^ e → length message ≡ informed_count marks →
    signs kind values ≡ encoded e marks message →
    (cancel kind e marks values ≡ encoded e marks message) × (informed marks (transform e (cancel kind e marks values)) ≡ message)

-- the word of cancellation is one that the marks allow
abbrev pub Allowed : {S : Type 0} → Kind S → Type 0
Allowed {S} kind = (e : ℕ) (marks : List ℕ) (values : List S) → length marks ≡ 2 ^ e → length values ≡ 2 ^ e → Allows e marks (cancel kind e marks values)
