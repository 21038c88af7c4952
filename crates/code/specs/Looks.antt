-- A span of a ranked map is named by few looks: cited by `Ranked` and by the theorem on two ranked maps. Assumes nothing.
use Rattle.std.specs.Prelude.{◌≡◌, ℕ, ◌+◌, ◌-◌, ◌<◌, ◌≤◌, Bool, true, cond, ◌⊎◌, List, Some, None, Option, ◌==◌, slice_index}
use Rattle.code.specs.declared.kinds.SpanKind.{SpanKind}
use Rattle.code.specs.declared.kinds.SpanKind.TheVariants.{Rate0, Rate1, Rep, Spc}
use Rattle.code.specs.Spans.{part, kind_of, is_span}
use Rattle.code.specs.Orders.{order_fault, ranks_of, ranked_marks}

-- is a position informed
abbrev pub informed_at : List ℕ → ℕ → Bool
informed_at marks p = slice_index marks p == 1

-- the kind by four looks: are the first, the second, the last but one and the last position informed
abbrev pub kind_by_looks : Bool → Bool → Bool → Bool → Option SpanKind
kind_by_looks first second beforeLast last =
    cond last (cond first (Some Rate1) (cond beforeLast (cond second (Some Spc) None) (Some Rep))) (Some Rate0)

-- the four looks at a span of some marks
abbrev pub looks_at : List ℕ → ℕ → ℕ → Option SpanKind
looks_at marks s t = kind_by_looks (informed_at marks s) (informed_at marks (s + 1)) (informed_at marks (s + t - 2)) (informed_at marks (s + t - 1))

-- two lists of marks agree on the first m and the last m positions of a span
abbrev pub AgreeAtEnds : ℕ → List ℕ → List ℕ → ℕ → ℕ → Type 0
AgreeAtEnds m xs ys s t = (i : ℕ) → i < t → (i < m) ⊎ (t ≤ i + m) → slice_index xs (s + i) ≡ slice_index ys (s + i)

-- two ranked maps that agree on the first m and the last m positions of a span give it the same kind
abbrev pub FewLooks : ℕ → Type 0
FewLooks m = (n : ℕ) (bytes others : List ℕ) (k l s t : ℕ) →
    order_fault n bytes ≡ None → order_fault n others ≡ None → is_span n s t ≡ true →
    AgreeAtEnds m (ranked_marks (ranks_of bytes) k) (ranked_marks (ranks_of others) l) s t →
    kind_of (part (ranked_marks (ranks_of bytes) k) s t) ≡ kind_of (part (ranked_marks (ranks_of others) l) s t)
