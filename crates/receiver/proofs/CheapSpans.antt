-- The words of the spans that are settled are the cheapest. Assumes nothing.
use Rattle.std.proofs.Common.{◌≡◌, ℕ, ◌+◌, ◌^◌, ◌≤◌, Bool, true, false, eqb, List, [], ◌∷◌, ◌++◌, length, take, drop, Some, None, Option, sym, refl, ap, ◌∙◌, subst, arith, take-append-drop}
use Rattle.soft.specs.Kind.{Kind, Laws, differ, agree}
use Rattle.code.specs.declared.kinds.SpanKind.{SpanKind}
use Rattle.code.specs.declared.kinds.SpanKind.TheVariants.{Rate0, Rate1, Rep, Spc}
use Rattle.code.specs.Spans.{pattern, kind_of, Means}
use Rattle.cancellation.specs.Rows.{check_row, join_row}
use Rattle.cancellation.specs.Cancel.{cancel}
use Rattle.cancellation.specs.Rules.{size_at}
use Rattle.cancellation.specs.Cost.{Adds, Cheapest, total}
use Rattle.cancellation.proofs.Agree.{ones, repeats, evens}
use Rattle.cancellation.proofs.Balance.{cheapest_repeated}
use Rattle.cancellation.proofs.Cheap.{cheapest_signs, cheapest_even}
use Rattle.cancellation.proofs.Settles.{turns_in}
use Rattle.receiver.specs.Work.{Caps, Span, Root, Side, left, right, half, left_of, span_at, word_of, settled, Begun, begun_root, begun_left, begun_right}
use Rattle.receiver.specs.Steps.{settled_by}
use Rattle.receiver.specs.Law.{Adding, CheapAs}
use Rattle.receiver.proofs.Counts.{unsettled_some}
use Rattle.receiver.proofs.Paths.{path_e, path_full}
use Rattle.receiver.proofs.SpansAsked.{kind_marks, path_split}

module _ {S : Type 0} (kind : Kind S) (laws : Laws kind) where
  total_append : (xs ys : List S) → total kind (xs ++ ys) ≡ total kind xs + total kind ys
  total_append [] ys = omega arith
  total_append (x ∷ xs) ys = let h = total_append xs ys in omega arith

  total_halves : (h : ℕ) (values : List S) → total kind (take h values) + total kind (drop h values) ≡ total kind values
  total_halves h values = sym (total_append (take h values) (drop h values)) ∙ ap (total kind) (take-append-drop h values)

  total_check : (xs ys : List S) → total kind (check_row kind xs ys) ≤ total kind xs + total kind ys
  total_check [] ys = omega arith
  total_check (x ∷ xs) [] = omega arith
  total_check (x ∷ xs) (y ∷ ys) = omega (arith, laws.check_size x y, total_check xs ys)

  module _ (limit : ℕ) (adds : Adds limit kind.size_rule) where
    rule_most : (same : Bool) (a b : ℕ) → a + b ≤ limit → kind.size_rule same a b ≤ a + b
    rule_most true a b h = omega (arith, adds.0 a b h)
    rule_most false a b h = omega (arith, adds.1 a b)

    total_join : (xs ys : List S) (βs : List ℕ) → total kind xs + total kind ys ≤ limit → total kind (join_row kind xs ys βs) ≤ total kind xs + total kind ys
    total_join [] ys βs h = omega arith
    total_join (x ∷ xs) [] βs h = omega arith
    total_join (x ∷ xs) (y ∷ ys) [] h = omega arith
    total_join (x ∷ xs) (y ∷ ys) (β ∷ βs) h =
        let same = agree (differ (kind.sign x) (eqb β 1)) (kind.sign y) in
        let here = rule_most same (kind.size x) (kind.size y) (omega arith) in
        omega (arith, laws.join_size x y (eqb β 1), here, total_join xs ys βs (omega arith))

    -- sizes that add within the limit for the whole word do so for each span
    pub path_total : (root : Span S) (path : List Side) → total kind root.values ≤ limit → total kind (span_at kind root path).values ≤ total kind root.values
    path_total root [] small = omega arith
    path_total root (left ∷ path) small =
        let span = span_at kind root path in
        omega (arith, path_total root path small, total_halves (half span) span.values, total_check (take (half span) span.values) (drop (half span) span.values))
    path_total root (right ∷ path) small =
        let span = span_at kind root path in
        let up = path_total root path small in
        let both = total_halves (half span) span.values in
        omega (arith, total_join (take (half span) span.values) (drop (half span) span.values) (word_of kind (left_of kind span)) (omega arith))

  -- the word of a span that has the marks of a kind
  pub cheap_as : (k : SpanKind) (span : Span S) → length span.values ≡ 2 ^ span.e → span.marks ≡ pattern k (2 ^ span.e) →
      ((adding : Adding kind) → total kind span.values ≤ adding.limit) → CheapAs kind k span
  cheap_as Rate0 span long is small = tt
  cheap_as Rate1 span long is small =
      cheapest_signs kind span.e span.marks span.values (word_of kind span) (ap (λ m. cancel kind span.e m span.values) is ∙ ones kind laws span.e span.values long)
  cheap_as Rep span long is small =
      λ adding. subst (λ m. Cheapest kind span.e m span.values (cancel kind span.e m span.values)) (sym is)
      (cheapest_repeated kind laws adding.limit adding.adds span.e span.values _ long (repeats kind span.e span.values long) (small adding))
  cheap_as Spc span long is small =
      let some = turns_in span.e (size_at kind span.values) in
      subst (λ m. Cheapest kind span.e m span.values (cancel kind span.e m span.values)) (sym is)
      (cheapest_even kind span.e span.values _ some.0 long some.1 (evens kind laws span.e span.values some.0 long some.1))

  module _ (n : ℕ) (root : Span S) (is : Root n root) (means : Means n root.marks) (small : (adding : Adding kind) → total kind root.values ≤ adding.limit) where
    -- a span that was begun lies within the word
    pub begun_deep : (caps : ℕ → Caps) {path : List Side} {k : ℕ} → Begun kind root caps path k → length path ≤ n
    begun_deep caps begun_root = omega arith
    begun_deep caps (begun_left {path} {k} begun unsettled) =
        let some = unsettled_some (caps k) (span_at kind root path) unsettled in
        let e = path_e kind n root is path in
        omega arith
    begun_deep caps (begun_right {path} {k} begun unsettled l) =
        let some = unsettled_some (caps k) (span_at kind root path) unsettled in
        let e = path_e kind n root is path in
        omega arith

    -- a settled span has a kind, and its word is as cheap as that kind says
    pub settled_cheap : (caps : Caps) (path : List Side) → length path ≤ n → settled caps (span_at kind root path) ≡ true →
        (k : SpanKind) × (kind_of (span_at kind root path).marks ≡ Some k) × CheapAs kind k (span_at kind root path)
    settled_cheap caps path deep closed = go (kind_of (span_at kind root path).marks) refl
      where
        go : (o : Option SpanKind) → kind_of (span_at kind root path).marks ≡ o →
            (k : SpanKind) × (kind_of (span_at kind root path).marks ≡ Some k) × CheapAs kind k (span_at kind root path)
        go None none =
            let split : settled caps (span_at kind root path) ≡ false =
            path_split kind n root.marks root is refl path deep means caps (ap (settled_by caps (span_at kind root path).e) none) in
            let never : ◌≡◌ {A = ℕ} 0 1 = cc in
            absurd (omega arith)
        go (Some k) e =
            let full = path_full kind n root is path deep in (
              k,
              e,
              cheap_as k (span_at kind root path) full.values
                  (kind_marks (span_at kind root path).marks k e ∙ ap (pattern k) full.marks)
                  (λ adding. let whole = small adding in omega (arith, path_total adding.limit adding.adds root path whole)),
            )
