-- What the map answers of the spans along a path. Assumes nothing.
use Rattle.std.proofs.Common.{◌≡◌, ℕ, zero, suc, ◌+◌, ◌%◌, ◌^◌, ◌≤◌, Bool, true, false, cond, ◌||◌, eqb, List, [], ◌∷◌, length, get_or, drop, Some, None, Ok, Err, Option, sym, refl, ap, ◌∙◌, arith, subst}
use native.Mathlib.Nat.{mul-mod_left}
use Rattle.std.proofs.lemmas.Bool.{eq-eqb, ne_eqb, le-leb, and_from}
use Rattle.std.proofs.lemmas.List.{get_or-take, get_or-drop}
use Rattle.code.specs.declared.kinds.SpanKind.{SpanKind}
use Rattle.code.specs.declared.faults.MapFault.TheVariants.{Outside}
use Rattle.code.specs.Spans.{same, pattern, kinds, first_fit, kind_of, part, is_span, kind_answer, Means}
use Rattle.code.proofs.KindPatterns.{eq_from_same}
use Rattle.soft.specs.Kind.{Kind}
use Rattle.code.proofs.SpanTests.{power_at}
use Rattle.receiver.specs.Work.{Caps, allowed_kind, allowed, settled, Span, Root, Side, span_at}
use Rattle.receiver.specs.Steps.{settled_by}
use Rattle.receiver.proofs.Paths.{path_e, path_full, path_marks, path_start}

-- a span that has a kind has the marks of that kind
pub kind_marks : (marks : List ℕ) (k : SpanKind) → kind_of marks ≡ Some k → marks ≡ pattern k (length marks)
unfolding kind_of
kind_marks marks k is = go kinds is
  where
    go : (ks : List SpanKind) → first_fit ks marks ≡ Some k → marks ≡ pattern k (length marks)
    go [] h = let z : ◌≡◌ {A = ℕ} 0 1 = cc in absurd (omega arith)
    go (j ∷ ks) h = here (same marks (pattern j (length marks))) refl (go ks)
      where
        here : (b : Bool) → same marks (pattern j (length marks)) ≡ b → (first_fit ks marks ≡ Some k → marks ≡ pattern k (length marks)) → marks ≡ pattern k (length marks)
        here true e later =
            let found : Some j ≡ Some k = sym (ap (λ b. cond b (Some j) (first_fit ks marks)) e) ∙ h in
            let jk : j ≡ k = cc in
            eq_from_same marks (pattern j (length marks)) e ∙ ap (λ i. pattern i (length marks)) jk
        here false e later = later (sym (ap (λ b. cond b (Some j) (first_fit ks marks)) e) ∙ h)

-- what a map means, told by its own n
pub means_known : {k n : ℕ} {marks : List ℕ} → k ≡ n → Means k marks → Means n marks
means_known {k} {n} {marks} is means = subst (λ m. Means m marks) is means

-- a single position has a kind
pub single_kind : (marks : List ℕ) → length marks ≡ 1 → get_or marks 0 0 ≤ 1 → kind_of marks ≡ None → ⊥
unfolding kind_of
single_kind [] long bit none = omega arith
single_kind (zero ∷ []) long bit none = let z : ◌≡◌ {A = ℕ} 0 1 = cc in omega arith
single_kind (suc zero ∷ []) long bit none = let z : ◌≡◌ {A = ℕ} 0 1 = cc in omega arith
single_kind (suc (suc m) ∷ []) long bit none = omega arith
single_kind (x ∷ (y ∷ marks)) long bit none = omega arith

module _ {S : Type 0} (kind : Kind S) (n : ℕ) (marks : List ℕ) (root : Span S) (is : Root n root) (these : root.marks ≡ marks) (path : List Side) (deep : length path ≤ n) where
  -- the span at a path is a span within the word
  pub path_span : is_span n (span_at kind root path).start (2 ^ (span_at kind root path).e) ≡ true
  path_span =
      let span = span_at kind root path in
      let there = path_start kind n root is path deep in
      let whole : span.start % 2 ^ span.e ≡ 0 = ap (λ s. s % 2 ^ span.e) there.1.1 ∙ mul-mod_left there.1.0 (2 ^ span.e) in
      and_from _ _ (power_at n span.e (omega (arith, path_e kind n root is path)))
      (and_from _ _ (eq-eqb (span.start % 2 ^ span.e) 0 whole) (le-leb (span.start + 2 ^ span.e) (2 ^ n) there.0))

  -- the map answers with the kind of its marks
  pub path_kind : kind_answer n marks (span_at kind root path).start (2 ^ (span_at kind root path).e) ≡ Ok (kind_of (span_at kind root path).marks)
  path_kind =
      let span = span_at kind root path in
      ap (λ b. cond b (Ok (kind_of (part marks span.start (2 ^ span.e)))) (Err Outside)) path_span
      ∙ ap (λ m. Ok (kind_of m)) (ap (λ m. part m span.start (2 ^ span.e)) (sym these) ∙ sym (path_marks kind n root is path deep))

  path_single : Means n marks → (span_at kind root path).e ≡ 0 → kind_of (span_at kind root path).marks ≡ None → ⊥
  path_single means one none =
      let span = span_at kind root path in
      let full = path_full kind n root is path deep in
      let long : length span.marks ≡ 1 = full.marks ∙ ap (λ k. 2 ^ k) one in
      let first : get_or span.marks 0 0 ≡ get_or marks (span.start + 0) 0 =
      ap (λ m. get_or m 0 0) (path_marks kind n root is path deep)
      ∙ get_or-take (2 ^ span.e) (drop span.start root.marks) 0 0 (omega (arith, ap (λ k. 2 ^ k) one))
      ∙ get_or-drop span.start root.marks 0 0 ∙ ap (λ m. get_or m (span.start + 0) 0) these in
      single_kind span.marks long (omega (arith, first, means.bits (span.start + 0))) none

  -- what is found of the span by its kind is whether it is settled
  pub path_settled : (caps : Caps) (k : SpanKind) → settled_by caps (span_at kind root path).e (kind_of (span_at kind root path).marks) ≡ Some k →
      (settled caps (span_at kind root path) ≡ true) × (kind_of (span_at kind root path).marks ≡ Some k)
  path_settled caps k found = go (kind_of (span_at kind root path).marks) refl found
    where
      go : (o : Option SpanKind) → kind_of (span_at kind root path).marks ≡ o → settled_by caps (span_at kind root path).e o ≡ Some k →
          (settled caps (span_at kind root path) ≡ true) × (kind_of (span_at kind root path).marks ≡ Some k)
      go None e h = let z : ◌≡◌ {A = ℕ} 0 1 = cc in absurd (omega arith)
      go (Some j) e h = by (eqb (span_at kind root path).e 0 || allowed_kind caps (span_at kind root path).e j) refl
        where
          by : (b : Bool) → (eqb (span_at kind root path).e 0 || allowed_kind caps (span_at kind root path).e j) ≡ b →
              (settled caps (span_at kind root path) ≡ true) × (kind_of (span_at kind root path).marks ≡ Some k)
          by true t = (
            ap (λ o. eqb (span_at kind root path).e 0 || allowed caps (span_at kind root path).e o) e ∙ t,
            e ∙ (sym (ap (λ b. cond b (Some j) None) t) ∙ h),
          )
          by false t =
              let never : None ≡ Some k = sym (ap (λ b. cond b (Some j) None) t) ∙ h in
              let z : ◌≡◌ {A = ℕ} 0 1 = cc in absurd (omega arith)

  pub path_split : Means n marks → (caps : Caps) → settled_by caps (span_at kind root path).e (kind_of (span_at kind root path).marks) ≡ None →
      settled caps (span_at kind root path) ≡ false
  path_split means caps found = go (kind_of (span_at kind root path).marks) refl found
    where
      go : (o : Option SpanKind) → kind_of (span_at kind root path).marks ≡ o → settled_by caps (span_at kind root path).e o ≡ None →
          settled caps (span_at kind root path) ≡ false
      go None e h =
          ap (λ o. eqb (span_at kind root path).e 0 || allowed caps (span_at kind root path).e o) e
          ∙ ap (λ b. b || false) (ne_eqb (span_at kind root path).e 0 (λ one. path_single means one e))
      go (Some j) e h = by (eqb (span_at kind root path).e 0 || allowed_kind caps (span_at kind root path).e j) refl
        where
          by : (b : Bool) → (eqb (span_at kind root path).e 0 || allowed_kind caps (span_at kind root path).e j) ≡ b → settled caps (span_at kind root path) ≡ false
          by true t =
              let never : Some j ≡ None = sym (ap (λ b. cond b (Some j) None) t) ∙ h in
              let z : ◌≡◌ {A = ℕ} 0 1 = cc in absurd (omega arith)
          by false t = ap (λ o. eqb (span_at kind root path).e 0 || allowed caps (span_at kind root path).e o) e ∙ t
