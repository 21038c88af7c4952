-- When a span has a kind. Assumes nothing.
use Rattle.std.proofs.Common.{◌≡◌, ℕ, zero, suc, ◌+◌, ◌-◌, ◌<◌, ◌≤◌, true, false, eqb, List, [], ◌∷◌, length, get_or, replicate, Some, None, sym, refl, ap, ◌∙◌, inl, inr, arith}
use Rattle.std.proofs.lemmas.Bool.{cases_Bool, and_parts, and_from, eqb-true, eq-eqb, cases_eq}
use Rattle.std.proofs.lemmas.List.{ext_get_or, length-replicate, length-append, get_or-replicate, get_or_append_left, get_or-append_right}
use Rattle.code.specs.declared.kinds.SpanKind.TheVariants.{Rate0, Rate1, Rep, Spc}
use Rattle.code.specs.Spans.{same, pattern, kind_of}

pub same_refl : (xs : List ℕ) → same xs xs ≡ true
same_refl [] = refl
same_refl (x ∷ xs) = and_from (eqb x x) (same xs xs) (eq-eqb x x refl) (same_refl xs)

pub eq_from_same : (xs ys : List ℕ) → same xs ys ≡ true → xs ≡ ys
eq_from_same [] [] h = refl
eq_from_same [] (y ∷ ys) h = cc
eq_from_same (x ∷ xs) [] h = cc
eq_from_same (x ∷ xs) (y ∷ ys) h =
    let parts = and_parts (eqb x y) (same xs ys) h in
    let heads = eqb-true x y parts.0 in
    let tails = eq_from_same xs ys parts.1 in
    cc

-- two lists that differ at a place
pub unlike : (xs ys : List ℕ) (i : ℕ) → (get_or xs i 0 ≡ get_or ys i 0 → ⊥) → same xs ys ≡ false
unlike xs ys i differ =
    elim (cases_Bool (same xs ys)) [ inl is ↦ absurd (differ (ap (λ l. get_or l i 0) (eq_from_same xs ys is))) | inr not ↦ not ]

-- a list that has at each place what a pattern of the same length has
pub alike : (xs ys : List ℕ) → length xs ≡ length ys → ((i : ℕ) → i < length xs → get_or xs i 0 ≡ get_or ys i 0) → same xs ys ≡ true
alike xs ys long each = ap (λ l. same xs l) (sym (ext_get_or 0 xs ys long each)) ∙ same_refl xs

get_or-rep_last : (t : ℕ) → get_or (pattern Rep t) (t - 1) 0 ≡ 1
get_or-rep_last t = get_or-append_right (replicate (t - 1) 0) (1 ∷ []) (t - 1) (t - 1) 0 (length-replicate (t - 1) 0) (omega arith) ∙ ap (λ i. get_or (1 ∷ []) i 0) zeroth
  where
    zeroth : t - 1 - (t - 1) ≡ 0
    zeroth = omega arith

get_or-rep : (t i : ℕ) → i + 1 < t → get_or (pattern Rep t) i 0 ≡ 0
get_or-rep t i before =
    get_or_append_left (replicate (t - 1) 0) (1 ∷ []) 0 i (omega (arith, length-replicate {A = ℕ} (t - 1) 0)) ∙ get_or-replicate (t - 1) i 0 0 (omega arith)

get_or-spc : (t i : ℕ) → suc i < t → get_or (pattern Spc t) (suc i) 0 ≡ 1
get_or-spc t i within = get_or-replicate (t - 1) i 1 0 (omega arith)

length_rep : (t : ℕ) → 1 ≤ t → t ≡ length (pattern Rep t)
length_rep t some = omega (arith, length-append {A = ℕ} (replicate (t - 1) 0) (1 ∷ []), length-replicate {A = ℕ} (t - 1) 0)

length_spc : (t : ℕ) → 1 ≤ t → t ≡ length (pattern Spc t)
length_spc t some = omega (arith, length-replicate {A = ℕ} (t - 1) 1)

module _ (marks : List ℕ) where
  pub is_rate0 : ((i : ℕ) → i < length marks → get_or marks i 0 ≡ 0) → kind_of marks ≡ Some Rate0
  unfolding kind_of
  is_rate0 frozen =
      let t = length marks in
      let fits = alike marks (pattern Rate0 t) (sym (length-replicate t 0)) (λ i h. frozen i h ∙ sym (get_or-replicate t i 0 0 h)) in
      rw fits

  -- some place is informed
  not_rate0 : (i : ℕ) → i < length marks → get_or marks i 0 ≡ 1 → same marks (pattern Rate0 (length marks)) ≡ false
  not_rate0 i within informed = unlike marks _ i (λ e. omega (arith, e, get_or-replicate {A = ℕ} (length marks) i 0 0 within))

  -- some place is frozen
  not_rate1 : (i : ℕ) → i < length marks → get_or marks i 0 ≡ 0 → same marks (pattern Rate1 (length marks)) ≡ false
  not_rate1 i within frozen = unlike marks _ i (λ e. omega (arith, e, get_or-replicate {A = ℕ} (length marks) i 1 0 within))

  -- some place before the last is informed
  not_rep : (i : ℕ) → i + 1 < length marks → get_or marks i 0 ≡ 1 → same marks (pattern Rep (length marks)) ≡ false
  not_rep i before informed = unlike marks _ i (λ e. omega (arith, e, get_or-rep (length marks) i before))

  -- some place after the first is frozen
  not_spc : (i : ℕ) → suc i < length marks → get_or marks (suc i) 0 ≡ 0 → same marks (pattern Spc (length marks)) ≡ false
  not_spc i within frozen = unlike marks _ (suc i) (λ e. omega (arith, e, get_or-spc (length marks) i within))

  pub is_rate1 : 1 ≤ length marks → ((i : ℕ) → i < length marks → get_or marks i 0 ≡ 1) → kind_of marks ≡ Some Rate1
  unfolding kind_of
  is_rate1 some informed =
      let t = length marks in
      let fits = alike marks (pattern Rate1 t) (sym (length-replicate t 1)) (λ i h. informed i h ∙ sym (get_or-replicate t i 1 0 h)) in
      rw (not_rate0 0 some (informed 0 some), fits)

  pub is_rep : 2 ≤ length marks → ((i : ℕ) → i + 1 < length marks → get_or marks i 0 ≡ 0) → get_or marks (length marks - 1) 0 ≡ 1 → kind_of marks ≡ Some Rep
  unfolding kind_of
  is_rep two frozen last =
      let t = length marks in
      let each : (i : ℕ) → i < t → get_or marks i 0 ≡ get_or (pattern Rep t) i 0 = λ i h. elim (cases_eq i (t - 1)) [
        | inl end ↦ ap (λ j. get_or marks j 0) end ∙ last ∙ sym (get_or-rep_last t) ∙ ap (λ j. get_or (pattern Rep t) j 0) (sym end)
        | inr before ↦ let h' : i + 1 < t = omega arith in frozen i h' ∙ sym (get_or-rep t i h')
      ] in
      let fits = alike marks (pattern Rep t) (length_rep t (omega arith)) each in
      rw (not_rate0 (t - 1) (omega arith) last, not_rate1 0 (omega arith) (frozen 0 (omega arith)), fits)

  pub is_spc : 3 ≤ length marks → get_or marks 0 0 ≡ 0 → ((i : ℕ) → suc i < length marks → get_or marks (suc i) 0 ≡ 1) → kind_of marks ≡ Some Spc
  unfolding kind_of
  is_spc three first informed =
      let t = length marks in
      let at : (i : ℕ) → i < t → get_or marks i 0 ≡ get_or (pattern Spc t) i 0 = elim [
        | zero ↦ λ h. first
        | suc i ↦ λ h. informed i h ∙ sym (get_or-spc t i h)
      ] in
      let fits = alike marks (pattern Spc t) (length_spc t (omega arith)) at in
      let second = informed 0 (omega arith) in
      rw (not_rate0 1 (omega arith) second, not_rate1 0 (omega arith) first, not_rep 1 (omega arith) second, fits)

  pub is_none : 3 ≤ length marks → get_or marks 0 0 ≡ 0 → get_or marks 1 0 ≡ 0 → get_or marks (length marks - 2) 0 ≡ 1 → kind_of marks ≡ None
  unfolding kind_of
  is_none three first second beforeLast =
      let t = length marks in
      rw (not_rate0 (t - 2) (omega arith) beforeLast, not_rate1 0 (omega arith) first, not_rep (t - 2) (omega arith) beforeLast, not_spc 0 (omega arith) second)
