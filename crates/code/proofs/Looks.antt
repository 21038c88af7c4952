-- A span of a ranked map is named by few looks. Assumes nothing.
use Rattle.std.proofs.Common.{◌≡◌, ℕ, suc, ◌+◌, ◌-◌, ◌%◌, ◌^◌, ◌<◌, ◌≤◌, Bool, true, false, cond, eqb, ltb, ◌⊎◌, List, length, get_or, drop, Ok, Err, Option, sym, refl, ap, ◌∙◌, subst, inl, inr, arith, pow_pos, pow_mono}
use Rattle.std.proofs.lemmas.Bool.{cases_lt, cases_eq, cond-true, cond-false, lt-ltb, le-ltb, eqb-true, eqb-false}
use Rattle.std.proofs.lemmas.List.{length-take-le, length-drop, length-map, get_or-map, get_or-take, get_or-drop, get_or_past}
use Rattle.code.specs.declared.faults.MapFault.TheVariants.{Outside}
use Rattle.code.specs.declared.kinds.Mark.TheVariants.{Frozen, Informed}
use Rattle.code.specs.declared.kinds.SpanKind.{SpanKind}
use Rattle.code.specs.Spans.{part, kind_of, is_span, Means, mark_answer, kind_answer}
use Rattle.code.specs.Orders.{ranks_of, ranked_marks}
use Rattle.code.specs.Looks.{informed_at, kind_by_looks, looks_at, FewLooks}
use Rattle.code.proofs.SpanLaw.{SpanLaw, last_lowest, first_highest, last_but_one_lowest, second_highest}
use Rattle.code.proofs.KindPatterns.{is_rate0, is_rate1, is_rep, is_spc, is_none}
use Rattle.code.proofs.SpanTests.{power_is, span_power, span_whole, span_within, span_long}
use Rattle.code.proofs.LawfulSpans.{Accepted, accepted_from, span_lawful}

-- 2 ^ e places that keep the law, those of rank below k informed
module _
    (e : ℕ) (f : ℕ → ℕ) (k : ℕ) (law : SpanLaw e f) (marks : List ℕ)
    (long : length marks ≡ 2 ^ e)
    (is : (i : ℕ) → i < 2 ^ e → get_or marks i 0 ≡ cond (ltb (f i) k) 1 0) where
  informed : (i : ℕ) → i < 2 ^ e → f i < k → get_or marks i 0 ≡ 1
  informed i within below = is i within ∙ cond-true (ltb (f i) k) 1 0 (lt-ltb (f i) k below)

  frozen : (i : ℕ) → i < 2 ^ e → k ≤ f i → get_or marks i 0 ≡ 0
  frozen i within above = is i within ∙ cond-false (ltb (f i) k) 1 0 (le-ltb (f i) k above)

  seen : (i : ℕ) → i < 2 ^ e → true ≡ informed_at marks i → f i < k
  seen i within look =
      elim (cases_lt (f i) k) [ inl below ↦ below | inr above ↦ absurd (omega (arith, frozen i within above, eqb-true (get_or marks i 0) 1 (sym look))) ]

  unseen : (i : ℕ) → i < 2 ^ e → false ≡ informed_at marks i → k ≤ f i
  unseen i within look =
      elim (cases_lt (f i) k) [ inl below ↦ absurd (eqb-false (get_or marks i 0) 1 (sym look) (informed i within below)) | inr above ↦ above ]

  -- a place that is informed and one that is not are two
  several : f (2 ^ e - 1) < k → k ≤ f 0 → 1 ≤ e
  several last first = elim (cases_eq e 0) [ inl none ↦ absurd (omega (arith, ap (λ x. f (2 ^ x - 1)) none)) | inr some ↦ omega arith ]

  many : f (2 ^ e - 2) < k → k ≤ f 0 → 1 ≤ e → 4 ≤ 2 ^ e
  many beforeLast first some =
      let two : e ≡ 1 → ⊥ = λ one. omega (arith, ap (λ x. f (2 ^ x - 2)) one) in
      let more : 2 ≤ e = elim (cases_eq e 1) [ inl one ↦ absurd (two one) | inr other ↦ omega arith ] in
      pow_mono more

  -- the looks name the span; a span of one position has no second one and no last but one
  pub named : (first second beforeLast last : Bool) →
      first ≡ informed_at marks 0 → (1 ≤ e → second ≡ informed_at marks 1) →
      (1 ≤ e → beforeLast ≡ informed_at marks (2 ^ e - 2)) → last ≡ informed_at marks (2 ^ e - 1) →
      kind_of marks ≡ kind_by_looks first second beforeLast last
  named first second beforeLast false p q r s =
      let high = unseen (2 ^ e - 1) (omega (arith, pow_pos e)) s in
      is_rate0 marks (λ i h. frozen i (omega arith) (omega (arith, high, last_lowest e f law i (omega arith))))
  named true second beforeLast true p q r s =
      let low = seen 0 (pow_pos e) p in
      is_rate1 marks (omega (arith, pow_pos e)) (λ i h. informed i (omega arith) (omega (arith, low, first_highest e f law i (omega arith))))
  named false second false true p q r s =
      let low = seen (2 ^ e - 1) (omega (arith, pow_pos e)) s in
      let some = several low (unseen 0 (pow_pos e) p) in
      let two : 2 ^ 1 ≤ 2 ^ e = pow_mono some in
      let high = unseen (2 ^ e - 2) (omega arith) (r some) in
      is_rep marks (omega arith)
      (λ i h. frozen i (omega arith) (omega (arith, high, last_but_one_lowest e f law some i (omega arith))))
      (ap (λ t. get_or marks (t - 1) 0) long ∙ informed (2 ^ e - 1) (omega arith) low)
  named false true true true p q r s =
      let high = unseen 0 (pow_pos e) p in
      let some = several (seen (2 ^ e - 1) (omega (arith, pow_pos e)) s) high in
      let two : 2 ^ 1 ≤ 2 ^ e = pow_mono some in
      let four = many (seen (2 ^ e - 2) (omega arith) (r some)) high some in
      let low = seen 1 (omega arith) (q some) in
      is_spc marks (omega arith) (frozen 0 (omega arith) high)
      (λ i h. informed (suc i) (omega arith) (omega (arith, low, second_highest e f law some (suc i) (omega arith) (omega arith))))
  named false false true true p q r s =
      let high = unseen 0 (pow_pos e) p in
      let some = several (seen (2 ^ e - 1) (omega (arith, pow_pos e)) s) high in
      let two : 2 ^ 1 ≤ 2 ^ e = pow_mono some in
      let low = seen (2 ^ e - 2) (omega arith) (r some) in
      let four = many low high some in
      is_none marks (omega arith) (frozen 0 (omega arith) high)
      (frozen 1 (omega arith) (unseen 1 (omega arith) (q some)))
      (ap (λ t. get_or marks (t - 2) 0) long ∙ informed (2 ^ e - 2) (omega arith) low)

bit : (b : Bool) → cond b 1 0 ≤ 1
bit true = omega arith
bit false = omega arith

one_if : (b : Bool) → eqb (cond b 1 0) 1 ≡ b
one_if true = refl
one_if false = refl

module _ (n : ℕ) (ranks : List ℕ) (k : ℕ) (accepted : Accepted n ranks) where
  length_marks : length (ranked_marks ranks k) ≡ 2 ^ n
  unfolding ranked_marks
  length_marks = length-map ranks _ ∙ accepted.long

  -- the mark of a position by its rank
  pub get_or-marks : (p : ℕ) → p < 2 ^ n → get_or (ranked_marks ranks k) p 0 ≡ cond (ltb (get_or ranks p 0) k) 1 0
  unfolding ranked_marks
  get_or-marks p within = get_or-map (λ r. cond (ltb r k) 1 0) ranks p 0 0 (omega (arith, accepted.long))

  -- a look at a position is a look at its rank
  pub look_is : (p : ℕ) → p < 2 ^ n → ltb (get_or ranks p 0) k ≡ informed_at (ranked_marks ranks k) p
  look_is p within = sym (ap (λ m. eqb m 1) (get_or-marks p within) ∙ one_if (ltb (get_or ranks p 0) k))

  -- a ranked map means a list of marks
  pub marks_mean : Means n (ranked_marks ranks k)
  marks_mean =
      record {
        low = accepted.low;
        high = accepted.high;
        long = length_marks;
        bits = λ i. elim (cases_lt i (2 ^ n)) [
          | inl within ↦ omega (arith, get_or-marks i within, bit (ltb (get_or ranks i 0) k))
          | inr past ↦ omega (arith, get_or_past (ranked_marks ranks k) i 0 (omega (arith, length_marks)))
        ];
      }

  -- the marks of a span, by the marks of the map
  get_d_part : (s t i : ℕ) → i < t → get_or (part (ranked_marks ranks k) s t) i 0 ≡ get_or (ranked_marks ranks k) (s + i) 0
  get_d_part s t i within = get_or-take t (drop s (ranked_marks ranks k)) i 0 within ∙ get_or-drop s (ranked_marks ranks k) i 0

  length_part : (s t : ℕ) → s + t ≤ 2 ^ n → length (part (ranked_marks ranks k) s t) ≡ t
  length_part s t within = length-take-le t (drop s (ranked_marks ranks k)) (omega (arith, length-drop s (ranked_marks ranks k), length_marks))

  -- a look within the span is a look at the map
  look_at : (s t i p : ℕ) → i < t → p ≡ s + i → informed_at (ranked_marks ranks k) p ≡ informed_at (part (ranked_marks ranks k) s t) i
  look_at s t i p within there = ap (λ m. eqb m 1) (ap (λ q. get_or (ranked_marks ranks k) q 0) there ∙ sym (get_d_part s t i within))

  -- the kind of a span, by looks at the positions that it has
  pub kind_from_looks : (s t : ℕ) → is_span n s t ≡ true → (first second beforeLast last : Bool) →
      first ≡ informed_at (ranked_marks ranks k) s → (2 ≤ t → second ≡ informed_at (ranked_marks ranks k) (s + 1)) →
      (2 ≤ t → beforeLast ≡ informed_at (ranked_marks ranks k) (s + t - 2)) → last ≡ informed_at (ranked_marks ranks k) (s + t - 1) →
      kind_of (part (ranked_marks ranks k) s t) ≡ kind_by_looks first second beforeLast last
  kind_from_looks s t span first second beforeLast last atFirst atSecond atBeforeLast atLast =
      let marks = ranked_marks ranks k in
      let power = power_is n t (span_power n s t span) in
      let e = power.0 in
      let size : t ≡ 2 ^ e = power.2 in
      let within = span_within n s t span in
      let some = span_long n s t span in
      let two : 1 ≤ e → 2 ≤ t = λ h. let pow : 2 ^ 1 ≤ 2 ^ e = pow_mono h in omega arith in
      named e (λ i. get_or ranks (s + i) 0) k
      (span_lawful n ranks accepted s e power.1 (ap (λ x. s % x) (sym size) ∙ span_whole n s t span) (omega arith))
      (part marks s t) (length_part s t within ∙ size)
      (λ i h. get_d_part s t i (omega arith) ∙ get_or-marks (s + i) (omega arith))
      first second beforeLast last
      (atFirst ∙ look_at s t 0 s (omega arith) (omega arith))
      (λ h. atSecond (two h) ∙ look_at s t 1 (s + 1) (two h) (omega arith))
      (λ h. atBeforeLast (two h) ∙ look_at s t (2 ^ e - 2) (s + t - 2) (omega (arith, two h)) (omega (arith, two h)))
      (atLast ∙ look_at s t (2 ^ e - 1) (s + t - 1) (omega arith) (omega arith))

  -- the kind of a span is what the four looks say
  pub kind_by_looks_lem : (s t : ℕ) → is_span n s t ≡ true → kind_of (part (ranked_marks ranks k) s t) ≡ looks_at (ranked_marks ranks k) s t
  kind_by_looks_lem s t span = kind_from_looks s t span _ _ _ _ refl (λ _. refl) (λ _. refl) refl

  -- the answers of a ranked map
  pub kind_is : (s t : ℕ) (r : Option SpanKind) → true ≡ is_span n s t → r ≡ looks_at (ranked_marks ranks k) s t → Ok r ≡ kind_answer n (ranked_marks ranks k) s t
  kind_is s t r span looks = ap Ok (looks ∙ sym (kind_by_looks_lem s t (sym span))) ∙ sym (cond-true (is_span n s t) _ _ (sym span))

  pub mark_outside : (p : ℕ) → 2 ^ n ≤ p → Err Outside ≡ mark_answer (ranked_marks ranks k) p
  mark_outside p past = sym (cond-false (ltb p (length (ranked_marks ranks k))) _ _ (le-ltb p _ (omega (arith, length_marks))))

  pub mark_inside : (p : ℕ) (b : Bool) → p < 2 ^ n → b ≡ informed_at (ranked_marks ranks k) p → Ok (cond b Informed Frozen) ≡ mark_answer (ranked_marks ranks k) p
  mark_inside p b within look =
      ap (λ x. Ok (cond x Informed Frozen)) look ∙ sym (cond-true (ltb p (length (ranked_marks ranks k))) _ _ (lt-ltb p _ (omega (arith, length_marks))))

-- two ranked maps that agree on the first two and the last two positions of a span
pub few_looks : FewLooks 2
few_looks n bytes others k l s t accepted accepted' span agree =
    let a = accepted_from n bytes accepted in
    let b = accepted_from n others accepted' in
    let xs = ranked_marks (ranks_of bytes) k in
    let ys = ranked_marks (ranks_of others) l in
    let some = span_long n s t span in
    let same : (i p : ℕ) → p ≡ s + i → i < t → (i < 2) ⊎ (t ≤ i + 2) → informed_at xs p ≡ informed_at ys p = λ i p there within end.
    ap (λ m. eqb m 1) (subst (λ q. get_or xs q 0 ≡ get_or ys q 0) (sym there) (agree i within end)) in
    kind_from_looks n (ranks_of bytes) k a s t span _ _ _ _ refl (λ _. refl) (λ _. refl) refl ∙ sym (kind_from_looks n (ranks_of others) l b s t span _ _ _ _
    (same 0 s (omega arith) (omega arith) (inl (omega arith)))
    (λ two. same 1 (s + 1) (omega arith) (omega arith) (inl (omega arith)))
    (λ two. same (t - 2) (s + t - 2) (omega arith) (omega arith) (inr (omega arith)))
    (same (t - 1) (s + t - 1) (omega arith) (omega arith) (inr (omega arith))))
