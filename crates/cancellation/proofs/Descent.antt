-- The values and the word of a span from those of the span around it. Assumes nothing.
use Rattle.std.proofs.Common.{◌≡◌, ℕ, zero, suc, ◌+◌, ◌-◌, ◌*◌, ◌^◌, ◌<◌, ◌≤◌, cond, leb, List, [], ◌∷◌, take, drop, sym, refl, ap, ◌∙◌, subst, ap₂, ⊎_elim, mul-le-mul_right, suc-mul, add-mul, arith, pow_pos, pow-add}
use native.Mathlib.Nat.{two-pow-succ}
use Rattle.std.proofs.lemmas.List.{take-take, drop-drop, drop-take}
use Rattle.std.proofs.lemmas.Bool.{cases_lt, le-leb, lt-leb, lt-ltb, le-ltb, cond-true}
use Rattle.soft.specs.Kind.{Kind}
use Rattle.code.specs.Spans.{part}
use Rattle.code.specs.Transform.{join_halves}
use Rattle.cancellation.specs.Rows.{left_values, right_values}
use Rattle.cancellation.specs.Cancel.{cancel, span_values, span_word}

-- a span of 2 ^ e positions from s on, within 2 ^ n
pub record Span (n e s : ℕ) : Type 0 where
  pub fits : e ≤ n
  pub within : s + 2 ^ e ≤ 2 ^ n
  pub number : ℕ
  pub start : s ≡ number * 2 ^ e

-- a span that is shorter than the whole lies in one of its halves
module _ (m e s : ℕ) (span : Span (suc m) e s) (shorter : e ≤ m) where
  count : 2 ^ m ≡ 2 ^ (m - e) * 2 ^ e
  count = let all : (m - e) + e ≡ m = omega arith in ap (λ k. 2 ^ k) (sym all) ∙ pow-add 2 (m - e) e

  pub in_left : s < 2 ^ m → Span m e s
  in_left low =
      let k = 2 ^ (m - e) in
      let q = span.number in
      let c = count in
      let st = span.start in
      let less : q < k = ⊎_elim (λ lt. lt) (λ ge. let h = mul-le-mul_right (2 ^ e) ge in let n : ⊥ = omega arith in absurd n) (cases_lt q k) in
      let up = mul-le-mul_right (2 ^ e) less in
      let one : suc q * 2 ^ e ≡ q * 2 ^ e + 2 ^ e = suc-mul q (2 ^ e) in
      record { fits = shorter; within = omega arith; number = q; start = st }

  pub in_right : 2 ^ m ≤ s → Span m e (s - 2 ^ m)
  in_right high =
      let k = 2 ^ (m - e) in
      let q = span.number in
      let c = count in
      let st = span.start in
      let w = span.within in
      let two = two-pow-succ m in
      let p = pow_pos e in
      let more : k ≤ q = ⊎_elim (λ lt. let h = mul-le-mul_right (2 ^ e) lt in let one = suc-mul q (2 ^ e) in let n : ⊥ = omega arith in absurd n) (λ ge. ge) (cases_lt q k) in
      let split : q ≡ (q - k) + k = omega arith in
      let parts : q * 2 ^ e ≡ (q - k) * 2 ^ e + k * 2 ^ e = ap (λ x. x * 2 ^ e) split ∙ add-mul (q - k) k (2 ^ e) in
      record { fits = shorter; within = omega arith; number = q - k; start = omega arith }

part_take : {X : Type 0} (t s n : ℕ) (xs : List X) → s + t ≤ n → part (take n xs) s t ≡ part xs s t
part_take t zero n xs h = take-take t n xs (omega arith)
part_take t (suc s) zero xs h = let k : ⊥ = omega arith in absurd k
part_take t (suc s) (suc n) [] h = refl
part_take t (suc s) (suc n) (x ∷ xs) h = part_take t s n xs (omega arith)

part_drop : {X : Type 0} (t s n : ℕ) (xs : List X) → n ≤ s → part (drop n xs) (s - n) t ≡ part xs s t
part_drop t s n xs h = let all : n + (s - n) ≡ s = omega arith in ap (take t) (drop-drop (s - n) n xs ∙ ap (λ k. drop k xs) all)

module _ {S : Type 0} (kind : Kind S) where
  -- the values on which the right half of the whole is decoded
  abbrev after : ℕ → List ℕ → List S → List S
  after m marks values = right_values kind m values (cancel kind m (take (2 ^ m) marks) (left_values kind m values))

  pub span_whole : (n : ℕ) (marks : List ℕ) (values : List S) (s : ℕ) → span_values kind n marks values n s ≡ values
  unfolding span_values
  span_whole zero marks values s = refl
  span_whole (suc m) marks values s = cond-true (leb (suc m) (suc m)) values _ (le-leb (suc m) (suc m) (omega arith))

  module _ (m : ℕ) (marks : List ℕ) (values : List S) (e s : ℕ) (shorter : e ≤ m) where
    go_left : s < 2 ^ m → span_values kind (suc m) marks values e s ≡ span_values kind m (take (2 ^ m) marks) (left_values kind m values) e s
    unfolding span_values
    go_left low =
        ap₂ (λ t u. cond t values (cond u (span_values kind m (take (2 ^ m) marks) (left_values kind m values) e s) (span_values kind m (drop (2 ^ m) marks) (after m marks values) e (s - 2 ^ m))))
        (lt-leb (suc m) e (omega arith)) (lt-ltb s (2 ^ m) low)

    go_right : 2 ^ m ≤ s → span_values kind (suc m) marks values e s ≡ span_values kind m (drop (2 ^ m) marks) (after m marks values) e (s - 2 ^ m)
    unfolding span_values
    go_right high =
        ap₂ (λ t u. cond t values (cond u (span_values kind m (take (2 ^ m) marks) (left_values kind m values) e s) (span_values kind m (drop (2 ^ m) marks) (after m marks values) e (s - 2 ^ m))))
        (lt-leb (suc m) e (omega arith)) (le-ltb s (2 ^ m) high)

  -- both halves of a span, by its values
  abbrev Halved : ℕ → List ℕ → List S → ℕ → ℕ → Type 0
  Halved n marks values e s =
      (let row = span_values kind n marks values (suc e) s in
      (span_values kind n marks values e s ≡ left_values kind e row)
      × (span_values kind n marks values e (s + 2 ^ e) ≡ right_values kind e row (cancel kind e (part marks s (2 ^ e)) (left_values kind e row))))

  whole_halved : (m : ℕ) (marks : List ℕ) (values : List S) → Halved (suc m) marks values m 0
  whole_halved m marks values =
      let root = span_whole (suc m) marks values 0 in
      let p = pow_pos m in
      let none : 0 + 2 ^ m ≡ 2 ^ m = omega arith in (
        go_left m marks values m 0 (omega arith) p ∙ span_whole m _ _ 0 ∙ ap (left_values kind m) (sym root),
        ap (span_values kind (suc m) marks values m) none ∙ go_right m marks values m (2 ^ m) (omega arith) (omega arith) ∙ span_whole m _ _ _
            ∙ ap (λ row. right_values kind m row (cancel kind m (take (2 ^ m) marks) (left_values kind m row))) (sym root),
      )

  -- where both spans lie in the same half of the whole
  module _ (m e s : ℕ) (marks : List ℕ) (values : List S) (span : Span (suc m) (suc e) s) (shorter : suc e ≤ m) where
    halved_left : s < 2 ^ m → Halved m (take (2 ^ m) marks) (left_values kind m values) e s → Halved (suc m) marks values e s
    halved_left low ih =
        let w = (in_left m (suc e) s span shorter low).within in
        let two = two-pow-succ e in
        let p = pow_pos e in
        let row = sym (go_left m marks values (suc e) s shorter low) in
        let below : s + 2 ^ e ≤ 2 ^ m = omega arith in (
          go_left m marks values e s (omega arith) low ∙ ih.0 ∙ ap (left_values kind e) row,
          go_left m marks values e (s + 2 ^ e) (omega arith) (omega arith) ∙ ih.1
              ∙ ap₂ (λ p r. right_values kind e r (cancel kind e p (left_values kind e r))) (part_take (2 ^ e) s (2 ^ m) marks below) row,
        )

    halved_right : 2 ^ m ≤ s → Halved m (drop (2 ^ m) marks) (after m marks values) e (s - 2 ^ m) → Halved (suc m) marks values e s
    halved_right high ih =
        let row = sym (go_right m marks values (suc e) s shorter high) in
        let next : (s + 2 ^ e) - 2 ^ m ≡ (s - 2 ^ m) + 2 ^ e = omega arith in (
          go_right m marks values e s (omega arith) high ∙ ih.0 ∙ ap (left_values kind e) row,
          go_right m marks values e (s + 2 ^ e) (omega arith) (omega arith)
              ∙ ap (span_values kind m (drop (2 ^ m) marks) (after m marks values) e) next ∙ ih.1
              ∙ ap₂ (λ p r. right_values kind e r (cancel kind e p (left_values kind e r))) (part_drop (2 ^ e) s (2 ^ m) marks high) row,
        )

  -- the values of a span's halves are those that cancellation makes from the span's own
  pub halved_span : (n : ℕ) (marks : List ℕ) (values : List S) (e s : ℕ) → Span n (suc e) s → Halved n marks values e s
  halved_span zero marks values e s span = let f = span.fits in let n : ⊥ = omega arith in absurd n
  halved_span (suc m) marks values e s span =
      let f = span.fits in
      ⊎_elim
      (λ shorter. ⊎_elim
      (λ low. halved_left m e s marks values span shorter low (halved_span m (take (2 ^ m) marks) (left_values kind m values) e s (in_left m (suc e) s span shorter low)))
      (λ high. halved_right m e s marks values span shorter high (halved_span m (drop (2 ^ m) marks) (after m marks values) e (s - 2 ^ m) (in_right m (suc e) s span shorter high)))
      (cases_lt s (2 ^ m)))
      (λ whole.
      let at : m ≡ e = omega arith in
      let w = span.within in
      let same : 2 ^ suc m ≡ 2 ^ suc e = ap (λ k. 2 ^ suc k) at in
      let start : 0 ≡ s = omega arith in
      subst (λ x. Halved (suc m) marks values x s) at (subst (λ y. Halved (suc m) marks values m y) start (whole_halved m marks values)))
      (cases_lt e m)

  -- the word of a span is made from the words of its halves
  pub span_joined : (n : ℕ) (marks : List ℕ) (values : List S) (e s : ℕ) → Span n (suc e) s →
      span_word kind n marks values (suc e) s ≡ join_halves (span_word kind n marks values e s) (span_word kind n marks values e (s + 2 ^ e))
  unfolding cancel
  span_joined n marks values e s span =
      let row = span_values kind n marks values (suc e) s in
      let halves = halved_span n marks values e s span in
      let two = two-pow-succ e in
      let front : take (2 ^ e) (part marks s (2 ^ suc e)) ≡ part marks s (2 ^ e) = take-take (2 ^ e) (2 ^ suc e) (drop s marks) (omega arith) in
      let back : drop (2 ^ e) (part marks s (2 ^ suc e)) ≡ part marks (s + 2 ^ e) (2 ^ e) =
      ap (λ t. drop (2 ^ e) (take t (drop s marks))) two ∙ drop-take (2 ^ e) (2 ^ e) (drop s marks) ∙ ap (take (2 ^ e)) (drop-drop (2 ^ e) s marks) in
      ap₂ (λ x y. join_halves (cancel kind e x (left_values kind e row)) (cancel kind e y (right_values kind e row (cancel kind e x (left_values kind e row))))) front back
      ∙ ap₂ (λ l r. join_halves (cancel kind e (part marks s (2 ^ e)) l) (cancel kind e (part marks (s + 2 ^ e) (2 ^ e)) r)) (sym halves.0) (sym halves.1)
