-- The search for the place to turn. Assumes nothing.
use Rattle.std.proofs.Common.{◌≡◌, ℕ, zero, suc, ◌+◌, ◌-◌, ◌*◌, ◌/◌, ◌%◌, ◌^◌, ◌<◌, ◌≤◌, Bool, true, false, cond, eqb, ltb, ◌⊎◌, List, length, get_or, take, drop, sym, refl, ap, ◌∙◌, subst, ap₂, inl, inr, ⊎_elim, mul_assoc, arith, pow_pos, pow-add}
use native.Mathlib.Nat.{two-pow-succ, add-mul, lt_of_mul-lt-mul_right, mul-lt-mul_of_pos_right}
use Rattle.std.proofs.lemmas.Bool.{cases_lt, cases_eq, cases_Bool, lt-ltb, le-ltb, ltb-true, ltb-false, eq-eqb, ne_eqb}
use Rattle.std.specs.Int.{reverse_bits_onto}
use Rattle.std.proofs.lemmas.List.{take_rest, get_or-drop, get_or_default, length-drop}
use Rattle.soft.specs.Kind.{Kind}
use Rattle.cancellation.specs.Rules.{reversed, Turns, size_at}

reversed_small : (e i : ℕ) → reversed e i < 2 ^ e
reversed_small zero i = omega arith
reversed_small (suc e) i =
    let p = two-pow-succ e in
    let s = reversed_small e (i / 2) in
    ⊎_elim (λ z. let m : (i % 2) * 2 ^ e ≡ 0 * 2 ^ e = ap (λ k. k * 2 ^ e) z in omega arith)
    (λ z. let m : (i % 2) * 2 ^ e ≡ 1 * 2 ^ e = ap (λ k. k * 2 ^ e) z in omega arith) (parts i)
  where
    parts : (i : ℕ) → (i % 2 ≡ 0) ⊎ (i % 2 ≡ 1)
    parts i = ⊎_elim (λ lt. inl (omega arith)) (λ le. inr (omega arith)) (cases_lt (i % 2) 1)

same_ltb : (a b c d : ℕ) → (a < b → c < d) → (c < d → a < b) → ltb a b ≡ ltb c d
same_ltb a b c d to from =
    ⊎_elim (λ lt. lt-ltb a b lt ∙ sym (lt-ltb c d (to lt)))
    (λ ge. le-ltb a b ge ∙ sym (le-ltb c d (⊎_elim (λ lt. let h = from lt in omega arith) (λ le. le) (cases_lt c d))))
    (cases_lt a b)

-- where the lowest bits are equal, the others decide
pub reversed_same : (e i j : ℕ) → (e ≡ 0 → ⊥) → i % 2 ≡ j % 2 → ltb (reversed (e - 1) (i / 2)) (reversed (e - 1) (j / 2)) ≡ ltb (reversed e i) (reversed e j)
reversed_same zero i j some same = absurd (some refl)
reversed_same (suc e) i j some same =
    let down : suc e - 1 ≡ e = omega arith in
    let m : (i % 2) * 2 ^ e ≡ (j % 2) * 2 ^ e = ap (λ k. k * 2 ^ e) same in
    ap (λ n. ltb (reversed n (i / 2)) (reversed n (j / 2))) down
    ∙ same_ltb (reversed e (i / 2)) (reversed e (j / 2)) (reversed (suc e) i) (reversed (suc e) j) (λ h. omega arith) (λ h. omega arith)

-- where they differ, they decide
pub reversed_apart : (e i j : ℕ) → (e ≡ 0 → ⊥) → (i % 2 ≡ j % 2 → ⊥) → ltb (i % 2) (j % 2) ≡ ltb (reversed e i) (reversed e j)
reversed_apart zero i j some differ = absurd (some refl)
reversed_apart (suc e) i j some differ =
    let si = reversed_small e (i / 2) in
    let sj = reversed_small e (j / 2) in
    ⊎_elim
    (λ lt. let a : (i % 2) * 2 ^ e ≡ 0 * 2 ^ e = ap (λ k. k * 2 ^ e) (omega arith) in
    let b : (j % 2) * 2 ^ e ≡ 1 * 2 ^ e = ap (λ k. k * 2 ^ e) (omega arith) in
    lt-ltb _ _ lt ∙ sym (lt-ltb (reversed (suc e) i) (reversed (suc e) j) (omega arith)))
    (λ ge. let a : (i % 2) * 2 ^ e ≡ 1 * 2 ^ e = ap (λ k. k * 2 ^ e) (omega arith) in
    let b : (j % 2) * 2 ^ e ≡ 0 * 2 ^ e = ap (λ k. k * 2 ^ e) (omega arith) in
    le-ltb _ _ ge ∙ sym (le-ltb (reversed (suc e) i) (reversed (suc e) j) (omega arith)))
    (cases_lt (i % 2) (j % 2))

-- a number is not below itself
pub reversed_itself : (e i j : ℕ) → i ≡ j → false ≡ ltb (reversed e i) (reversed e j)
reversed_itself e i j same = let r : reversed e i ≡ reversed e j = ap (reversed e) same in sym (le-ltb (reversed e i) (reversed e j) (omega arith))

-- numbers that differ have a bit
pub has_bit : (e i j : ℕ) → (i ≡ j → ⊥) → i < 2 ^ e → j < 2 ^ e → e ≡ 0 → ⊥
has_bit zero i j differ hi hj is = differ (omega arith)
has_bit (suc e) i j differ hi hj is = omega arith

-- and without it they have one bit fewer
pub half_small : (e i : ℕ) → (e ≡ 0 → ⊥) → i < 2 ^ e → i / 2 < 2 ^ (e - 1)
half_small zero i some h = absurd (some refl)
half_small (suc e) i some h =
    let down : suc e - 1 ≡ e = omega arith in
    rw down (omega (arith, two-pow-succ e))

-- the library's reversal after the bits of a
-- Kept: from here to `reversed_order` the lemmas state how the library's reversal orders numbers.
reversed_onto : (k n a : ℕ) → reverse_bits_onto k n a ≡ a * 2 ^ k + reversed k n
unfolding reverse_bits_onto
reversed_onto zero n a = omega arith
reversed_onto (suc k) n a =
    let p = two-pow-succ k in
    let ih = reversed_onto k (n / 2) (a * 2 + n % 2) in
    let spread : (a * 2 + n % 2) * 2 ^ k ≡ a * 2 * 2 ^ k + (n % 2) * 2 ^ k = add-mul (a * 2) (n % 2) (2 ^ k) in
    let two : a * 2 * 2 ^ k ≡ a * 2 ^ suc k = mul_assoc a 2 (2 ^ k) ∙ ap (λ x. a * x) (omega (arith, p)) in
    omega (arith, ih, spread, two)

reversed_none : (k : ℕ) → reversed k 0 ≡ 0
reversed_none zero = refl
reversed_none (suc k) = omega (arith, reversed_none k)

-- a number of k bits, read in reverse among more of them
reversed_more : (k d n : ℕ) → n < 2 ^ k → reversed (k + d) n ≡ reversed k n * 2 ^ d
reversed_more zero d n small =
    let none : n ≡ 0 = omega arith in
    let same : 0 + d ≡ d = omega arith in
    ap₂ reversed same none ∙ reversed_none d ∙ omega arith
reversed_more (suc k) d n small =
    let up : suc k + d ≡ suc (k + d) = omega arith in
    let ih = reversed_more k d (n / 2) (omega (arith, two-pow-succ k)) in
    ap (λ m. reversed m n) up
    ∙ ap₂ (λ p r. (n % 2) * p + r) (pow-add 2 k d) ih
    ∙ sym (add-mul ((n % 2) * 2 ^ k) (reversed k (n / 2)) (2 ^ d) ∙ ap (λ x. x + reversed k (n / 2) * 2 ^ d) (mul_assoc (n % 2) (2 ^ k) (2 ^ d)))

scaled : (a b p : ℕ) → 0 < p → ltb (a * p) (b * p) ≡ ltb a b
scaled a b p some = same_ltb (a * p) (b * p) a b (λ h. lt_of_mul-lt-mul_right p h) (λ h. mul-lt-mul_of_pos_right h some)

-- numbers of e bits stand in the order of their reversals among w bits
pub reversed_order : (w e i j : ℕ) → i < 2 ^ e → j < 2 ^ e → i < 2 ^ w → j < 2 ^ w → ltb (reverse_bits_onto w i 0) (reverse_bits_onto w j 0) ≡ ltb (reversed e i) (reversed e j)
reversed_order w e i j hi hj fi fj =
    let is : (n : ℕ) → reverse_bits_onto w n 0 ≡ reversed w n = λ n. omega (arith, reversed_onto w n 0) in
    ap₂ ltb (is i) (is j)
    ∙ ⊎_elim
    (λ more. let sum : e ≡ w + (e - w) = omega arith in
    sym (ap (λ k. ltb (reversed k i) (reversed k j)) sum ∙ ap₂ ltb (reversed_more w (e - w) i fi) (reversed_more w (e - w) j fj)
    ∙ scaled (reversed w i) (reversed w j) (2 ^ (e - w)) (pow_pos (e - w))))
    (λ less. let sum : w ≡ e + (w - e) = omega arith in
    ap (λ k. ltb (reversed k i) (reversed k j)) sum ∙ ap₂ ltb (reversed_more e (w - e) i hi) (reversed_more e (w - e) j hj)
    ∙ scaled (reversed e i) (reversed e j) (2 ^ (w - e)) (pow_pos (w - e)))
    (cases_lt w e)

module _ (e : ℕ) (z : ℕ → ℕ) where
  -- is place i to be turned rather than place p
  abbrev pub earlier : ℕ → ℕ → Bool
  earlier i p = cond (eqb (z i) (z p)) (ltb (reversed e i) (reversed e p)) (ltb (z i) (z p))

  earlier_true : (i p : ℕ) → earlier i p ≡ true → (z i < z p) ⊎ ((z i ≡ z p) × (reversed e i < reversed e p))
  earlier_true i p is =
      ⊎_elim
      (λ same. inr (same, ltb-true _ _ (ap (λ t. cond t (ltb (reversed e i) (reversed e p)) (ltb (z i) (z p))) (sym (eq-eqb (z i) (z p) same)) ∙ is)))
      (λ other. inl (ltb-true _ _ (ap (λ t. cond t (ltb (reversed e i) (reversed e p)) (ltb (z i) (z p))) (sym (ne_eqb (z i) (z p) other)) ∙ is)))
      (cases_eq (z i) (z p))

  earlier_false : (i p : ℕ) → earlier i p ≡ false → (z p < z i) ⊎ ((z i ≡ z p) × (reversed e p ≤ reversed e i))
  earlier_false i p is =
      ⊎_elim
      (λ same. inr (same, ltb-false _ _ (ap (λ t. cond t (ltb (reversed e i) (reversed e p)) (ltb (z i) (z p))) (sym (eq-eqb (z i) (z p) same)) ∙ is)))
      (λ other. let le : z p ≤ z i = ltb-false _ _ (ap (λ t. cond t (ltb (reversed e i) (reversed e p)) (ltb (z i) (z p))) (sym (ne_eqb (z i) (z p) other)) ∙ is) in inl (omega arith))
      (cases_eq (z i) (z p))

  -- the search begins at place 0
  pub turns_first : Turns e z 1 0
  turns_first = record {
    within = omega arith;
    least = λ q h. let at : q ≡ 0 = omega arith in let s : z q ≡ z 0 = ap z at in omega arith;
    first = λ q h same. let at : q ≡ 0 = omega arith in let s : reversed e q ≡ reversed e 0 = ap (reversed e) at in omega arith;
  }

  -- and goes on
  module _ (i p : ℕ) (turns : Turns e z i p) where
    pub turns_keeps : earlier i p ≡ false → Turns e z (i + 1) p
    turns_keeps is =
        let w = turns.within in
        let not = earlier_false i p is in
        record {
          within = omega arith;
          least = λ q h. ⊎_elim (λ lt. turns.least q lt) (λ ge. let s : z q ≡ z i = ap z (omega arith) in omega arith) (cases_lt q i);
          first = λ q h same. ⊎_elim (λ lt. turns.first q lt same)
              (λ ge. let at : q ≡ i = omega arith in let s : z q ≡ z i = ap z at in let r : reversed e q ≡ reversed e i = ap (reversed e) at in omega arith) (cases_lt q i);
        }

    pub turns_moves : earlier i p ≡ true → Turns e z (i + 1) i
    turns_moves is =
        let yes = earlier_true i p is in
        record {
          within = omega arith;
          least = λ q h. ⊎_elim (λ lt. let l = turns.least q lt in omega arith) (λ ge. let s : z q ≡ z i = ap z (omega arith) in omega arith) (cases_lt q i);
          first = λ q h same. ⊎_elim
              (λ lt. let l = turns.least q lt in ⊎_elim (λ less. omega arith) (λ even. let f = turns.first q lt (let v = even.0 in omega arith) in omega arith) yes)
              (λ ge. let r : reversed e q ≡ reversed e i = ap (reversed e) (omega arith) in omega arith) (cases_lt q i);
        }

  -- some place is to be turned
  pub turns_some : (n : ℕ) → (p : ℕ) × Turns e z (n + 1) p
  turns_some zero = (0, turns_first)
  turns_some (suc n) =
      let before = turns_some n in
      let at : suc n + 1 ≡ (n + 1) + 1 = omega arith in
      ⊎_elim
      (λ yes. (n + 1, subst (λ k. Turns e z k (n + 1)) (sym at) (turns_moves (n + 1) before.0 before.1 yes)))
      (λ not. (before.0, subst (λ k. Turns e z k before.0) (sym at) (turns_keeps (n + 1) before.0 before.1 not)))
      (cases_Bool (earlier (n + 1) before.0))

-- the first value, and the values after it
pub size_first : {S : Type 0} (kind : Kind S) (values : List S) (v : S) → 1 ≤ length values → v ≡ get_or values 0 v → kind.size v ≡ size_at kind values 0
size_first kind values v some is = ap kind.size (is ∙ get_or_default values 0 v kind.fill some)

pub size_later : {S : Type 0} (kind : Kind S) (values : List S) (i : ℕ) (v : S) → i < length (take (length values - 1) (drop 1 values)) →
    v ≡ get_or (take (length values - 1) (drop 1 values)) i v → kind.size v ≡ size_at kind values (i + 1)
size_later kind values i v within is =
    let rest = take_rest values 1 in
    let same : 1 + i ≡ i + 1 = omega arith in
    ap kind.size (is ∙ ap (λ r. get_or r i v) rest ∙ get_or-drop 1 values i v ∙ ap (λ k. get_or values k v) same
    ∙ get_or_default values (i + 1) v kind.fill (omega (arith, ap length rest, length-drop 1 values)))
