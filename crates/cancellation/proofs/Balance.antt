-- Where sizes add, the word of Rep is the cheapest. Assumes nothing.
use Rattle.std.proofs.Common.{◌≡◌, ℕ, zero, suc, ◌+◌, ◌-◌, ◌^◌, ◌<◌, ◌≤◌, Bool, true, false, cond, not, eqb, List, [], ◌∷◌, ◌++◌, length, get_or, take, drop, replicate, sym, refl, ap, ◌∙◌, subst, ap₂, subst₂, ⊎_elim, arith, take-append-drop, pow_pos}
use native.Mathlib.Nat.{two-pow-succ}
use lib.ListN.{length-replicate, replicate-append-replicate, get_or-replicate}
use Rattle.std.proofs.lemmas.List.{length-append, get_or_append_left, get_or-append_right, ext_get_or}
use Rattle.std.proofs.lemmas.Bool.{cases_lt, cases_eq, ne_eqb, lt-ltb, le-ltb}
use Rattle.soft.specs.Kind.{Kind, Laws, differ, agree, sign_of_join}
use Rattle.code.specs.declared.kinds.SpanKind.TheVariants.{Rep}
use Rattle.code.specs.Spans.{pattern}
use Rattle.code.specs.Transform.{join_halves, transform}
use Rattle.code.proofs.Transforms.{keeps_length, undoes_itself}
use Rattle.cancellation.specs.Rows.{bit, join_row}
use Rattle.cancellation.specs.Rules.{last_left, repeated}
use Rattle.cancellation.specs.Cost.{cost, Allows, Cheapest, total, Adds}
use Rattle.cancellation.proofs.Combined.{left_long, right_long, length-join_row, no_tail, same_tail}
use Rattle.cancellation.proofs.Agree.{constant_halves, rep_halves, zeros_xor}

transform_zeros : (e : ℕ) → transform e (replicate (2 ^ e) 0) ≡ replicate (2 ^ e) 0
unfolding transform
transform_zeros zero = refl
transform_zeros (suc e) =
    ap₂ (λ x y. join_halves (transform e x) (transform e y)) (constant_halves 0 e).0 (constant_halves 0 e).1
    ∙ ap₂ join_halves (transform_zeros e) (transform_zeros e)
    ∙ ap (λ x. x ++ replicate (2 ^ e) 0) (zeros_xor (replicate (2 ^ e) 0) (2 ^ e) (length-replicate (2 ^ e) 0))
    ∙ replicate-append-replicate (2 ^ e) (2 ^ e) 0 ∙ ap (λ n. replicate n 0) (sym (two-pow-succ e))

-- a transform that begins with a row of zeros and ends in x is a row of x
transform_last : (x e : ℕ) → transform e (replicate (2 ^ e - 1) 0 ++ (x ∷ [])) ≡ replicate (2 ^ e) x
unfolding transform
transform_last x zero = refl
transform_last x (suc e) =
    ap₂ (λ l r. join_halves (transform e l) (transform e r)) (rep_halves x e).0 (rep_halves x e).1
    ∙ ap₂ join_halves (transform_zeros e) (transform_last x e)
    ∙ ap (λ l. l ++ replicate (2 ^ e) x) (zeros_xor (replicate (2 ^ e) x) (2 ^ e) (length-replicate (2 ^ e) x))
    ∙ replicate-append-replicate (2 ^ e) (2 ^ e) x ∙ ap (λ n. replicate n x) (sym (two-pow-succ e))

-- a row of which all but the last entry are 0
last_only : (n : ℕ) (row : List ℕ) → length row ≡ n → 0 < n → ((i : ℕ) → i < n - 1 → get_or row i 0 ≡ 0) → row ≡ replicate (n - 1) 0 ++ (get_or row (n - 1) 0 ∷ [])
last_only n row long some none =
    let l = length-replicate {A = ℕ} (n - 1) 0 in
    ext_get_or 0 row (replicate (n - 1) 0 ++ (get_or row (n - 1) 0 ∷ [])) (simp (length-append, length-replicate) (omega arith))
    (λ i h. ⊎_elim
    (λ b. none i b ∙ sym (get_or_append_left (replicate (n - 1) 0) _ 0 i (omega arith) ∙ get_or-replicate (n - 1) i 0 0 b))
    (λ b. let at : i ≡ n - 1 = omega arith in
    let zero-at : i - (n - 1) ≡ 0 = omega arith in
    ap (λ k. get_or row k 0) at
    ∙ sym (get_or-append_right (replicate (n - 1) 0) _ (n - 1) i 0 l b ∙ ap (λ k. get_or (get_or row (n - 1) 0 ∷ []) k 0) zero-at))
    (cases_lt i (n - 1)))

-- the words that a repetition allows have all bits the same
pub all_same : (e : ℕ) (word : List ℕ) → length word ≡ 2 ^ e → Allows e (pattern Rep (2 ^ e)) word → (x : ℕ) × (word ≡ replicate (2 ^ e) x)
all_same e word long allowed =
    let p = pow_pos e in
    let x = get_or (transform e word) (2 ^ e - 1) 0 in
    let l = length-replicate {A = ℕ} (2 ^ e - 1) 0 in
    let none : (i : ℕ) → i < 2 ^ e - 1 → get_or (transform e word) i 0 ≡ 0 =
    λ i h. allowed i (get_or_append_left (replicate (2 ^ e - 1) 0) (1 ∷ []) 0 i (omega arith) ∙ get_or-replicate (2 ^ e - 1) i 0 0 h) in
    (x, sym (undoes_itself e word long) ∙ ap (transform e) (last_only (2 ^ e) (transform e word) (keeps_length e word long) p none) ∙ transform_last x e)

-- the size of a value, if it has this sign
abbrev weigh : Bool → Bool → ℕ → ℕ
weigh t s z = cond (differ t s) 0 z

-- joined with β = 0, two values keep the balance of both signs, and grow to no more than their sum
module _ (rule : Bool → ℕ → ℕ → ℕ) (limit : ℕ) (adds : Adds limit rule) where
  abbrev Balanced : Bool → Bool → ℕ → ℕ → Bool → ℕ → Type 0
  Balanced s t x y r z =
      (weigh true r z + (weigh false s x + weigh false t y) ≡ weigh false r z + (weigh true s x + weigh true t y)) × (z ≤ x + y)

  balanced : (s t : Bool) (x y : ℕ) → x + y ≤ limit →
      Balanced s t x y (sign_of_join (differ s false) x t y) (rule (agree (differ s false) t) x y)
  balanced true true x y h = let a = adds.0 x y h in (omega arith, omega arith)
  balanced false false x y h = let a = adds.0 x y h in (omega arith, omega arith)
  balanced true false x y h =
      let a = adds.1 x y in
      ⊎_elim
      (λ lt. subst (λ b. Balanced true false x y (cond b true false) (rule false x y)) (sym (lt-ltb y x lt)) (omega arith, omega arith))
      (λ ge. subst (λ b. Balanced true false x y (cond b true false) (rule false x y)) (sym (le-ltb y x ge)) (omega arith, omega arith))
      (cases_lt y x)
  balanced false true x y h =
      let a = adds.1 x y in
      ⊎_elim
      (λ lt. subst (λ b. Balanced false true x y (cond b false true) (rule false x y)) (sym (lt-ltb y x lt)) (omega arith, omega arith))
      (λ ge. subst (λ b. Balanced false true x y (cond b false true) (rule false x y)) (sym (le-ltb y x ge)) (omega arith, omega arith))
      (cases_lt y x)

module _ {S : Type 0} (kind : Kind S) where
  -- the sum of the sizes of the values that have this sign
  abbrev weight : Bool → List S → ℕ
  weight t [] = 0
  weight t (v ∷ values) = weigh t (kind.sign v) (kind.size v) + weight t values

  weight_append : (t : Bool) (xs ys : List S) → weight t (xs ++ ys) ≡ weight t xs + weight t ys
  weight_append t [] ys = omega arith
  weight_append t (x ∷ xs) ys = let h = weight_append t xs ys in omega arith

  total_append : (xs ys : List S) → total kind (xs ++ ys) ≡ total kind xs + total kind ys
  total_append [] ys = omega arith
  total_append (x ∷ xs) ys = let h = total_append xs ys in omega arith

  module _ (laws : Laws kind) (limit : ℕ) (adds : Adds limit kind.size_rule) where
    abbrev BalancedRows : List S → List S → List S → Type 0
    BalancedRows xs ys js =
        (weight true js + (weight false xs + weight false ys) ≡ weight false js + (weight true xs + weight true ys)) × (total kind js ≤ total kind xs + total kind ys)

    one_joined : (x y : S) → kind.size x + kind.size y ≤ limit → (let j = kind.join x y false in
        Balanced kind.size_rule limit adds (kind.sign x) (kind.sign y) (kind.size x) (kind.size y) (kind.sign j) (kind.size j))
    one_joined x y h =
        subst₂ (λ r z. Balanced kind.size_rule limit adds (kind.sign x) (kind.sign y) (kind.size x) (kind.size y) r z)
        (sym (laws.join_sign x y false)) (sym (laws.join_size x y false))
        (balanced kind.size_rule limit adds (kind.sign x) (kind.sign y) (kind.size x) (kind.size y) h)

    rows_joined : (xs ys : List S) (n : ℕ) → length xs ≡ n → length xs ≡ length ys → total kind xs + total kind ys ≤ limit → BalancedRows xs ys (join_row kind xs ys (replicate n 0))
    rows_joined [] [] n long same h = (omega arith, omega arith)
    rows_joined [] (y ∷ ys) n long same h = no_tail y ys (sym same)
    rows_joined (x ∷ xs) [] n long same h = no_tail x xs same
    rows_joined (x ∷ xs) (y ∷ ys) zero long same h = no_tail x xs long
    rows_joined (x ∷ xs) (y ∷ ys) (suc n) long same h =
        let rest = rows_joined xs ys n (omega arith) (same_tail x xs y ys same) (omega arith) in
        let here = one_joined x y (omega arith) in
        let a = rest.0 in
        let b = rest.1 in
        let c = here.0 in
        let d = here.1 in
        (omega arith, omega arith)

    -- the value left keeps the balance of the whole row
    left_balanced : (e : ℕ) (values : List S) → length values ≡ 2 ^ e → total kind values ≤ limit →
        weight true (last_left kind e values) + weight false values ≡ weight false (last_left kind e values) + weight true values
    left_balanced zero values long h = omega arith
    left_balanced (suc e) values long h =
        let a = take (2 ^ e) values in
        let b = drop (2 ^ e) values in
        let la = left_long e values long in
        let lb = right_long e values long in
        let both : a ++ b ≡ values = take-append-drop (2 ^ e) values in
        let t = sym (total_append a b) ∙ ap (total kind) both in
        let wt = sym (weight_append true a b) ∙ ap (weight true) both in
        let wf = sym (weight_append false a b) ∙ ap (weight false) both in
        let js = join_row kind a b (replicate (2 ^ e) 0) in
        let row = rows_joined a b (2 ^ e) la (la ∙ sym lb) (omega arith) in
        let j-long : length js ≡ 2 ^ e = length-join_row kind a b (replicate (2 ^ e) 0) (la ∙ sym lb) (la ∙ sym (length-replicate (2 ^ e) 0)) ∙ la in
        let small = row.1 in
        let even = row.0 in
        let rest = left_balanced e js j-long (omega arith) in
        omega arith

    last_long : (e : ℕ) (values : List S) → length values ≡ 2 ^ e → length (last_left kind e values) ≡ 1
    last_long zero values long = long
    last_long (suc e) values long =
        let la = left_long e values long in
        let lb = right_long e values long in
        last_long e (join_row kind (take (2 ^ e) values) (drop (2 ^ e) values) (replicate (2 ^ e) 0))
        (length-join_row kind _ _ (replicate (2 ^ e) 0) (la ∙ sym lb) (la ∙ sym (length-replicate (2 ^ e) 0)) ∙ la)

    -- the values that have the sign of the value left outweigh the others
    outweighs : (row values : List S) → length row ≡ 1 → weight true row + weight false values ≡ weight false row + weight true values →
        (let s = kind.sign (get_or row 0 kind.fill) in weight (not s) values ≤ weight s values)
    outweighs [] values long even = let n : ⊥ = omega arith in absurd n
    outweighs (v ∷ (w ∷ row)) values long even = let n : ⊥ = omega arith in absurd n
    outweighs (v ∷ []) values long even = go (kind.sign v) even
      where
        go : (s : Bool) → (weigh true s (kind.size v) + 0) + weight false values ≡ (weigh false s (kind.size v) + 0) + weight true values → weight (not s) values ≤ weight s values
        go true h = omega arith
        go false h = omega arith

    counted : (t s : Bool) (z : ℕ) → cond (eqb (bit t) (bit s)) 0 z ≡ weigh (not t) s z
    counted true true z = refl
    counted true false z = refl
    counted false true z = refl
    counted false false z = refl

    cost_constant : (t : Bool) (values : List S) (n : ℕ) → length values ≡ n → cost kind values (replicate n (bit t)) ≡ weight (not t) values
    cost_constant t [] n long = refl
    cost_constant t (v ∷ values) zero long = no_tail v values long
    cost_constant t (v ∷ values) (suc n) long = ap₂ (λ x y. x + y) (counted t (kind.sign v) (kind.size v)) (cost_constant t values n (omega arith))

    missed : (t s : Bool) (x z : ℕ) → (x ≡ bit t → ⊥) → weigh t s z ≤ cond (eqb x (bit s)) 0 z
    missed true true x z other = subst (λ b. z ≤ cond b 0 z) (sym (ne_eqb x 1 other)) (omega arith)
    missed true false x z other = omega arith
    missed false true x z other = omega arith
    missed false false x z other = subst (λ b. z ≤ cond b 0 z) (sym (ne_eqb x 0 other)) (omega arith)

    cost_other : (t : Bool) (x : ℕ) (values : List S) (n : ℕ) → length values ≡ n → (x ≡ bit t → ⊥) → weight t values ≤ cost kind values (replicate n x)
    cost_other t x [] n long other = omega arith
    cost_other t x (v ∷ values) zero long other = no_tail v values long
    cost_other t x (v ∷ values) (suc n) long other =
        let here = missed t (kind.sign v) x (kind.size v) other in
        let rest = cost_other t x values n (omega arith) other in
        omega arith

    pub cheapest_repeated : (e : ℕ) (values : List S) (word : List ℕ) → length values ≡ 2 ^ e → word ≡ repeated kind e values → total kind values ≤ limit →
        Cheapest kind e (pattern Rep (2 ^ e)) values word
    cheapest_repeated e values word long is small other other-long allowed =
        let s = kind.sign (get_or (last_left kind e values) 0 kind.fill) in
        let same = all_same e other other-long allowed in
        let lighter = outweighs (last_left kind e values) values (last_long e values long) (left_balanced e values long small) in
        let here = ap (cost kind values) is ∙ cost_constant s values (2 ^ e) long in
        let there = ap (cost kind values) same.1 in
        ⊎_elim
        (λ eq. let there-too : cost kind values other ≡ cost kind values word = ap (cost kind values) (same.1 ∙ ap (replicate (2 ^ e)) eq ∙ sym is) in omega arith)
        (λ ne. let more = cost_other s same.0 values (2 ^ e) long ne in omega arith)
        (cases_eq same.0 (bit s))
