-- How many positions a ranked map informs: as many as K says. Assumes nothing.
use Rattle.std.proofs.Common.{◌≡◌, ℕ, zero, suc, ◌+◌, ◌-◌, ◌^◌, ◌<◌, ◌≤◌, cond, eqb, List, [], ◌∷◌, length, get_or, sym, refl, ap, ◌∙◌, ⊎_elim, arith}
use Rattle.std.proofs.lemmas.Bool.{cases_order, lt-ltb, le-ltb}
use Rattle.code.specs.Encode.{informed_count}
use Rattle.code.specs.Orders.{ranked_marks, Lawful}

-- how many of some ranks are below k
abbrev count : ℕ → List ℕ → ℕ
count k ranks = informed_count (ranked_marks ranks k)

-- a rank more counts if it is below k
count_below : (k r : ℕ) (ranks : List ℕ) → r < k → count k (r ∷ ranks) ≡ suc (count k ranks)
unfolding ranked_marks
count_below k r ranks h = ap (λ b. cond (eqb (cond b 1 0) 1) (suc (count k ranks)) (count k ranks)) (lt-ltb r k h)

count_from : (k r : ℕ) (ranks : List ℕ) → k ≤ r → count k (r ∷ ranks) ≡ count k ranks
unfolding ranked_marks
count_from k r ranks h = ap (λ b. cond (eqb (cond b 1 0) 1) (suc (count k ranks)) (count k ranks)) (le-ltb r k h)

-- no rank stands twice
abbrev Distinct : List ℕ → Type 0
Distinct ranks = (p q : ℕ) → p < length ranks → q < length ranks → get_or ranks p 0 ≡ get_or ranks q 0 → p ≡ q

-- no rank is k
abbrev Absent : ℕ → List ℕ → Type 0
Absent k ranks = (p : ℕ) → p < length ranks → get_or ranks p 0 ≡ k → ⊥

none_more : (k : ℕ) (ranks : List ℕ) → Absent k ranks → count (suc k) ranks ≡ count k ranks
unfolding ranked_marks
none_more k [] absent = refl
none_more k (r ∷ ranks) absent =
    let rest = none_more k ranks (λ p h. absent (suc p) (omega arith)) in
    ⊎_elim (λ same. absurd (absent 0 (omega arith) same))
    (⊎_elim (λ below. count_below (suc k) r ranks (omega arith) ∙ ap suc rest ∙ sym (count_below k r ranks below))
    (λ above. count_from (suc k) r ranks (omega arith) ∙ rest ∙ sym (count_from k r ranks (omega arith))))
    (cases_order r k)

-- of ranks that differ at most one is k
one_more : (k : ℕ) (ranks : List ℕ) → Distinct ranks → count (suc k) ranks ≤ suc (count k ranks)
unfolding ranked_marks
one_more k [] distinct = omega arith
one_more k (r ∷ ranks) distinct =
    let rest = one_more k ranks (λ p q hp hq same. let next = distinct (suc p) (suc q) (omega arith) (omega arith) same in omega arith) in
    ⊎_elim
    (λ same.
    let alone : Absent k ranks = λ p h other. let none = distinct (suc p) 0 (omega arith) (omega arith) (other ∙ sym same) in omega arith in
    let a = count_below (suc k) r ranks (omega arith) in let b = count_from k r ranks (omega arith) in let c = none_more k ranks alone in omega arith)
    (⊎_elim (λ below. let a = count_below (suc k) r ranks (omega arith) in let b = count_below k r ranks below in omega arith)
    (λ above. let a = count_from (suc k) r ranks (omega arith) in let b = count_from k r ranks (omega arith) in omega arith))
    (cases_order r k)

count_none : (ranks : List ℕ) → count 0 ranks ≡ 0
unfolding ranked_marks
count_none [] = refl
count_none (r ∷ ranks) = count_from 0 r ranks (omega arith) ∙ count_none ranks

count_all : (n : ℕ) (ranks : List ℕ) → ((p : ℕ) → p < length ranks → get_or ranks p 0 < n) → count n ranks ≡ length ranks
unfolding ranked_marks
count_all n [] below = refl
count_all n (r ∷ ranks) below = count_below n r ranks (below 0 (omega arith)) ∙ ap suc (count_all n ranks (λ p h. below (suc p) (omega arith)))

count_most : (k : ℕ) (ranks : List ℕ) → Distinct ranks → count k ranks ≤ k
count_most zero ranks distinct = let none = count_none ranks in omega arith
count_most (suc k) ranks distinct = let some = count_most k ranks distinct in let one = one_more k ranks distinct in omega arith

count_more : (k d : ℕ) (ranks : List ℕ) → Distinct ranks → count (d + k) ranks ≤ d + count k ranks
count_more k zero ranks distinct = let z : 0 + k ≡ k = omega arith in let same = ap (λ j. count j ranks) z in omega arith
count_more k (suc d) ranks distinct =
    let s : suc d + k ≡ suc (d + k) = omega arith in
    let same = ap (λ j. count j ranks) s in
    let one = one_more (d + k) ranks distinct in
    let some = count_more k d ranks distinct in
    omega arith

-- as many positions are informed as K says
pub informs : (n : ℕ) (ranks : List ℕ) → Lawful n ranks → (k : ℕ) → k ≤ 2 ^ n → informed_count (ranked_marks ranks k) ≡ k
informs n ranks lawful k few =
    let long = lawful.long in
    let distinct : Distinct ranks = λ p q hp hq same. lawful.different p q (omega arith) (omega arith) same in
    let all = count_all (2 ^ n) ranks (λ p h. lawful.below p (omega arith)) in
    let whole : (2 ^ n - k) + k ≡ 2 ^ n = omega arith in
    let more = count_more k (2 ^ n - k) ranks distinct in
    let same = ap (λ j. count j ranks) whole in
    let most = count_most k ranks distinct in
    omega arith
