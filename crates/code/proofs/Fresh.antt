-- A table of the ranks seen so far, and what it tells of the next one.
use Rattle.std.proofs.Common.{◌≡◌, ℕ, ◌+◌, ◌^◌, ◌<◌, ◌≤◌, Bool, true, false, cond, not, eqb, ltb, List, [], ◌∷◌, ◌++◌, length, get_or, take, set, replicate, sym, refl, ap, ◌∙◌, subst, ⊎_elim, arith, get_or-set_other, get_or-set_same, pow_mono}
use lib.ListN.{get_or-replicate}
use Rattle.std.proofs.lemmas.List.{take_more}
use Rattle.std.proofs.lemmas.Bool.{cases_eq, eq-eqb, ne_eqb, and_left, and_right, and_from, lt-ltb, le-ltb, not_from_true, not_from_false}
use Rattle.code.specs.Orders.{among, fresh_rank}

swapped : (a b c : Bool) → cond a true (cond b true c) ≡ cond b true (cond a true c)
swapped true true c = refl
swapped true false c = refl
swapped false true c = refl
swapped false false c = refl

among_push : (x : ℕ) (ys : List ℕ) (y : ℕ) → among x (ys ++ y ∷ []) ≡ cond (eqb x y) true (among x ys)
among_push x [] y = refl
among_push x (z ∷ zs) y = ap (cond (eqb x z) true) (among_push x zs y) ∙ swapped (eqb x z) (eqb x y) (among x zs)

-- a table tells which numbers are among the first p ranks
abbrev pub Tells : List Bool → List ℕ → ℕ → Type 0
Tells seen ranks p = (r : ℕ) → r < 1024 → get_or seen r false ≡ among r (take p ranks)

pub tells_none : (ranks : List ℕ) → Tells (replicate 1024 false) ranks 0
tells_none ranks r h = get_or-replicate 1024 r false false h

among_more : (ranks : List ℕ) (p r : ℕ) → p < length ranks → among r (take (p + 1) ranks) ≡ cond (eqb r (get_or ranks p 0)) true (among r (take p ranks))
among_more ranks p r lt = ap (among r) (take_more ranks p 0 lt) ∙ among_push r (take p ranks) (get_or ranks p 0)

-- every n of a code is within the table
pub within_table : (n : ℕ) → n ≤ 10 → 2 ^ n ≤ 1024
within_table n h = pow_mono h

-- a rank that is too large
pub fresh_large : (ranks : List ℕ) (p : ℕ) → length ranks ≤ get_or ranks p 0 → fresh_rank ranks p ≡ false
fresh_large ranks p h = and_left (ltb (get_or ranks p 0) (length ranks)) _ (le-ltb (get_or ranks p 0) (length ranks) h)

-- the rank of position p, and the table of those before
module _ (seen : List Bool) (ranks : List ℕ) (p rank : ℕ) (is : rank ≡ get_or ranks p 0) (told : Tells seen ranks p) where
  stands_before : rank < 1024 → among (get_or ranks p 0) (take p ranks) ≡ get_or seen rank false
  stands_before small = subst (λ x. among x (take p ranks) ≡ get_or seen rank false) is (sym (told rank small))

  -- a rank that the table has
  pub fresh_seen : rank < 1024 → get_or seen rank false ≡ true → fresh_rank ranks p ≡ false
  fresh_seen small e =
      and_right (ltb (get_or ranks p 0) (length ranks)) (not (among (get_or ranks p 0) (take p ranks)))
      (not_from_true (among (get_or ranks p 0) (take p ranks)) (stands_before small ∙ e))

  -- a rank that is neither
  pub fresh_new : rank < 1024 → rank < length ranks → get_or seen rank false ≡ false → fresh_rank ranks p ≡ true
  fresh_new small lt e =
      and_from (ltb (get_or ranks p 0) (length ranks)) (not (among (get_or ranks p 0) (take p ranks))) (lt-ltb (get_or ranks p 0) (length ranks) (omega arith))
      (not_from_false (among (get_or ranks p 0) (take p ranks)) (stands_before small ∙ e))

  -- one more rank in the table
  pub tells_more : length seen ≡ 1024 → p < length ranks → Tells (set seen rank true) ranks (p + 1)
  tells_more size lt r h = ⊎_elim same other (cases_eq r rank)
    where
      same : r ≡ rank → get_or (set seen rank true) r false ≡ among r (take (p + 1) ranks)
      same e =
          rw (among_more ranks p r lt, eq-eqb r (get_or ranks p 0) (e ∙ is), e) (get_or-set_same seen rank true false (omega arith))

      other : (r ≡ rank → ⊥) → get_or (set seen rank true) r false ≡ among r (take (p + 1) ranks)
      other ne =
          rw (among_more ranks p r lt, ne_eqb r (get_or ranks p 0) (λ e. ne (e ∙ sym is))) (get_or-set_other seen rank r true false ne ∙ told r h)
