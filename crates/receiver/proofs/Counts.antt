-- Laws of the count of steps: how many steps a span takes, where the work stands at a step, and how many remain. Assumes nothing.
use Rattle.std.proofs.Common.{◌≡◌, ℕ, suc, ◌+◌, ◌-◌, ◌*◌, ◌^◌, ◌<◌, ◌≤◌, Bool, true, false, cond, eqb, List, [], ◌∷◌, sym, refl, ap, ◌∙◌, subst, arith, pow_pos}
use Rattle.std.proofs.lemmas.Bool.Decides.{nat_tests}
use Rattle.soft.specs.Kind.{Kind}
use Rattle.receiver.specs.Bounds.{most, up, remaining}
use Rattle.receiver.specs.Work.{Caps, Span, Side, left, right, Next, first, second, final, Place, at, finished}
use Rattle.receiver.specs.Work.{left_of, right_of, span_at, done, settled, stepped, Took, one, split, Begun, begun_root, begun_left, begun_right}
use Rattle.receiver.proofs.Places.{split_pow}

-- a span that is not settled has halves
pub unsettled_some : {S : Type 0} (caps : Caps) (span : Span S) → settled caps span ≡ false → span.e ≡ 0 → ⊥
unsettled_some caps span unsettled none =
    let single : eqb span.e 0 ≡ true = grind (arith, nat_tests) in
    let closed : settled caps span ≡ true = rw single refl in
    let never : ◌≡◌ {A = ℕ} 0 1 = cc in
    omega arith

-- a span that is not settled takes at most a left, a right and a final step more than its halves
pub most_halves : {S : Type 0} (kind : Kind S) (caps : Caps) (span : Span S) → settled caps span ≡ false → most (left_of kind span) + most (right_of kind span) + 3 ≡ most span
most_halves kind caps span unsettled =
    omega (arith, split_pow span.e (unsettled_some caps span unsettled), pow_pos (span.e - 1))

module _ {S : Type 0} (kind : Kind S) (caps : ℕ → Caps) where
  -- a span takes at least one step
  pub took_some : {k k' : ℕ} {span : Span S} → Took kind caps k span k' → k < k'
  took_some (one h) = omega arith
  took_some (split h l r) = omega (arith, took_some l, took_some r)

  pub took_most : {k k' : ℕ} {span : Span S} → Took kind caps k span k' → k' ≤ k + most span
  took_most (one {k} {span} h) = omega (arith, pow_pos span.e)
  took_most (split {k} {m} {p} {span} h l r) = omega (arith, took_most l, took_most r, most_halves kind (caps k) span h)

  pub took_unique : {k a b : ℕ} {span : Span S} → Took kind caps k span a → Took kind caps k span b → a ≡ b
  took_unique (one h) (one h') = refl
  took_unique (one h) (split h' l r) = cc
  took_unique (split h l r) (one h') = cc
  took_unique (split {p} {span} h l r) (split {p = p'} h' l' r') =
      ap suc (took_unique r (subst (λ m. Took kind caps (suc m) (right_of kind span) p') (sym (took_unique l l')) r'))

settled_agree : {S : Type 0} {c c' : Caps} {b : Bool} (span : Span S) → c ≡ c' → settled c span ≡ b → settled c' span ≡ b
settled_agree span same h = ap (λ c. settled c span) (sym same) ∙ h

-- what is done by step k is decided by the caps of the steps below k alone
pub took_agree : {S : Type 0} (kind : Kind S) (caps caps' : ℕ → Caps) {k k' : ℕ} {span : Span S} →
    ((i : ℕ) → i < k' → caps i ≡ caps' i) → Took kind caps k span k' → Took kind caps' k span k'
took_agree kind caps caps' same (one {k} {span} h) = one (settled_agree span (same k (omega arith)) h)
took_agree kind caps caps' same (split {k} {m} {p} {span} h l r) =
    let m-p = took_some kind caps r in
    let k-m = took_some kind caps l in
    split
    (settled_agree span (same k (omega arith)) h)
    (took_agree kind caps caps' (λ i below. same i (omega arith)) l)
    (took_agree kind caps caps' (λ i below. same i (omega arith)) r)

-- the work stands at this place as step k is to be made
pub data Stands {S : Type 0} (kind : Kind S) (root : Span S) (caps : ℕ → Caps) : Place → ℕ → Type 0 where
  at_first : {path : List Side} {k : ℕ} → Begun kind root caps path k → Stands kind root caps (at first path) k
  at_second : {path : List Side} {k m : ℕ} → Begun kind root caps path k → settled (caps k) (span_at kind root path) ≡ false →
      Took kind caps (suc k) (left_of kind (span_at kind root path)) m → Stands kind root caps (at second path) m
  at_final : {path : List Side} {k m p : ℕ} → Begun kind root caps path k → settled (caps k) (span_at kind root path) ≡ false →
      Took kind caps (suc k) (left_of kind (span_at kind root path)) m → Took kind caps (suc m) (right_of kind (span_at kind root path)) p →
      Stands kind root caps (at final path) p
  at_end : {t : ℕ} → Took kind caps 0 root t → Stands kind root caps finished t

module _ {S : Type 0} (kind : Kind S) (root : Span S) where
  pub remaining_done : (path : List Side) → remaining kind root (done path) ≡ up kind root path
  remaining_done [] = refl
  remaining_done (left ∷ path) = refl
  remaining_done (right ∷ path) = refl

  remaining_first : (caps : Caps) (path : List Side) (b : Bool) → settled caps (span_at kind root path) ≡ b →
      suc (remaining kind root (cond b (done path) (at first (left ∷ path)))) ≤ remaining kind root (at first path)
  remaining_first caps path true h = omega (arith, remaining_done path, pow_pos (span_at kind root path).e)
  remaining_first caps path false h = omega (arith, most_halves kind caps (span_at kind root path) h)

  -- every step lowers what remains
  pub remaining_step : (caps : Caps) (next : Next) (path : List Side) →
      suc (remaining kind root (stepped kind root caps (at next path))) ≤ remaining kind root (at next path)
  remaining_step caps first path = remaining_first caps path (settled caps (span_at kind root path)) refl
  remaining_step caps second path = omega arith
  remaining_step caps final path = omega (arith, remaining_done path)

  -- an unfinished place has a step left
  pub remaining_some : (next : Next) (path : List Side) → 0 < remaining kind root (at next path)
  remaining_some first path = omega (arith, pow_pos (span_at kind root path).e)
  remaining_some second path = omega arith
  remaining_some final path = omega arith

  module _ (caps : ℕ → Caps) where
    pub stands_start : Stands kind root caps (at first []) 0
    stands_start = at_first begun_root

    -- a span is done
    pub stands_done : {path : List Side} {k t : ℕ} → Begun kind root caps path k → Took kind caps k (span_at kind root path) t → Stands kind root caps (done path) t
    stands_done begun_root took = at_end took
    stands_done (begun_left begun unsettled) took = at_second begun unsettled took
    stands_done (begun_right begun unsettled l) took = at_final begun unsettled l took

    stands_first : {path : List Side} {k : ℕ} (b : Bool) → settled (caps k) (span_at kind root path) ≡ b → Begun kind root caps path k →
        Stands kind root caps (cond b (done path) (at first (left ∷ path))) (suc k)
    stands_first true h begun = stands_done begun (one h)
    stands_first false h begun = at_first (begun_left begun h)

    -- one step leads to where the work stands next
    pub stands_step : {next : Next} {path : List Side} {k : ℕ} → Stands kind root caps (at next path) k →
        Stands kind root caps (stepped kind root (caps k) (at next path)) (suc k)
    stands_step {path} {k} (at_first begun) = stands_first (settled (caps k) (span_at kind root path)) refl begun
    stands_step (at_second begun unsettled l) = at_first (begun_right begun unsettled l)
    stands_step (at_final begun unsettled l r) = stands_done begun (split unsettled l r)

    -- the work is finished when all steps of the whole are made
    pub stands_took : {t : ℕ} → Stands kind root caps finished t → Took kind caps 0 root t
    stands_took (at_end took) = took

    begun_most : {path : List Side} {k : ℕ} → Begun kind root caps path k → k + remaining kind root (at first path) ≤ most root
    begun_most begun_root = omega arith
    begun_most (begun_left {path} {k} begun unsettled) =
        omega (arith, begun_most begun, most_halves kind (caps k) (span_at kind root path) unsettled)
    begun_most (begun_right {path} {k} begun unsettled l) =
        omega (arith, begun_most begun, took_most kind caps l, most_halves kind (caps k) (span_at kind root path) unsettled)

    -- the steps made and those that remain are never more than the steps of the whole
    pub stands_most : {place : Place} {k : ℕ} → Stands kind root caps place k → k + remaining kind root place ≤ most root
    stands_most (at_first begun) = begun_most begun
    stands_most (at_second {path} {k} begun unsettled l) =
        omega (arith, begun_most begun, took_most kind caps l, most_halves kind (caps k) (span_at kind root path) unsettled)
    stands_most (at_final {path} {k} begun unsettled l r) =
        omega (arith, begun_most begun, took_most kind caps l, took_most kind caps r, most_halves kind (caps k) (span_at kind root path) unsettled)
    stands_most (at_end took) = omega (arith, took_most kind caps took)

    pub unfinished_below : {next : Next} {path : List Side} {k : ℕ} → Stands kind root caps (at next path) k → k < 4 * 2 ^ root.e - 3
    unfinished_below {next} {path} stands = omega (arith, stands_most stands, remaining_some next path)

  module _ (caps caps' : ℕ → Caps) where
    pub begun_agree : {path : List Side} {k : ℕ} → ((i : ℕ) → i < k → caps i ≡ caps' i) → Begun kind root caps path k → Begun kind root caps' path k
    begun_agree same begun_root = begun_root
    begun_agree same (begun_left {path} {k} begun unsettled) =
        begun_left (begun_agree (λ i below. same i (omega arith)) begun) (settled_agree (span_at kind root path) (same k (omega arith)) unsettled)
    begun_agree same (begun_right {path} {k} begun unsettled l) =
        let k-m = took_some kind caps l in
        begun_right
        (begun_agree (λ i below. same i (omega arith)) begun)
        (settled_agree (span_at kind root path) (same k (omega arith)) unsettled)
        (took_agree kind caps caps' (λ i below. same i (omega arith)) l)

    -- where the work stands at step k is decided by the caps of the steps below k alone
    pub stands_agree : {place : Place} {k : ℕ} → ((i : ℕ) → i < k → caps i ≡ caps' i) → Stands kind root caps place k → Stands kind root caps' place k
    stands_agree same (at_first begun) = at_first (begun_agree same begun)
    stands_agree same (at_second {path} {k} begun unsettled l) =
        let k-m = took_some kind caps l in
        at_second
        (begun_agree (λ i below. same i (omega arith)) begun)
        (settled_agree (span_at kind root path) (same k (omega arith)) unsettled)
        (took_agree kind caps caps' same l)
    stands_agree same (at_final {path} {k} begun unsettled l r) =
        let k-m = took_some kind caps l in
        let m-p = took_some kind caps r in
        at_final
        (begun_agree (λ i below. same i (omega arith)) begun)
        (settled_agree (span_at kind root path) (same k (omega arith)) unsettled)
        (took_agree kind caps caps' (λ i below. same i (omega arith)) l)
        (took_agree kind caps caps' same r)
    stands_agree same (at_end took) = at_end (took_agree kind caps caps' same took)
