-- Where the work stands, by the caps of the steps so far. Assumes nothing.
use Rattle.std.proofs.Common.{◌≡◌, ℕ, zero, suc, ◌<◌, ◌≤◌, Bool, true, false, eqb, List, [], ◌∷◌, ◌++◌, length, replicate, sym, refl, ap, ◌∙◌, subst, append_assoc, arith}
use Rattle.std.proofs.lemmas.List.{append-nil, length-append, get_or_append_left, get_or_push}
use Rattle.std.proofs.lemmas.Bool.{eq-eqb}
use Rattle.soft.specs.Kind.{Kind}
use Rattle.receiver.specs.Work.{Caps, Span, Side, Next, Place, at, finished, left_of, right_of, span_at, settled, stepped, walked, made_of, Took, one, split, Begun, begun_root, begun_left, begun_right}
use Rattle.receiver.specs.Model.{ten_ten, is_finished}
use Rattle.receiver.specs.Law.{caps_at, StepsRuled}
use Rattle.receiver.proofs.Counts.{Stands, at_first, at_second, at_final, stands_step, stands_agree, took_some, took_most, took_unique}
use Rattle.receiver.proofs.Walks.{walked_end}

pub never : {A : Type 0} → true ≡ false → A
never e = let z : ◌≡◌ {A = ℕ} 0 1 = cc in absurd (omega arith)

module _ {S : Type 0} (kind : Kind S) (root : Span S) (c : Caps) where
  -- the work stands at this place after as many steps as there are caps
  abbrev pub Standing : List Caps → Place → Type 0
  Standing caps place = Stands kind root (caps_at caps) place (length caps)

  standing_step : (caps : List Caps) (next : Next) (path : List Side) → Standing caps (at next path) → Standing (caps ++ (c ∷ [])) (stepped kind root c (at next path))
  standing_step caps next path stands =
      let more = caps ++ (c ∷ []) in
      let here : caps_at more (length caps) ≡ c = get_or_push caps c ten_ten (length caps) refl in
      let long : length more ≡ suc (length caps) = length-append caps (c ∷ []) ∙ omega arith in
      let same : (i : ℕ) → i < length caps → caps_at caps i ≡ caps_at more i = λ i below. sym (get_or_append_left caps (c ∷ []) ten_ten i below) in
      let moved = stands_step kind root (caps_at more) (stands_agree kind root (caps_at caps) (caps_at more) same stands) in
      subst (λ k. Stands kind root (caps_at more) (stepped kind root c (at next path)) k) (sym long)
      (subst (λ x. Stands kind root (caps_at more) (stepped kind root x (at next path)) (suc (length caps))) here moved)

  -- an advance adds the caps in force for each step that it makes
  pub standing_walk : (b : ℕ) (place : Place) (caps : List Caps) → Standing caps place →
      Standing (caps ++ replicate (made_of kind root c b place) c) (walked kind root c b place)
  unfolding walked made_of
  standing_walk zero place caps stands = subst (λ l. Standing l place) (sym (append-nil caps)) stands
  standing_walk (suc b) finished caps stands =
      subst (λ p. Standing (caps ++ []) p) (sym (walked_end kind root c b)) (subst (λ l. Standing l finished) (sym (append-nil caps)) stands)
  standing_walk (suc b) (at next path) caps stands =
      let place = stepped kind root c (at next path) in
      subst (λ l. Standing l (walked kind root c b place)) (append_assoc caps (c ∷ []) (replicate (made_of kind root c b place) c))
      (standing_walk b place (caps ++ (c ∷ [])) (standing_step caps next path stands))

  pub made_most : (b : ℕ) (place : Place) → made_of kind root c b place ≤ b
  unfolding made_of
  made_most zero place = omega arith
  made_most (suc b) finished = omega arith
  made_most (suc b) (at next path) = let h = made_most b (stepped kind root c (at next path)) in omega arith

  -- while a step remains the whole allowance is used
  pub made_all : (b : ℕ) (place : Place) → is_finished (walked kind root c b place) ≡ false → made_of kind root c b place ≡ b
  unfolding walked made_of
  made_all zero place some = refl
  made_all (suc b) finished some = never (sym (ap is_finished (walked_end kind root c b)) ∙ some)
  made_all (suc b) (at next path) some = ap suc (made_all b (stepped kind root c (at next path)) some)

  -- where a step remains one remained before
  pub was_open : (b : ℕ) (place : Place) → is_finished (walked kind root c b place) ≡ false → is_finished place ≡ false
  was_open b finished some = never (sym (ap is_finished (walked_end kind root c b)) ∙ some)
  was_open b (at next path) some = refl

module _ {S : Type 0} (kind : Kind S) (caps : ℕ → Caps) where
  -- the halves of a span that is not settled
  took_halves : {k t : ℕ} {span : Span S} → Took kind caps k span t → settled (caps k) span ≡ false →
      (m : ℕ) × (p : ℕ) × Took kind caps (suc k) (left_of kind span) m × Took kind caps (suc m) (right_of kind span) p × (t ≡ suc p)
  took_halves (one closed) unsettled = never (sym closed ∙ unsettled)
  took_halves (split {m} {p} h l r) unsettled = (m, p, l, r, refl)

  -- the same, where the left half is known to be done by step m
  took_right : {k t m : ℕ} {span : Span S} → Took kind caps k span t → settled (caps k) span ≡ false → Took kind caps (suc k) (left_of kind span) m →
      (p : ℕ) × Took kind caps (suc m) (right_of kind span) p × (t ≡ suc p)
  took_right {span} took unsettled l =
      let parts = took_halves took unsettled in
      let p = parts.1 in
      (p, subst (λ m. Took kind caps (suc m) (right_of kind span) p) (took_unique kind caps parts.2 l) parts.3, parts.4)

  module _ (root : Span S) (t : ℕ) (all : Took kind caps 0 root t) where
    -- a span that was begun is done by the end
    begun_within : {path : List Side} {k : ℕ} → Begun kind root caps path k → (u : ℕ) × Took kind caps k (span_at kind root path) u × (u ≤ t)
    begun_within begun_root = (t, all, omega arith)
    begun_within (begun_left begun unsettled) =
        let up = begun_within begun in
        let parts = took_halves up.1 unsettled in
        (parts.0, parts.2, omega (arith, up.2, parts.4, took_some kind caps parts.3))
    begun_within (begun_right begun unsettled l) =
        let up = begun_within begun in
        let parts = took_right up.1 unsettled l in
        (parts.0, parts.1, omega (arith, up.2, parts.2))

    -- where a step remains fewer are made than all
    pub open_before : {next : Next} {path : List Side} {k : ℕ} → Stands kind root caps (at next path) k → k < t
    open_before (at_first begun) =
        let up = begun_within begun in
        omega (arith, up.2, took_some kind caps up.1)
    open_before (at_second begun unsettled l) =
        let up = begun_within begun in
        let parts = took_right up.1 unsettled l in
        omega (arith, up.2, parts.2, took_some kind caps parts.1)
    open_before (at_final begun unsettled l r) =
        let up = begun_within begun in
        let parts = took_right up.1 unsettled l in
        omega (arith, up.2, parts.2, took_unique kind caps parts.1 r)

module _ {S : Type 0} (kind : Kind S) (caps : ℕ → Caps) where
  -- every span is done by some step
  took_ends : (e k : ℕ) (span : Span S) → span.e ≡ e → (k' : ℕ) × Took kind caps k span k'
  took_ends zero k span none =
      let single : eqb span.e 0 ≡ true = eq-eqb span.e 0 none in
      (suc k, one (rw single refl))
  took_ends (suc e) k span some = go (settled (caps k) span) refl (took_ends e)
    where
      go : (b : Bool) → settled (caps k) span ≡ b → ((j : ℕ) (part : Span S) → part.e ≡ e → (k' : ℕ) × Took kind caps j part k') → (k' : ℕ) × Took kind caps k span k'
      go true closed halves = (suc k, one closed)
      go false unsettled halves =
          let l = halves (suc k) (left_of kind span) (omega arith) in
          let r = halves (suc l.0) (right_of kind span) (omega arith) in
          (suc r.0, split unsettled l.1 r.1)

-- the rule gives each span one number of steps
pub steps_ruled : {S : Type 0} (kind : Kind S) → StepsRuled kind
steps_ruled kind caps k span =
    let all = took_ends kind caps span.e k span refl in
    (all.0, all.1, took_most kind caps all.1, λ other took. took_unique kind caps all.1 took)
