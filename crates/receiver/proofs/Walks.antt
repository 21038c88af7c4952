-- Steps made one after the other. Assumes nothing.
use Rattle.std.proofs.Common.{◌≡◌, ℕ, zero, suc, ◌+◌, ◌-◌, ◌<◌, ◌≤◌, List, sym, refl, ap, ◌∙◌, subst, add-zero, suc-add, zero-add, arith}
use Rattle.soft.specs.Kind.{Kind}
use Rattle.receiver.specs.declared.memory.Step.{Step}
use Rattle.receiver.specs.Coherence.{Open, Coherent}
use Rattle.receiver.specs.Work.{Caps, Span, Side, Next, Place, at, finished, stepped, walked, made_of}

module _ {S : Type 0} (kind : Kind S) (root : Span S) (caps : Caps) where
  pub walked_end : (k : ℕ) → walked kind root caps k finished ≡ finished
  unfolding walked
  walked_end zero = refl
  walked_end (suc k) = walked_end k

  pub made_end : (k : ℕ) → made_of kind root caps k finished ≡ 0
  unfolding made_of
  made_end zero = refl
  made_end (suc k) = refl

  pub walked_add : (j k : ℕ) (place : Place) → walked kind root caps (j + k) place ≡ walked kind root caps k (walked kind root caps j place)
  unfolding walked
  walked_add zero k place = ap (λ m. walked kind root caps m place) (zero-add k)
  walked_add (suc j) k place = ap (λ m. walked kind root caps m place) (suc-add j k) ∙ walked_add j k (stepped kind root caps place)

  pub made_add : (j k : ℕ) (place : Place) → made_of kind root caps (j + k) place ≡ made_of kind root caps j place + made_of kind root caps k (walked kind root caps j place)
  unfolding walked made_of
  made_add zero k place = ap (λ m. made_of kind root caps m place) (zero-add k) ∙ sym (zero-add (made_of kind root caps k place))
  made_add (suc j) k finished =
      ap (λ m. made_of kind root caps m finished) (suc-add j k)
      ∙ sym (ap (made_of kind root caps k) (walked_end j) ∙ made_end k) ∙ sym (zero-add (made_of kind root caps k (walked kind root caps j finished)))
  made_add (suc j) k (at next path) =
      ap (λ m. made_of kind root caps m (at next path)) (suc-add j k)
      ∙ ap suc (made_add j k (stepped kind root caps (at next path)))
      ∙ sym (suc-add (made_of kind root caps j (stepped kind root caps (at next path))) (made_of kind root caps k (walked kind root caps j (stepped kind root caps (at next path)))))

  -- one step more
  pub walked_more : (j : ℕ) (place : Place) → walked kind root caps (j + 1) place ≡ stepped kind root caps (walked kind root caps j place)
  unfolding walked
  walked_more j place = walked_add j 1 place

  pub made_more : (j : ℕ) (place : Place) (next : Next) (path : List Side) → walked kind root caps j place ≡ at next path → made_of kind root caps (j + 1) place ≡ made_of kind root caps j place + 1
  unfolding walked made_of
  made_more j place next path here = made_add j 1 place ∙ ap (λ p. made_of kind root caps j place + made_of kind root caps 1 p) here

-- what an allowance is used up, or no step remains
pub record Walked {S : Type 0} (kind : Kind S) (n : ℕ) (root : Span S) (caps : Caps) (start : Place) (made height : ℕ) (soft : List S) (steps : List Step) (row : List ℕ) : Type 0 where
  pub stands : Coherent kind n root (walked kind root caps made start) height soft steps row
  pub count : made ≡ made_of kind root caps made start

module _ {S : Type 0} (kind : Kind S) (n : ℕ) (root : Span S) (caps : Caps) (start : Place) where
  pub walked_start : (height : ℕ) (soft : List S) (steps : List Step) (row : List ℕ) → Coherent kind n root start height soft steps row → Walked kind n root caps start 0 height soft steps row
  unfolding walked made_of
  walked_start height soft steps row was = record { stands = was; count = refl }

  -- a place at which something is pending is not the end
  open_place : (place : Place) (height : ℕ) (soft : List S) (steps : List Step) (row : List ℕ) → 0 < height → Coherent kind n root place height soft steps row →
      (next : Next) × ((path : List Side) × (place ≡ at next path))
  open_place (at next path) height soft steps row some was = (next, (path, refl))
  open_place finished height soft steps row some was = absurd (omega (arith, was.high))

  pub walked_step : (made height height' : ℕ) (soft soft' : List S) (steps steps' : List Step) (row row' : List ℕ) → 0 < height →
      Walked kind n root caps start made height soft steps row →
      ((next : Next) (path : List Side) → Open kind n root next path height soft steps row → Coherent kind n root (stepped kind root caps (at next path)) height' soft' steps' row') →
      Walked kind n root caps start (made + 1) height' soft' steps' row'
  walked_step made height height' soft soft' steps steps' row row' some was moves =
      let here = open_place (walked kind root caps made start) height soft steps row some was.stands in
      let place = here.1.1 in
      let opened : Open kind n root here.0 here.1.0 height soft steps row = subst (λ p. Coherent kind n root p height soft steps row) place was.stands in
      record {
        stands = subst (λ p. Coherent kind n root p height' soft' steps' row') (sym (walked_more kind root caps made start ∙ ap (stepped kind root caps) place)) (moves here.0 here.1.0 opened);
        count = ap (λ k. k + 1) was.count ∙ sym (made_more kind root caps made start here.0 here.1.0 place);
      }

  -- no step remains
  pub walked_out : (allowance made height : ℕ) (soft : List S) (steps : List Step) (row : List ℕ) → made ≤ allowance → height ≡ 0 → Walked kind n root caps start made height soft steps row →
      Coherent kind n root (walked kind root caps allowance start) height soft steps row × (made ≡ made_of kind root caps allowance start)
  walked_out allowance made height soft steps row less none was = go (walked kind root caps made start) refl
    where
      more : allowance ≡ made + (allowance - made)
      more = omega arith

      go : (place : Place) → walked kind root caps made start ≡ place →
          Coherent kind n root (walked kind root caps allowance start) height soft steps row × (made ≡ made_of kind root caps allowance start)
      go (at next path) e =
          let opened : Open kind n root next path height soft steps row = subst (λ p. Coherent kind n root p height soft steps row) e was.stands in
          absurd (omega (arith, opened.high))
      go finished e =
          let end : walked kind root caps allowance start ≡ walked kind root caps made start =
          ap (λ k. walked kind root caps k start) more ∙ walked_add kind root caps made (allowance - made) start ∙ ap (walked kind root caps (allowance - made)) e ∙ walked_end kind root caps (allowance - made) ∙ sym e in
          let none_more : made_of kind root caps (allowance - made) (walked kind root caps made start) ≡ 0 = ap (made_of kind root caps (allowance - made)) e ∙ made_end kind root caps (allowance - made) in (
            subst (λ p. Coherent kind n root p height soft steps row) (sym end) was.stands,
            was.count ∙ sym (ap (λ k. made_of kind root caps k start) more ∙ made_add kind root caps made (allowance - made) start ∙ ap (λ k. made_of kind root caps made start + k) none_more ∙ add-zero (made_of kind root caps made start)),
          )
