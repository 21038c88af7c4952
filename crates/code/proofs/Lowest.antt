-- The lowest position that fails a test, found in one pass.
use Rattle.std.proofs.Common.{◌≡◌, ℕ, zero, suc, ◌+◌, ◌-◌, ◌<◌, ◌≤◌, Bool, true, false, Some, None, sym, refl, ap, ◌∙◌, ⊎_elim, add-one, arith}
use Rattle.std.proofs.lemmas.Bool.{cases_eq}
use Rattle.code.specs.Spans.{lowest_no}

pub lowest_true : (test : ℕ → Bool) (at count : ℕ) → test at ≡ true → lowest_no test at (suc count) ≡ lowest_no test (suc at) count
lowest_true test at count h = rw h

pub lowest_false : (test : ℕ → Bool) (at count : ℕ) → test at ≡ false → lowest_no test at (suc count) ≡ Some at
lowest_false test at count h = rw h

left : (at total : ℕ) → at < total → total - at ≡ suc (total - (at + 1))
left at total h = omega arith

-- the pass begins
pub lowest_none : (test : ℕ → Bool) (total : ℕ) → lowest_no test 0 total ≡ lowest_no test 0 (total - 0)
lowest_none test total = let e : total ≡ total - 0 = omega arith in ap (lowest_no test 0) e

-- the pass goes one position on
pub lowest_more : (test : ℕ → Bool) (total at : ℕ) → at < total → test at ≡ true → lowest_no test 0 total ≡ lowest_no test at (total - at) → lowest_no test 0 total ≡ lowest_no test (at + 1) (total - (at + 1))
lowest_more test total at lt h inv =
    inv ∙ ap (lowest_no test at) (left at total lt) ∙ lowest_true test at (total - (at + 1)) h ∙ ap (λ k. lowest_no test k (total - (at + 1))) (sym (add-one at))

-- the pass has found it
pub lowest_found : (test : ℕ → Bool) (total at : ℕ) → at < total → test at ≡ false → lowest_no test 0 total ≡ lowest_no test at (total - at) → Some at ≡ lowest_no test 0 total
lowest_found test total at lt h inv =
    sym (inv ∙ ap (lowest_no test at) (left at total lt) ∙ lowest_false test at (total - (at + 1)) h)

-- where none fails, each passes
pub none_fails : (test : ℕ → Bool) (at count : ℕ) → lowest_no test at count ≡ None → (p : ℕ) → at ≤ p → p < at + count → test p ≡ true
none_fails test at zero h p low high = absurd (omega arith)
none_fails test at (suc count) h p low high = go (λ e ne. none_fails test (suc at) count (sym (lowest_true test at count e) ∙ h) p (omega arith) (omega arith)) (test at) refl
  where
    go : (test at ≡ true → (at ≡ p → ⊥) → test p ≡ true) → (t : Bool) → test at ≡ t → test p ≡ true
    go next true e = ⊎_elim (λ same. ap test (sym same) ∙ e) (next e) (cases_eq at p)
    go next false e = let z : ◌≡◌ {A = ℕ} 0 1 = cc (lowest_false test at count e) in absurd (omega arith)

-- where each passes, none fails
pub all_pass : (test : ℕ → Bool) (at count : ℕ) → ((p : ℕ) → at ≤ p → p < at + count → test p ≡ true) → lowest_no test at count ≡ None
all_pass test at zero each = refl
all_pass test at (suc count) each =
    lowest_true test at count (each at (omega arith) (omega arith)) ∙ all_pass test (suc at) count (λ p low high. each p (omega arith) (omega arith))
