-- The top of a stack by its place. Assumes nothing.
use Rattle.std.proofs.Common.{◌≡◌, ℕ, zero, suc, ◌<◌, List, [], ◌∷◌, ◌++◌, length, take, Some, sym, refl, ap, ◌∙◌, arith}
use Rattle.receiver.specs.Stacks.{nth, top_of}

nth_take : {X : Type 0} (xs : List X) (k m : ℕ) → k < m → nth (take m xs) k ≡ nth xs k
nth_take xs k zero h = absurd (omega arith)
nth_take [] k (suc m) h = refl
nth_take (x ∷ xs) zero (suc m) h = refl
nth_take (x ∷ xs) (suc k) (suc m) h = nth_take xs k m (omega arith)

nth_last : {X : Type 0} (xs : List X) (x : X) → nth (xs ++ (x ∷ [])) (length xs) ≡ Some x
nth_last [] x = refl
nth_last (y ∷ xs) x = nth_last xs x

-- the top of a stack whose elements are known
pub top_known : {X : Type 0} (outer : List X) (last : X) (slots : List X) (height : ℕ) → take height slots ≡ outer ++ (last ∷ []) → height ≡ suc (length outer) → top_of height slots ≡ Some last
top_known outer last slots height known high =
    ap (λ h. top_of h slots) high
    ∙ sym (nth_take slots (length outer) height (omega arith))
    ∙ ap (λ xs. nth xs (length outer)) known ∙ nth_last outer last
