-- Laws of the transform. Assumes nothing.
use Rattle.std.proofs.Common.{◌≡◌, ℕ, zero, suc, ◌^◌, ◌<◌, ◌≤◌, List, [], ◌∷◌, ◌++◌, length, get_or, take, drop, sym, refl, ap, ◌∙◌, ap₂, arith, take-append-drop}
use native.Mathlib.Nat.{two-pow-succ}
use lib.Bits.{bit_xor, xor_assoc, xor_comm, xor_self, xor_zero_r}
use Rattle.std.proofs.lemmas.List.{length-take, length-drop, length-append, take_at, drop_at}
use Rattle.code.specs.Transform.{xor_row, join_halves, transform, KeepsLength, UndoesItself}

pub length-xor_row : (xs ys : List ℕ) → length xs ≡ length ys → length (xor_row xs ys) ≡ length xs
length-xor_row [] ys e = refl
length-xor_row (x ∷ xs) [] e = sym e
length-xor_row (x ∷ xs) (y ∷ ys) e = ap suc (length-xor_row xs ys (let h : length xs ≡ length ys = omega arith in h))

pub get_or-xor_row : (xs ys : List ℕ) (k : ℕ) → length xs ≡ length ys → get_or (xor_row xs ys) k 0 ≡ bit_xor (get_or xs k 0) (get_or ys k 0)
get_or-xor_row [] [] k e = refl
get_or-xor_row [] (y ∷ ys) k e = let h : ⊥ = omega arith in absurd h
get_or-xor_row (x ∷ xs) [] k e = let h : ⊥ = omega arith in absurd h
get_or-xor_row (x ∷ xs) (y ∷ ys) zero e = refl
get_or-xor_row (x ∷ xs) (y ∷ ys) (suc k) e = get_or-xor_row xs ys k (let h : length xs ≡ length ys = omega arith in h)

pub xor_twice : (a b : ℕ) → bit_xor (bit_xor a b) b ≡ a
xor_twice a b = xor_assoc a b b ∙ ap (bit_xor a) (xor_self b) ∙ xor_zero_r a

-- XORing a row twice changes nothing
pub xor_row-twice : (xs ys : List ℕ) → length xs ≡ length ys → xor_row (xor_row xs ys) ys ≡ xs
xor_row-twice [] ys e = refl
xor_row-twice (x ∷ xs) [] e = let h : ⊥ = omega arith in absurd h
xor_row-twice (x ∷ xs) (y ∷ ys) e =
    ap₂ (λ a rest. a ∷ rest) (xor_twice x y) (xor_row-twice xs ys (let h : length xs ≡ length ys = omega arith in h))

xor_row-nil : (xs : List ℕ) → xor_row xs [] ≡ []
xor_row-nil [] = refl
xor_row-nil (x ∷ xs) = refl

pub take-xor_row : (n : ℕ) (xs ys : List ℕ) → take n (xor_row xs ys) ≡ xor_row (take n xs) (take n ys)
take-xor_row zero xs ys = refl
take-xor_row (suc n) [] ys = refl
take-xor_row (suc n) (x ∷ xs) [] = refl
take-xor_row (suc n) (x ∷ xs) (y ∷ ys) = ap (λ rest. bit_xor x y ∷ rest) (take-xor_row n xs ys)

pub drop-xor_row : (n : ℕ) (xs ys : List ℕ) → drop n (xor_row xs ys) ≡ xor_row (drop n xs) (drop n ys)
drop-xor_row zero xs ys = refl
drop-xor_row (suc n) [] ys = refl
drop-xor_row (suc n) (x ∷ xs) [] = sym (xor_row-nil (drop n xs))
drop-xor_row (suc n) (x ∷ xs) (y ∷ ys) = drop-xor_row n xs ys

pub xor_row-append : (a b c d : List ℕ) → length a ≡ length c → xor_row (a ++ b) (c ++ d) ≡ xor_row a c ++ xor_row b d
xor_row-append [] b [] d e = refl
xor_row-append [] b (y ∷ c) d e = let h : ⊥ = omega arith in absurd h
xor_row-append (x ∷ a) b [] d e = let h : ⊥ = omega arith in absurd h
xor_row-append (x ∷ a) b (y ∷ c) d e =
    ap (λ rest. bit_xor x y ∷ rest) (xor_row-append a b c d (let h : length a ≡ length c = omega arith in h))

pub xor_swap : (a b c d : ℕ) → bit_xor (bit_xor a b) (bit_xor c d) ≡ bit_xor (bit_xor a c) (bit_xor b d)
xor_swap a b c d =
    xor_assoc a b (bit_xor c d)
    ∙ ap (bit_xor a) (sym (xor_assoc b c d) ∙ ap (λ x. bit_xor x d) (xor_comm b c) ∙ xor_assoc c b d)
    ∙ sym (xor_assoc a c (bit_xor b d))

-- XOR of rows in another grouping
pub xor_row-swap : (a b c d : List ℕ) → xor_row (xor_row a b) (xor_row c d) ≡ xor_row (xor_row a c) (xor_row b d)
xor_row-swap [] b c d = refl
xor_row-swap (x ∷ a) [] [] d = refl
xor_row-swap (x ∷ a) [] (z ∷ c) d = refl
xor_row-swap (x ∷ a) (y ∷ b) [] d = refl
xor_row-swap (x ∷ a) (y ∷ b) (z ∷ c) [] = refl
xor_row-swap (x ∷ a) (y ∷ b) (z ∷ c) (w ∷ d) = ap₂ (λ k rest. k ∷ rest) (xor_swap x y z w) (xor_row-swap a b c d)

module _ (e : ℕ) (bits : List ℕ) (long : length bits ≡ 2 ^ suc e) where
  pub left_length : length (take (2 ^ e) bits) ≡ 2 ^ e
  left_length = simp length-take (omega (arith, two-pow-succ e))

  pub right_length : length (drop (2 ^ e) bits) ≡ 2 ^ e
  right_length = simp length-drop (omega (arith, two-pow-succ e))

pub keeps_length : KeepsLength
unfolding transform
keeps_length zero bits long = long
keeps_length (suc e) bits long =
    let l = transform e (take (2 ^ e) bits) in
    let r = transform e (drop (2 ^ e) bits) in
    let hl : length l ≡ 2 ^ e = keeps_length e (take (2 ^ e) bits) (left_length e bits long) in
    let hr : length r ≡ 2 ^ e = keeps_length e (drop (2 ^ e) bits) (right_length e bits long) in
    let hx : length (xor_row l r) ≡ length l = length-xor_row l r (hl ∙ sym hr) in
    length-append (xor_row l r) r ∙ omega (arith, two-pow-succ e)

-- the transform of an XOR is the XOR of the transforms
pub transform-xor_row : (e : ℕ) (xs ys : List ℕ) → length xs ≡ 2 ^ e → length ys ≡ 2 ^ e →
    transform e (xor_row xs ys) ≡ xor_row (transform e xs) (transform e ys)
unfolding transform
transform-xor_row zero xs ys hx hy = refl
transform-xor_row (suc e) xs ys hx hy =
    let h = 2 ^ e in
    let a = transform e (take h xs) in
    let b = transform e (drop h xs) in
    let c = transform e (take h ys) in
    let d = transform e (drop h ys) in
    let la : length a ≡ h = keeps_length e (take h xs) (left_length e xs hx) in
    let lb : length b ≡ h = keeps_length e (drop h xs) (right_length e xs hx) in
    let lc : length c ≡ h = keeps_length e (take h ys) (left_length e ys hy) in
    let ld : length d ≡ h = keeps_length e (drop h ys) (right_length e ys hy) in
    let lab : length (xor_row a b) ≡ h = length-xor_row a b (la ∙ sym lb) ∙ la in
    let lcd : length (xor_row c d) ≡ h = length-xor_row c d (lc ∙ sym ld) ∙ lc in
    let left : transform e (take h (xor_row xs ys)) ≡ xor_row a c =
    ap (transform e) (take-xor_row h xs ys) ∙ transform-xor_row e (take h xs) (take h ys) (left_length e xs hx) (left_length e ys hy) in
    let right : transform e (drop h (xor_row xs ys)) ≡ xor_row b d =
    ap (transform e) (drop-xor_row h xs ys) ∙ transform-xor_row e (drop h xs) (drop h ys) (right_length e xs hx) (right_length e ys hy) in
    ap₂ join_halves left right
    ∙ ap (λ row. row ++ xor_row b d) (xor_row-swap a c b d)
    ∙ sym (xor_row-append (xor_row a b) b (xor_row c d) d (lab ∙ sym lcd))

pub undoes_itself : UndoesItself
unfolding transform
undoes_itself zero bits long = refl
undoes_itself (suc e) bits long =
    let l = transform e (take (2 ^ e) bits) in
    let r = transform e (drop (2 ^ e) bits) in
    let hl : length l ≡ 2 ^ e = keeps_length e (take (2 ^ e) bits) (left_length e bits long) in
    let hr : length r ≡ 2 ^ e = keeps_length e (drop (2 ^ e) bits) (right_length e bits long) in
    let hx : length (xor_row l r) ≡ 2 ^ e = length-xor_row l r (hl ∙ sym hr) ∙ hl in
    let front : take (2 ^ e) (xor_row l r ++ r) ≡ xor_row l r = take_at (xor_row l r) r (2 ^ e) hx in
    let back : drop (2 ^ e) (xor_row l r ++ r) ≡ r = drop_at (xor_row l r) r (2 ^ e) hx in
    let again : transform e l ≡ take (2 ^ e) bits = undoes_itself e (take (2 ^ e) bits) (left_length e bits long) in
    let right : transform e r ≡ drop (2 ^ e) bits = undoes_itself e (drop (2 ^ e) bits) (right_length e bits long) in
    let both : transform e (xor_row l r) ≡ xor_row (take (2 ^ e) bits) (drop (2 ^ e) bits) = transform-xor_row e l r hl hr ∙ ap₂ xor_row again right in
    ap₂ join_halves (ap (transform e) front ∙ both) (ap (transform e) back ∙ right)
    ∙ ap (λ row. row ++ drop (2 ^ e) bits) (xor_row-twice (take (2 ^ e) bits) (drop (2 ^ e) bits) (left_length e bits long ∙ sym (right_length e bits long)))
    ∙ take-append-drop (2 ^ e) bits

-- what XORing the right half onto the left half leaves, place by place
pub xored : (l r new : List ℕ) → length l ≤ length r → length new ≡ length l →
    ((k : ℕ) → k < length l → get_or new k 0 ≡ bit_xor (get_or l k 0) (get_or r k 0)) → new ≡ xor_row l r
xored [] r [] le long each = refl
xored [] r (n ∷ new) le long each = absurd (omega arith)
xored (x ∷ l) [] new le long each = absurd (omega arith)
xored (x ∷ l) (y ∷ r) [] le long each = absurd (omega arith)
xored (x ∷ l) (y ∷ r) (n ∷ new) le long each =
    ap₂ (λ a row. a ∷ row) (each 0 (omega arith)) (xored l r new (omega arith) (omega arith) (λ k h. each (suc k) (omega arith)))
