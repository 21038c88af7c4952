-- Rows of bits with one bit turned, and the XOR of a row. Assumes nothing.
use Rattle.std.proofs.Common.{◌≡◌, ℕ, zero, suc, ◌+◌, ◌<◌, List, [], ◌∷◌, ◌++◌, length, sym, refl, ap, ◌∙◌, suc-add, zero-add, arith}
use lib.Bits.{bit_xor, xor_assoc, xor_comm}
use Rattle.code.specs.Transform.{xor_row}
use Rattle.code.proofs.Transforms.{xor_twice, xor_swap}
use Rattle.cancellation.specs.Rules.{parity, turned_at}
use Rattle.cancellation.proofs.Combined.{no_tail, same_tail}

xor_last : (a b c : ℕ) → bit_xor (bit_xor a b) c ≡ bit_xor (bit_xor a c) b
xor_last a b c = xor_assoc a b c ∙ ap (bit_xor a) (xor_comm b c) ∙ sym (xor_assoc a c b)

xor_both : (a b c : ℕ) → bit_xor (bit_xor a c) (bit_xor b c) ≡ bit_xor a b
xor_both a b c = sym (xor_assoc (bit_xor a c) b c) ∙ ap (λ x. bit_xor x c) (xor_last a c b) ∙ xor_twice (bit_xor a b) c

pub turned_left : (p : ℕ) (xs ys : List ℕ) → length xs ≡ length ys → xor_row (turned_at p xs) ys ≡ turned_at p (xor_row xs ys)
turned_left p [] ys e = refl
turned_left p (x ∷ xs) [] e = no_tail x xs e
turned_left zero (x ∷ xs) (y ∷ ys) e = ap (λ b. b ∷ xor_row xs ys) (xor_last x 1 y)
turned_left (suc p) (x ∷ xs) (y ∷ ys) e = ap (λ rest. bit_xor x y ∷ rest) (turned_left p xs ys (same_tail x xs y ys e))

pub turned_both : (p : ℕ) (xs ys : List ℕ) → length xs ≡ length ys → xor_row (turned_at p xs) (turned_at p ys) ≡ xor_row xs ys
turned_both p [] ys e = refl
turned_both p (x ∷ xs) [] e = no_tail x xs e
turned_both zero (x ∷ xs) (y ∷ ys) e = ap (λ b. b ∷ xor_row xs ys) (xor_both x y 1)
turned_both (suc p) (x ∷ xs) (y ∷ ys) e = ap (λ rest. bit_xor x y ∷ rest) (turned_both p xs ys (same_tail x xs y ys e))

pub turned_front : (p : ℕ) (xs ys : List ℕ) → p < length xs → turned_at p (xs ++ ys) ≡ turned_at p xs ++ ys
turned_front p [] ys h = let n : ⊥ = omega arith in absurd n
turned_front zero (x ∷ xs) ys h = refl
turned_front (suc p) (x ∷ xs) ys h = ap (λ rest. x ∷ rest) (turned_front p xs ys (omega arith))

pub turned_back : (p n : ℕ) (xs ys : List ℕ) → length xs ≡ n → turned_at (n + p) (xs ++ ys) ≡ xs ++ turned_at p ys
turned_back p zero [] ys h = ap (λ k. turned_at k ys) (zero-add p)
turned_back p (suc n) [] ys h = let k : ⊥ = omega arith in absurd k
turned_back p zero (x ∷ xs) ys h = no_tail x xs h
turned_back p (suc n) (x ∷ xs) ys h =
    ap (λ k. turned_at k (x ∷ (xs ++ ys))) (suc-add n p) ∙ ap (λ rest. x ∷ rest) (turned_back p n xs ys (omega arith))

pub length_turned : (p : ℕ) (xs : List ℕ) → length (turned_at p xs) ≡ length xs
length_turned p [] = refl
length_turned zero (x ∷ xs) = refl
length_turned (suc p) (x ∷ xs) = ap suc (length_turned p xs)

pub parity-xor_row : (xs ys : List ℕ) → length xs ≡ length ys → parity (xor_row xs ys) ≡ bit_xor (parity xs) (parity ys)
parity-xor_row [] [] e = refl
parity-xor_row [] (y ∷ ys) e = no_tail y ys (sym e)
parity-xor_row (x ∷ xs) [] e = no_tail x xs e
parity-xor_row (x ∷ xs) (y ∷ ys) e =
    ap (bit_xor (bit_xor x y)) (parity-xor_row xs ys (same_tail x xs y ys e)) ∙ xor_swap x y (parity xs) (parity ys)

pub parity_append : (xs ys : List ℕ) → parity (xs ++ ys) ≡ bit_xor (parity xs) (parity ys)
parity_append [] ys = refl
parity_append (x ∷ xs) ys = ap (bit_xor x) (parity_append xs ys) ∙ sym (xor_assoc x (parity xs) (parity ys))

-- the XOR of a row in which one bit is turned
-- Kept: no other lemma states it.
pub parity_turned : (p : ℕ) (xs : List ℕ) → p < length xs → parity (turned_at p xs) ≡ bit_xor (parity xs) 1
parity_turned p [] h = let n : ⊥ = omega arith in absurd n
parity_turned zero (x ∷ xs) h = xor_last x 1 (parity xs)
parity_turned (suc p) (x ∷ xs) h = ap (bit_xor x) (parity_turned p xs (omega arith)) ∙ sym (xor_assoc x (parity xs) 1)
