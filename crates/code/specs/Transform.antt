-- The polar transform, without bit reversal: cited by the encoder and by every promise about a word. Assumes nothing.
use Rattle.std.specs.Prelude.{◌≡◌, ℕ, zero, suc, ◌^◌, List, [], ◌∷◌, ◌++◌, length, take, drop, bit_xor}

-- two rows, XORed place by place
abbrev pub xor_row : List ℕ → List ℕ → List ℕ
xor_row [] ys = []
xor_row (x ∷ xs) [] = []
xor_row (x ∷ xs) (y ∷ ys) = bit_xor x y ∷ xor_row xs ys

-- the transform of a span from the transforms of its halves
abbrev pub join_halves : List ℕ → List ℕ → List ℕ
join_halves l r = xor_row l r ++ r

-- the transform of 2 ^ e bits: one bit is itself; a longer span is L XOR R, then R, for its halves' transforms L and R
unfoldable pub transform : ℕ → List ℕ → List ℕ
transform zero bits = bits
transform (suc e) bits = join_halves (transform e (take (2 ^ e) bits)) (transform e (drop (2 ^ e) bits))

-- the transform keeps the length of what it is given
abbrev pub KeepsLength : Type 0
KeepsLength = (e : ℕ) (bits : List ℕ) → length bits ≡ 2 ^ e → length (transform e bits) ≡ 2 ^ e

-- the transform undoes itself
abbrev pub UndoesItself : Type 0
UndoesItself = (e : ℕ) (bits : List ℕ) → length bits ≡ 2 ^ e → transform e (transform e bits) ≡ bits
