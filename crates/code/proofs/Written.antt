-- Ranks as they are written: two bytes each.
use Rattle.std.proofs.Common.{◌≡◌, ℕ, zero, suc, ◌+◌, ◌*◌, ◌<◌, List, [], ◌∷◌, length, get_or, refl, ap, arith}
use Rattle.code.specs.Orders.{ranks_of}

-- the rank of a position is in its two bytes
pub get_or-ranks_of : (bytes : List ℕ) (p : ℕ) → 2 * p + 1 < length bytes → get_or (ranks_of bytes) p 0 ≡ get_or bytes (2 * p) 0 * 256 + get_or bytes (2 * p + 1) 0
unfolding ranks_of
get_or-ranks_of [] p h = absurd (omega arith)
get_or-ranks_of (x ∷ []) p h = absurd (omega arith)
get_or-ranks_of (x ∷ (y ∷ bytes)) zero h = refl
get_or-ranks_of (x ∷ (y ∷ bytes)) (suc p) h =
    let e : 2 * suc p ≡ suc (suc (2 * p)) = omega arith in
    let f : 2 * suc p + 1 ≡ suc (suc (2 * p + 1)) = omega arith in
    rw (f, e) (get_or-ranks_of bytes p (omega arith))

-- there are half as many ranks as bytes
pub length-ranks_of : (bytes : List ℕ) (m : ℕ) → length bytes ≡ 2 * m → length (ranks_of bytes) ≡ m
unfolding ranks_of
length-ranks_of [] m h = omega arith
length-ranks_of (x ∷ []) zero h = absurd (omega arith)
length-ranks_of (x ∷ []) (suc m) h = absurd (omega arith)
length-ranks_of (x ∷ (y ∷ bytes)) zero h = absurd (omega arith)
length-ranks_of (x ∷ (y ∷ bytes)) (suc m) h = ap suc (length-ranks_of bytes m (omega arith))
