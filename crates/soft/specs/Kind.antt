-- What a kind of soft number is: cited by the trait `Soft` and by every promise about soft numbers. Assumes nothing.
use Rattle.std.specs.Prelude.{◌≡◌, ℕ, ◌+◌, ◌-◌, min, Bool, true, false, cond, not, ◌&&◌, Some, None, Option, nat_lt}

-- do two signs differ: their XOR, true standing for 1
abbrev pub differ : Bool → Bool → Bool
differ true b = not b
differ false b = b

-- a sign and a size: what a soft number means
pub record Meaning : Type 0 where
  pub sign : Bool
  pub size : ℕ

-- the operations of a kind, and the two rules of its own: the size of a join, and the reading of a byte
pub record Kind (S : Type 0) : Type 0 where
  -- the sign, 0 or 1, kept at size zero too
  pub sign : S → Bool
  pub size : S → ℕ
  pub check : S → S → S
  -- join a b β
  pub join : S → S → Bool → S
  -- the size of a join, from whether c and b agree in sign, the size of a and that of b
  pub size_rule : Bool → ℕ → ℕ → ℕ
  pub read : ℕ → Option S
  -- what a byte reads as, or nothing
  pub reading : ℕ → Option Meaning
  pub fill : S

-- what a soft number means
abbrev pub meaning : {S : Type 0} → Kind S → S → Meaning
meaning kind a = record { sign = kind.sign a; size = kind.size a }

-- what the value in an Option means
abbrev pub meaning_of : {S : Type 0} → Kind S → Option S → Option Meaning
meaning_of kind None = None
meaning_of kind (Some a) = Some (meaning kind a)

-- the size of the difference of two sizes
abbrev pub apart : ℕ → ℕ → ℕ
apart a b = (a - b) + (b - a)

-- the sign of a join: b's, unless c's differs from it and a is larger than b; then c's
abbrev pub sign_of_join : Bool → ℕ → Bool → ℕ → Bool
sign_of_join c a-size b b-size = cond (differ c b && nat_lt b-size a-size) c b

-- do c and b agree in sign
abbrev pub agree : Bool → Bool → Bool
agree c b = not (differ c b)

-- what a kind shows: both laws, its size rule, its reading and its fill
pub record Laws {S : Type 0} (kind : Kind S) : Type 0 where
  -- law 1: the sign of check is the XOR of both signs, and its size is the lesser size
  pub check_sign : (a b : S) → kind.sign (kind.check a b) ≡ differ (kind.sign a) (kind.sign b)
  pub check_size : (a b : S) → kind.size (kind.check a b) ≡ min (kind.size a) (kind.size b)
  -- law 2, where c's sign is a's, turned if β is 1
  pub join_sign : (a b : S) (β : Bool) → kind.sign (kind.join a b β) ≡ sign_of_join (differ (kind.sign a) β) (kind.size a) (kind.sign b) (kind.size b)
  -- the size rule
  pub join_size : (a b : S) (β : Bool) → kind.size (kind.join a b β) ≡ kind.size_rule (agree (differ (kind.sign a) β) (kind.sign b)) (kind.size a) (kind.size b)
  -- the reading
  pub read_means : (byte : ℕ) → meaning_of kind (kind.read byte) ≡ kind.reading byte
  -- the fill is sign 0, size 0
  pub fill_sign : kind.sign kind.fill ≡ false
  pub fill_size : kind.size kind.fill ≡ 0
