-- Erasures as soft numbers: cited by `Soft` for `Erasure`. Assumes nothing.
use Rattle.std.specs.Prelude.{◌≡◌, ℕ, min, max, Bool, true, false, cond, Some, None, Option, ◌==◌, refl}
use Rattle.soft.specs.declared.erasure.Erasure.{Erasure}
use Rattle.soft.specs.Kind.{Kind, Laws, Meaning, differ, agree, apart, sign_of_join, meaning_of}

-- the larger size when the signs agree, otherwise the difference
abbrev pub larger : Bool → ℕ → ℕ → ℕ
larger same a b = cond same (max a b) (apart a b)

-- an erasure by its sign and its size
abbrev pub of_erasure : Bool → ℕ → Erasure
of_erasure s z = record { sign = s; size = z }

-- a meaning by its sign and its size
abbrev of_meaning : Bool → ℕ → Meaning
of_meaning s z = record { sign = s; size = z }

-- the byte 0x30 is sign 0 size 1, 0x31 is sign 1 size 1, 0x3F is sign 0 size 0, and no other byte reads
abbrev pub read_as : {X : Type 0} → (Bool → ℕ → X) → ℕ → Option X
read_as made byte =
    cond (byte == 0x30) (Some (made false 1)) (cond (byte == 0x31) (Some (made true 1)) (cond (byte == 0x3F) (Some (made false 0)) None))

-- erasures
abbrev pub erasure : Kind Erasure
erasure = record {
  sign = λ a. a.sign;
  size = λ a. a.size;
  check = λ a b. of_erasure (differ a.sign b.sign) (min a.size b.size);
  join = λ a b β. of_erasure (sign_of_join (differ a.sign β) a.size b.sign b.size)
      (larger (agree (differ a.sign β) b.sign) a.size b.size);
  size_rule = larger;
  read = read_as of_erasure;
  reading = read_as of_meaning;
  fill = of_erasure false 0;
}

-- what each byte is read as means what its reading says
read_means : (byte : ℕ) → meaning_of erasure (erasure.read byte) ≡ erasure.reading byte
read_means byte = go (byte == 0x30) (byte == 0x31) (byte == 0x3F)
  where
    go : (x y z : Bool) → meaning_of erasure (cond x (Some (of_erasure false 1)) (cond y (Some (of_erasure true 1)) (cond z (Some (of_erasure false 0)) None)))
        ≡ cond x (Some (of_meaning false 1)) (cond y (Some (of_meaning true 1)) (cond z (Some (of_meaning false 0)) None))
    go true y z = refl
    go false true z = refl
    go false false true = refl
    go false false false = refl

-- they keep both laws, and show their size rule, reading and fill
pub erasure_laws : Laws erasure
erasure_laws = record {
  check_sign = λ a b. refl;
  check_size = λ a b. refl;
  join_sign = λ a b β. refl;
  join_size = λ a b β. refl;
  read_means = read_means;
  fill_sign = refl;
  fill_size = refl;
}
