-- Whole numbers as soft numbers: cited by `Soft` for `Whole`. Assumes nothing.
use Rattle.std.specs.Prelude.{ℕ, ◌+◌, ◌%◌, min, Bool, false, cond, Some, nat_le, refl}
use Rattle.soft.specs.declared.whole.Whole.{Whole}
use Rattle.soft.specs.Kind.{Kind, Laws, Meaning, differ, agree, apart, sign_of_join}

-- where a sum stops
abbrev pub stop : ℕ
stop = 130048

-- sizes add when the signs agree, a sum going no further than the limit; otherwise their difference
abbrev pub sum_up_to : ℕ → Bool → ℕ → ℕ → ℕ
sum_up_to limit same a b = cond same (min (a + b) limit) (apart a b)

-- bit 7 is the sign, the low seven bits are the size
abbrev pub whole_reading : ℕ → Meaning
whole_reading byte = record { sign = nat_le 128 byte; size = byte % 128 }

-- whole numbers whose sums stop at a limit
abbrev pub whole_up_to : ℕ → Kind Whole
whole_up_to limit = record {
  sign = λ a. a.sign;
  size = λ a. a.size;
  check = λ a b. record { sign = differ a.sign b.sign; size = min a.size b.size };
  join = λ a b β. record {
    sign = sign_of_join (differ a.sign β) a.size b.sign b.size;
    size = sum_up_to limit (agree (differ a.sign β) b.sign) a.size b.size;
  };
  size_rule = sum_up_to limit;
  read = λ byte. Some (record { sign = (whole_reading byte).sign; size = (whole_reading byte).size });
  reading = λ byte. Some (whole_reading byte);
  fill = record { sign = false; size = 0 };
}

-- whole numbers
abbrev pub whole : Kind Whole
whole = whole_up_to stop

-- they keep both laws, and show their size rule, reading and fill
pub whole_laws : (limit : ℕ) → Laws (whole_up_to limit)
whole_laws limit = record {
  check_sign = λ a b. refl;
  check_size = λ a b. refl;
  join_sign = λ a b β. refl;
  join_size = λ a b β. refl;
  read_means = λ byte. refl;
  fill_sign = refl;
  fill_size = refl;
}
