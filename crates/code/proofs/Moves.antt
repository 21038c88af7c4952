-- Moves by arithmetic: the law in words of bits is the law as it is tested.
use Rattle.std.proofs.Common.{◌≡◌, ℕ, zero, suc, ◌+◌, ◌-◌, ◌*◌, ◌/◌, ◌%◌, ◌^◌, ◌<◌, ◌≤◌, Bool, true, false, cond, eqb, List, get_or, sym, refl, ap, ◌∙◌, subst, inl, inr, ⊎_elim, mul-le-mul_right, add-mul, one-mul, div-mul-le_self, div-one, arith, pow_mono}
use native.Mathlib.Nat.{mod-le}
use lib.Arith.{digits_lt}
use Rattle.std.proofs.lemmas.Nat.{pow_pos, pow-add, shr-shr, shr_below, div_below, div-add-mod', mod_below, mod-pow-add}
use Rattle.std.proofs.lemmas.Bool.{cases_lt, cases_eq, and_parts, and_from, cond_both, cond-true, ltb-true, lt-ltb, eq-eqb, eqb-true}
use Rattle.code.specs.Orders.{bit_at, KeepsLaw, exchange_keeps, exchanges_keep, setting_keeps, keeps_law, LawAsTested}

two_pow_more : (b : ℕ) → 2 ^ (b + 1) ≡ 2 * 2 ^ b
two_pow_more b = let e : 2 ^ (b + 1) ≡ 2 ^ b * 2 = pow-add 2 b 1 in omega arith

-- setting bit 0 stays within 2 ^ n
pub setting_within : (n p : ℕ) → 1 ≤ n → p < 2 ^ n → p % 2 ≡ 0 → p + 1 < 2 ^ n
setting_within n p some lt even =
    let e : n ≡ (n - 1) + 1 = omega arith in
    let d : 2 ^ n ≡ 2 * 2 ^ (n - 1) = ap (◌^◌ 2) e ∙ two_pow_more (n - 1) in
    omega (arith, div_below p 2 (2 ^ (n - 1)) (omega arith) (omega arith), div-add-mod' p 2)

-- an exchange below bit n stays within 2 ^ n
pub exchange_within : (n p b : ℕ) → b + 1 < n → p < 2 ^ n → p / 2 ^ b % 4 ≡ 1 → p + 2 ^ b < 2 ^ n
exchange_within n p b bit lt one =
    let k : ℕ = n - b - 2 in
    let w : ℕ = 2 ^ b in
    let x : ℕ = p / 2 ^ b in
    let e : n ≡ (k + 2) + b = omega arith in
    let whole : 2 ^ n ≡ 2 ^ (k + 2) * w = ap (◌^◌ 2) e ∙ pow-add 2 (k + 2) b in
    let high : x < 2 ^ (k + 2) = shr_below p (k + 2) b (subst (λ m. p < 2 ^ m) e lt) in
    let four : 2 ^ (k + 2) ≡ 2 ^ k * 4 = pow-add 2 k 2 in
    let quarter : x / 4 < 2 ^ k = div_below x 4 (2 ^ k) (omega arith) (omega arith) in
    let next : x + 1 < 2 ^ (k + 2) = omega (arith, div-add-mod' x 4) in
    omega (arith, digits_lt next (mod_below p w (pow_pos b)), add-mul x 1 w, one-mul w, div-add-mod' p w)

-- the bit after bit b
bit_after : (p b : ℕ) → bit_at p (b + 1) ≡ p / 2 ^ b / 2 % 2
bit_after p b = ap (λ x. x % 2) (sym (shr-shr p b 1))

-- two bits as one number
two_bits : (x : ℕ) → x % 4 ≡ (x / 2 % 2) * 2 + x % 2
two_bits x = mod-pow-add x 1 1

-- a 1 at bit b and a 0 at bit b + 1, as one number
pub pair_from_bits : (p b : ℕ) → bit_at p b ≡ 1 → bit_at p (b + 1) ≡ 0 → p / 2 ^ b % 4 ≡ 1
pair_from_bits p b one none = omega (arith, bit_after p b, two_bits (p / 2 ^ b))

pub bits_from_pair : (p b : ℕ) → p / 2 ^ b % 4 ≡ 1 → (bit_at p b ≡ 1) × (bit_at p (b + 1) ≡ 0)
bits_from_pair p b h =
    let low : p / 2 ^ b % 2 < 2 = mod_below (p / 2 ^ b) 2 (omega arith) in
    (omega (arith, two_bits (p / 2 ^ b)), omega (arith, bit_after p b, two_bits (p / 2 ^ b)))

-- a bit that is 1 lies within its number
bit_below : (p b : ℕ) → bit_at p b ≡ 1 → 2 ^ b ≤ p
bit_below p b one =
    let some : 1 ≤ p / 2 ^ b = omega (arith, mod-le (p / 2 ^ b) 2) in
    omega (arith, mul-le-mul_right (2 ^ b) some, one-mul (2 ^ b), div-mul-le_self p (2 ^ b))

-- where an exchange leads
exchanged : (p q b : ℕ) → q + 2 ^ b ≡ p + 2 ^ (b + 1) → q ≡ p + 2 ^ b
exchanged p q b h = omega (arith, two_pow_more b)

-- an exchange that stays within 2 ^ n is at bits below bit n
exchange_low : (n p b : ℕ) → bit_at p b ≡ 1 → p + 2 ^ b < 2 ^ n → b < n - 1
exchange_low n p b one lt =
    ⊎_elim (λ h. h) (λ h. let up : 2 ^ n ≤ 2 ^ (b + 1) = pow_mono (omega arith) in absurd (omega (arith, two_pow_more b, bit_below p b one))) (cases_lt b (n - 1))

-- all exchanges below a bit keep the law, or one does not
pub exchanges_at : (ranks : List ℕ) (p k b : ℕ) → exchanges_keep ranks p k ≡ true → b < k → exchange_keeps ranks p b ≡ true
exchanges_at ranks p zero b h lt = absurd (omega arith)
exchanges_at ranks p (suc k) b h lt =
    let both = and_parts (exchanges_keep ranks p k) (exchange_keeps ranks p k) h in
    ⊎_elim (λ e. ap (exchange_keeps ranks p) e ∙ both.1) (λ ne. exchanges_at ranks p k b both.0 (omega arith)) (cases_eq b k)

pub exchanges_from : (ranks : List ℕ) (p k : ℕ) → ((b : ℕ) → b < k → exchange_keeps ranks p b ≡ true) → exchanges_keep ranks p k ≡ true
exchanges_from ranks p zero each = refl
exchanges_from ranks p (suc k) each =
    and_from (exchanges_keep ranks p k) (exchange_keeps ranks p k) (exchanges_from ranks p k (λ b lt. each b (omega arith))) (each k (omega arith))

-- a test that is made where a number is what it should be, and holds
made : (a b : ℕ) (t : Bool) → a ≡ b → cond (eqb a b) t true ≡ true → t ≡ true
made a b t e h = sym (cond-true (eqb a b) t true (eq-eqb a b e)) ∙ h

-- the law as it is tested gives the law in words of bits
pub law_from_test : (n : ℕ) (ranks : List ℕ) (p : ℕ) → keeps_law n ranks p ≡ true → KeepsLaw n ranks p
unfolding keeps_law
law_from_test n ranks p h q lt move = elim move [ inl m ↦ setting m | inr m ↦ exchange m ]
  where
    parts : (setting_keeps ranks p ≡ true) × (exchanges_keep ranks p (n - 1) ≡ true)
    parts = and_parts (setting_keeps ranks p) (exchanges_keep ranks p (n - 1)) h

    setting : (bit_at p 0 ≡ 0) × (q ≡ p + 1) → get_or ranks q 0 < get_or ranks p 0
    setting m =
        let even : p % 2 ≡ 0 = rw div-one at m.0 in
        let less : get_or ranks (p + 1) 0 < get_or ranks p 0 = ltb-true _ _ (made (p % 2) 0 _ even parts.0) in
        rw m.1 less

    exchange : (b : ℕ) × (bit_at p b ≡ 1) × (bit_at p (b + 1) ≡ 0) × (q + 2 ^ b ≡ p + 2 ^ (b + 1)) → get_or ranks q 0 < get_or ranks p 0
    exchange m =
        let b = m.0 in
        let to : q ≡ p + 2 ^ b = exchanged p q b m.3 in
        let bit : b < n - 1 = exchange_low n p b m.1 (omega arith) in
        let pair : p / 2 ^ b % 4 ≡ 1 = pair_from_bits p b m.1 m.2 in
        let less : get_or ranks (p + 2 ^ b) 0 < get_or ranks p 0 = ltb-true _ _ (made (p / 2 ^ b % 4) 1 _ pair (exchanges_at ranks p (n - 1) b parts.1 bit)) in
        rw to less

-- the law in words of bits passes the test
pub test_from_law : (n : ℕ) (ranks : List ℕ) (p : ℕ) → 1 ≤ n → p < 2 ^ n → KeepsLaw n ranks p → keeps_law n ranks p ≡ true
unfolding keeps_law
test_from_law n ranks p some lt law = and_from (setting_keeps ranks p) (exchanges_keep ranks p (n - 1)) setting (exchanges_from ranks p (n - 1) exchange)
  where
    setting : setting_keeps ranks p ≡ true
    setting = cond_both (eqb (p % 2) 0) _ true (λ t. t ≡ true) (λ e.
        let even : p % 2 ≡ 0 = eqb-true (p % 2) 0 e in
        lt-ltb _ _ (law (p + 1) (setting_within n p some lt even) (inl (rw div-one even, refl)))) (λ e. refl)

    exchange : (b : ℕ) → b < n - 1 → exchange_keeps ranks p b ≡ true
    exchange b bit = cond_both (eqb (p / 2 ^ b % 4) 1) _ true (λ t. t ≡ true) (λ e.
        let pair : p / 2 ^ b % 4 ≡ 1 = eqb-true (p / 2 ^ b % 4) 1 e in
        let bits = bits_from_pair p b pair in
        lt-ltb _ _ (law (p + 2 ^ b) (exchange_within n p b (omega arith) lt pair) (inr (b, bits.0, bits.1, omega (arith, two_pow_more b))))) (λ e. refl)

pub law_as_tested : LawAsTested
law_as_tested n ranks p some lt = (law_from_test n ranks p, test_from_law n ranks p some lt)

-- where bit 0 keeps the law, the exchanges decide; where it does not, nothing else counts
pub law_at_exchanges : (n : ℕ) (ranks : List ℕ) (p : ℕ) → setting_keeps ranks p ≡ true → exchanges_keep ranks p (n - 1) ≡ keeps_law n ranks p
unfolding keeps_law
law_at_exchanges n ranks p h = rw h

pub law_breach : (n : ℕ) (ranks : List ℕ) (p : ℕ) → setting_keeps ranks p ≡ false → false ≡ keeps_law n ranks p
unfolding keeps_law
law_breach n ranks p h = rw h
