-- How large the values of a span grow, and that the stop is never reached. Assumes nothing.
use Rattle.std.proofs.Common.{◌≡◌, ℕ, zero, suc, ◌+◌, ◌-◌, ◌*◌, ◌%◌, ◌^◌, ◌<◌, ◌≤◌, Bool, true, false, cond, eqb, ltb, leb, List, [], ◌∷◌, length, take, drop, Some, None, Option, sym, refl, ap, ◌∙◌, ap₂, ⊎_elim, suc-mul, add-mul, mul-le-mul_left, mul-add, mul_left_comm, arith, pow_pos, pow_mono, pow-add}
use native.Mathlib.Nat.{two-pow-succ}
use Rattle.std.proofs.lemmas.Bool.{leb-true, leb-false, le-leb, lt-leb, cond_both}
use Rattle.std.proofs.lemmas.Nat.{one_shl}
use Rattle.soft.specs.declared.whole.Whole.{Whole}
use Rattle.soft.specs.Kind.{Kind, Laws, differ, agree, sign_of_join}
use Rattle.soft.specs.declared.erasure.Erasure.{Erasure}
use Rattle.soft.specs.Erasure.{erasure, erasure_laws, larger, of_erasure}
use Rattle.soft.specs.Whole.{whole, whole_up_to, whole_laws, stop, sum_up_to}
use Rattle.code.specs.Transform.{join_halves}
use Rattle.cancellation.specs.Rows.{check_row, join_row, left_values, right_values}
use Rattle.cancellation.specs.Cancel.{decided, cancel, span_values}
use Rattle.cancellation.specs.Rules.{size_at}
use Rattle.cancellation.specs.Cost.{total, Adds}
use Rattle.cancellation.specs.Sizes.{Received, SizesBounded, NeverStops, RepCheapest, ErasuresKept}
use Rattle.cancellation.proofs.Combined.{left_long, right_long, left_values_long, right_values_long}
use Rattle.cancellation.proofs.Agree.{repeats}
use Rattle.cancellation.proofs.Balance.{cheapest_repeated}
use Rattle.cancellation.proofs.Messages.{length_cancel}

doubled : (b n e : ℕ) → e < suc n → b * 2 ^ (suc n - e) ≡ b * 2 ^ (n - e) + b * 2 ^ (n - e)
doubled b n e h =
    let up : suc n - e ≡ suc (n - e) = omega arith in
    ap (λ k. b * 2 ^ k) up ∙ ap (λ k. b * k) (two-pow-succ (n - e)) ∙ mul-add b (2 ^ (n - e)) (2 ^ (n - e))

module _ {S : Type 0} (kind : Kind S) where
  -- no size of a row passes b
  abbrev Small : ℕ → List S → Type 0
  Small b [] = Unit {0}
  Small b (v ∷ values) = (kind.size v ≤ b) × Small b values

  small_from : (b : ℕ) (values : List S) → ((i : ℕ) → i < length values → size_at kind values i ≤ b) → Small b values
  small_from b [] each = tt
  small_from b (v ∷ values) each = (each 0 (omega arith), small_from b values (λ i h. each (suc i) (omega arith)))

  small_at : (b : ℕ) (values : List S) → kind.size kind.fill ≤ b → Small b values → (i : ℕ) → size_at kind values i ≤ b
  small_at b [] none small i = none
  small_at b (v ∷ values) none small zero = small.0
  small_at b (v ∷ values) none small (suc i) = small_at b values none small.1 i

  small_more : (b c : ℕ) (values : List S) → b ≤ c → Small b values → Small c values
  small_more b c [] le small = tt
  small_more b c (v ∷ values) le small = (let h = small.0 in omega arith, small_more b c values le small.1)

  small_take : (b n : ℕ) (values : List S) → Small b values → Small b (take n values)
  small_take b zero values small = tt
  small_take b (suc n) [] small = tt
  small_take b (suc n) (v ∷ values) small = (small.0, small_take b n values small.1)

  small_drop : (b n : ℕ) (values : List S) → Small b values → Small b (drop n values)
  small_drop b zero values small = small
  small_drop b (suc n) [] small = tt
  small_drop b (suc n) (v ∷ values) small = small_drop b n values small.1

  total_small : (b : ℕ) (values : List S) → Small b values → total kind values ≤ length values * b
  total_small b [] small = omega arith
  total_small b (v ∷ values) small =
      let h = small.0 in
      let rest = total_small b values small.1 in
      let m : suc (length values) * b ≡ b + length values * b = simp suc-mul (omega arith) in
      omega arith

  module _ (laws : Laws kind) where
    small_check : (b : ℕ) (xs ys : List S) → Small b xs → Small b ys → Small b (check_row kind xs ys)
    small_check b [] ys hx hy = tt
    small_check b (x ∷ xs) [] hx hy = tt
    small_check b (x ∷ xs) (y ∷ ys) hx hy =
        (let h = laws.check_size x y in let l = hx.0 in omega arith, small_check b xs ys hx.1 hy.1)

    -- a size rule that gives no more than the sum
    module _ (grows : (t : Bool) (a b : ℕ) → kind.size_rule t a b ≤ a + b) where
      small_join : (b : ℕ) (xs ys : List S) (βs : List ℕ) → Small b xs → Small b ys → Small (b + b) (join_row kind xs ys βs)
      small_join b [] ys βs hx hy = tt
      small_join b (x ∷ xs) [] βs hx hy = tt
      small_join b (x ∷ xs) (y ∷ ys) [] hx hy = tt
      small_join b (x ∷ xs) (y ∷ ys) (β ∷ βs) hx hy = (
        let h = laws.join_size x y (eqb β 1) in
            let g = grows (agree (differ (kind.sign x) (eqb β 1)) (kind.sign y)) (kind.size x) (kind.size y) in
            let l = hx.0 in let r = hy.0 in omega arith,
        small_join b xs ys βs hx.1 hy.1,
      )

      -- each halving at most doubles the sizes
      small_span : (n : ℕ) (marks : List ℕ) (values : List S) (e s b : ℕ) → Small b values → Small (b * 2 ^ (n - e)) (span_values kind n marks values e s)
      unfolding span_values
      small_span zero marks values e s b small =
          let none : 0 - e ≡ 0 = omega arith in
          small_more b (b * 2 ^ (0 - e)) values (let m : b * 2 ^ (0 - e) ≡ b * 1 = ap (λ k. b * 2 ^ k) none in omega arith) small
      small_span (suc n) marks values e s b small =
          cond_both (leb (suc n) e) _ _ (Small (b * 2 ^ (suc n - e)))
          (λ t. small_more b (b * 2 ^ (suc n - e)) values
          (let h = leb-true (suc n) e t in let none : suc n - e ≡ 0 = omega arith in let m : b * 2 ^ (suc n - e) ≡ b * 1 = ap (λ k. b * 2 ^ k) none in omega arith) small)
          (λ f.
          let h = leb-false (suc n) e f in
          let up : b * 2 ^ (suc n - e) ≡ b * 2 ^ (n - e) + b * 2 ^ (n - e) = doubled b n e h in
          cond_both (ltb s (2 ^ n)) _ _ (Small (b * 2 ^ (suc n - e)))
          (λ l. small_more (b * 2 ^ (n - e)) (b * 2 ^ (suc n - e)) _ (omega arith)
          (small_span n (take (2 ^ n) marks) (left_values kind n values) e s b (small_check b _ _ (small_take b (2 ^ n) values small) (small_drop b (2 ^ n) values small))))
          (λ r. small_more ((b + b) * 2 ^ (n - e)) (b * 2 ^ (suc n - e)) _ (let m = add-mul b b (2 ^ (n - e)) in omega arith)
          (small_span n (drop (2 ^ n) marks) _ e (s - 2 ^ n) (b + b) (small_join b _ _ _ (small_take b (2 ^ n) values small) (small_drop b (2 ^ n) values small)))))

    -- a size rule that gives no more than b for sizes up to b
    module _ (b : ℕ) (keeps : (t : Bool) (x y : ℕ) → x ≤ b → y ≤ b → kind.size_rule t x y ≤ b) where
      kept_join : (xs ys : List S) (βs : List ℕ) → Small b xs → Small b ys → Small b (join_row kind xs ys βs)
      kept_join [] ys βs hx hy = tt
      kept_join (x ∷ xs) [] βs hx hy = tt
      kept_join (x ∷ xs) (y ∷ ys) [] hx hy = tt
      kept_join (x ∷ xs) (y ∷ ys) (β ∷ βs) hx hy = (
        let h = laws.join_size x y (eqb β 1) in
            let k = keeps (agree (differ (kind.sign x) (eqb β 1)) (kind.sign y)) (kind.size x) (kind.size y) hx.0 hy.0 in omega arith,
        kept_join xs ys βs hx.1 hy.1,
      )

      -- no halving lets a size pass b
      kept_span : (n : ℕ) (marks : List ℕ) (values : List S) (e s : ℕ) → Small b values → Small b (span_values kind n marks values e s)
      unfolding span_values
      kept_span zero marks values e s small = small
      kept_span (suc n) marks values e s small =
          let ha = small_take b (2 ^ n) values small in
          let hc = small_drop b (2 ^ n) values small in
          cond_both (leb (suc n) e) _ _ (Small b) (λ t. small)
          (λ f. cond_both (ltb s (2 ^ n)) _ _ (Small b)
          (λ l. kept_span n (take (2 ^ n) marks) (left_values kind n values) e s (small_check b _ _ ha hc))
          (λ r. kept_span n (drop (2 ^ n) marks) _ e (s - 2 ^ n) (kept_join _ _ _ ha hc)))

    length_span : (n : ℕ) (marks : List ℕ) (values : List S) (e s : ℕ) → e ≤ n → length marks ≡ 2 ^ n → length values ≡ 2 ^ n → length (span_values kind n marks values e s) ≡ 2 ^ e
    unfolding span_values
    length_span zero marks values e s le hm hv = let none : 0 ≡ e = omega arith in hv ∙ ap (λ k. 2 ^ k) none
    length_span (suc n) marks values e s le hm hv =
        cond_both {A = List S} (leb (suc n) e) _ _ (λ (row : List S). length row ≡ 2 ^ e)
        (λ t. let h = leb-true (suc n) e t in let all : suc n ≡ e = omega arith in hv ∙ ap (λ k. 2 ^ k) all)
        (λ f.
        let h = leb-false (suc n) e f in
        let l = left_values_long kind n values hv in
        let r = right_values_long kind n values hv _ (length_cancel kind n (take (2 ^ n) marks) (left_values kind n values) (left_long n marks hm) l) in
        cond_both {A = List S} (ltb s (2 ^ n)) _ _ (λ (row : List S). length row ≡ 2 ^ e)
        (λ t. length_span n (take (2 ^ n) marks) (left_values kind n values) e s (omega arith) (left_long n marks hm) l)
        (λ t. length_span n (drop (2 ^ n) marks) _ e (s - 2 ^ n) (omega arith) (right_long n marks hm) r))

-- the values of a word that was received
received_small : (n : ℕ) (values : List Whole) → Received whole n values → Small whole 127 values
received_small n values received =
    small_from whole 127 values
    (λ i h. let l = received.long in ⊎_elim
    (λ read. let size : Option Whole → ℕ = λ o. elim o [ None ↦ 0 | Some w ↦ w.size ] in let is : read.0 % 128 ≡ size_at whole values i = ap size read.1 in omega arith)
    (λ is. let z : size_at whole values i ≡ 0 = ap (λ w. w.size) is in omega arith)
    (received.comes i (omega arith)))

sum_grows : (limit : ℕ) (t : Bool) (a b : ℕ) → sum_up_to limit t a b ≤ a + b
sum_grows limit true a b = omega arith
sum_grows limit false a b = omega arith

pub sizes_bounded : SizesBounded
sizes_bounded n marks values received e s i =
    small_at whole (127 * 2 ^ (n - e)) (span_values whole n marks values e s) (omega arith)
    (small_span whole (whole_laws stop) (sum_grows stop) n marks values e s 127 (received_small n values received)) i

larger_keeps : (t : Bool) (x y : ℕ) → x ≤ 1 → y ≤ 1 → larger t x y ≤ 1
larger_keeps true x y hx hy = omega arith
larger_keeps false x y hx hy = omega arith

-- a byte that reads as an erasure reads as one of size 0 or 1
size_read : Option Erasure → ℕ
size_read None = 0
size_read (Some v) = v.size

read_small : (byte : ℕ) → size_read (erasure.read byte) ≤ 1
unfolding size_read
read_small byte = go (eqb byte 0x30) (eqb byte 0x31) (eqb byte 0x3F)
  where
    go : (x y z : Bool) → size_read (cond x (Some (of_erasure false 1)) (cond y (Some (of_erasure true 1)) (cond z (Some (of_erasure false 0)) None))) ≤ 1
    go true y z = omega arith
    go false true z = omega arith
    go false false true = omega arith
    go false false false = omega arith

pub erasures_kept : ErasuresKept
unfolding size_read
erasures_kept n marks values received e s i =
    small_at erasure 1 (span_values erasure n marks values e s) (omega arith)
    (kept_span erasure erasure_laws 1 larger_keeps n marks values e s
    (small_from erasure 1 values
    (λ i h. let l = received.long in ⊎_elim
    (λ read. let small = read_small read.0 in let is : size_read (erasure.read read.0) ≡ size_at erasure values i = ap size_read read.1 in omega arith)
    (λ is. let z : size_at erasure values i ≡ 0 = ap (λ w. w.size) is in omega arith)
    (received.comes i (omega arith))))) i

within_stop : (n : ℕ) → n ≤ 10 → 127 * 2 ^ n ≤ stop
within_stop n h = let p = pow_mono {i = n} {j = 10} h in omega arith

-- sizes that stay below the stop are the same under a higher one
module _ (higher : ℕ) (above : stop ≤ higher) where
  abbrev high : Kind Whole
  high = whole_up_to higher

  same_check : (xs ys : List Whole) → check_row high xs ys ≡ check_row whole xs ys
  same_check [] ys = refl
  same_check (x ∷ xs) [] = refl
  same_check (x ∷ xs) (y ∷ ys) = ap (λ rest. whole.check x y ∷ rest) (same_check xs ys)

  same_sum : (t : Bool) (a b : ℕ) → a + b ≤ stop → sum_up_to higher t a b ≡ sum_up_to stop t a b
  same_sum true a b h = omega arith
  same_sum false a b h = refl

  same_join : (b : ℕ) (xs ys : List Whole) (βs : List ℕ) → b + b ≤ stop → Small whole b xs → Small whole b ys → join_row high xs ys βs ≡ join_row whole xs ys βs
  same_join b [] ys βs h hx hy = refl
  same_join b (x ∷ xs) [] βs h hx hy = refl
  same_join b (x ∷ xs) (y ∷ ys) [] h hx hy = refl
  same_join b (x ∷ xs) (y ∷ ys) (β ∷ βs) h hx hy =
      let c = differ x.sign (eqb β 1) in
      let l = hx.0 in
      let r = hy.0 in
      let made : ℕ → Whole = λ z. record { sign = sign_of_join c x.size y.sign y.size; size = z } in
      ap₂ (λ z rest. made z ∷ rest) (same_sum (agree c y.sign) x.size y.size (omega arith)) (same_join b xs ys βs h hx.1 hy.1)

  same_decided : (marks : List ℕ) (values : List Whole) → decided high marks values ≡ decided whole marks values
  same_decided [] values = refl
  same_decided (m ∷ marks) [] = refl
  same_decided (m ∷ marks) (v ∷ values) = refl

  same_word : (e : ℕ) (marks : List ℕ) (values : List Whole) (b : ℕ) → b * 2 ^ e ≤ stop → Small whole b values → cancel high e marks values ≡ cancel whole e marks values
  unfolding cancel
  same_word zero marks values b h small = same_decided marks values
  same_word (suc e) marks values b h small =
      let a = take (2 ^ e) values in
      let c = drop (2 ^ e) values in
      let ha = small_take whole b (2 ^ e) values small in
      let hc = small_drop whole b (2 ^ e) values small in
      let two : b * 2 ^ suc e ≡ b * 2 ^ e + b * 2 ^ e = ap (λ k. b * k) (two-pow-succ e) ∙ mul-add b (2 ^ e) (2 ^ e) in
      let one : b * 1 ≤ b * 2 ^ e = mul-le-mul_left b (pow_pos e) in
      let left : cancel high e (take (2 ^ e) marks) (left_values high e values) ≡ cancel whole e (take (2 ^ e) marks) (left_values whole e values) =
      ap (cancel high e (take (2 ^ e) marks)) (same_check a c)
      ∙ same_word e (take (2 ^ e) marks) (left_values whole e values) b (omega arith) (small_check whole (whole_laws stop) b a c ha hc) in
      let word = cancel whole e (take (2 ^ e) marks) (left_values whole e values) in
      let right : cancel high e (drop (2 ^ e) marks) (right_values high e values word) ≡ cancel whole e (drop (2 ^ e) marks) (right_values whole e values word) =
      ap (cancel high e (drop (2 ^ e) marks)) (same_join b a c word (omega arith) ha hc)
      ∙ same_word e (drop (2 ^ e) marks) (right_values whole e values word) (b + b) (let m = add-mul b b (2 ^ e) in omega arith) (small_join whole (whole_laws stop) (sum_grows stop) b a c word ha hc) in
      ap (λ x. join_halves x (cancel high e (drop (2 ^ e) marks) (right_values high e values x))) left
      ∙ ap (join_halves word) right

pub never_stops : NeverStops
never_stops n marks values le received higher above =
    same_word higher above n marks values 127 (within_stop n le) (received_small n values received)

whole_adds : Adds stop whole.size_rule
whole_adds = (λ a b h. omega arith, λ a b. refl)

pub rep_cheapest : RepCheapest
rep_cheapest n marks values le hm received e s within =
    let span = span_values whole n marks values e s in
    let long = length_span whole (whole_laws stop) n marks values e s within hm received.long in
    let small = small_span whole (whole_laws stop) (sum_grows stop) n marks values e s 127 (received_small n values received) in
    let sum = total_small whole (127 * 2 ^ (n - e)) span small in
    let all : e + (n - e) ≡ n = omega arith in
    let parts : 2 ^ e * (127 * 2 ^ (n - e)) ≡ 127 * 2 ^ n = mul_left_comm (2 ^ e) 127 (2 ^ (n - e)) ∙ ap (λ k. 127 * k) (sym (pow-add 2 e (n - e)) ∙ ap (λ k. 2 ^ k) all) in
    let bound = within_stop n le in
    let m : length span * (127 * 2 ^ (n - e)) ≡ 2 ^ e * (127 * 2 ^ (n - e)) = ap (λ k. k * (127 * 2 ^ (n - e))) long in
    cheapest_repeated whole (whole_laws stop) stop whole_adds e span _ long (repeats whole e span long) (omega arith)

pub largest : (n : ℕ) → n ≤ 10 → ◌≡◌ {A = Option ℕ} (Some (127 * ((1 * 2 ^ n) % 2 ^ 32))) (cond (leb n 10) (Some (127 * 2 ^ n)) None)
largest n h =
    ap (λ k. Some (127 * k)) (one_shl n 32 (omega arith)) ∙ ap (λ t. cond t (Some (127 * 2 ^ n)) None) (sym (le-leb n 10 h))

pub none_larger : (n : ℕ) → 10 < n → ◌≡◌ {A = Option ℕ} None (cond (leb n 10) (Some (127 * 2 ^ n)) None)
none_larger n h = ap (λ t. cond t (Some (127 * 2 ^ n)) None) (sym (lt-leb n 10 h))
