-- What each rule's word is, and a span settled by it. Assumes nothing.
use Rattle.std.proofs.Common.{◌≡◌, ℕ, ◌+◌, ◌-◌, ◌^◌, true, cond, List, length, Ok, Err, Result, sym, refl, ap, ◌∙◌, subst, arith, pow_pos}
use Rattle.std.proofs.lemmas.Bool.{eq-eqb, ne_eqb}
use Rattle.cancellation.specs.declared.faults.RowFault.{RowFault}
use Rattle.cancellation.specs.declared.faults.RowFault.TheVariants.{Length}
use Rattle.soft.specs.Kind.{Kind, Laws}
use Rattle.code.specs.declared.kinds.SpanKind.{SpanKind}
use Rattle.code.specs.declared.kinds.SpanKind.TheVariants.{Rate0, Rate1, Rep, Spc}
use Rattle.code.specs.Spans.{pattern}
use Rattle.cancellation.specs.Rows.{signs}
use Rattle.cancellation.specs.Cancel.{cancel}
use Rattle.cancellation.specs.Rules.{Rule, Turns, size_at, parity, turned_at}
use Rattle.cancellation.specs.Settle.{row_after, Settled}
use Rattle.cancellation.proofs.Agree.{zeros, ones, repeats, evens}
use Rattle.cancellation.specs.Cost.{Cheap}
use Rattle.cancellation.specs.Promises.{RightSigns, Allowed}
use Rattle.cancellation.proofs.Messages.{right_message, allowed}
use Rattle.cancellation.proofs.Balance.{cheapest_repeated}
use Rattle.cancellation.proofs.Cheap.{cheapest_signs, cheapest_even}
use Rattle.cancellation.proofs.Sought.{turns_some}
use Rattle.cancellation.proofs.Powers.{pow_one, power_of}
use Rattle.std.specs.Int.{is_power_of_two}

-- some place of a span is to be turned
pub turns_in : (e : ℕ) (z : ℕ → ℕ) → (p : ℕ) × Turns e z (2 ^ e) p
turns_in e z =
    let all : (2 ^ e - 1) + 1 ≡ 2 ^ e = omega (arith, pow_pos e) in
    let some = turns_some e z (2 ^ e - 1) in
    (some.0, subst (λ n. Turns e z n some.0) all some.1)

module _ {S : Type 0} (kind : Kind S) where
  -- the signs as they are, where their XOR is 0
  pub even_word : (e : ℕ) (values : List S) (word : List ℕ) (xor : ℕ) → word ≡ signs kind values → xor ≡ parity (signs kind values) → xor ≡ 0 → Rule kind Spc e values word
  even_word e values word xor is found none =
      let some = turns_in e (size_at kind values) in
      (some.0, some.1, is ∙ sym (ap (λ t. cond t (signs kind values) (turned_at some.0 (signs kind values))) (eq-eqb (parity (signs kind values)) 0 (sym found ∙ none))))

  -- one of them turned, where it is 1
  pub odd_word : (e : ℕ) (values : List S) (word : List ℕ) (xor p : ℕ) → word ≡ signs kind values → xor ≡ parity (signs kind values) → (xor ≡ 0 → ⊥) →
      Turns e (size_at kind values) (2 ^ e) p → Rule kind Spc e values (turned_at p word)
  odd_word e values word xor p is found odd turns = (
    p,
    turns,
    ap (turned_at p) is
        ∙ sym (ap (λ t. cond t (signs kind values) (turned_at p (signs kind values))) (ne_eqb (parity (signs kind values)) 0 (λ z. odd (found ∙ z)))),
  )

  module _ (laws : Laws kind) where
    -- the word of each rule is that of cancellation
    pub rule_cancels : (k : SpanKind) (e : ℕ) (values : List S) (word : List ℕ) → length values ≡ 2 ^ e → Rule kind k e values word → word ≡ cancel kind e (pattern k (2 ^ e)) values
    rule_cancels Rate0 e values word long rule = rule ∙ sym (zeros kind e values long)
    rule_cancels Rate1 e values word long rule = rule ∙ sym (ones kind laws e values long)
    rule_cancels Rep e values word long rule = rule ∙ sym (repeats kind e values long)
    rule_cancels Spc e values word long rule = rule.2 ∙ sym (evens kind laws e values rule.0 long rule.1)

    -- and the cheapest that the pattern allows
    rule_cheap : (k : SpanKind) (e : ℕ) (values : List S) (word : List ℕ) → length values ≡ 2 ^ e → Rule kind k e values word → Cheap kind k e values word
    rule_cheap Rate0 e values word long rule = tt
    rule_cheap Rate1 e values word long rule = cheapest_signs kind e (pattern Rate1 (2 ^ e)) values word rule
    rule_cheap Rep e values word long rule = λ limit adds small. cheapest_repeated kind laws limit adds e values word long rule small
    rule_cheap Spc e values word long rule = cheapest_even kind e values word rule.0 long rule.1 rule.2

    settled : (k by : SpanKind) (e : ℕ) (values after : List S) (bits word : List ℕ) → k ≡ by → length values ≡ 2 ^ e → length values ≡ length bits →
        Rule kind by e values word → after ≡ row_after kind by e values → Settled kind k values after bits word (Ok tt)
    settled k by e values after bits word is long same rule row =
        let P : ℕ → Type 0 = λ d. Rule kind k d values word in
        let here : (d : ℕ) → length values ≡ 2 ^ d → e ≡ d = λ d h. pow_one e d (sym long ∙ h) in
        let ruled : Rule kind k e values word = subst (λ x. Rule kind x e values word) (sym is) rule in
        record {
          done = λ d h l. refl;
          cancels = λ d h l. rule_cancels k d values word h (subst P (here d h) ruled);
          rules = λ d h l. subst P (here d h) ruled;
          cheap = λ d h l. rule_cheap k d values word h (subst P (here d h) ruled);
          row = λ d h l. row ∙ ap (λ x. row_after kind x e values) (sym is) ∙ ap (λ x. row_after kind k x values) (here d h);
          refused = λ none. absurd (none e long (sym same ∙ long));
        }

    refusal : (k : SpanKind) (values : List S) (bits : List ℕ) → ((e : ℕ) → length values ≡ 2 ^ e → length bits ≡ 2 ^ e → ⊥) → Settled kind k values values bits bits (Err Length)
    refusal k values bits none =
        record {
          done = λ e h l. absurd (none e h l);
          cancels = λ e h l. absurd (none e h l);
          rules = λ e h l. absurd (none e h l);
          cheap = λ e h l. absurd (none e h l);
          row = λ e h l. absurd (none e h l);
          refused = λ n. (refl, refl, refl);
        }

    -- all that `settle` ensures
    abbrev pub Ensured : SpanKind → List S → List S → List ℕ → List ℕ → Result (Unit {0}) RowFault → Type 0
    Ensured k values after bits word answer = record { settled : Settled kind k values after bits word answer; right : RightSigns kind; allowed : Allowed kind }

    promised : (k by : SpanKind) (e : ℕ) (values after : List S) (bits word : List ℕ) → k ≡ by → length values ≡ 2 ^ e → length values ≡ length bits →
        Rule kind by e values word → after ≡ row_after kind by e values → Ensured k values after bits word (Ok tt)
    promised k by e values after bits word is long same rule row =
        record { settled = settled k by e values after bits word is long same rule row; right = right_message kind laws; allowed = allowed kind laws }

    -- the same, of rows whose length passes the library's test
    pub promised_for : (k by : SpanKind) (values after : List S) (bits word : List ℕ) → k ≡ by → length values ≡ length bits → is_power_of_two (length values) ≡ true →
        ((e : ℕ) → length values ≡ 2 ^ e → Rule kind by e values word) → ((e : ℕ) → length values ≡ 2 ^ e → after ≡ row_after kind by e values) → Ensured k values after bits word (Ok tt)
    promised_for k by values after bits word is same tested rule row =
        let p = power_of (length values) tested in
        promised k by p.0 values after bits word is p.1 same (rule p.0 p.1) (row p.0 p.1)

    pub refusing : (k : SpanKind) (values : List S) (bits : List ℕ) → ((e : ℕ) → length values ≡ 2 ^ e → length bits ≡ 2 ^ e → ⊥) → Ensured k values values bits bits (Err Length)
    refusing k values bits none = record { settled = refusal k values bits none; right = right_message kind laws; allowed = allowed kind laws }
