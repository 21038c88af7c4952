-- What the questions about a message tell, and what an encoder has written. Assumes nothing.
use Rattle.std.proofs.Common.{◌≡◌, ℕ, ◌^◌, Bool, true, false, cond, not, ◌&&◌, eqb, List, length, is_ok, Some, None, Ok, Err, sym, refl, ap, ◌∙◌}
use Rattle.std.specs.Option.{option_map}
use Rattle.std.proofs.lemmas.Bool.{eqb-true, and_parts, true≢false, false≢true}
use Rattle.code.specs.declared.faults.MapFault.{MapFault}
use Rattle.code.specs.declared.faults.MapFault.TheVariants.{Bit, Buffer}
use Rattle.code.specs.Encode.{informed_count, laid, informed, encoded, encode_fault, message_fault}
use Rattle.code.specs.Faults.{answer_to, in_force}
use Rattle.code.specs.Transform.{transform}
use Rattle.code.proofs.Laying.{length_laid, informed_laid}
use Rattle.code.proofs.Marks.{bits_of}
use Rattle.code.proofs.Transforms.{undoes_itself}

-- the lengths of a message and of a word
abbrev pub fits : List ℕ → ℕ → ℕ → Bool
fits marks message word = eqb message (informed_count marks) && eqb word (length marks)

module _ (marks message : List ℕ) (room : ℕ) where
  pub wrong_lengths : fits marks (length message) room ≡ false → encode_fault marks message room ≡ Some Buffer
  unfolding encode_fault
  wrong_lengths = go (eqb (length message) (informed_count marks)) (eqb room (length marks))
    where
      go : (a b : Bool) → (a && b) ≡ false → cond (not a) (Some Buffer) (cond (not b) (Some Buffer) (option_map Bit (bits_of message))) ≡ Some Buffer
      go true true e = absurd (true≢false e)
      go true false e = refl
      go false b e = refl

  pub message_asked : fits marks (length message) room ≡ true → encode_fault marks message room ≡ option_map Bit (bits_of message)
  unfolding encode_fault
  message_asked e =
      let both = and_parts (eqb (length message) (informed_count marks)) (eqb room (length marks)) e in
      rw (both.0, both.1)

-- what the right lengths are
pub right_lengths : (marks : List ℕ) (message word : ℕ) → fits marks message word ≡ true → (message ≡ informed_count marks) × (word ≡ length marks)
right_lengths marks message word e =
    let both = and_parts (eqb message (informed_count marks)) (eqb word (length marks)) e in
    (eqb-true message (informed_count marks) both.0, eqb-true word (length marks) both.1)

-- a refusal is no success
err_not_ok : {T : Type 0} {f : MapFault} {x : T} → Err f ≡ Ok x → ⊥
err_not_ok e = false≢true (ap is_ok e)

-- what holds of a call that refused a message
pub message_refused : (n : ℕ) (marks message out : List ℕ) (f : MapFault) → encode_fault marks message (length out) ≡ Some f → record {
  answer : answer_to (Some f) ≡ answer_to (encode_fault marks message (length out));
  word : out ≡ in_force (encode_fault marks message (length out)) (encoded n marks message) out;
  back : answer_to (Some f) ≡ answer_to None → informed marks (transform n out) ≡ message;
}
message_refused n marks message out f e =
    record {
      answer = sym (ap answer_to e);
      word = sym (ap (λ o. in_force o (encoded n marks message) out) e);
      back = λ accepted. absurd (err_not_ok accepted);
    }

-- the message is read back from its word
pub read_back : (n : ℕ) (marks message word : List ℕ) → length marks ≡ 2 ^ n → length message ≡ informed_count marks →
    word ≡ encoded n marks message → informed marks (transform n word) ≡ message
read_back n marks message word long fits is =
    ap (λ w. informed marks (transform n w)) is
    ∙ ap (informed marks) (undoes_itself n (laid marks message) (length_laid marks message ∙ long))
    ∙ informed_laid marks message fits

module _ (marks : List ℕ) (word message : ℕ) where
  pub lengths_wrong : fits marks message word ≡ false → message_fault marks word message ≡ Some Buffer
  unfolding message_fault
  lengths_wrong e = rw e

  pub lengths_right : fits marks message word ≡ true → message_fault marks word message ≡ None
  unfolding message_fault
  lengths_right e = rw e
