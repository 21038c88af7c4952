-- The letters of lines, over plain values.
use Rattle.std.proofs.Common.{◌≡◌, ℕ, zero, suc, ◌+◌, ◌<◌, Bool, true, false, ◌||◌, cond, eqb, List, [], ◌∷◌, ◌++◌, Ok, Err, Result, length, get_or, take, IsAscii, append_assoc, append-nil, sym, ap, ◌∙◌, arith}
use Rattle.std.proofs.str.Laws.{one}
use Rattle.std.proofs.lemmas.Fmt.{decimal_digit}
use Rattle.std.proofs.lemmas.List.{map-append, take_more}
use Rattle.std.specs.Fmt.{decimal}
use Rattle.std.specs.Char.{encode_utf8}
use Rattle.code.specs.declared.faults.Report.{Report}
use Rattle.session.specs.declared.answers.Answer.{Answer}
use Rattle.session.specs.declared.faults.SessionFault.{SessionFault}
use Rattle.session.specs.Answers.{shown_in}
use Rattle.session.specs.Faults.{report_of}
use Rattle.session.specs.Text.{shown_letter, bits_text, fields, done_line}

-- an ASCII character is one byte
-- Kept: `using(..)` did not take the library's lemma by its own name.
pub ascii_char : (c : ℕ) → c < 128 → encode_utf8 c ≡ c ∷ []
ascii_char c small = one c small

-- a line shows its letter, or `?`
pub shown_small : (report : Report) (letter : ℕ) → letter < 128 → shown_letter report letter < 128
shown_small report letter small = go (eqb report.number 15 || eqb report.number 19)
  where
    go : (b : Bool) → cond b 63 letter < 128
    go true = omega arith
    go false = small

pub answered_small : (answer : Result Answer SessionFault) (letter : ℕ) → letter < 128 → shown_in answer letter < 128
answered_small (Ok a) letter small = small
answered_small (Err f) letter small = shown_small (report_of f) letter small

-- the answer number of a command that was done
pub done_shown : decimal 0 ≡ 48 ∷ []
done_shown = decimal_digit 0 (omega arith)

-- the line of a command that was done, its answer number written as a character
pub done_is : (number letter : ℕ) (more : List (List ℕ)) → decimal number ++ (32 ∷ letter ∷ 32 ∷ 48 ∷ (fields more ++ (10 ∷ []))) ≡ done_line number letter more
done_is number letter more =
    sym (append_assoc (decimal number) _ (fields more ++ (10 ∷ []))
    ∙ ap (λ (zero : List ℕ). decimal number ++ (32 ∷ letter ∷ 32 ∷ ((zero ++ []) ++ (fields more ++ (10 ∷ []))))) done_shown)

-- and with one, two or three fields more
module _ (number letter : ℕ) where
  pub done_one : (a : List ℕ) → decimal number ++ (32 ∷ letter ∷ 32 ∷ 48 ∷ 32 ∷ (a ++ (10 ∷ []))) ≡ done_line number letter (a ∷ [])
  done_one a =
      ap (λ (more : List ℕ). decimal number ++ (32 ∷ letter ∷ 32 ∷ 48 ∷ 32 ∷ more)) (ap (λ (x : List ℕ). x ++ (10 ∷ [])) (sym (append-nil a)))
      ∙ done_is number letter (a ∷ [])

  pub done_two : (a b : List ℕ) → decimal number ++ (32 ∷ letter ∷ 32 ∷ 48 ∷ 32 ∷ (a ++ (32 ∷ (b ++ (10 ∷ []))))) ≡ done_line number letter (a ∷ (b ∷ []))
  done_two a b =
      ap (λ (more : List ℕ). decimal number ++ (32 ∷ letter ∷ 32 ∷ 48 ∷ 32 ∷ more))
      (sym (append_assoc a _ (10 ∷ []) ∙ ap (λ (x : List ℕ). a ++ (32 ∷ (x ++ (10 ∷ [])))) (append-nil b)))
      ∙ done_is number letter (a ∷ (b ∷ []))

  pub done_three : (a b d : List ℕ) → decimal number ++ (32 ∷ letter ∷ 32 ∷ 48 ∷ 32 ∷ (a ++ (32 ∷ (b ++ (32 ∷ (d ++ (10 ∷ []))))))) ≡ done_line number letter (a ∷ (b ∷ (d ∷ [])))
  done_three a b d =
      ap (λ (more : List ℕ). decimal number ++ (32 ∷ letter ∷ 32 ∷ 48 ∷ 32 ∷ more))
      (sym (append_assoc a _ (10 ∷ []) ∙ ap (λ (x : List ℕ). a ++ (32 ∷ x)) (append_assoc b _ (10 ∷ []) ∙ ap (λ (x : List ℕ). b ++ (32 ∷ (x ++ (10 ∷ [])))) (append-nil d))))
      ∙ done_is number letter (a ∷ (b ∷ (d ∷ [])))

-- bits are shown as ASCII characters
pub bits_ascii : (bits : List ℕ) → IsAscii (bits_text bits)
bits_ascii [] i = omega arith
bits_ascii (b ∷ bits) zero = small (eqb b 0)
  where
    small : (zero? : Bool) → cond zero? 48 49 < 128
    small true = omega arith
    small false = omega arith
bits_ascii (b ∷ bits) (suc i) = bits_ascii bits i

-- bits shown, one more
pub bits_more : (bits : List ℕ) (i : ℕ) → i < length bits → bits_text (take i bits) ++ (cond (eqb (get_or bits i 0) 0) 48 49 ∷ []) ≡ bits_text (take (i + 1) bits)
bits_more bits i within =
    sym (ap bits_text (take_more bits i 0 within) ∙ map-append (λ b. cond (eqb b 0) 48 49) (take i bits) (get_or bits i 0 ∷ []))

-- a run of bits shown, and those after it
pub runs_shown : (all run rest : List ℕ) → all ≡ run ++ rest → bits_text run ++ bits_text rest ≡ bits_text all
runs_shown all run rest parts = sym (ap bits_text parts ∙ map-append (λ b. cond (eqb b 0) 48 49) run rest)
