-- What a command answers, as plain data: cited by `State` and by `Line`. Assumes nothing.
use Rattle.std.specs.Prelude.{ℕ, List, [], ◌∷◌, Ok, Err, decimal, Result}
use Rattle.session.specs.declared.answers.Answer.{Answer}
use Rattle.session.specs.declared.answers.Answer.TheVariants.{Nothing, Number, Pair, Word, Taken}
use Rattle.session.specs.declared.faults.SessionFault.{SessionFault}
use Rattle.session.specs.Faults.{report_of}
use Rattle.session.specs.Text.{bits_text, message_text, shown_letter}

-- the fields that an answer adds to its line
abbrev pub fields_of : Answer → List (List ℕ)
fields_of Nothing = []
fields_of (Number k) = decimal k ∷ []
fields_of (Pair a b) = decimal a ∷ (decimal b ∷ [])
fields_of (Word bits) = bits_text bits.now ∷ []
fields_of (Taken steps message bits) = decimal steps ∷ (message_text message.now ∷ (bits_text bits.now ∷ []))

-- what a command answered
abbrev pub answer_of : Result Answer SessionFault → Result (List (List ℕ)) SessionFault
answer_of (Ok a) = Ok (fields_of a)
answer_of (Err f) = Err f

-- the letter that a line shows
abbrev pub shown_in : Result Answer SessionFault → ℕ → ℕ
shown_in (Ok a) letter = letter
shown_in (Err f) letter = shown_letter (report_of f) letter
