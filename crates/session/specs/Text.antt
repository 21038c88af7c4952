-- The lines that a session prints: cited by `transcript` and by `Line`. Assumes nothing.
use Rattle.std.specs.Prelude.{ℕ, cond, ◌||◌, List, [], ◌∷◌, ◌++◌, map, decimal, ◌==◌}
use Rattle.code.specs.declared.faults.Report.{Report}

-- fields, each after a blank
abbrev pub fields : List (List ℕ) → List ℕ
fields [] = []
fields (f ∷ fs) = 32 ∷ (f ++ fields fs)

-- the start of a line: the command's number, its letter and its answer number
abbrev pub line_start : ℕ → ℕ → ℕ → List ℕ
line_start number letter answer = decimal number ++ fields ((letter ∷ []) ∷ (decimal answer ∷ []))

-- a command's line: its start, what the answer adds, and a newline
abbrev pub line : ℕ → ℕ → ℕ → List (List ℕ) → List ℕ
line number letter answer more = line_start number letter answer ++ (fields more ++ (10 ∷ []))

-- bits as the characters 0 and 1
abbrev pub bits_text : List ℕ → List ℕ
bits_text bits = map (λ b. cond (b == 0) 48 49) bits

-- the bits of a message, or `-` if there are none
abbrev pub message_text : List ℕ → List ℕ
message_text [] = 45 ∷ []
message_text (b ∷ bits) = bits_text (b ∷ bits)

-- a letter that is not known is printed as `?`, and so is a session that is too long
abbrev pub shown_letter : Report → ℕ → ℕ
shown_letter report letter = cond (report.number == 15 || report.number == 19) 63 letter

-- the line of a refusal: its layer and its place follow
abbrev pub refused_line : ℕ → ℕ → Report → List ℕ
refused_line number letter report =
    line number (shown_letter report letter) report.number (decimal report.layer ∷ (decimal report.place ∷ []))

-- the line of a command that was done
abbrev pub done_line : ℕ → ℕ → List (List ℕ) → List ℕ
done_line number letter more = line number letter 0 more
