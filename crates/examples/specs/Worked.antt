-- Worked examples, as a table over the definitions that the other contracts cite: cited by `worked_examples`. Assumes nothing.
use Rattle.std.specs.Prelude.{◌≡◌, ℕ, ◌/◌, ◌%◌, List, [], ◌∷◌, Some, None, Ok, Err, Option, Result}
use Rattle.std.specs.Option.{option_map}
use Rattle.code.specs.declared.faults.MapFault.{MapFault}
use Rattle.code.specs.declared.faults.MapFault.TheVariants.{Rank, Law, Count, Outside}
use Rattle.code.specs.Faults.{layer_one, report_of}
use Rattle.code.specs.declared.kinds.SpanKind.{SpanKind}
use Rattle.code.specs.declared.kinds.SpanKind.TheVariants.{Rate0, Rate1, Rep, Spc}
use Rattle.code.specs.Orders.{ranks_of, order_fault, ranked_marks, count_fault}
use Rattle.code.specs.Spans.{kind_answer}
use Rattle.code.specs.Encode.{encoded}
use Rattle.soft.specs.Kind.{Kind}
use Rattle.soft.specs.Whole.{whole}
use Rattle.soft.specs.Erasure.{erasure}
use Rattle.cancellation.specs.Cancel.{cancel}
use Rattle.receiver.specs.Work.{Took, at, first, finished, made_of, walked}
use Rattle.receiver.specs.Model.{ten_ten, values_of, root_of, message_in}

-- ranks as they are written: two bytes each, the high byte first
abbrev pub written : List ℕ → List ℕ
written [] = []
written (r ∷ ranks) = (r / 256) ∷ ((r % 256) ∷ written ranks)

-- the marks of the ranked map with these ranks and this K
abbrev pub marks_of : List ℕ → ℕ → List ℕ
marks_of ranks k = ranked_marks (ranks_of (written ranks)) k

-- the word that cancellation gives these bytes
abbrev pub word_from : {S : Type 0} → Kind S → ℕ → List ℕ → List ℕ → List ℕ
word_from kind n marks bytes = cancel kind n marks (values_of kind n bytes)

-- the shapes of examples: what is given comes first, what is answered last
pub data Row : Type 0 where
  -- n and ranks; what an order is refused for, if it is
  order : ℕ → List ℕ → Option MapFault → Row
  -- n and K; what a ranked map is refused for, if it is
  informing : ℕ → ℕ → Option MapFault → Row
  -- n, ranks and K, a span by its start and its length; what the ranked map answers of it
  span : ℕ → List ℕ → ℕ → ℕ → ℕ → Result (Option SpanKind) MapFault → Row
  -- n, marks and a message; the word
  encoding : ℕ → List ℕ → List ℕ → List ℕ → Row
  -- n, marks and the bytes of a word in whole numbers; the decoded word
  wholes : ℕ → List ℕ → List ℕ → List ℕ → Row
  -- n, marks and the bytes of a word in erasures; the decoded word
  erasures : ℕ → List ℕ → List ℕ → List ℕ → Row
  -- n, marks and the bytes of a word in whole numbers; the message in the decoded word
  message : ℕ → List ℕ → List ℕ → List ℕ → Row
  -- n, marks and the bytes of a word in whole numbers; the steps that it takes under caps 10 and 10
  steps : ℕ → List ℕ → List ℕ → ℕ → Row

-- what a row claims
abbrev pub Shows : Row → Type 0
Shows (order n ranks fault) = order_fault n (written ranks) ≡ fault
Shows (informing n k fault) = count_fault n k ≡ fault
Shows (span n ranks k s t answer) = kind_answer n (marks_of ranks k) s t ≡ answer
Shows (encoding n marks bits word) = encoded n marks bits ≡ word
Shows (wholes n marks bytes word) = word_from whole n marks bytes ≡ word
Shows (erasures n marks bytes word) = word_from erasure n marks bytes ≡ word
Shows (message n marks bytes bits) = message_in n marks (word_from whole n marks bytes) ≡ bits
Shows (steps n marks bytes count) =
    (let root = root_of n marks (values_of whole n bytes) in
    Took whole (λ _. ten_ten) 0 root count × (made_of whole root ten_ten 65535 (at first []) ≡ count) × (walked whole root ten_ten count (at first []) ≡ finished))

-- every row of a table holds
abbrev pub AllShow : List Row → Type 0
AllShow [] = Unit {0}
AllShow (row ∷ rows) = Shows row × AllShow rows

-- an order of 8 positions that is not simply falling
abbrev pub mixed : List ℕ
mixed = 7 ∷ 6 ∷ 5 ∷ 3 ∷ 4 ∷ 2 ∷ 1 ∷ 0 ∷ []

-- the falling orders of 2 and of 4 positions
abbrev pub falling_two : List ℕ
falling_two = 1 ∷ 0 ∷ []

abbrev pub falling_four : List ℕ
falling_four = 3 ∷ 2 ∷ 1 ∷ 0 ∷ []

-- the table
abbrev pub table : List Row
table =
    -- an order that keeps the law is accepted
    order 3 mixed None ∷
    -- position 1 breaks the law: position 2 is one move away, and its rank is higher
    order 3 (7 ∷ 5 ∷ 6 ∷ 3 ∷ 4 ∷ 2 ∷ 1 ∷ 0 ∷ []) (Some (Law 1)) ∷
    -- position 1 has the rank of position 0 again
    order 1 (1 ∷ 1 ∷ []) (Some (Rank 1)) ∷
    -- half of the positions informed: the left half repeats one bit
    span 3 mixed 4 0 4 (Ok (Some Rep)) ∷
    -- its right half is a single parity check
    span 3 mixed 4 4 4 (Ok (Some Spc)) ∷
    -- and the whole has no kind
    span 3 mixed 4 0 8 (Ok None) ∷
    -- no position informed
    span 3 mixed 0 0 8 (Ok (Some Rate0)) ∷
    -- all but the first position informed
    span 3 mixed 7 0 8 (Ok (Some Spc)) ∷
    -- every position informed
    span 3 mixed 8 0 8 (Ok (Some Rate1)) ∷
    -- more informed positions than there are positions
    informing 3 9 (Some Count) ∷
    -- a start that is no multiple of the length
    span 3 mixed 4 2 4 (Err Outside) ∷
    -- half of the positions informed: a message and its word
    encoding 3 (marks_of mixed 4) (1 ∷ 0 ∷ 1 ∷ 1 ∷ []) (1 ∷ 0 ∷ 1 ∷ 0 ∷ 0 ∷ 1 ∷ 0 ∷ 1 ∷ []) ∷
    -- a repetition whose values disagree and are as large as each other: the later one decides
    wholes 1 (marks_of falling_two 1) (0x03 ∷ 0x83 ∷ []) (1 ∷ 1 ∷ []) ∷
    -- every position informed: each bit is its value's sign
    wholes 1 (marks_of falling_two 2) (0x00 ∷ 0x83 ∷ []) (0 ∷ 1 ∷ []) ∷
    -- and the message in that word
    message 1 (marks_of falling_two 2) (0x00 ∷ 0x83 ∷ []) (1 ∷ 1 ∷ []) ∷
    -- a single parity check with three places of least size: the one of them whose number, read in reverse, is smallest is turned
    wholes 2 (marks_of falling_four 3) (0x09 ∷ 0x85 ∷ 0x05 ∷ 0x05 ∷ []) (0 ∷ 1 ∷ 1 ∷ 0 ∷ []) ∷
    -- and the message in that word
    message 2 (marks_of falling_four 3) (0x09 ∷ 0x85 ∷ 0x05 ∷ 0x05 ∷ []) (1 ∷ 1 ∷ 0 ∷ []) ∷
    -- a span of no kind: its halves are decoded one after the other
    wholes 1 (1 ∷ 0 ∷ []) (0x05 ∷ 0x83 ∷ []) (1 ∷ 0 ∷ []) ∷
    -- and it takes a left step, one step, a right step, one step and a final step
    steps 1 (1 ∷ 0 ∷ []) (0x05 ∷ 0x83 ∷ []) 5 ∷
    -- a repetition in erasures: sizes do not add up
    erasures 2 (marks_of falling_four 1) (0x30 ∷ 0x31 ∷ 0x30 ∷ 0x3F ∷ []) (1 ∷ 1 ∷ 1 ∷ 1 ∷ []) ∷
    -- the same map, signs and sizes in whole numbers: sizes add up
    wholes 2 (marks_of falling_four 1) (0x01 ∷ 0x81 ∷ 0x01 ∷ 0x00 ∷ []) (0 ∷ 0 ∷ 0 ∷ 0 ∷ []) ∷
    []

-- every row of the table holds
abbrev pub WorkedExamples : Type 0
WorkedExamples = AllShow table

-- the refusals of the table, told by number, layer and place: the law at position 1, the rank of position 1, K, and what is no span
abbrev pub WorkedReports : Type 0
WorkedReports =
    (option_map report_of (order_fault 3 (written (7 ∷ 5 ∷ 6 ∷ 3 ∷ 4 ∷ 2 ∷ 1 ∷ 0 ∷ []))) ≡ Some (layer_one 4 1))
    × (option_map report_of (order_fault 1 (written (1 ∷ 1 ∷ []))) ≡ Some (layer_one 3 1))
    × (option_map report_of (count_fault 3 9) ≡ Some (layer_one 5 0))
    × (kind_answer 3 (marks_of mixed 4) 2 4 ≡ Err Outside)
    × (report_of Outside ≡ layer_one 7 0)
