-- The header and the commands of a session, as they are read: cited by `Number`, `Make` and `Header`, which are made of bytes, and by `read_command`. Assumes nothing.
use Rattle.std.specs.Prelude.{ℕ, ◌+◌, ◌*◌, ◌^◌, cond, List, [], ◌∷◌, length, take, drop, Some, None, Ok, Err, Option, Result, ◌==◌, nat_le}
use Rattle.code.specs.declared.faults.MapFault.TheVariants.{Exponent}
use Rattle.code.specs.Spans.{good_exponent}
use Rattle.session.specs.declared.faults.SessionFault.{SessionFault}
use Rattle.session.specs.declared.faults.SessionFault.TheVariants as fault
use Rattle.session.specs.declared.commands.Number.{Number}
use Rattle.session.specs.declared.commands.Number.TheVariants.{Whole, Erasure}
use Rattle.session.specs.declared.commands.Make.{Make}
use Rattle.session.specs.declared.commands.Make.TheVariants.{Ranked, Listed}
use Rattle.session.specs.declared.commands.Header.{Header}
use Rattle.session.specs.declared.commands.Sizes.{Sizes}
use Rattle.session.specs.declared.commands.Command.{Command}
use Rattle.session.specs.declared.commands.Command.TheVariants as command
use Rattle.session.specs.Faults.{of_map}

-- a command and the operands that it keeps
pub data Request : Type 0 where
  slot : ℕ → Request
  order : ℕ → List ℕ → Request
  ranked : ℕ → Request
  listed : ℕ → List ℕ → Request
  encode : List ℕ → Request
  caps : ℕ → ℕ → Request
  word : List ℕ → Request
  short_word : List ℕ → Request
  advance : ℕ → Request
  taking : Request
  dropping : Request

-- what a command asks
abbrev pub request_of : Command → Request
request_of (command.Slot s) = slot s
request_of (command.Order n ranks) = order n ranks.now
request_of (command.Ranked k) = ranked k
request_of (command.Listed n marks) = listed n marks.now
request_of (command.Encode message) = encode message.now
request_of (command.Caps first second) = caps first second
request_of (command.Word bytes) = word bytes.now
request_of (command.ShortWord bytes) = short_word bytes.now
request_of (command.Advance allowance) = advance allowance
request_of command.Take = taking
request_of command.Drop = dropping

-- a command that was read, and the session after it
pub record Read : Type 0 where
  pub request : Request
  pub rest : List ℕ

-- a command that keeps the first `count` bytes, if they are there
abbrev pub keeping : ℕ → (List ℕ → Request) → ℕ → List ℕ → Result Read SessionFault
keeping at asks count bytes =
    cond (nat_le count (length bytes)) (Ok (record { request = asks (take count bytes); rest = drop count bytes })) (Err (fault.Cut at))

-- a command that begins with n, which says how many bytes it keeps
abbrev pub counted : ℕ → (ℕ → List ℕ → Request) → (ℕ → ℕ) → List ℕ → Result Read SessionFault
counted at asks size [] = Err (fault.Cut at)
counted at asks size (n ∷ bytes) = cond (good_exponent n) (keeping at (asks n) (size n) bytes) (Err (of_map Exponent))

-- two bytes, of which the high one of a number comes first
abbrev pub read_pair : ℕ → (ℕ → ℕ → Request) → List ℕ → Result Read SessionFault
read_pair at asks [] = Err (fault.Cut at)
read_pair at asks (h ∷ []) = Err (fault.Cut at)
read_pair at asks (h ∷ (l ∷ bytes)) = Ok (record { request = asks h l; rest = bytes })

-- as many bytes as the map in force says, if there is one
abbrev pub read_sized : ℕ → (List ℕ → Request) → (Sizes → ℕ) → Option Sizes → List ℕ → Result Read SessionFault
read_sized at asks size None bytes = Err (fault.NoMap at)
read_sized at asks size (Some sizes) bytes = keeping at asks (size sizes) bytes

-- `S`: one byte
abbrev pub read_slot : ℕ → List ℕ → Result Read SessionFault
read_slot at [] = Err (fault.Cut at)
read_slot at (s ∷ bytes) = Ok (record { request = slot s; rest = bytes })

-- `O`: n, then two bytes for each position
abbrev pub read_order : ℕ → List ℕ → Result Read SessionFault
read_order at = counted at order (λ n. 2 * 2 ^ n)

-- `K`: K, two bytes
abbrev pub read_ranked : ℕ → List ℕ → Result Read SessionFault
read_ranked at = read_pair at (λ h l. ranked (h * 256 + l))

-- `L`: n, then a byte for each position
abbrev pub read_listed : ℕ → List ℕ → Result Read SessionFault
read_listed at = counted at listed (λ n. 2 ^ n)

-- `E`: a byte for each informed position of the map in force
abbrev pub read_encode : ℕ → Option Sizes → List ℕ → Result Read SessionFault
read_encode at = read_sized at encode (λ sizes. sizes.informed)

-- `B`: two bytes
abbrev pub read_caps : ℕ → List ℕ → Result Read SessionFault
read_caps at = read_pair at caps

-- `W`: a byte for each position of the map in force
abbrev pub read_word : ℕ → Option Sizes → List ℕ → Result Read SessionFault
read_word at = read_sized at word (λ sizes. sizes.positions)

-- `V`: m, two bytes, then m bytes
abbrev pub read_short_word : ℕ → List ℕ → Result Read SessionFault
read_short_word at [] = Err (fault.Cut at)
read_short_word at (h ∷ []) = Err (fault.Cut at)
read_short_word at (h ∷ (l ∷ bytes)) = keeping at short_word (h * 256 + l) bytes

-- `A`: the allowance, two bytes
abbrev pub read_advance : ℕ → List ℕ → Result Read SessionFault
read_advance at = read_pair at (λ h l. advance (h * 256 + l))

-- the letters of ranked sessions
abbrev pub read_in_ranked : ℕ → ℕ → List ℕ → Result Read SessionFault
read_in_ranked at letter bytes =
    cond (letter == 83) (read_slot at bytes)
    (cond (letter == 79) (read_order at bytes)
    (cond (letter == 75) (read_ranked at bytes) (Err (fault.Letter at))))

-- the letters of listed sessions
abbrev pub read_in_listed : ℕ → ℕ → List ℕ → Result Read SessionFault
read_in_listed at letter bytes = cond (letter == 76) (read_listed at bytes) (Err (fault.Letter at))

-- the letters of one make of session alone
abbrev pub read_in_make : Make → ℕ → ℕ → List ℕ → Result Read SessionFault
read_in_make Ranked at letter bytes = read_in_ranked at letter bytes
read_in_make Listed at letter bytes = read_in_listed at letter bytes

-- the letters of every session, `E` `B` `W` `V` `A` `T` `X`, then those of its make
abbrev pub read_letter : Make → Option Sizes → ℕ → ℕ → List ℕ → Result Read SessionFault
read_letter make sizes at letter bytes =
    cond (letter == 69) (read_encode at sizes bytes)
    (cond (letter == 66) (read_caps at bytes)
    (cond (letter == 87) (read_word at sizes bytes)
    (cond (letter == 86) (read_short_word at bytes)
    (cond (letter == 65) (read_advance at bytes)
    (cond (letter == 84) (Ok (record { request = taking; rest = bytes }))
    (cond (letter == 88) (Ok (record { request = dropping; rest = bytes }))
    (read_in_make make at letter bytes)))))))

-- the command with this letter, which stands at offset `at`; `sizes` are those of the map in force, if there is one
unfoldable pub read_command : Make → Option Sizes → ℕ → ℕ → List ℕ → Result Read SessionFault
read_command make sizes at letter bytes = read_letter make sizes at letter bytes

-- the kind of soft number that a byte stands for
abbrev pub number_of : ℕ → Option Number
number_of b = cond (b == 119) (Some Whole) (cond (b == 101) (Some Erasure) None)

-- the make of map that a byte stands for
abbrev pub make_of : ℕ → Option Make
make_of b = cond (b == 114) (Some Ranked) (cond (b == 108) (Some Listed) None)

-- the header: `w` or `e`, then `r` or `l`
abbrev pub header_of : ℕ → ℕ → Result Header SessionFault
header_of a b =
    elim (number_of a) [
      | None ↦ Err fault.Header
      | Some n ↦ elim (make_of b) [ None ↦ Err fault.Header | Some m ↦ Ok (record { number = n; make = m }) ]
    ]
