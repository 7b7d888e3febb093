-- What the lines of a source give, combined: one PSBT, or the first thing that is refused.
use Rattle.std.specs.Prelude.{ℕ, ◌+◌, ◌==◌, nat_lt, List, [], ◌∷◌, length, if◌then◌else◌, Option, Some, None, Result, Ok, Err}
use Rattle.base64.specs.Engines.{standard}
use Rattle.base64.specs.GeneralPurpose.{decode_of}
use Rattle.def_script.specs.Bytes.{Bytes}
use Rattle.def_psbt.specs.declared.Refusal.{Refusal}
use Rattle.def_psbt.specs.Map.{Psbt}
use Rattle.def_psbt.specs.Reading as reading
use Rattle.def_psbt.specs.Source.{MAX_SOURCE_SIZE, without_blanks, decoded}
use Rattle.def_combine.specs.declared.LineFault.{LineFault}
use Rattle.def_combine.specs.declared.LineFault.TheVariants as fault
use Rattle.def_combine.specs.declared.CombineRefusal.{CombineRefusal}
use Rattle.def_combine.specs.declared.CombineRefusal.TheVariants as refusal
use Rattle.def_combine.specs.Joined.{joined_all, same_version, same_transaction, keeps_lock_time}

-- what comes next, where nothing was refused before
infixl 10 ◌>>=◌
abbrev pub ◌>>=◌ : {A B : Type 0} → Result A CombineRefusal → (A → Result B CombineRefusal) → Result B CombineRefusal
(Ok x) >>= f = f x
(Err refusal) >>= f = Err refusal

-- ---- lines

abbrev pub LF : ℕ
LF = 0x0a

-- with one byte more before the first line
abbrev pub byte_before : ℕ → List Bytes → List Bytes
byte_before byte [] = (byte ∷ []) ∷ []
byte_before byte (line ∷ lines) = (byte ∷ line) ∷ lines

-- what stands before each LF, and behind the last one
unfoldable pub lines : Bytes → List Bytes
lines [] = [] ∷ []
lines (byte ∷ bytes) = if byte == LF then [] ∷ lines bytes else byte_before byte (lines bytes)

-- what is left of a line without blanks, and the line's number
pub record Line : Type 0 where
  pub number : ℕ
  pub text : Bytes

-- before others, where something is left
abbrev pub line_before : Line → List Line → List Line
line_before line others = if nat_lt 0 (length line.text) then line ∷ others else others

-- the lines of which something is left, numbered from a number on
unfoldable pub lines_from : (number : ℕ) → List Bytes → List Line
lines_from number [] = []
lines_from number (line ∷ lines) = line_before (record { number = number; text = without_blanks line }) (lines_from (number + 1) lines)

-- ---- the PSBT of a line

abbrev pub at_line : (number : ℕ) → Result Psbt Refusal → Result Psbt CombineRefusal
at_line number (Ok psbt) = Ok psbt
at_line number (Err why) = Err (refusal.Line number (fault.Psbt why))

-- its base64, and no other form
abbrev pub text_psbt : (text : Bytes) → Result Psbt Refusal
text_psbt text = reading.◌>>=◌ (decoded (decode_of standard text)) reading.read_psbt

abbrev pub line_psbt : Line → Result Psbt CombineRefusal
line_psbt line = at_line line.number (text_psbt line.text)

-- why a PSBT doesn't go together with the first one
abbrev pub other_fault : (first other : Psbt) → Option LineFault
other_fault first other =
    if same_version first other then (if same_transaction first other then None else Some fault.OtherTransaction)
    else Some fault.OtherVersion

abbrev pub beside : Option LineFault → (number : ℕ) → Psbt → Result Psbt CombineRefusal
beside None number other = Ok other
beside (Some why) number other = Err (refusal.Line number why)

-- the PSBT of a line behind that of the first one
abbrev pub other_psbt : (first : Psbt) → Line → Result Psbt CombineRefusal
other_psbt first line = do
  other ← line_psbt line
  beside (other_fault first other) line.number other

unfoldable pub other_psbts : (first : Psbt) → List Line → Result (List Psbt) CombineRefusal
other_psbts first [] = Ok []
other_psbts first (line ∷ lines) = do
  other ← other_psbt first line
  others ← other_psbts first lines
  Ok (other ∷ others)

-- ---- the whole

-- several PSBTs that go together
pub record Parts : Type 0 where
  pub first : Psbt
  pub others : List Psbt

abbrev pub line_parts : List Line → Result Parts CombineRefusal
line_parts [] = Err refusal.NoPsbt
line_parts (line ∷ lines) = do
  first ← line_psbt line
  others ← other_psbts first lines
  Ok (record { first = first; others = others })

-- the PSBTs of the lines of a source
unfoldable pub parts_of : (source : Bytes) → Result Parts CombineRefusal
parts_of source = if nat_lt MAX_SOURCE_SIZE (length source) then Err refusal.TooLong else line_parts (lines_from 1 (lines source))

-- what they hold together, which has their transaction
abbrev pub whole_of : Psbt → Result Psbt CombineRefusal
whole_of psbt = if keeps_lock_time psbt then Ok psbt else Err refusal.OtherTransaction

unfoldable pub combined : Parts → Result Psbt CombineRefusal
combined parts = whole_of (joined_all parts.first parts.others)

-- the PSBT that the lines of a source give, combined, or why nothing is
unfoldable pub combined_of : (source : Bytes) → Result Psbt CombineRefusal
combined_of source = do
  parts ← parts_of source
  combined parts
