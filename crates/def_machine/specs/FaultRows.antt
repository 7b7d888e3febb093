-- Runs that show each fault, and where it stops short. The fault that a line names is the first one that the run
-- meets; timelocks stand in LockRows.
use Rattle.std.specs.Prelude.{◌≡◌, [], ◌∷◌, ◌++◌, replicate}
use Rattle.def_hash.specs.Hex.{from_hex}
use Rattle.def_machine.specs.declared.ScriptFault.TheVariants as fault
use Rattle.def_machine.specs.Run.{run, accepted, refused}
use Rattle.def_machine.specs.Samples.{key_a, key_b, key_c, sig_a, sig_c, push_key, nothing, with_table}

-- the script has 10,001 bytes
abbrev pub ScriptTooLong : Type 0
ScriptTooLong = run nothing (replicate 10001 0x51) []
    ≡ refused fault.ScriptSize 0

-- an element that is given has 521 bytes
abbrev pub GivenElementTooLong : Type 0
GivenElementTooLong = run nothing (from_hex "51") (replicate 521 0x00 ∷ [])
    ≡ refused fault.ElementSize 0

-- a push has 521 bytes
abbrev pub PushTooLong : Type 0
PushTooLong = run nothing (from_hex "4d0902" ++ replicate 521 0x00) []
    ≡ refused fault.ElementSize 0

-- PUSHDATA1 without its length
abbrev pub PushWithoutLength : Type 0
PushWithoutLength = run nothing (from_hex "514c") []
    ≡ refused fault.Truncated 1

-- a push of two bytes, of which one is there
abbrev pub PushWithoutByte : Type 0
PushWithoutByte = run nothing (from_hex "510201") []
    ≡ refused fault.Truncated 1

-- 1 has an opcode of its own
abbrev pub LongPushOfOne : Type 0
LongPushOfOne = run nothing (from_hex "0101") []
    ≡ refused fault.NonMinimalPush 0

-- a push that isn't minimal, in a branch that isn't taken
abbrev pub LongPushNotCarriedOut : Type 0
LongPushNotCarriedOut = run nothing (from_hex "006301016851") []
    ≡ accepted 2 1 []

-- NOP, in a branch that isn't taken
abbrev pub NopNotCarriedOut : Type 0
NopNotCarriedOut = run nothing (from_hex "0063616851") []
    ≡ refused fault.Unsupported 2

-- 202 opcodes
abbrev pub TooManyOpcodes : Type 0
TooManyOpcodes = run nothing (0x51 ∷ replicate 202 0x92) []
    ≡ refused fault.OpCount 202

-- 201 opcodes
abbrev pub MostOpcodes : Type 0
MostOpcodes = run nothing (0x51 ∷ replicate 201 0x92) []
    ≡ accepted 201 1 []

-- an opcode that isn't carried out is counted too
abbrev pub SkippedOpcodeCounted : Type 0
SkippedOpcodeCounted = run nothing (from_hex "0063766851") []
    ≡ accepted 3 1 []

-- a multisignature counts for one opcode and one more a key: 181 opcodes and 20 keys
abbrev pub MostOpcodesWithKeys : Type 0
MostOpcodesWithKeys = run nothing (0x51 ∷ replicate 179 0x92 ++ from_hex "690000" ++ replicate 20 0x51 ++ from_hex "0114ae") []
    ≡ accepted 201 23 []

-- 182 opcodes and 20 keys
abbrev pub TooManyOpcodesWithKeys : Type 0
TooManyOpcodesWithKeys = run nothing (0x51 ∷ replicate 180 0x92 ++ from_hex "690000" ++ replicate 20 0x51 ++ from_hex "0114ae") []
    ≡ refused fault.OpCount 205

-- DUP on an empty stack
abbrev pub DupOfNothing : Type 0
DupOfNothing = run nothing (from_hex "76") []
    ≡ refused fault.StackUnderflow 0

-- FROMALTSTACK on an empty alternative stack
abbrev pub NothingMovedBack : Type 0
NothingMovedBack = run nothing (from_hex "6c") []
    ≡ refused fault.AltUnderflow 0

-- IF without ENDIF
abbrev pub IfWithoutEndIf : Type 0
IfWithoutEndIf = run nothing (from_hex "516351") []
    ≡ refused fault.Unbalanced 3

-- ENDIF without IF
abbrev pub EndIfWithoutIf : Type 0
EndIfWithoutIf = run nothing (from_hex "68") []
    ≡ refused fault.Unbalanced 0

-- ELSE without IF
abbrev pub ElseWithoutIf : Type 0
ElseWithoutIf = run nothing (from_hex "67") []
    ≡ refused fault.Unbalanced 0

-- IF takes the number 2
abbrev pub IfOfTwo : Type 0
IfOfTwo = run nothing (from_hex "6351675168") (from_hex "02" ∷ [])
    ≡ refused fault.MinimalIf 0

-- IF takes the number 1 in two bytes
abbrev pub IfOfTwoBytes : Type 0
IfOfTwoBytes = run nothing (from_hex "6351675168") (from_hex "0100" ∷ [])
    ≡ refused fault.MinimalIf 0

-- VERIFY takes the empty string
abbrev pub VerifyOfFalse : Type 0
VerifyOfFalse = run nothing (from_hex "0069") []
    ≡ refused fault.Verify 1

-- the number 1 in two bytes
abbrev pub NumberWithZeroByte : Type 0
NumberWithZeroByte = run nothing (from_hex "92") (from_hex "0100" ∷ [])
    ≡ refused fault.NumberForm 0

-- a number of five bytes
abbrev pub NumberOfFiveBytes : Type 0
NumberOfFiveBytes = run nothing (from_hex "92") (from_hex "0000000001" ∷ [])
    ≡ refused fault.NumberForm 0

-- a key of two bytes, with an empty signature
abbrev pub ShortKey : Type 0
ShortKey = run nothing (from_hex "020202ac") ([] ∷ [])
    ≡ refused fault.KeyForm 1

-- a key of 33 bytes that begins with 4, with an empty signature
abbrev pub KeyOfOtherForm : Type 0
KeyOfOtherForm = run nothing (push_key (0x04 ∷ replicate 32 0x01) ++ from_hex "ac") ([] ∷ [])
    ≡ refused fault.KeyForm 1

-- a key in its form, with an empty signature
abbrev pub EmptySignature : Type 0
EmptySignature = run nothing (push_key key_a ++ from_hex "ac") ([] ∷ [])
    ≡ refused fault.EvalFalse 2

-- a signature that no table holds
abbrev pub UnknownSignature : Type 0
UnknownSignature = run nothing (push_key key_a ++ from_hex "ac") (sig_a ∷ [])
    ≡ refused fault.NullFail 1

-- a signature that the table holds
abbrev pub KnownSignature : Type 0
KnownSignature = run (with_table ((key_a, sig_a) ∷ [])) (push_key key_a ++ from_hex "ac") (sig_a ∷ [])
    ≡ accepted 1 2 ((key_a, sig_a) ∷ [])

-- two signatures against the order of their keys
abbrev pub SignaturesOutOfOrder : Type 0
SignaturesOutOfOrder = run (with_table ((key_a, sig_a) ∷ (key_c, sig_c) ∷ [])) (from_hex "52" ++ push_key key_a ++ push_key key_b ++ push_key key_c ++ from_hex "53ae")
    ([] ∷ sig_c ∷ sig_a ∷ [])
    ≡ refused fault.NullFail 5

-- the extra element of a multisignature is 1
abbrev pub ExtraElementOfOne : Type 0
ExtraElementOfOne = run (with_table ((key_a, sig_a) ∷ [])) (from_hex "51" ++ push_key key_a ++ from_hex "51ae") (from_hex "01" ∷ sig_a ∷ [])
    ≡ refused fault.NullDummy 3

-- a multisignature of 21 keys
abbrev pub TooManyKeys : Type 0
TooManyKeys = run nothing (from_hex "0115ae") []
    ≡ refused fault.KeyCount 1

-- a multisignature of -1 keys
abbrev pub LessThanNoKeys : Type 0
LessThanNoKeys = run nothing (from_hex "4fae") []
    ≡ refused fault.KeyCount 1

-- two signatures of one key
abbrev pub TooManySignatures : Type 0
TooManySignatures = run nothing (from_hex "52" ++ push_key key_a ++ from_hex "51ae") []
    ≡ refused fault.SigCount 3

-- -1 signatures of no key
abbrev pub LessThanNoSignatures : Type 0
LessThanNoSignatures = run nothing (from_hex "4f00ae") []
    ≡ refused fault.SigCount 2

-- 1,001 elements
abbrev pub TooManyElements : Type 0
TooManyElements = run nothing (replicate 1001 0x51) []
    ≡ refused fault.StackSize 1000

-- 1,001 elements on both stacks together
abbrev pub TooManyElementsOnBoth : Type 0
TooManyElementsOnBoth = run nothing (replicate 1000 0x51 ++ from_hex "6b51") []
    ≡ refused fault.StackSize 1001

-- two elements are left
abbrev pub TwoElementsLeft : Type 0
TwoElementsLeft = run nothing (from_hex "5151") []
    ≡ refused fault.CleanStack 2

-- no element is left
abbrev pub NoElementLeft : Type 0
NoElementLeft = run nothing [] []
    ≡ refused fault.CleanStack 0

-- a negative zero is left
abbrev pub NegativeZeroLeft : Type 0
NegativeZeroLeft = run nothing [] (from_hex "80" ∷ [])
    ≡ refused fault.EvalFalse 0
