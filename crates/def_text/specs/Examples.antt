-- Examples of the definitions: tokens, words, texts with their trees, and printed forms.
use Rattle.std.specs.Prelude.{◌≡◌, [], ◌∷◌, ◌++◌, List, ℕ, codes, replicate, Some, None}
use Rattle.std.specs.List.{concat}
use Rattle.std.specs.Str.{byte}
use Rattle.def_script.specs.Bytes.{Bytes}
use Rattle.def_tree.specs.declared.Two.TheVariants.{AndV, OrC, OrD, OrI}
use Rattle.def_tree.specs.declared.Wrapper.TheVariants.{C, N, V}
use Rattle.def_tree.specs.Tree.{Key, just_0, just_1, pk_k, pk_h, older, two, wrap}
use Rattle.def_text.specs.Token.{word, opening, closing, comma, colon, other, end, tokens}
use Rattle.def_text.specs.Word.{number_of, key_of}
use Rattle.def_text.specs.declared.TextFault.TheVariants.{TooLong, Syntax, TooDeep}
use Rattle.def_text.specs.Letter.{letter_of_wrapper, letters_tree}
use Rattle.def_text.specs.Refusal.{TextReads, TextRefusal}
use Rattle.def_text.specs.Spells.{SpellsText}
use Rattle.def_text.specs.Print.{printed}

-- two keys, and their digits in a text; the second is the generator of secp256k1
abbrev pub KEY_A : Key
KEY_A = 0x02 ∷ replicate 32 0x01

abbrev pub KEY_A_TEXT : Bytes
KEY_A_TEXT = codes "020101010101010101010101010101010101010101010101010101010101010101"

abbrev pub KEY_B : Key
KEY_B =
    0x02
    ∷ 0x79 ∷ 0xbe ∷ 0x66 ∷ 0x7e ∷ 0xf9 ∷ 0xdc ∷ 0xbb ∷ 0xac ∷ 0x55 ∷ 0xa0 ∷ 0x62 ∷ 0x95 ∷ 0xce ∷ 0x87 ∷ 0x0b ∷ 0x07
    ∷ 0x02 ∷ 0x9b ∷ 0xfc ∷ 0xdb ∷ 0x2d ∷ 0xce ∷ 0x28 ∷ 0xd9 ∷ 0x59 ∷ 0xf2 ∷ 0x81 ∷ 0x5b ∷ 0x16 ∷ 0xf8 ∷ 0x17 ∷ 0x98
    ∷ []

abbrev pub KEY_B_TEXT : Bytes
KEY_B_TEXT = codes "0279be667ef9dcbbac55a06295ce870b07029bfcdb2dce28d959f2815b16f81798"

-- ---- tokens

-- `and_v(v:pk(A),older(144))`
abbrev pub TokensOfAndV : Type 0
TokensOfAndV =
    tokens (codes "and_v(v:pk(" ++ KEY_A_TEXT ++ codes "),older(144))")
    ≡ word 0 (codes "and_v") ∷ opening 5 ∷ word 6 (codes "v") ∷ colon 7 ∷ word 8 (codes "pk") ∷ opening 10
    ∷ word 11 KEY_A_TEXT ∷ closing 77 ∷ comma 78 ∷ word 79 (codes "older") ∷ opening 84 ∷ word 85 (codes "144")
    ∷ closing 88 ∷ closing 89 ∷ end 90 ∷ []

-- the empty text
abbrev pub TokensOfNothing : Type 0
TokensOfNothing = tokens [] ≡ end 0 ∷ []

-- `pk é:`, where the letter beyond ASCII has two bytes
abbrev pub TokensBeyondAscii : Type 0
TokensBeyondAscii =
    tokens (codes "pk " ++ 0xc3 ∷ 0xa9 ∷ codes ":")
    ≡ word 0 (codes "pk") ∷ other 2 ∷ other 3 ∷ colon 5 ∷ end 6 ∷ []

-- ---- numbers and keys

abbrev pub NumberZero : Type 0
NumberZero = number_of (codes "0") ≡ Some 0

-- ten digits, and eleven
abbrev pub NumberOfTenDigits : Type 0
NumberOfTenDigits = number_of (codes "9999999999") ≡ Some 9999999999

abbrev pub NoNumberOfElevenDigits : Type 0
NoNumberOfElevenDigits = number_of (codes "10000000000") ≡ None

-- `00` has a leading zero
abbrev pub NoNumberAfterZero : Type 0
NoNumberAfterZero = number_of (codes "00") ≡ None

-- the key's digits in upper case
abbrev pub KeyInUpperCase : Type 0
KeyInUpperCase =
    key_of (codes "0279BE667EF9DCBBAC55A06295CE870B07029BFCDB2DCE28D959F2815B16F81798") ≡ Some KEY_B

-- a key begins with `02` or `03`
abbrev pub NoUncompressedKey : Type 0
NoUncompressedKey = key_of (codes "040101010101010101010101010101010101010101010101010101010101010101") ≡ None

-- ---- texts and their trees

-- `pk(B)` is `c:pk_k(B)`
abbrev pub PkIsSpelled : Type 0
PkIsSpelled = SpellsText (tokens (codes "pk(" ++ KEY_B_TEXT ++ codes ")")) (wrap C (pk_k KEY_B)) (0 ∷ 0 ∷ [])

-- `or_d(pk(A),and_v(v:pkh(B),older(144)))`
abbrev pub OrDIsSpelled : Type 0
OrDIsSpelled =
    SpellsText
    (tokens (codes "or_d(pk(" ++ KEY_A_TEXT ++ codes "),and_v(v:pkh(" ++ KEY_B_TEXT ++ codes "),older(144)))"))
    (two OrD (wrap C (pk_k KEY_A)) (two AndV (wrap V (wrap C (pk_h KEY_B))) (older 144)))
    (5 ∷ 5 ∷ 84 ∷ 84 ∷ 82 ∷ 156 ∷ 76 ∷ 0 ∷ [])

-- `l:t:1` is `or_i(0,and_v(1,1))`: the `0` of `l:` is the first node
abbrev pub SugarIsSpelled : Type 0
SugarIsSpelled =
    SpellsText (tokens (codes "l:t:1")) (two OrI just_0 (two AndV just_1 just_1)) (0 ∷ 4 ∷ 2 ∷ 2 ∷ 0 ∷ [])

-- the same by one group of letters
abbrev pub GroupIsSpelled : Type 0
GroupIsSpelled =
    SpellsText (tokens (codes "lt:1")) (two OrI just_0 (two AndV just_1 just_1)) (0 ∷ 3 ∷ 1 ∷ 1 ∷ 0 ∷ [])

-- ---- refusals

-- the empty text
abbrev pub NothingIsRefused : Type 0
NothingIsRefused = TextRefusal [] (Syntax 0)

-- no fragment is called `and_`
abbrev pub NoNameIsRefused : Type 0
NoNameIsRefused = TextRefusal (codes "and_") (Syntax 0)

-- `02` is no key
abbrev pub ShortKeyIsRefused : Type 0
ShortKeyIsRefused = TextRefusal (codes "pk(02)") (Syntax 3)

-- `00` is no number
abbrev pub LeadingZeroIsRefused : Type 0
LeadingZeroIsRefused = TextRefusal (codes "older(00)") (Syntax 6)

-- no space may stand in a text
abbrev pub SpaceIsRefused : Type 0
SpaceIsRefused = TextRefusal (codes "pk (" ++ KEY_A_TEXT ++ codes ")") (Syntax 2)

-- `pk(A` without its `)`, and with one too many
abbrev pub OpenParenthesisIsRefused : Type 0
OpenParenthesisIsRefused = TextRefusal (codes "pk(" ++ KEY_A_TEXT) (Syntax 69)

abbrev pub SecondParenthesisIsRefused : Type 0
SecondParenthesisIsRefused = TextRefusal (codes "pk(" ++ KEY_A_TEXT ++ codes "))") (Syntax 70)

-- so many letters `n`, and `:0`
abbrev pub letters_n : ℕ → Bytes
letters_n count = replicate count (byte "n") ++ codes ":0"

-- 255 letters are read
abbrev pub LettersAreRead : Type 0
LettersAreRead =
    (offsets : List ℕ) × TextReads (letters_n 255) (letters_tree (replicate 255 (letter_of_wrapper N)) just_0) offsets

-- behind 256 letters the `0` is too deep
abbrev pub NameIsTooDeep : Type 0
NameIsTooDeep = TextRefusal (letters_n 256) (TooDeep 257)

-- 300 letters are too deep themselves
abbrev pub RunIsTooDeep : Type 0
RunIsTooDeep = TextRefusal (letters_n 300) (TooDeep 0)

-- so are 257, though no colon follows
abbrev pub LoneRunIsTooDeep : Type 0
LoneRunIsTooDeep = TextRefusal (replicate 257 (byte "n")) (TooDeep 0)

-- behind 256 names `and_v` the letter of `n:0` is too deep
abbrev pub NestedLetterIsTooDeep : Type 0
NestedLetterIsTooDeep = TextRefusal (concat (replicate 256 (codes "and_v(")) ++ codes "n:0") (TooDeep 1536)

-- where a wrong token and one that is too deep meet, the one that stands first is named: a run of 257 letters is too
-- deep before the `)` is wrong, and the comma behind `0` is wrong before the run is too deep
abbrev pub DepthComesFirst : Type 0
DepthComesFirst = TextRefusal (replicate 257 (byte "n") ++ codes ")") (TooDeep 0)

abbrev pub SyntaxComesFirst : Type 0
SyntaxComesFirst = TextRefusal (codes "0," ++ replicate 257 (byte "n") ++ codes ":0") (Syntax 1)

-- of one token: where no expression may begin, a run is no number, however long; and behind 256 letters `x` has no
-- depth, since it is neither a name nor a run
abbrev pub RunAsNumberIsWrong : Type 0
RunAsNumberIsWrong = TextRefusal (codes "older(" ++ replicate 257 (byte "n") ++ codes ")") (Syntax 6)

abbrev pub NoNameIsNotDeep : Type 0
NoNameIsNotDeep = TextRefusal (replicate 256 (byte "n") ++ codes ":x") (Syntax 257)

-- 65,537 bytes, which are a run that is too deep besides
abbrev pub LongTextIsRefused : Type 0
LongTextIsRefused = TextRefusal (replicate 65537 (byte "n")) TooLong

-- ---- printed forms

-- the tree of `t:or_c(pk(A),v:pk(B))`
abbrev pub PrintedWithoutSugar : Type 0
PrintedWithoutSugar =
    printed (two AndV (two OrC (wrap C (pk_k KEY_A)) (wrap V (wrap C (pk_k KEY_B)))) just_1)
    ≡ codes "and_v(or_c(c:pk_k(" ++ KEY_A_TEXT ++ codes "),vc:pk_k(" ++ KEY_B_TEXT ++ codes ")),1)"

-- the tree of `pk(B)`
abbrev pub PrintedPk : Type 0
PrintedPk = printed (wrap C (pk_k KEY_B)) ≡ codes "c:pk_k(" ++ KEY_B_TEXT ++ codes ")"

-- the tree of `or_d(0,older(144))`
abbrev pub PrintedNumber : Type 0
PrintedNumber = printed (two OrD just_0 (older 144)) ≡ codes "or_d(0,older(144))"
