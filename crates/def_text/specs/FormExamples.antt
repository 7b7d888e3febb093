-- Examples of the definitions: each fragment, each wrapper and each piece of sugar, read and printed. The trees and
-- the offsets are counted by hand.
use Rattle.std.specs.Prelude.{◌≡◌, [], ◌∷◌, ◌++◌, List, ℕ, codes, replicate}
use Rattle.std.specs.Str.{byte}
use Rattle.def_script.specs.Bytes.{Bytes}
use Rattle.def_hash.specs.declared.HashKind.TheVariants.{Sha256, Hash256, Ripemd160, Hash160}
use Rattle.def_tree.specs.declared.Two.TheVariants.{AndV, AndB, OrB, OrC, OrD, OrI}
use Rattle.def_tree.specs.declared.Wrapper.TheVariants.{A, S, C, D, V, J, N}
use Rattle.def_tree.specs.Tree.{Tree, just_0, just_1, pk_k, pk_h, older, after, hash, and_or, two, thresh, multi, wrap, none, more}
use Rattle.def_text.specs.Refusal.{TextReads}
use Rattle.def_text.specs.Print.{printed}
use Rattle.def_text.specs.Examples.{KEY_A, KEY_A_TEXT, KEY_B, KEY_B_TEXT}

-- a text without sugar: it is read as the tree, whose nodes have these offsets, and it is the tree's printed form
abbrev pub IsReadAndPrinted : (text : Bytes) → Tree → (offsets : List ℕ) → Type 0
IsReadAndPrinted text tree offsets = TextReads text tree offsets × (printed tree ≡ text)

-- a text with sugar: it is read as the tree, whose printed form is another text
abbrev pub IsReadAndPrintedAs : (text : Bytes) → Tree → (offsets : List ℕ) → (form : Bytes) → Type 0
IsReadAndPrintedAs text tree offsets form = TextReads text tree offsets × (printed tree ≡ form)

-- ---- fragments without children

-- `0` and `1`
abbrev pub ConstantsAreRead : Type 0
ConstantsAreRead = IsReadAndPrinted (codes "0") just_0 (0 ∷ []) × IsReadAndPrinted (codes "1") just_1 (0 ∷ [])

-- `pk_k(A)` and `pk_h(B)`
abbrev pub KeysAreRead : Type 0
KeysAreRead =
    IsReadAndPrinted (codes "pk_k(" ++ KEY_A_TEXT ++ codes ")") (pk_k KEY_A) (0 ∷ [])
    × IsReadAndPrinted (codes "pk_h(" ++ KEY_B_TEXT ++ codes ")") (pk_h KEY_B) (0 ∷ [])

-- `older(144)` and `after(9999999999)`: the text knows no range but ten digits
abbrev pub LocksAreRead : Type 0
LocksAreRead =
    IsReadAndPrinted (codes "older(144)") (older 144) (0 ∷ [])
    × IsReadAndPrinted (codes "after(9999999999)") (after 9999999999) (0 ∷ [])

-- hash locks: 64 digits, or 40
abbrev pub HashesAreRead : Type 0
HashesAreRead =
    IsReadAndPrinted (codes "sha256(" ++ replicate 64 (byte "1") ++ codes ")") (hash Sha256 (replicate 32 0x11)) (0 ∷ [])
    × IsReadAndPrinted (codes "hash256(" ++ replicate 64 (byte "2") ++ codes ")") (hash Hash256 (replicate 32 0x22)) (0 ∷ [])
    × IsReadAndPrinted (codes "ripemd160(" ++ replicate 40 (byte "a") ++ codes ")") (hash Ripemd160 (replicate 20 0xaa)) (0 ∷ [])
    × IsReadAndPrinted (codes "hash160(" ++ replicate 40 (byte "f") ++ codes ")") (hash Hash160 (replicate 20 0xff)) (0 ∷ [])

-- `multi(2,A,B)`
abbrev pub MultiIsRead : Type 0
MultiIsRead =
    IsReadAndPrinted (codes "multi(2," ++ KEY_A_TEXT ++ codes "," ++ KEY_B_TEXT ++ codes ")")
    (multi 2 (KEY_A ∷ KEY_B ∷ [])) (0 ∷ [])

-- ---- fragments with children: the offset of the name stands behind those of the children

abbrev pub AndorIsRead : Type 0
AndorIsRead =
    IsReadAndPrinted (codes "andor(0,1,older(7))") (and_or just_0 just_1 (older 7)) (6 ∷ 8 ∷ 10 ∷ 0 ∷ [])

abbrev pub PairsAreRead : Type 0
PairsAreRead =
    IsReadAndPrinted (codes "and_v(0,1)") (two AndV just_0 just_1) (6 ∷ 8 ∷ 0 ∷ [])
    × IsReadAndPrinted (codes "and_b(0,1)") (two AndB just_0 just_1) (6 ∷ 8 ∷ 0 ∷ [])
    × IsReadAndPrinted (codes "or_b(0,1)") (two OrB just_0 just_1) (5 ∷ 7 ∷ 0 ∷ [])
    × IsReadAndPrinted (codes "or_c(0,1)") (two OrC just_0 just_1) (5 ∷ 7 ∷ 0 ∷ [])
    × IsReadAndPrinted (codes "or_d(0,1)") (two OrD just_0 just_1) (5 ∷ 7 ∷ 0 ∷ [])
    × IsReadAndPrinted (codes "or_i(0,1)") (two OrI just_0 just_1) (5 ∷ 7 ∷ 0 ∷ [])

-- the number has no node
abbrev pub ThreshIsRead : Type 0
ThreshIsRead =
    IsReadAndPrinted (codes "thresh(2,0,1,older(7))") (thresh 2 (more just_0 (more just_1 (more (older 7) none))))
    (9 ∷ 11 ∷ 13 ∷ 0 ∷ [])

-- ---- wrappers

abbrev pub WrappersAreRead : Type 0
WrappersAreRead =
    IsReadAndPrinted (codes "a:0") (wrap A just_0) (2 ∷ 0 ∷ [])
    × IsReadAndPrinted (codes "s:0") (wrap S just_0) (2 ∷ 0 ∷ [])
    × IsReadAndPrinted (codes "c:0") (wrap C just_0) (2 ∷ 0 ∷ [])
    × IsReadAndPrinted (codes "d:0") (wrap D just_0) (2 ∷ 0 ∷ [])
    × IsReadAndPrinted (codes "v:0") (wrap V just_0) (2 ∷ 0 ∷ [])
    × IsReadAndPrinted (codes "j:0") (wrap J just_0) (2 ∷ 0 ∷ [])
    × IsReadAndPrinted (codes "n:0") (wrap N just_0) (2 ∷ 0 ∷ [])

-- the last letter of a group is the innermost wrapper, so its node comes first
abbrev pub GroupsAreRead : Type 0
GroupsAreRead =
    IsReadAndPrinted (codes "asd:0") (wrap A (wrap S (wrap D just_0))) (4 ∷ 2 ∷ 1 ∷ 0 ∷ [])
    × IsReadAndPrintedAs (codes "a:sd:0") (wrap A (wrap S (wrap D just_0))) (5 ∷ 3 ∷ 2 ∷ 0 ∷ []) (codes "asd:0")

-- ---- sugar

-- `pk(A)` and `pkh(B)`
abbrev pub KeySugarIsRead : Type 0
KeySugarIsRead =
    IsReadAndPrintedAs (codes "pk(" ++ KEY_A_TEXT ++ codes ")") (wrap C (pk_k KEY_A)) (0 ∷ 0 ∷ [])
    (codes "c:pk_k(" ++ KEY_A_TEXT ++ codes ")")
    × IsReadAndPrintedAs (codes "pkh(" ++ KEY_B_TEXT ++ codes ")") (wrap C (pk_h KEY_B)) (0 ∷ 0 ∷ [])
    (codes "c:pk_h(" ++ KEY_B_TEXT ++ codes ")")

-- the third child of `and_n` has the offset of the name
abbrev pub AndNIsRead : Type 0
AndNIsRead =
    IsReadAndPrintedAs (codes "and_n(older(7),1)") (and_or (older 7) just_1 just_0) (6 ∷ 15 ∷ 0 ∷ 0 ∷ [])
    (codes "andor(older(7),1,0)")

-- the node that a letter adds has the letter's offset, and `l:` puts its `0` first
abbrev pub LetterSugarIsRead : Type 0
LetterSugarIsRead =
    IsReadAndPrintedAs (codes "t:0") (two AndV just_0 just_1) (2 ∷ 0 ∷ 0 ∷ []) (codes "and_v(0,1)")
    × IsReadAndPrintedAs (codes "l:1") (two OrI just_0 just_1) (0 ∷ 2 ∷ 0 ∷ []) (codes "or_i(0,1)")
    × IsReadAndPrintedAs (codes "u:1") (two OrI just_1 just_0) (2 ∷ 0 ∷ 0 ∷ []) (codes "or_i(1,0)")
