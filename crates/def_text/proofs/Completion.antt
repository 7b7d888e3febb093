-- Each state of the machine has bytes that end a text there: an expression is `0`, and what waits is closed.
use Rattle.std.proofs.Common.{◌≡◌, ℕ, ◌+◌, Bool, true, false, List, [], ◌∷◌, ◌++◌, Some, codes, replicate, refl, sym, ap, ◌∙◌, subst, arith}
use Rattle.std.specs.Str.{IsUtf8}
use Rattle.std.specs.Str.{IsAscii}
use Rattle.std.specs.Char.{is_ascii}
use Rattle.std.specs.List.{list_all}
use Rattle.std.proofs.lemmas.Bool.{and_parts}
use Rattle.std.proofs.lemmas.Str.Ascii.{IsAscii-nil, IsAscii-cons}
use Rattle.std.proofs.lemmas.Str.{IsUtf8-from_ascii}
use Rattle.std.specs.Option.{option_and_then}
use Rattle.hex.proofs.OnLiterals.{hex_on_literals}
use Rattle.def_script.specs.Bytes.{Bytes}
use Rattle.def_hash.specs.declared.HashKind.{HashKind}
use Rattle.def_hash.specs.declared.HashKind.TheVariants.{Sha256, Hash256, Ripemd160, Hash160}
use Rattle.def_tree.specs.Tree.{Key, Tree, just_0, multi}
use Rattle.def_text.specs.Token.{Token, word, closing, tokens_from}
use Rattle.def_text.specs.Letter.{letter_tree}
use Rattle.def_text.specs.Word.{key_of}
use Rattle.def_text.specs.Scaffolding.Reader.{Leaf, leaf_pk_k, leaf_older, leaf_after, leaf_hash, leaf_of, Want, expression, colon_next, leaf_open, leaf_word, leaf_close, andor_open, pair_open, thresh_open, thresh_number, thresh_comma, multi_open, multi_number, multi_comma, multi_key, multi_next, ended, finished, Frame, letter_frame, andor_first, andor_second, pair_first, State, behind, step, offsets_behind}
use Rattle.def_text.proofs.Complete.{step_letter}
use Rattle.def_text.proofs.Cut.{starts_word, alone}

abbrev KEY_TEXT : Bytes
KEY_TEXT = codes "020000000000000000000000000000000000000000000000000000000000000000"

-- a word for a fragment whose argument is one word
abbrev hash_text : HashKind → Bytes
hash_text Sha256 = codes "0000000000000000000000000000000000000000000000000000000000000000"
hash_text Hash256 = codes "0000000000000000000000000000000000000000000000000000000000000000"
hash_text Ripemd160 = codes "0000000000000000000000000000000000000000"
hash_text Hash160 = codes "0000000000000000000000000000000000000000"

abbrev leaf_text : Leaf → Bytes
leaf_text leaf_older = codes "0"
leaf_text leaf_after = codes "0"
leaf_text (leaf_hash kind) = hash_text kind
leaf_text leaf = KEY_TEXT

-- the bytes that end a text behind an expression
abbrev pub closing_text : List Frame → Bytes
closing_text [] = []
closing_text (letter_frame l a ∷ fs) = closing_text fs
closing_text (andor_first a ∷ fs) = codes ",0,0)" ++ closing_text fs
closing_text (andor_second x a ∷ fs) = codes ",0)" ++ closing_text fs
closing_text (pair_first pair a ∷ fs) = codes ",0)" ++ closing_text fs
closing_text (frame ∷ fs) = codes ")" ++ closing_text fs

-- the bytes that end a text in a state
abbrev pub completion : Want → List Frame → Bytes
completion expression fs = codes "0" ++ closing_text fs
completion colon_next fs = codes ":0" ++ closing_text fs
completion (leaf_open leaf) fs = codes "(" ++ (leaf_text leaf ++ (codes ")" ++ closing_text fs))
completion (leaf_word leaf) fs = leaf_text leaf ++ (codes ")" ++ closing_text fs)
completion (leaf_close x) fs = codes ")" ++ closing_text fs
completion (andor_open a) fs = codes "(0,0,0)" ++ closing_text fs
completion (pair_open pair a) fs = codes "(0,0)" ++ closing_text fs
completion (thresh_open a) fs = codes "(0,0)" ++ closing_text fs
completion (thresh_number a) fs = codes "0,0)" ++ closing_text fs
completion (thresh_comma k a) fs = codes ",0)" ++ closing_text fs
completion multi_open fs = codes "(0," ++ (KEY_TEXT ++ (codes ")" ++ closing_text fs))
completion multi_number fs = codes "0," ++ (KEY_TEXT ++ (codes ")" ++ closing_text fs))
completion (multi_comma k) fs = codes "," ++ (KEY_TEXT ++ (codes ")" ++ closing_text fs))
completion (multi_key k keys) fs = KEY_TEXT ++ (codes ")" ++ closing_text fs)
completion (multi_next k keys) fs = codes ")" ++ closing_text fs
completion (ended x) fs = closing_text fs
completion (finished x) fs = []

-- the machine reads tokens to the end
abbrev pub Ends : State → List Token → Type 0
Ends s ts = (z : Tree) × (zs : List ℕ) × (behind s ts ≡ Some (finished z, [], zs))

-- ---- behind an expression

ends_letter : (x : Tree) (frame : Frame) (fs : List Frame) (os : List ℕ) (y : Tree) (ps : List ℕ) (ts : List Token) →
    ((t : Token) → step (ended x, frame ∷ fs, os) t ≡ step (ended y, fs, ps) t) → Ends (ended y, fs, ps) ts →
    Ends (ended x, frame ∷ fs, os) ts
ends_letter x frame fs os y ps [] same (z, zs, h) = absurd (grind arith)
ends_letter x frame fs os y ps (t ∷ ts) same (z, zs, h) =
    (z, zs, ap (λ o. option_and_then (λ n. behind n ts) o) (same t) ∙ h)

closing_ends : (x : Tree) (fs : List Frame) (os : List ℕ) (at : ℕ) → Ends (ended x, fs, os) (tokens_from at (closing_text fs))
closing_ends x [] os at = (x, os, refl)
closing_ends x (letter_frame l a ∷ fs) os at =
    ends_letter x (letter_frame l a) fs os (letter_tree l x) (os ++ offsets_behind l a) (tokens_from at (closing_text fs))
    (step_letter l a x fs os)
    (closing_ends (letter_tree l x) fs (os ++ offsets_behind l a) at)
closing_ends x (frame ∷ fs) os at = closing_ends _ fs _ _

-- ---- words

all_ascii : (bs : Bytes) → list_all is_ascii bs ≡ true → IsAscii bs
all_ascii [] h = IsAscii-nil
all_ascii (b ∷ bs) h =
    let (first, others) = and_parts (is_ascii b) (list_all is_ascii bs) h in
    IsAscii-cons b bs (grind arith) (all_ascii bs others)

key_reads : key_of KEY_TEXT ≡ Some (2 ∷ replicate 32 0)
unfolding hex_on_literals
key_reads = refl

leaf_reads : (leaf : Leaf) → (x : Tree) × (leaf_of leaf (leaf_text leaf) ≡ Some x)
unfolding hex_on_literals
leaf_reads (leaf_hash Sha256) = (_, refl)
leaf_reads (leaf_hash kind) = (_, refl)
leaf_reads leaf = (_, refl)

-- the word is one token
leaf_tokens : (leaf : Leaf) (at : ℕ) (bs : Bytes) →
    (n : ℕ) × (tokens_from at (leaf_text leaf ++ (codes ")" ++ bs)) ≡ word at (leaf_text leaf) ∷ closing n ∷ tokens_from (n + 1) bs)
leaf_tokens (leaf_hash Sha256) at bs = (_, refl)
leaf_tokens (leaf_hash kind) at bs = (_, refl)
leaf_tokens leaf at bs = (_, refl)

-- ---- every state

closing_starts : (fs : List Frame) (at : ℕ) → starts_word (tokens_from at (closing_text fs)) ≡ false
closing_starts [] at = refl
closing_starts (letter_frame l a ∷ fs) at = closing_starts fs at
closing_starts (frame ∷ fs) at = refl

-- `0` is an expression
zero_ends : (fs : List Frame) (os : List ℕ) (at : ℕ) → Ends (expression, fs, os) (tokens_from at (codes "0" ++ closing_text fs))
zero_ends fs os at =
    subst (Ends (expression, fs, os)) (sym (alone at 48 (tokens_from (at + 1) (closing_text fs)) (closing_starts fs (at + 1))))
    (closing_ends just_0 fs (os ++ at ∷ []) (at + 1))

leaf_ends : (leaf : Leaf) (fs : List Frame) (os : List ℕ) (at : ℕ) →
    Ends (leaf_word leaf, fs, os) (tokens_from at (leaf_text leaf ++ (codes ")" ++ closing_text fs)))
leaf_ends leaf fs os at =
    let (n, e) = leaf_tokens leaf at (closing_text fs) in
    let (x, read) = leaf_reads leaf in
    let (z, zs, h) = closing_ends x fs os (n + 1) in
    subst (Ends (leaf_word leaf, fs, os)) (sym e) (z, zs, rw read h)

key_ends : (k : ℕ) (keys : List Key) (fs : List Frame) (os : List ℕ) (at : ℕ) →
    Ends (multi_key k keys, fs, os) (tokens_from at (KEY_TEXT ++ (codes ")" ++ closing_text fs)))
key_ends k keys fs os at =
    let (n, e) = leaf_tokens leaf_pk_k at (closing_text fs) in
    let (z, zs, h) = closing_ends (multi k (keys ++ (2 ∷ replicate 32 0) ∷ [])) fs os (n + 1) in
    subst (Ends (multi_key k keys, fs, os)) (sym e) (z, zs, rw key_reads h)

abbrev pub is_finished : Want → Bool
is_finished (finished x) = true
is_finished want = false

-- the completion of a state ends a text there
pub completes : (want : Want) (fs : List Frame) (os : List ℕ) (at : ℕ) → is_finished want ≡ false →
    Ends (want, fs, os) (tokens_from at (completion want fs))
completes expression fs os at f = zero_ends fs os at
completes colon_next fs os at f = zero_ends fs os (at + 1)
completes (leaf_open leaf) fs os at f = leaf_ends leaf fs os (at + 1)
completes (leaf_word leaf) fs os at f = leaf_ends leaf fs os at
completes multi_open fs os at f = key_ends 0 [] fs os _
completes multi_number fs os at f = key_ends 0 [] fs os _
completes (multi_comma k) fs os at f = key_ends k [] fs os _
completes (multi_key k keys) fs os at f = key_ends k keys fs os at
completes (finished x) fs os at f = absurd (cc)
completes want fs os at f = closing_ends _ fs _ _

-- whether a word is wanted
abbrev pub wants_word : Want → Bool
wants_word expression = true
wants_word (leaf_word leaf) = true
wants_word (thresh_number a) = true
wants_word multi_number = true
wants_word (multi_key k keys) = true
wants_word want = false

-- a word begins a completion only where it is wanted
pub completion_starts : (want : Want) (fs : List Frame) (at : ℕ) → wants_word want ≡ false →
    starts_word (tokens_from at (completion want fs)) ≡ false
completion_starts want fs at = grind (arith, closing_starts)

-- ---- the completion is ASCII

pub ascii_is_utf8 : (bs : Bytes) → list_all is_ascii bs ≡ true → IsUtf8 bs
ascii_is_utf8 bs h = IsUtf8-from_ascii bs (all_ascii bs h)

closing_is_ascii : (fs : List Frame) → list_all is_ascii (closing_text fs) ≡ true
closing_is_ascii [] = refl
closing_is_ascii (letter_frame l a ∷ fs) = closing_is_ascii fs
closing_is_ascii (frame ∷ fs) = closing_is_ascii fs

leaf_is_ascii : (leaf : Leaf) (bs : Bytes) → list_all is_ascii bs ≡ true → list_all is_ascii (leaf_text leaf ++ bs) ≡ true
leaf_is_ascii (leaf_hash Sha256) bs h = h
leaf_is_ascii (leaf_hash kind) bs h = h
leaf_is_ascii leaf bs h = h

completion_is_ascii : (want : Want) (fs : List Frame) → list_all is_ascii (completion want fs) ≡ true
completion_is_ascii (leaf_open leaf) fs = leaf_is_ascii leaf (codes ")" ++ closing_text fs) (closing_is_ascii fs)
completion_is_ascii (leaf_word leaf) fs = leaf_is_ascii leaf (codes ")" ++ closing_text fs) (closing_is_ascii fs)
completion_is_ascii (finished x) fs = refl
completion_is_ascii want fs = closing_is_ascii fs

pub completion_is_utf8 : (want : Want) (fs : List Frame) → IsUtf8 (completion want fs)
completion_is_utf8 want fs = ascii_is_utf8 (completion want fs) (completion_is_ascii want fs)
