-- A line's words behind the type are those of one node: they are read back.
use Rattle.std.proofs.Common.{◌≡◌, ℕ, ◌==◌, ◌<◌, ◌^◌, Bool, true, false, List, [], ◌∷◌, ◌++◌, map, codes, decimal, refl, sym, ap, ◌∙◌, arith, All, suc}
use Rattle.std.specs.Prelude.{if◌then◌else◌, flat_map}
use Rattle.std.specs.List.{list_all}
use Rattle.std.specs.Option.{unwrap_or}
use Rattle.std.specs.Result.{result_unwrap_or}
use Rattle.std.specs.Str.{bytes_eq}
use Rattle.std.proofs.lemmas.Bool.{and_parts}
use Rattle.std.proofs.lemmas.List.{append-nil}
use Rattle.hex.specs.Hex.{encode_lower, decode_of}
use Rattle.hex.proofs.HexLemmas.{decode_of-encode_lower}
use Rattle.def_script.specs.Bytes.{Bytes, IsBytes}
use Rattle.def_hash.specs.declared.HashKind.TheVariants.{Sha256, Hash256, Ripemd160, Hash160}
use Rattle.def_tree.specs.declared.Two.TheVariants.{AndV, AndB, OrB, OrC, OrD, OrI}
use Rattle.def_tree.specs.declared.Wrapper.TheVariants.{A, S, C, D, V, J, N}
use Rattle.def_tree.specs.Range.{IsKey, IsWritable}
use Rattle.def_tree.specs.Tree.{Key, Tree, just_0, just_1, pk_k, pk_h, older, after, hash, and_or, two, thresh, multi, wrap, none}
use Rattle.def_text.specs.Token.{is_word_byte}
use Rattle.def_text.specs.Word.{number_of}
use Rattle.def_text.proofs.PrintedWords.{number_is_spelled, number_is_word, digits_are_word}
use Rattle.def_answer.specs.Outline.{key_text, head_text}
use Rattle.ms_outline_laws.proofs.Bare.{bare}

-- ---- words

abbrev add : ℕ → List Bytes → List Bytes
add b [] = (b ∷ []) ∷ []
add b (w ∷ ws) = (b ∷ w) ∷ ws

-- the words between the spaces of a line
abbrev words_of : Bytes → List Bytes
words_of [] = [] ∷ []
words_of (b ∷ bs) = if b == 32 then [] ∷ words_of bs else add b (words_of bs)

no_space : (b : ℕ) → is_word_byte b ≡ true → (b == 32) ≡ false
no_space b h = grind (arith, h)

-- a word, and what stands behind it
behind : (w rest : Bytes) → list_all is_word_byte w ≡ true → words_of (w ++ 32 ∷ rest) ≡ w ∷ words_of rest
behind [] rest h = refl
behind (b ∷ w) rest h =
    let (own, others) = and_parts (is_word_byte b) (list_all is_word_byte w) h in
    rw (no_space b own, behind w rest others) refl

alone : (w : Bytes) → list_all is_word_byte w ≡ true → words_of w ≡ w ∷ []
alone [] h = refl
alone (b ∷ w) h =
    let (own, others) = and_parts (is_word_byte b) (list_all is_word_byte w) h in
    rw (no_space b own, alone w others) refl

-- ---- the node that words name

abbrev number : Bytes → ℕ
number w = unwrap_or (number_of w) 0

abbrev bytes : Bytes → Bytes
bytes w = result_unwrap_or (decode_of w) []

abbrev first : List Bytes → Bytes
first [] = []
first (w ∷ ws) = w

abbrev others : List Bytes → List Bytes
others [] = []
others (w ∷ ws) = ws

abbrev leaf_named : Bytes → List Bytes → Tree
leaf_named name ws =
    if bytes_eq name (codes "pk_k") then pk_k (bytes (first ws))
    else if bytes_eq name (codes "pk_h") then pk_h (bytes (first ws))
    else if bytes_eq name (codes "older") then older (number (first ws))
    else if bytes_eq name (codes "after") then after (number (first ws))
    else if bytes_eq name (codes "sha256") then hash Sha256 (bytes (first ws))
    else if bytes_eq name (codes "hash256") then hash Hash256 (bytes (first ws))
    else if bytes_eq name (codes "ripemd160") then hash Ripemd160 (bytes (first ws))
    else if bytes_eq name (codes "hash160") then hash Hash160 (bytes (first ws))
    else if bytes_eq name (codes "multi") then multi (number (first ws)) (map bytes (others ws))
    else if bytes_eq name (codes "1") then just_1
    else just_0

abbrev wrap_named : Bytes → Tree
wrap_named name =
    if bytes_eq name (codes "a") then wrap A just_0
    else if bytes_eq name (codes "s") then wrap S just_0
    else if bytes_eq name (codes "c") then wrap C just_0
    else if bytes_eq name (codes "d") then wrap D just_0
    else if bytes_eq name (codes "v") then wrap V just_0
    else if bytes_eq name (codes "j") then wrap J just_0
    else wrap N just_0

abbrev is_letter : Bytes → Bool
is_letter (a ∷ []) = if a == 48 then false else if a == 49 then false else true
is_letter w = false

abbrev named : Bytes → List Bytes → Tree
named name ws =
    if is_letter name then wrap_named name
    else if bytes_eq name (codes "andor") then and_or just_0 just_0 just_0
    else if bytes_eq name (codes "and_v") then two AndV just_0 just_0
    else if bytes_eq name (codes "and_b") then two AndB just_0 just_0
    else if bytes_eq name (codes "or_b") then two OrB just_0 just_0
    else if bytes_eq name (codes "or_c") then two OrC just_0 just_0
    else if bytes_eq name (codes "or_d") then two OrD just_0 just_0
    else if bytes_eq name (codes "or_i") then two OrI just_0 just_0
    else if bytes_eq name (codes "thresh") then thresh (number (first ws)) none
    else leaf_named name ws

abbrev read : List Bytes → Tree
read ws = named (first ws) (others ws)

-- ---- read back

bytes_back : (b : Bytes) → IsBytes b → bytes (encode_lower b) ≡ b
bytes_back b h = ap (λ r. result_unwrap_or r []) (decode_of-encode_lower b h)

number_back : (n : ℕ) → n < 10 ^ 10 → number (decimal n) ≡ n
number_back n h = ap (λ o. unwrap_or o 0) (number_is_spelled n h)

-- the keys behind a word
keys_behind : (w : Bytes) (keys : List Key) → list_all is_word_byte w ≡ true → All IsKey keys → words_of (w ++ flat_map key_text keys) ≡ w ∷ map encode_lower keys
keys_behind w [] h all = ap words_of (append-nil w) ∙ alone w h
keys_behind w (key ∷ keys) h all =
    let own = all 0 key (omega arith) in
    behind w (encode_lower key ++ flat_map key_text keys) h
    ∙ ap (λ (ws : List Bytes). w ∷ ws) (keys_behind (encode_lower key) keys (digits_are_word key own.bytes) (λ k d l. all (suc k) d (omega (arith, l))))

keys_back : (keys : List Key) → All IsKey keys → map bytes (map encode_lower keys) ≡ keys
keys_back [] all = refl
keys_back (key ∷ keys) all =
    let own = all 0 key (omega arith) in
    rw (bytes_back key own.bytes, keys_back keys (λ k d l. all (suc k) d (omega (arith, l)))) refl

back : (t : Tree) → IsWritable t → read (words_of (head_text t)) ≡ bare t
back just_0 w = refl
back just_1 w = refl
back (pk_k key) w = ap (λ ws. read (codes "pk_k" ∷ ws)) (alone (encode_lower key) (digits_are_word key w.bytes)) ∙ ap pk_k (bytes_back key w.bytes)
back (pk_h key) w = ap (λ ws. read (codes "pk_h" ∷ ws)) (alone (encode_lower key) (digits_are_word key w.bytes)) ∙ ap pk_h (bytes_back key w.bytes)
back (older n) w = ap (λ ws. read (codes "older" ∷ ws)) (alone (decimal n) (number_is_word n w).0) ∙ ap older (number_back n w)
back (after n) w = ap (λ ws. read (codes "after" ∷ ws)) (alone (decimal n) (number_is_word n w).0) ∙ ap after (number_back n w)
back (hash Sha256 b) w = ap (λ ws. read (codes "sha256" ∷ ws)) (alone (encode_lower b) (digits_are_word b w.bytes)) ∙ ap (hash Sha256) (bytes_back b w.bytes)
back (hash Hash256 b) w = ap (λ ws. read (codes "hash256" ∷ ws)) (alone (encode_lower b) (digits_are_word b w.bytes)) ∙ ap (hash Hash256) (bytes_back b w.bytes)
back (hash Ripemd160 b) w = ap (λ ws. read (codes "ripemd160" ∷ ws)) (alone (encode_lower b) (digits_are_word b w.bytes)) ∙ ap (hash Ripemd160) (bytes_back b w.bytes)
back (hash Hash160 b) w = ap (λ ws. read (codes "hash160" ∷ ws)) (alone (encode_lower b) (digits_are_word b w.bytes)) ∙ ap (hash Hash160) (bytes_back b w.bytes)
back (and_or x y z) w = refl
back (two AndV x y) w = refl
back (two AndB x y) w = refl
back (two OrB x y) w = refl
back (two OrC x y) w = refl
back (two OrD x y) w = refl
back (two OrI x y) w = refl
back (thresh k xs) w = ap (λ ws. read (codes "thresh" ∷ ws)) (alone (decimal k) (number_is_word k w.0).0) ∙ ap (λ n. thresh n none) (number_back k w.0)
back (multi k keys) w =
    ap (λ ws. read (codes "multi" ∷ ws)) (keys_behind (decimal k) keys (number_is_word k w.0).0 w.2)
    ∙ rw (number_back k w.0, keys_back keys w.2) refl
back (wrap A x) w = refl
back (wrap S x) w = refl
back (wrap C x) w = refl
back (wrap D x) w = refl
back (wrap V x) w = refl
back (wrap J x) w = refl
back (wrap N x) w = refl

pub one_head : (t u : Tree) → IsWritable t → IsWritable u → head_text t ≡ head_text u → bare t ≡ bare u
one_head t u v w e = sym (back t v) ∙ (ap (λ b. read (words_of b)) e ∙ back u w)
