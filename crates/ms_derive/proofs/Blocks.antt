-- Bytes in a block, and each byte of it XOR another one.
use Rattle.std.proofs.Common.{◌≡◌, ℕ, zero, suc, ◌+◌, ◌-◌, ◌<◌, ◌≤◌, List, [], ◌∷◌, ◌++◌, length, take, drop, get_or, set, replicate, bit_xor, leb, arith, sym, ap, ◌∙◌}
use Rattle.std.proofs.lemmas.List.{length-map, length-take-le, map-append, append_assoc, drop_more, take_more, get_or_at, set_at}
use Rattle.std.proofs.lemmas.Bool.{cond-true, cond-false, le-leb, lt-leb}
use Rattle.sha2.specs.Sha512.{sha512}
use Rattle.def_script.specs.Bytes.{Bytes}
use Rattle.def_derive.specs.Hmac.{key_block, padded}

-- the zeros that are left behind some
pub zeros_behind : (n m : ℕ) → drop {A = ℕ} n (replicate m 0) ≡ replicate (m - n) 0
zeros_behind zero m = let e : m ≡ m - 0 = omega arith in ap (λ (z : ℕ). replicate z 0) e
zeros_behind (suc n) zero = let e : 0 ≡ 0 - suc n = omega arith in ap (λ (z : ℕ). replicate z 0) e
zeros_behind (suc n) (suc m) =
    let e : m - n ≡ suc m - suc n = omega arith in
    zeros_behind n m ∙ ap (λ (z : ℕ). replicate z 0) e

-- a short key as it is, and of a longer one its digest
pub long_key : (key : Bytes) → 128 < length key → sha512 key ++ replicate (128 - length (sha512 key)) 0 ≡ key_block key
long_key key over =
    ap (λ (z : Bytes). z ++ replicate (128 - length z) 0) (sym (cond-false (leb (length key) 128) key (sha512 key) (lt-leb (length key) 128 over)))

pub short_key : (key : Bytes) → length key ≤ 128 → key ++ replicate (128 - length key) 0 ≡ key_block key
short_key key within =
    ap (λ (z : Bytes). z ++ replicate (128 - length z) 0) (sym (cond-true (leb (length key) 128) key (sha512 key) (le-leb (length key) 128 within)))

-- one byte more
pub padded_more : (pad x i : ℕ) (block bytes : List ℕ) → i < length block → bytes ≡ padded pad (take i block) ++ drop i block → x ≡ get_or bytes i 0
    → set bytes i (bit_xor x pad) ≡ padded pad (take (i + 1) block) ++ drop (i + 1) block
padded_more pad x i block bytes inside before read =
    let front = padded pad (take i block) in
    let y = get_or block i 0 in
    let rest = drop (i + 1) block in
    let within : i ≤ length block = omega arith in
    let long : length front ≡ i = length-map (take i block) (λ (byte : ℕ). bit_xor byte pad) ∙ length-take-le i block within in
    let split : bytes ≡ front ++ y ∷ rest = before ∙ ap (λ (z : List ℕ). front ++ z) (drop_more block i 0 inside) in
    let same : x ≡ y = read ∙ (ap (λ (z : List ℕ). get_or z i 0) split ∙ get_or_at front y rest 0 i long) in
    let more : padded pad (take (i + 1) block) ≡ front ++ bit_xor y pad ∷ [] =
    ap (padded pad) (take_more block i 0 inside) ∙ map-append (λ (byte : ℕ). bit_xor byte pad) (take i block) (y ∷ []) in
    ap (λ (z : List ℕ). set z i (bit_xor x pad)) split
    ∙ (set_at front y rest (bit_xor x pad) i long
    ∙ (ap (λ (z : ℕ). front ++ bit_xor z pad ∷ rest) same
    ∙ (sym (append_assoc front (bit_xor y pad ∷ []) rest)
    ∙ ap (λ (z : List ℕ). z ++ rest) (sym more))))
