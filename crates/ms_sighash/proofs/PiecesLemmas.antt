-- Pieces of inputs, each of 41 bytes, are what lies at one place in each.
use Rattle.std.proofs.Common.{◌≡◌, ℕ, zero, suc, ◌+◌, ◌*◌, List, [], ◌∷◌, ◌++◌, All, length, take, drop, refl, sym, ◌∙◌, ap, subst, arith}
use Rattle.std.specs.List.{flat_map}
use Rattle.std.proofs.lemmas.List.{append_assoc, append-nil, drop-drop, length-append}
use Rattle.std.proofs.Math.Seq.{drop-append_seam}
use Rattle.def_script.specs.Bytes.{Bytes}
use Rattle.ms_sighash.specs.Pieces.{pieces}

-- the piece of the first input, and those of the inputs behind it
pieces-front : (from size n : ℕ) (bytes : Bytes)
    → pieces from size (suc n) bytes ≡ take size (drop from bytes) ++ pieces from size n (drop 41 bytes)
pieces-front from size zero bytes =
    let at : 41 * 0 + from ≡ from = omega arith in
    ap (λ k. take size (drop k bytes)) at ∙ sym (append-nil (take size (drop from bytes)))
pieces-front from size (suc n) bytes =
    let at : 41 * suc n + from ≡ 41 + (41 * n + from) = omega arith in
    let behind : drop (41 * suc n + from) bytes ≡ drop (41 * n + from) (drop 41 bytes) =
    ap (λ k. drop k bytes) at ∙ sym (drop-drop (41 * n + from) 41 bytes)
    in
    ap (λ front. front ++ take size (drop (41 * suc n + from) bytes)) (pieces-front from size n bytes)
    ∙ append_assoc (take size (drop from bytes)) (pieces from size n (drop 41 bytes)) (take size (drop (41 * suc n + from) bytes))
    ∙ ap (λ l. take size (drop from bytes) ++ (pieces from size n (drop 41 bytes) ++ take size l)) behind

-- a text of 41 bytes with this piece in it, whatever stands behind
abbrev pub HasPiece : (from size : ℕ) → (text piece : Bytes) → Type 0
HasPiece from size text piece = (length text ≡ 41) × ((rest : Bytes) → take size (drop from (text ++ rest)) ≡ piece)

pub pieces-flat_map : {A : Type 0} (from size : ℕ) (text piece : A → Bytes) (xs : List A)
    → All (λ x. HasPiece from size (text x) (piece x)) xs → pieces from size (length xs) (flat_map text xs) ≡ flat_map piece xs
pieces-flat_map from size text piece [] h = refl
pieces-flat_map from size text piece (x ∷ xs) h =
    let here = h 0 x (omega arith) in
    let rest = flat_map text xs in
    let behind : drop 41 (text x ++ rest) ≡ rest = subst (λ n. drop n (text x ++ rest) ≡ rest) here.0 (drop-append_seam (text x) rest) in
    pieces-front from size (length xs) (text x ++ rest)
    ∙ ap (λ l. take size (drop from (text x ++ rest)) ++ pieces from size (length xs) l) behind
    ∙ ap (λ l. l ++ pieces from size (length xs) rest) (here.1 rest)
    ∙ ap (λ l. piece x ++ l) (pieces-flat_map from size text piece xs (λ k d lt. h (suc k) d (omega arith)))

-- how many bytes so many texts have
pub length-flat_map : {A : Type 0} (from size : ℕ) (text piece : A → Bytes) (xs : List A)
    → All (λ x. HasPiece from size (text x) (piece x)) xs → length (flat_map text xs) ≡ 41 * length xs
length-flat_map from size text piece [] h = refl
length-flat_map from size text piece (x ∷ xs) h =
    let here = (h 0 x (omega arith)).0 in
    let rest = length-flat_map from size text piece xs (λ k d lt. h (suc k) d (omega arith)) in
    let whole = length-append (text x) (flat_map text xs) in
    omega (arith, here, rest, whole)
