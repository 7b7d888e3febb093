-- Bytes as digits, one after the other.
use Rattle.std.proofs.Common.{◌≡◌, ℕ, ◌+◌, ◌<◌, ◌≤◌, ◌++◌, [], ◌∷◌, length, get_or, drop, append_assoc, append-nil, sym, subst, ◌∙◌}
use Rattle.std.proofs.lemmas.List.{drop_more, drop_all}
use Rattle.hex.specs.Hex.{encode_with, encode_lower}
use Rattle.def_script.specs.Bytes.{Bytes}

-- a byte more
pub one_more_byte : (before after all bytes : Bytes) (i byte : ℕ) → i < length bytes → byte ≡ get_or bytes i 0
    → after ≡ before ++ encode_lower (byte ∷ []) → before ++ encode_lower (drop i bytes) ≡ all → after ++ encode_lower (drop (i + 1) bytes) ≡ all
unfolding encode_with
one_more_byte before after all bytes i byte below is e h =
    let rest = subst (λ ds. before ++ encode_lower ds ≡ all) (drop_more bytes i 0 below) h in
    rw (e, is, append_assoc) rest

pub no_more_bytes : (before all bytes : Bytes) (i : ℕ) → length bytes ≤ i → before ++ encode_lower (drop i bytes) ≡ all → before ≡ all
unfolding encode_with
no_more_bytes before all bytes i past h =
    let none = drop_all i bytes past in
    sym (append-nil before) ∙ subst (λ ds. before ++ encode_lower ds ≡ all) none h
