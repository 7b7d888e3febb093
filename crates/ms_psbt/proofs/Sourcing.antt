-- What is decoded from base64 isn't longer than its text.
use Rattle.std.proofs.Common.{◌≡◌, ℕ, suc, ◌+◌, ◌*◌, ◌/◌, ◌≤◌, not, Bool, true, false, cond, [], ◌∷◌, length, length-append, replicate, filter, sym, ap, subst, ◌∙◌, arith}
use Rattle.base64.specs.Engines.{standard}
use Rattle.base64.specs.GeneralPurpose.{encode_of}
use Rattle.base64.specs.Rfc4648.{encode_symbols, padding_len}
use Rattle.base64.proofs.RoundTrip.{length-encode_symbols}
use Rattle.def_script.specs.Bytes.{Bytes}
use Rattle.def_psbt.specs.Source.{is_blank, without_blanks}

fewer : (p : ℕ → Bool) (bytes : Bytes) → length (filter p bytes) ≤ length bytes
fewer p [] = omega arith
fewer p (byte ∷ bytes) = go (p byte) (fewer p bytes)
  where
    go : (b : Bool) → length (filter p bytes) ≤ length bytes → length (cond b (byte ∷ filter p bytes) (filter p bytes)) ≤ suc (length bytes)
    go true h = omega arith
    go false h = omega arith

encoded_long : (bytes : Bytes) → length bytes ≤ length (encode_of standard bytes)
encoded_long bytes =
    let long : length (encode_of standard bytes) ≡ length (encode_symbols standard.encode_table bytes) + length (replicate (padding_len (length bytes)) 61) =
    length-append (encode_symbols standard.encode_table bytes) (replicate (padding_len (length bytes)) 61) in
    let text : length (encode_symbols standard.encode_table bytes) ≡ (4 * length bytes + 2) / 3 = length-encode_symbols standard.encode_table bytes in
    subst (λ (n : ℕ). length bytes ≤ n) (sym long) (omega arith)

pub decoded_short : (source text bytes : Bytes) → text ≡ without_blanks source → text ≡ encode_of standard bytes → length bytes ≤ length source
decoded_short source text bytes is e =
    let same = ap length (sym e ∙ is) in
    omega (arith, encoded_long bytes, fewer (λ byte. not (is_blank byte)) source)
