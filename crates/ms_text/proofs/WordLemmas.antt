-- What words of hexadecimal digits are decoded to.
use Rattle.std.proofs.Common.{◌≡◌, ℕ, ◌*◌, List, length, Some, None, Result, Ok, Err, MatchResult, sym, ◌∙◌, subst, arith}
use Rattle.hex.specs.Hex.{decode_of, decode_sized}
use Rattle.hex.specs.declared.error.FromHexError.{FromHexError}
use Rattle.hex.proofs.HexLemmas.{decode_of-ok, decode_sized-ok, decode_sized-twice}
use Rattle.def_script.specs.Bytes.{Bytes}
use Rattle.ms_text.specs.Scaffolding.Words.{DecodesTo}

decoded_by : (n : ℕ) (w : Bytes) (bytes : List ℕ) → decode_sized w n ≡ Ok bytes → DecodesTo n w (Some bytes)
decoded_by n w bytes h =
    let twice = decode_sized-ok w n bytes h in
    let e : decode_of w ≡ Ok bytes = sym (decode_sized-twice w n twice) ∙ h in
    let all = decode_of-ok w bytes e in
    (e, omega (arith, twice, all.2), all.3)

pub decoded_ok : (n : ℕ) (w : Bytes) (d : Result (List ℕ) FromHexError) (r : Result Unit FromHexError) (out : List ℕ) → decode_sized w n ≡ d →
    MatchResult d (λ bytes. (r ≡ Ok tt) × (out ≡ bytes)) (λ e. r ≡ Err e) → r ≡ Ok tt → DecodesTo n w (Some out)
decoded_ok n w (Ok bytes) r out h m is = subst (λ b. DecodesTo n w (Some b)) (sym m.1) (decoded_by n w bytes h)
decoded_ok n w (Err e) r out h m is = absurd (cc)

pub decoded_err : (n : ℕ) (w : Bytes) (d : Result (List ℕ) FromHexError) (r : Result Unit FromHexError) (out : List ℕ) (e : FromHexError) → decode_sized w n ≡ d →
    MatchResult d (λ bytes. (r ≡ Ok tt) × (out ≡ bytes)) (λ e. r ≡ Err e) → r ≡ Err e → DecodesTo n w None
decoded_err n w (Ok bytes) r out e h m is = let clash : Ok tt ≡ Err e = sym m.0 ∙ is in absurd (cc)
decoded_err n w (Err f) r out e h m is = λ bytes k same.
    let all = decode_of-ok w bytes k in
    let twice : length w ≡ 2 * n = omega (arith, all.2, same) in
    let clash : Err f ≡ Ok bytes = sym h ∙ (decode_sized-twice w n twice ∙ k) in
    cc
