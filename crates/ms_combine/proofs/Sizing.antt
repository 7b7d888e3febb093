-- The texts of the lines of a source have no more bytes than it.
use Rattle.std.proofs.Common.{◌≡◌, ℕ, suc, ◌+◌, ◌*◌, ◌/◌, ◌≤◌, ◌==◌, not, nat_lt, Bool, true, false, cond, List, [], ◌∷◌, length, length-append, replicate, filter, refl, sym, ap, subst, ◌∙◌, arith}
use Rattle.std.proofs.lemmas.List.Filters.{length-filter_both}
use Rattle.base64.specs.Engines.{standard}
use Rattle.base64.specs.GeneralPurpose.{encode_of}
use Rattle.base64.specs.Rfc4648.{encode_symbols, padding_len}
use Rattle.base64.proofs.RoundTrip.{length-encode_symbols}
use Rattle.def_script.specs.Bytes.{Bytes}
use Rattle.def_psbt.specs.Source.{is_blank, without_blanks}
use Rattle.def_combine.specs.Combine.{LF, byte_before, lines, lines_from}
use Rattle.ms_combine.specs.Scaffolding.Kept.{texts_size}

abbrev total : List Bytes → ℕ
total [] = 0
total (line ∷ ls) = length line + total ls

one_more : (byte : ℕ) (ls : List Bytes) → total (byte_before byte ls) ≤ suc (total ls)
one_more byte [] = omega arith
one_more byte (line ∷ ls) = omega arith

lines_size : (bytes : Bytes) → total (lines bytes) ≤ length bytes
unfolding lines
lines_size [] = omega arith
lines_size (byte ∷ bytes) = go (byte == LF) (lines_size bytes) (one_more byte (lines bytes))
  where
    go : (b : Bool) → total (lines bytes) ≤ length bytes → total (byte_before byte (lines bytes)) ≤ suc (total (lines bytes))
        → total (cond b ([] ∷ lines bytes) (byte_before byte (lines bytes))) ≤ suc (length bytes)
    go true rest more = omega (arith, rest)
    go false rest more = omega (arith, rest, more)

texts_total : (number : ℕ) (ls : List Bytes) → texts_size (lines_from number ls) ≤ total ls
unfolding lines_from
texts_total number [] = omega arith
texts_total number (line ∷ ls) =
    go (nat_lt 0 (length (without_blanks line))) (texts_total (number + 1) ls) (length-filter_both (λ byte. not (is_blank byte)) (λ byte. not (not (is_blank byte))) (λ byte. refl) line)
  where
    go : (b : Bool) → texts_size (lines_from (number + 1) ls) ≤ total ls
        → length (without_blanks line) + length (filter (λ byte. not (not (is_blank byte))) line) ≡ length line
        → texts_size (cond b (record { number = number; text = without_blanks line } ∷ lines_from (number + 1) ls) (lines_from (number + 1) ls)) ≤ length line + total ls
    go true rest few = omega (arith, rest, few)
    go false rest few = omega (arith, rest)

pub source_size : (source : Bytes) → texts_size (lines_from 1 (lines source)) ≤ length source
source_size source = let ls = lines_size source in let texts = texts_total 1 (lines source) in omega (arith, ls, texts)

-- ---- what base64 gives isn't longer than its text

pub encoded_long : (text bytes : Bytes) → text ≡ encode_of standard bytes → length bytes ≤ length text
encoded_long text bytes e =
    let long : length (encode_of standard bytes) ≡ length (encode_symbols standard.encode_table bytes) + length (replicate (padding_len (length bytes)) 61) =
    length-append (encode_symbols standard.encode_table bytes) (replicate (padding_len (length bytes)) 61) in
    let symbols : length (encode_symbols standard.encode_table bytes) ≡ (4 * length bytes + 2) / 3 = length-encode_symbols standard.encode_table bytes in
    subst (λ (n : ℕ). length bytes ≤ n) (sym (ap length e ∙ long)) (omega arith)
