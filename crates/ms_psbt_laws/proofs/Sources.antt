-- What is written, in either form, is a source of what was written.
use Rattle.std.proofs.Common.{◌≡◌, ℕ, zero, suc, ◌+◌, ◌*◌, ◌/◌, ◌%◌, ◌≤◌, nat_lt, false, not, cond, List, [], ◌∷◌, ◌++◌, length, replicate, slice_index, Result, Ok, inl, inr, refl, ap, ◌∙◌}
use Rattle.std.specs.List.{AllByRecursion}
use Rattle.std.proofs.lemmas.Bool.{le-ltb, cases_lt, not-true}
use Rattle.std.proofs.lemmas.List.{get_or_past}
use Rattle.base64.specs.Rfc4648.{encode_group, encode_symbols, padding_len}
use Rattle.base64.specs.Engines.{standard}
use Rattle.base64.specs.GeneralPurpose.{encode_of}
use Rattle.base64.proofs.Tables.{all_below_at}
use Rattle.base64.proofs.EngineFacts.{decode_of-encode_of}
use Rattle.def_script.specs.Bytes.{Bytes, IsBytes}
use Rattle.def_psbt.specs.declared.Refusal.{Refusal}
use Rattle.def_psbt.specs.Map.{Map, Psbt, magic, psbt_text}
use Rattle.def_psbt.specs.Reading.{◌>>=◌, read_psbt}
use Rattle.def_psbt.specs.Source.{MAX_SOURCE_SIZE, has_magic, is_blank, without_blanks, psbt_bytes, psbt_of}
use Rattle.def_answer.specs.Lines.{line}
use Rattle.def_psbt_answer.specs.declared.words.Form.{Form}
use Rattle.def_psbt_answer.specs.Report.{in_form}
use Rattle.def_psbt_answer.specs.declared.words.Form.TheVariants as form
use Rattle.def_psbt_answer.specs.Reply.{form_of}

-- ---- no symbol is blank

abbrev SYMBOLS : Bytes
SYMBOLS = standard.encode_table

symbol : (i : ℕ) → is_blank (slice_index SYMBOLS i) ≡ false
symbol i =
    elim (cases_lt i 64) [
      | inl low ↦ not-true _ (all_below_at (λ k. not (is_blank (slice_index SYMBOLS k))) 64 i refl low)
      | inr high ↦ ap is_blank (get_or_past SYMBOLS i 0 high)
    ]

-- no byte is blank
abbrev AreFull : Bytes → Type 0
AreFull xs = AllByRecursion (λ byte. is_blank byte ≡ false) xs

full_both : (xs ys : Bytes) → AreFull xs → AreFull ys → AreFull (xs ++ ys)
full_both [] ys h k = k
full_both (x ∷ xs) ys h k = (h.0, full_both xs ys h.1 k)

full_symbols : (m : Bytes) → AreFull (encode_symbols SYMBOLS m)
unfolding encode_symbols
full_symbols [] = tt
full_symbols (a ∷ []) = (symbol (a / 4), (symbol (a % 4 * 16), tt))
full_symbols (a ∷ b ∷ []) = (symbol (a / 4), (symbol (a % 4 * 16 + b / 16), (symbol (b % 16 * 4), tt)))
full_symbols (a ∷ b ∷ c ∷ rest) =
    full_both (encode_group SYMBOLS a b c) (encode_symbols SYMBOLS rest) (symbol (a / 4), (symbol (a % 4 * 16 + b / 16), (symbol (b % 16 * 4 + c / 64), (symbol (c % 64), tt)))) (full_symbols rest)

full_padding : (n : ℕ) → AreFull (replicate n 61)
full_padding zero = tt
full_padding (suc n) = (refl, full_padding n)

kept_full : (xs : Bytes) → AreFull xs → without_blanks (xs ++ 0x0a ∷ []) ≡ xs
kept_full [] h = refl
kept_full (x ∷ xs) h = rw h.0 (ap (λ (l : Bytes). x ∷ l) (kept_full xs h.1))

-- ---- base64 of the magic begins otherwise

other_magic : (m : Bytes) → has_magic (line (encode_of standard (magic ++ m))) ≡ false
unfolding encode_symbols
other_magic m = refl

-- ---- the source

from_bytes : (m : Bytes) → length (magic ++ m) ≤ MAX_SOURCE_SIZE → psbt_bytes (magic ++ m) ≡ Ok (magic ++ m)
unfolding psbt_bytes
from_bytes m short = rw (le-ltb MAX_SOURCE_SIZE (length (magic ++ m)) short)

from_base64 : (m : Bytes) → IsBytes (magic ++ m) → length (line (encode_of standard (magic ++ m))) ≤ MAX_SOURCE_SIZE
    → psbt_bytes (line (encode_of standard (magic ++ m))) ≡ Ok (magic ++ m)
unfolding psbt_bytes
from_base64 m fits short =
    let room : nat_lt MAX_SOURCE_SIZE (length (line (encode_of standard (magic ++ m)))) ≡ false = le-ltb _ _ short in
    let full = full_both (encode_symbols SYMBOLS (magic ++ m)) (replicate (padding_len (length (magic ++ m))) 61) (full_symbols (magic ++ m)) (full_padding (padding_len (length (magic ++ m)))) in
    let blanks : without_blanks (line (encode_of standard (magic ++ m))) ≡ encode_of standard (magic ++ m) = kept_full (encode_of standard (magic ++ m)) full in
    rw (room, other_magic m, blanks, decode_of-encode_of standard (magic ++ m) refl fits)

-- in either form
pub source_back : (f : Form) (global : Map) (inputs outputs : List Map) (psbt : Psbt) → IsBytes (psbt_text global inputs outputs)
    → length (in_form f (psbt_text global inputs outputs)) ≤ MAX_SOURCE_SIZE → read_psbt (psbt_text global inputs outputs) ≡ Ok psbt
    → psbt_of (in_form f (psbt_text global inputs outputs)) ≡ Ok psbt
unfolding psbt_of
source_back form.Bytes global inputs outputs psbt fits short read =
    ap (λ (r : Result Bytes Refusal). r >>= read_psbt) (from_bytes _ short) ∙ read
source_back form.Base64 global inputs outputs psbt fits short read =
    ap (λ (r : Result Bytes Refusal). r >>= read_psbt) (from_base64 _ fits short) ∙ read

-- and it has this form
pub form_back : (f : Form) (global : Map) (inputs outputs : List Map) → form_of (in_form f (psbt_text global inputs outputs)) ≡ f
form_back form.Bytes global inputs outputs = refl
form_back form.Base64 global inputs outputs = ap (λ b. cond b form.Bytes form.Base64) (other_magic _)
