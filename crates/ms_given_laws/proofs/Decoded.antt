-- What base64 gives consists of bytes, and is no longer; and so what a source gives.
use Rattle.std.proofs.Common.{◌≡◌, ℕ, zero, suc, ◌+◌, ◌-◌, ◌*◌, ◌/◌, ◌%◌, ◌<◌, ◌≤◌, nat_lt, true, not, [], ◌∷◌, length, drop, replicate, slice_index, Option, None, Result, Ok, Err, ◌⊎◌, inl, inr, ◌∙◌, sym, refl, ap, subst, arith}
use Rattle.std.proofs.lemmas.Bool.{cases_Bool, ltb-false, eq-eqb}
use Rattle.std.proofs.lemmas.List.Filters.{length-filter_both}
use Rattle.std.proofs.lemmas.List.{length-append, length-drop, get_or-drop}
use Rattle.base64.specs.declared.decode.DecodeError.{DecodeError}
use Rattle.base64.specs.Rfc4648.{encode_symbols, padding_len}
use Rattle.base64.specs.Decode.{IsDecodeTable, decode_group, or_else, symbol_error, group_error, group_bytes, groups_error, groups_bytes, groups_before_last, lone_error, decode_error, decoded_bytes, decode_outcome, no_leftover, scan_last, scan_bytes, suffix_bytes}
use Rattle.base64.specs.Tables.{is_inverse}
use Rattle.base64.specs.Engines.{standard}
use Rattle.base64.specs.GeneralPurpose.{decode_of, encode_of}
use Rattle.base64.proofs.Tables.{IsDecodeTable_from, are_tables_inverse}
use Rattle.base64.proofs.Canonical.{IsScanned-scan}
use Rattle.base64.proofs.RoundTrip.{length-encode_symbols}
use Rattle.base64.proofs.EngineFacts.{decode_of_strict}
use Rattle.def_script.specs.Bytes.{Bytes, IsBytes}
use Rattle.def_psbt.specs.Map.{Psbt}
use Rattle.def_psbt.specs.Reading.{read_psbt}
use Rattle.def_psbt.specs.Source.{MAX_SOURCE_SIZE, has_magic, is_blank, without_blanks, decoded, psbt_bytes, psbt_of}
use Rattle.ms_given_laws.proofs.BytesOf.{none, more, both, taken, kept}

-- ---- groups of symbols

group : (a b c d : ℕ) → a < 64 → b < 64 → c < 64 → d < 64 → IsBytes (decode_group a b c d)
group a b c d p q r s =
    let third = more (c % 4 * 64 + d) [] (omega arith) none in
    let second = more (b % 16 * 16 + c / 4) ((c % 4 * 64 + d) ∷ []) (omega arith) third in
    more (a * 4 + b / 16) ((b % 16 * 16 + c / 4) ∷ (c % 4 * 64 + d) ∷ []) (omega arith) second

or_none : (x y : Option DecodeError) → or_else x y ≡ None → (x ≡ None) × (y ≡ None)
or_none x y h = grind arith

symbol : (dec s : Bytes) (i : ℕ) → IsDecodeTable dec → IsBytes s → symbol_error dec s i ≡ None → slice_index dec (slice_index s i) < 64
symbol dec s i table bytes h =
    elim (table (slice_index s i) (bytes i)) [
      | inl bad ↦ (let is = eq-eqb _ 255 bad in absurd (cc (rw is at h)))
      | inr good ↦ good
    ]

groups : (dec s : Bytes) (q : ℕ) → IsDecodeTable dec → IsBytes s → groups_error dec s q ≡ None → IsBytes (groups_bytes dec s q)
unfolding groups_error groups_bytes
groups dec s zero table bytes h = none
groups dec s (suc q) table bytes h =
    let i : ℕ = 4 * q in
    let p = or_none (groups_error dec s q) (group_error dec s i) h in
    let p0 = or_none (symbol_error dec s i) _ p.1 in
    let p1 = or_none (symbol_error dec s (i + 1)) _ p0.1 in
    let p2 = or_none (symbol_error dec s (i + 2)) (symbol_error dec s (i + 3)) p1.1 in
    both (groups_bytes dec s q) (group_bytes dec s i) (groups dec s q table bytes p.0)
    (group _ _ _ _ (symbol dec s i table bytes p0.0) (symbol dec s (i + 1) table bytes p1.0) (symbol dec s (i + 2) table bytes p2.0) (symbol dec s (i + 3) table bytes p2.1))

zeros_below : (k : ℕ) → slice_index (0 ∷ 0 ∷ 0 ∷ 0 ∷ []) k < 64
zeros_below zero = omega arith
zeros_below (suc zero) = omega arith
zeros_below (suc (suc zero)) = omega arith
zeros_below (suc (suc (suc zero))) = omega arith
zeros_below (suc (suc (suc (suc k)))) = omega arith

-- the last symbols
suffix : (enc dec s : Bytes) (pad at : ℕ) → is_inverse enc dec ≡ true → IsBytes s → length s ≤ at + 4 → IsBytes (suffix_bytes dec pad at s)
suffix enc dec s pad at inv bytes short =
    elim (scan_last dec pad at s) as (λ r. scan_last dec pad at s ≡ r → IsBytes (scan_bytes r)) [
      | Err e ↦ λ is. none
      | Ok st ↦ λ is.
          let rest : Bytes = drop at s in
          let long : length rest ≡ length s - at = length-drop at s in
          let rest_bytes : (k : ℕ) → slice_index rest k < 256 = λ k. rw (get_or-drop at s k 0) (bytes (at + k)) in
          let held = IsScanned-scan enc dec rest pad at rest no_leftover st 0 inv rest_bytes (omega arith) (omega arith) refl
          ((refl, refl, λ j lt. absurd (omega arith), λ j low lt. absurd (omega arith)), (omega arith, omega arith, omega arith, zeros_below)) is in
          let small = held.1.3 in
          taken (st.morsels_count * 6 / 8) _ (group _ _ _ _ (small 0) (small 1) (small 2) (small 3))
    ] refl

-- ---- what is decoded

decoded_is_bytes : (s b : Bytes) → IsBytes s → decode_of standard s ≡ Ok b → IsBytes b
decoded_is_bytes s b bytes h =
    let dec : Bytes = standard.decode_table in
    let inv = are_tables_inverse standard.encode_table dec standard.padding.value standard.tables in
    let o = outcome (decode_error dec standard.padding.value standard.config.decode_allow_trailing_bits standard.config.decode_padding_mode s)
    (decoded_bytes dec standard.padding.value s) h in
    let q : ℕ = groups_before_last (length s) in
    let e = or_none (lone_error dec standard.padding.value s) _ o.0 in
    let g = or_none (groups_error dec s q) _ e.1 in
    subst IsBytes o.1
    (both (groups_bytes dec s q) (suffix_bytes dec standard.padding.value (4 * q) s)
    (groups dec s q (IsDecodeTable_from standard.encode_table dec inv) bytes g.0)
    (suffix standard.encode_table dec s standard.padding.value (4 * q) inv bytes (omega arith)))
  where
    outcome : (x : Option DecodeError) (d : Bytes) → decode_outcome x d ≡ Ok b → (x ≡ None) × (d ≡ b)
    outcome x d h = grind arith

decoded_is_shorter : (s b : Bytes) → IsBytes s → decode_of standard s ≡ Ok b → length b ≤ length s
decoded_is_shorter s b bytes h =
    let same = decode_of_strict standard s b (refl, refl) bytes h in
    let long : length s ≡ length (encode_of standard b) = ap length same in
    let both = length-append (encode_symbols standard.encode_table b) (replicate (padding_len (length b)) standard.padding.value) in
    let symbols = length-encode_symbols standard.encode_table b in
    omega (arith, long, both, symbols)

-- ---- the bytes of a source

-- the bytes of the PSBT that a source gives
pub record Begins (bytes : Bytes) (psbt : Psbt) : Type 0 where
  pub fits : IsBytes bytes
  pub short : length bytes ≤ MAX_SOURCE_SIZE
  pub magic : has_magic bytes ≡ true
  pub read : read_psbt bytes ≡ Ok psbt

told : (r : Result Bytes DecodeError) (bytes : Bytes) → decoded r ≡ Ok bytes → (r ≡ Ok bytes) × (has_magic bytes ≡ true)
told (Err fault) bytes e = absurd cc
told (Ok b) bytes e = elim (cases_Bool (has_magic b)) [
  | inl is ↦ (let same : b ≡ bytes = cc (rw is at e) in (ap Ok same, ap has_magic (sym same) ∙ is))
  | inr other ↦ (let no = rw other at e in absurd cc)
]

-- the bytes are the source's, or what its base64 gives
bytes_are : (source bytes : Bytes) → psbt_bytes source ≡ Ok bytes
    → (length source ≤ MAX_SOURCE_SIZE) × (has_magic bytes ≡ true) × ((source ≡ bytes) ⊎ (decode_of standard (without_blanks source) ≡ Ok bytes))
unfolding psbt_bytes
bytes_are source bytes e = elim (cases_Bool (nat_lt MAX_SOURCE_SIZE (length source))) [
  | inl big ↦ (let no = rw big at e in absurd cc)
  | inr small ↦ elim (cases_Bool (has_magic source)) [
    | inl is ↦ (let same : source ≡ bytes = cc (rw (small, is) at e) in (ltb-false _ _ small, ap has_magic (sym same) ∙ is, inl same))
    | inr other ↦ (let t = told (decode_of standard (without_blanks source)) bytes (rw (small, other) at e) in (ltb-false _ _ small, t.1, inr t.0))
  ]
]

pub from_source : (source : Bytes) (psbt : Psbt) → IsBytes source → psbt_of source ≡ Ok psbt → (bytes : Bytes) × Begins bytes psbt
unfolding psbt_of
from_source source psbt fits e =
    let b : (bytes : Bytes) × (psbt_bytes source ≡ Ok bytes) × (read_psbt bytes ≡ Ok psbt) = grind arith in
    let are = bytes_are source b.0 b.1 in
    elim are.2 [
      | inl same ↦ (source, record { fits = fits; short = are.0; magic = ap has_magic same ∙ are.1; read = ap read_psbt same ∙ b.2 })
      | inr is ↦
          let blanks = kept (λ byte. not (is_blank byte)) source fits in
          let few = length-filter_both (λ byte. not (is_blank byte)) (λ byte. not (not (is_blank byte))) (λ byte. refl) source in
          let less = decoded_is_shorter (without_blanks source) b.0 blanks is in
          (b.0, record { fits = decoded_is_bytes (without_blanks source) b.0 blanks is; short = omega (arith, few, less, are.0); magic = are.1; read = b.2 })
    ]
