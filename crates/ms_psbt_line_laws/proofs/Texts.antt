-- The characters of base64.
use Rattle.std.proofs.Common.{ℕ, zero, suc, ◌+◌, ◌*◌, ◌/◌, ◌%◌, ◌<◌, ◌&&◌, List, [], ◌∷◌, length, map, refl, ap, ◌∙◌, arith}
use Rattle.std.specs.Prelude.{slice_index, replicate}
use Rattle.std.specs.List.{list_all}
use Rattle.base64.specs.Rfc4648.{encode_group, encode_symbols, padding_len}
use Rattle.base64.specs.Engines.{standard}
use Rattle.base64.specs.GeneralPurpose.{encode_of}
use Rattle.def_script.specs.Bytes.{Bytes, IsBytes}
use Rattle.def_lines.specs.Laws.{is_reported}
use Rattle.def_lines.proofs.Lists.{Every}
use Rattle.ms_line_laws.proofs.Plainly.{AreReported, reported, at_place}

abbrev symbols : Bytes
symbols = standard.encode_table

-- those at places of the table
at_places : (places : List ℕ) → Every (λ i. i < 64) places → AreReported (map (λ i. slice_index symbols i) places)
at_places [] h = refl
at_places (i ∷ places) h = ap (λ a. a && list_all is_reported (map (λ i. slice_index symbols i) places)) (at_place symbols i refl h.0) ∙ at_places places h.1

symbols_reported : (bytes : Bytes) → IsBytes bytes → AreReported (encode_symbols symbols bytes)
unfolding encode_symbols
symbols_reported [] h = refl
symbols_reported (a ∷ []) h =
    let one : a < 256 = h 0 in
    at_places (a / 4 ∷ a % 4 * 16 ∷ []) (omega (arith, one), (omega arith, tt))
symbols_reported (a ∷ b ∷ []) h =
    let one : a < 256 = h 0 in
    let two : b < 256 = h 1 in
    at_places (a / 4 ∷ (a % 4 * 16 + b / 16) ∷ b % 16 * 4 ∷ []) (omega (arith, one), (omega (arith, two), (omega arith, tt)))
symbols_reported (a ∷ b ∷ c ∷ rest) h =
    let one : a < 256 = h 0 in
    let two : b < 256 = h 1 in
    let three : c < 256 = h 2 in
    reported (encode_group symbols a b c) (encode_symbols symbols rest)
    (at_places (a / 4 ∷ (a % 4 * 16 + b / 16) ∷ (b % 16 * 4 + c / 64) ∷ c % 64 ∷ [])
    (omega (arith, one), (omega (arith, two), (omega (arith, three), (omega arith, tt)))))
    (symbols_reported rest (λ i. h (suc (suc (suc i)))))

padding_reported : (n : ℕ) → AreReported (replicate n 61)
padding_reported zero = refl
padding_reported (suc n) = padding_reported n

pub base64_reported : (bytes : Bytes) → IsBytes bytes → AreReported (encode_of standard bytes)
base64_reported bytes h =
    reported (encode_symbols symbols bytes) (replicate (padding_len (length bytes)) 61) (symbols_reported bytes h) (padding_reported (padding_len (length bytes)))
