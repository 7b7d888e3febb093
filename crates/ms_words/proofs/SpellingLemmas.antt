-- Words of hexadecimal digits.
use Rattle.std.proofs.Common.{◌≡◌, ◌≢◌, ◌⊎◌, inl, inr, ◌%◌, ◌↔◌, IsTrue, Bool, length, Err, is_some, sym, ◌∙◌}
use Rattle.std.specs.List.{list_all}
use Rattle.std.proofs.lemmas.List.Sums.{AllPass-from_list_all, list_all-from_AllPass}
use Rattle.hex.specs.declared.error.FromHexError.{FromHexError}
use Rattle.hex.specs.declared.error.FromHexError.TheVariants.{OutOfMemory}
use Rattle.hex.specs.Hex.{is_hex_digit, decode_of}
use Rattle.hex.proofs.HexLemmas.{decode_of-digits}
use Rattle.def_script.specs.Bytes.{Bytes}
use Rattle.def_text.specs.Word.{key_of}
use Rattle.def_answer.specs.Words.{IsHex}

-- ---- a Script

pub digits_tell : (digits : Bytes) (b : Bool) → length digits % 2 ≡ 0 → b ≡ list_all is_hex_digit digits → IsTrue b ↔ IsHex digits
digits_tell digits b even e =
    (λ t. (even, AllPass-from_list_all is_hex_digit digits (sym e ∙ t)), λ h. e ∙ list_all-from_AllPass is_hex_digit digits h.1)

-- digits of which there is an even number are decoded
pub no_fault : (digits : Bytes) (e : FromHexError) → IsHex digits → e ≢ OutOfMemory → (e ≡ OutOfMemory) ⊎ (decode_of digits ≡ Err e) → ⊥
no_fault digits e hex known (inl is) = known is
no_fault digits e hex known (inr is) = let found = decode_of-digits digits hex.0 hex.1 in cc (sym is ∙ found.1)

-- ---- keys

abbrev pub spells : Bytes → Bool
spells word = is_some (key_of word)
