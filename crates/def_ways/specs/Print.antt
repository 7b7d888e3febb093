-- The lines of ways.
use Rattle.std.specs.Prelude.{ℕ, ◌+◌, ◌==◌, nat_lt, [], ◌∷◌, ◌++◌, length, flat_map, codes, decimal, Option, Some, None, if◌then◌else◌}
use Rattle.std.specs.List.{starts_with}
use Rattle.std.specs.Str.{str_to_ascii_lowercase}
use Rattle.hex.specs.Hex.{encode_lower}
use Rattle.def_script.specs.Bytes.{Bytes}
use Rattle.def_text.specs.Word.{hash_name}
use Rattle.def_ways.specs.declared.Delay.{Delay}
use Rattle.def_ways.specs.declared.Delay.TheVariants.{Blocks, Units}
use Rattle.def_ways.specs.declared.Moment.{Moment}
use Rattle.def_ways.specs.declared.Moment.TheVariants.{Height, Time}
use Rattle.def_ways.specs.Secret.{Secret, key, preimage}
use Rattle.def_ways.specs.Offer.{Offer, version_of, sequence_of, locktime_of}

-- the first offset at which these bytes stand in a text, or its length
abbrev pub first_at : (bytes text : Bytes) → ℕ
first_at bytes [] = 0
first_at bytes (b ∷ text) = if starts_with (λ x y. x == y) (b ∷ text) bytes then 0 else first_at bytes text + 1

-- the offset of the first digit of a key, or of a hash value where it stands first, behind the name of its function
abbrev pub offset_of : (text : Bytes) → Secret → ℕ
offset_of text (key k) = first_at (encode_lower k) (str_to_ascii_lowercase text)
offset_of text (preimage kind value) =
    first_at (hash_name kind ++ codes "(" ++ encode_lower value) (str_to_ascii_lowercase text) + length (hash_name kind) + 1

-- a word and a number, behind a space
abbrev pub field : (word : Bytes) → ℕ → Bytes
field word n = codes " " ++ word ++ codes " " ++ decimal n

abbrev pub delay_field : Option Delay → Bytes
delay_field None = []
delay_field (Some (Blocks n)) = field (codes "blocks") n
delay_field (Some (Units n)) = field (codes "units") n

abbrev pub moment_field : Option Moment → Bytes
moment_field None = []
moment_field (Some (Height n)) = field (codes "height") n
moment_field (Some (Time n)) = field (codes "time") n

abbrev pub key_field : (text : Bytes) → Secret → Bytes
key_field text (key k) = field (codes "key") (offset_of text (key k))
key_field text secret = []

abbrev pub hash_field : (text : Bytes) → Secret → Bytes
hash_field text (key k) = []
hash_field text secret = field (codes "hash") (offset_of text secret)

-- a way with its weight
unfoldable pub way_line : (text : Bytes) → Offer → (weight : ℕ) → Bytes
way_line text offer weight =
    codes "way" ++ field (codes "weight") weight ++ field (codes "version") (version_of offer.delay)
    ++ field (codes "sequence") (sequence_of offer.delay) ++ field (codes "locktime") (locktime_of offer.moment)
    ++ delay_field offer.delay ++ moment_field offer.moment
    ++ flat_map (key_field text) offer.secrets ++ flat_map (hash_field text) offer.secrets

-- the most that is printed as a number
abbrev pub MOST_COUNTED : ℕ
MOST_COUNTED = 18446744073709551615

abbrev pub count_line : ℕ → Bytes
count_line n = codes "ways " ++ (if nat_lt MOST_COUNTED n then codes "many" else decimal n)
