-- How a key expression is read (BIP 380, "Key Expressions").
use Rattle.std.specs.Prelude.{ℕ, ◌-◌, ◌==◌, ◌&&◌, ◌||◌, nat_eq, Bool, false, if◌then◌else◌, List, [], ◌∷◌, length, take, drop, slice_index, codes, Option, Some, None, Result, Ok, Err}
use Rattle.std.specs.List.{list_any}
use Rattle.std.specs.Option.{option_or}
use Rattle.std.specs.Str.{bytes_eq}
use Rattle.def_script.specs.Bytes.{Bytes}
use Rattle.def_text.specs.Word.{digits_of, key_of}
use Rattle.def_curve.specs.Point.{Point}
use Rattle.def_curve.specs.Key.{point_of}
use Rattle.def_derive.specs.Extended.{Extended, extended_of}
use Rattle.def_descriptor.specs.declared.DescriptorFault.{DescriptorFault}
use Rattle.def_descriptor.specs.declared.DescriptorFault.TheVariants.{Syntax, Private, Key, Point as NoPoint, Network}
use Rattle.def_descriptor.specs.Token.{Token, token, is_word, starts, place, Read, and_then, behind}
use Rattle.def_descriptor.specs.Expression.{Origin, Way, branches, Named, point, extended, Expression}
use Rattle.def_descriptor.specs.Steps.{MOST_STEPS, read_steps, fits, read_ways}

-- ---- the origin

abbrev pub print_of : Bytes → Option Bytes
print_of word = digits_of (λ bytes. length bytes == 4) word

abbrev pub origin_by : (at : ℕ) → Option Bytes → List Token → Read (Option Origin)
origin_by at None ts = Err (Syntax at)
origin_by at (Some print) ts =
    and_then (read_steps MOST_STEPS ts) (λ steps rest. behind (codes "]") rest (λ end. Ok (Some (record { print = print; steps = steps }), end)))

abbrev pub read_print : List Token → Read (Option Origin)
read_print [] = Err (Syntax 0)
read_print (token at word ∷ ts) = origin_by at (print_of word) ts

-- `[`, a fingerprint of eight hexadecimal digits, steps and `]`, or nothing
abbrev pub read_origin : List Token → Read (Option Origin)
read_origin ts =
    let found = read_print (drop 1 ts) in
    if starts (codes "[") ts then found else Ok (None, ts)

-- ---- the key

-- what the keys before have fixed: the version of extended ones, and the length of each `<..>`
pub record Seen : Type 0 where
  pub version : Option ℕ
  pub length : Option ℕ

abbrev pub NOTHING_SEEN : Seen
NOTHING_SEEN = record { version = None; length = None }

-- an extended key's text has 111 digits
abbrev pub extended_word : Bytes → Option Extended
extended_word word =
    let found = extended_of word in
    if length word == 111 then found else None

-- what looks like a private key: `xprv` and the like, or 51 or 52 digits of Base58Check of one key
abbrev pub is_private : Bytes → Bool
is_private word =
    bytes_eq (take 3 (drop 1 word)) (codes "prv")
    || ((length word == 51 || length word == 52) && list_any (nat_eq (slice_index word 0)) (codes "59KLc"))

abbrev pub other_word : (at : ℕ) → Bytes → DescriptorFault
other_word at word =
    if is_private word then Private at
    else if is_word word then Key at
    else Syntax at

-- what is read of a key that has a point
abbrev pub with_point : {A : Type 0} → (at : ℕ) → Option Point → Result A DescriptorFault → Result A DescriptorFault
with_point at None found = Err (NoPoint at)
with_point at (Some own) found = found

abbrev pub ways_behind : Seen → (at : ℕ) → Extended → List Token → Read Named
ways_behind seen at key ts =
    let found : Read Named = and_then (read_ways (MOST_STEPS - key.depth) seen.length false ts) (λ ways rest. Ok (extended key ways, rest)) in
    if fits seen.version key.version then found else Err (Network at)

abbrev pub named_by : Seen → (at : ℕ) → Bytes → Option Bytes → Option Extended → List Token → Read Named
named_by seen at word (Some key) other ts = with_point at (point_of key) (Ok (point key, ts))
named_by seen at word None (Some key) ts = with_point at (point_of key.key) (ways_behind seen at key ts)
named_by seen at word None None ts = Err (other_word at word)

-- a compressed key, or an extended one of the same network as those before, with its steps
unfoldable pub read_named : Seen → List Token → Read Named
read_named seen [] = Err (Syntax 0)
read_named seen (token at word ∷ ts) = named_by seen at word (key_of word) (extended_word word) ts

-- a key expression
unfoldable pub read_key : Seen → List Token → Read Expression
read_key seen ts =
    and_then (read_origin ts) (λ origin rest.
    and_then (read_named seen rest) (λ named end. Ok (record { at = place ts; origin = origin; named = named }, end)))

-- ---- what it fixes

abbrev pub multipath_in : List Way → Option ℕ
multipath_in [] = None
multipath_in (branches numbers ∷ ways) = Some (length numbers)
multipath_in (way ∷ ways) = multipath_in ways

-- the length of the `<..>` of a key, and the version of an extended one
abbrev pub multipath_of : Named → Option ℕ
multipath_of (point key) = None
multipath_of (extended key ways) = multipath_in ways

abbrev pub version_of : Named → Option ℕ
version_of (point key) = None
version_of (extended key ways) = Some key.version

abbrev pub seen_with : Seen → Expression → Seen
seen_with seen key = record {
  version = option_or seen.version (version_of key.named);
  length = option_or seen.length (multipath_of key.named);
}
