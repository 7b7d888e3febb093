-- A file as JSON (RFC 8259), and what stands in it.
use Rattle.std.specs.Prelude.{ℕ, ◌^◌, nat_lt, Bool, false, is_some, if◌then◌else◌, List, [], ◌∷◌, codes, Option, Some, None, option_and_then, option_map}
use Rattle.std.specs.List.{list_all}
use Rattle.std.specs.Result.{result_ok}
use Rattle.std.specs.Str.{is_utf8}
use Rattle.hex.specs.Hex.{decode_of}
use Rattle.serde_json.specs.Data.{Data, Items, no_items, item}
use Rattle.serde_json.specs.Read.{read}
use Rattle.serde_json.specs.Find.{get, as_array, as_number, as_object, as_str, as_u64}
use Rattle.def_script.specs.Bytes.{Bytes}
use Rattle.def_files.specs.declared.Member.{Member}
use Rattle.def_files.specs.declared.Member.TheVariants as member

-- the value of a file, as the crate `serde_json` reads it: it nests at most 127 deep, and of members with
-- one name the last stays. Bytes that aren't UTF-8 have none
abbrev pub reading : Bytes → Option Data
reading bytes = if is_utf8 bytes then read bytes else None

abbrev pub is_object : Data → Bool
is_object d = is_some (as_object d)

-- the name of a member, in files and in reports; in reports the file as a whole has one too
abbrev pub member_name : Member → Bytes
member_name member.Whole = codes "file"
member_name member.Version = codes "version"
member_name member.Sequence = codes "sequence"
member_name member.Locktime = codes "locktime"
member_name member.Signatures = codes "signatures"
member_name member.Preimages = codes "preimages"
member_name member.Script = codes "script"
member_name member.Witness = codes "witness"
member_name member.Format = codes "format"

-- a member of a file, where it is there. Unknown ones are passed over
abbrev pub find_member : Member → Data → Option Data
find_member m file = get (member_name m) file

-- the number that a value is: a whole one from 0 to 2^32 - 1, written with no fraction and no exponent
abbrev pub word_of : Option ℕ → Option ℕ
word_of None = None
word_of (Some n) = if nat_lt n (2 ^ 32) then Some n else None

abbrev pub number_of : Data → Option ℕ
number_of d = word_of (option_and_then as_u64 (as_number d))

-- the number that a member is, or the one that stands for a missing one
abbrev pub number_or : (default : ℕ) → Option Data → Option ℕ
number_or default None = Some default
number_or default (Some d) = number_of d

-- the elements of a list
abbrev pub elements_of : Items → List Data
elements_of no_items = []
elements_of (item d ds) = d ∷ elements_of ds

-- the elements of a member that is a list; a missing one is empty
abbrev pub elements_or_empty : Option Data → Option (List Data)
elements_or_empty None = Some []
elements_or_empty (Some d) = option_map elements_of (as_array d)

-- it is a list, and each of its elements is as it has to be
abbrev pub is_list_of : (right : Data → Bool) → Option (List Data) → Bool
is_list_of right None = false
is_list_of right (Some elements) = list_all right elements

-- the text that a member is
abbrev pub text_at : (name : Bytes) → Data → Option Bytes
text_at name d = option_and_then as_str (get name d)

-- the bytes that a text spells by two hexadecimal digits each, in either case
abbrev pub spelled : Option Bytes → Option Bytes
spelled None = None
spelled (Some text) = result_ok (decode_of text)
