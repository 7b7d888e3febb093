-- The question that a line is: a JSON object (RFC 8259), read as files are.
use Rattle.std.specs.Prelude.{ℕ, ◌&&◌, ◌==◌, not, nat_le, nat_lt, Bool, if◌then◌else◌, List, [], codes, length, map, Option, Some, None, unwrap_or, option_and_then, option_map}
use Rattle.std.specs.List.{list_all}
use Rattle.serde_json.specs.Data.{Data, null, boolean, number, string, array, object}
use Rattle.serde_json.specs.Find.{get, as_array, as_str, as_u64}
use Rattle.def_script.specs.Bytes.{Bytes}
use Rattle.def_files.specs.Json.{reading, is_object, elements_of}
use Rattle.def_files.specs.Parts.{is_text}
use Rattle.def_lines.specs.declared.Part.TheVariants as part
use Rattle.def_lines.specs.declared.LineFault.{LineFault}
use Rattle.def_lines.specs.declared.LineFault.TheVariants as fault

-- how many bytes a line may have
abbrev pub MOST_LINE : ℕ
MOST_LINE = 1048576

-- the greatest number that an id may be: that of which JavaScript tells its neighbours apart, 2^53 - 1
abbrev pub MOST_ID : ℕ
MOST_ID = 9007199254740991

-- how many characters an id may have
abbrev pub MOST_ID_LENGTH : ℕ
MOST_ID_LENGTH = 256

-- an id, by which whoever asks tells the answer
pub data Id : Type 0 where
  whole : (n : ℕ) → Id
  text : (characters : Bytes) → Id

-- what a line asks, or why it is no question. Its id is told as far as it was read
pub data Line : Type 0 where
  asks : (id : Option Id) → (words : List Bytes) → (source : Bytes) → Line
  refused : (id : Option Id) → (fault : LineFault) → Line

-- ---- members

-- from space to `~`, and neither `"` nor `\`: a character that JSON writes as it is
abbrev pub is_plain : ℕ → Bool
is_plain c = nat_le 32 c && nat_le c 126 && not (c == 34) && not (c == 92)

abbrev pub id_number : Option ℕ → Option Id
id_number None = None
id_number (Some n) = if nat_le n MOST_ID then Some (whole n) else None

abbrev pub id_text : Bytes → Option Id
id_text t = if nat_le (length t) MOST_ID_LENGTH && list_all is_plain t then Some (text t) else None

-- the id that a value is, where it is one: a whole number, or a string
abbrev pub id_in : Data → Option Id
id_in null = None
id_in (boolean b) = None
id_in (number n) = id_number (as_u64 n)
id_in (string t) = id_text t
id_in (array ds) = None
id_in (object ms) = None

-- of a member that may be missing, where it is none of another kind
abbrev pub told_id : Option Data → Option (Option Id)
told_id None = Some None
told_id (Some d) = option_map (λ id. Some id) (id_in d)

-- the text that a string is
abbrev pub text_in : Data → Bytes
text_in d = unwrap_or (as_str d) []

-- the strings that elements are, where each is one
abbrev pub texts_in : (elements : List Data) → Option (List Bytes)
texts_in elements = if list_all is_text elements then Some (map text_in elements) else None

abbrev pub told_words : Option Data → Option (List Bytes)
told_words None = None
told_words (Some d) = option_and_then texts_in (option_map elements_of (as_array d))

-- a missing source is empty
abbrev pub told_source : Option Data → Option Bytes
told_source None = Some []
told_source (Some d) = as_str d

-- ---- lines

abbrev pub with_source : (id : Option Id) → (words : List Bytes) → (source : Option Bytes) → Line
with_source id words None = refused id (fault.Shape part.Source)
with_source id words (Some source) = asks id words source

abbrev pub with_words : (id : Option Id) → (words : Option (List Bytes)) → (source : Option Bytes) → Line
with_words id None source = refused id (fault.Shape part.Words)
with_words id (Some words) source = with_source id words source

abbrev pub with_id : (id : Option (Option Id)) → (words : Option (List Bytes)) → (source : Option Bytes) → Line
with_id None words source = refused None (fault.Shape part.Id)
with_id (Some id) words source = with_words id words source

-- other members are passed over, and of those with one name the last counts
abbrev pub line_in : Data → Line
line_in d =
    if is_object d
    then with_id (told_id (get (codes "id") d)) (told_words (get (codes "words") d)) (told_source (get (codes "source") d))
    else refused None (fault.Shape part.Line)

abbrev pub line_read : Option Data → Line
line_read None = refused None fault.NotJson
line_read (Some d) = line_in d

unfoldable pub line_of : Bytes → Line
line_of line = if nat_lt MOST_LINE (length line) then refused None fault.TooLong else line_read (reading line)

-- the id that a line tells
abbrev pub id_told : Line → Option Id
id_told (asks id words source) = id
id_told (refused id fault) = id
