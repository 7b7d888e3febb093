-- Texts, files and lines for the examples. Bytes stand here as their digits.
use Rattle.std.specs.Prelude.{ℕ, List, [], ◌∷◌, ◌++◌, codes, decimal, flat_map, replicate}
use Rattle.std.specs.List.{concat}
use Rattle.std.specs.Result.{result_unwrap_or}
use Rattle.hex.specs.Hex.{encode_lower, decode_of}
use Rattle.def_hash.specs.Hash.{sha256}
use Rattle.def_script.specs.Bytes.{Bytes}
use Rattle.def_machine.specs.Samples.{key_a, key_b, key_c, sig_a, sig_b, sig_c}
use Rattle.def_satisfaction.specs.Samples.{preimage_0, preimage_1, preimage_2, preimage_3, hash_0, hash_1, hash_2, hash_3}
use Rattle.def_answer.specs.Lines.{line}

-- ---- keys, signatures, preimages and their SHA-256

abbrev pub A : Bytes
A = encode_lower key_a

abbrev pub B : Bytes
B = encode_lower key_b

abbrev pub C : Bytes
C = encode_lower key_c

abbrev pub SIG_A : Bytes
SIG_A = encode_lower sig_a

abbrev pub SIG_B : Bytes
SIG_B = encode_lower sig_b

abbrev pub SIG_C : Bytes
SIG_C = encode_lower sig_c

abbrev pub P0 : Bytes
P0 = encode_lower preimage_0

abbrev pub P1 : Bytes
P1 = encode_lower preimage_1

abbrev pub P2 : Bytes
P2 = encode_lower preimage_2

abbrev pub P3 : Bytes
P3 = encode_lower preimage_3

abbrev pub H0 : Bytes
H0 = encode_lower hash_0

abbrev pub H1 : Bytes
H1 = encode_lower hash_1

abbrev pub H2 : Bytes
H2 = encode_lower hash_2

abbrev pub H3 : Bytes
H3 = encode_lower hash_3

-- ---- texts

-- a name with its argument
abbrev pub call : (name argument : Bytes) → Bytes
call name argument = name ++ codes "(" ++ argument ++ codes ")"

abbrev pub pk : (key : Bytes) → Bytes
pk key = call (codes "pk") key

abbrev pub sha : (value : Bytes) → Bytes
sha value = call (codes "sha256") value

-- ---- files

-- texts with a comma between two
abbrev pub joined : List Bytes → Bytes
joined [] = []
joined (text ∷ []) = text
joined (text ∷ next ∷ texts) = text ++ codes "," ++ joined (next ∷ texts)

abbrev pub file : (members : List Bytes) → Bytes
file members = codes "{" ++ joined members ++ codes "}"

abbrev pub number : (name : Bytes) → (n : ℕ) → Bytes
number name n = codes "\"" ++ name ++ codes "\":" ++ decimal n

abbrev pub signature : (key sig : Bytes) → Bytes
signature key sig = codes "{\"key\":\"" ++ key ++ codes "\",\"sig\":\"" ++ sig ++ codes "\"}"

abbrev pub signatures : List Bytes → Bytes
signatures texts = codes "\"signatures\":[" ++ joined texts ++ codes "]"

abbrev pub quoted : (digits : List Bytes) → List Bytes
quoted [] = []
quoted (text ∷ texts) = (codes "\"" ++ text ++ codes "\"") ∷ quoted texts

abbrev pub strings : (name : Bytes) → (digits : List Bytes) → Bytes
strings name digits = codes "\"" ++ name ++ codes "\":[" ++ joined (quoted digits) ++ codes "]"

-- a text so many times
abbrev pub times : ℕ → Bytes → Bytes
times n text = concat (replicate n text)

-- no byte
abbrev pub nothing : Bytes
nothing = []

-- ---- reports

abbrev pub lines : List Bytes → Bytes
lines = flat_map line

-- the program of a Script
abbrev pub program : (script : Bytes) → Bytes
program script = codes "program 0020" ++ encode_lower (sha256 (result_unwrap_or (decode_of script) []))

-- the lines `script`, `program` and `limits`
abbrev pub known : (script : Bytes) → (limits : Bytes) → List Bytes
known script limits = (codes "script " ++ script) ∷ program script ∷ (codes "limits " ++ limits) ∷ []
