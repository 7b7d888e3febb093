-- What the tokens that come are read as.
use Rattle.std.specs.Prelude.{◌≡◌, ℕ, List, [], ◌∷◌, length, Some}
use Rattle.json.specs.Token.{Token}
use Rattle.json.specs.Json as json
use Rattle.json.specs.Json.{members, value}
use Rattle.serde_json.specs.Data.{Data, Members, no_members, object}
use Rattle.serde_json.specs.Read.{of_json, of_members, converted}
use Rattle.def_script.specs.Bytes.{Bytes}
use Rattle.def_lines.specs.Question.{Line, line_in}

-- a value, of which this holds, and then these tokens
abbrev pub Reads : (depth : ℕ) → (old new : List Token) → (Data → Type 0) → Type 0
Reads depth old new IsSo = (j : json.Json) × (d : Data) × (value depth old ≡ Some (j, new)) × (of_json j ≡ Some d) × IsSo d

-- a list of strings
abbrev pub strings : List Bytes → json.Items
strings [] = json.no_items
strings (text ∷ texts) = json.item (json.string text) (strings texts)

-- the members of an object, of which nothing stands behind the end, ask this
abbrev pub MembersAsk : (tokens : List Token) → Line → Type 0
MembersAsk tokens line =
    (found : Members) × (converted (λ ms. of_members ms no_members) (members (value 126) (length tokens) tokens) ≡ Some (found, []))
    × (line_in (object found) ≡ line)
