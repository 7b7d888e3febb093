-- The words that `msat-descriptor` takes: `check D`, `derive [--testnet or --regtest] [--branch B] D INDEX [COUNT]`, and `update D COUNT`.
use Rattle.std.specs.Prelude.{ℕ, ◌+◌, ◌-◌, ◌&&◌, nat_le, if◌then◌else◌, List, [], ◌∷◌, codes, Option, Some, None}
use Rattle.std.specs.Option.{option_map, option_and_then}
use Rattle.std.specs.Str.{bytes_eq}
use Rattle.def_script.specs.Bytes.{Bytes}
use Rattle.def_text.specs.Word.{number_of}
use Rattle.def_address.specs.declared.Network.{Network}
use Rattle.def_address.specs.declared.Network.TheVariants.{Test, Regtest}
use Rattle.def_descriptor.specs.Steps.{HARDENED}

-- what is derived: on a network, where an option names one, at a branch, of a text, from an index on, at so many indices
pub record Derivation : Type 0 where
  pub network : Option Network
  pub branch : ℕ
  pub text : Bytes
  pub index : ℕ
  pub count : ℕ

pub data Command : Type 0 where
  -- what a descriptor is, and whether its condition is sane
  check : (text : Bytes) → Command
  -- what it gives
  derive : (derivation : Derivation) → Command
  -- a PSBT with what it says of the indices below a count
  update : (text : Bytes) → (count : ℕ) → Command

-- ---- numbers: decimal, without a leading zero

-- the greatest number of a branch
abbrev pub MOST_BRANCH : ℕ
MOST_BRANCH = 15

-- the most indices
abbrev pub MOST_COUNT : ℕ
MOST_COUNT = 10000

-- a number from the least on up to the most
abbrev pub number_in : (least most : ℕ) → (word : Bytes) → Option ℕ
number_in least most word = option_and_then (λ n. if nat_le least n && nat_le n most then Some n else None) (number_of word)

abbrev pub branch_in : (word : Bytes) → Option ℕ
branch_in word = number_in 0 MOST_BRANCH word

abbrev pub count_in : (word : Bytes) → Option ℕ
count_in word = number_in 1 MOST_COUNT word

-- an index is below 2 ^ 31
abbrev pub index_in : (word : Bytes) → Option ℕ
index_in word = number_in 0 (HARDENED - 1) word

-- ---- `INDEX [COUNT]`

-- from an index on, so many of them
pub record Span : Type 0 where
  pub index : ℕ
  pub count : ℕ

-- the last index is below 2 ^ 31 too
abbrev pub span_by : (index count : Option ℕ) → Option Span
span_by (Some index) (Some count) = if nat_le (index + count) HARDENED then Some (record { index = index; count = count }) else None
span_by (Some index) None = None
span_by None count = None

abbrev pub span_of : List Bytes → Option Span
span_of [] = None
span_of (index ∷ []) = span_by (index_in index) (Some 1)
span_of (index ∷ count ∷ []) = span_by (index_in index) (count_in count)
span_of (index ∷ count ∷ other ∷ words) = None

-- ---- the words of `derive`: a word in an option's place that is one is taken for it

abbrev pub derivation : Option Network → (branch : ℕ) → (text : Bytes) → Span → Command
derivation network branch text span =
    derive (record { network = network; branch = branch; text = text; index = span.index; count = span.count })

abbrev pub text_and_span : Option Network → (branch : ℕ) → List Bytes → Option Command
text_and_span network branch [] = None
text_and_span network branch (text ∷ words) = option_map (derivation network branch text) (span_of words)

-- behind `--branch`
abbrev pub behind_branch : Option Network → List Bytes → Option Command
behind_branch network [] = None
behind_branch network (branch ∷ words) = option_and_then (λ n. text_and_span network n words) (branch_in branch)

-- without it the branch is 0
abbrev pub behind_network : Option Network → List Bytes → Option Command
behind_network network [] = None
behind_network network (word ∷ words) =
    if bytes_eq word (codes "--branch") then behind_branch network words else text_and_span network 0 (word ∷ words)

abbrev pub derive_of : List Bytes → Option Command
derive_of [] = None
derive_of (word ∷ words) =
    if bytes_eq word (codes "--testnet") then behind_network (Some Test) words
    else if bytes_eq word (codes "--regtest") then behind_network (Some Regtest) words
    else behind_network None (word ∷ words)

-- ---- the words of a command

abbrev pub check_of : List Bytes → Option Command
check_of [] = None
check_of (text ∷ []) = Some (check text)
check_of (text ∷ other ∷ words) = None

abbrev pub update_of : List Bytes → Option Command
update_of [] = None
update_of (text ∷ []) = None
update_of (text ∷ count ∷ []) = option_map (update text) (count_in count)
update_of (text ∷ count ∷ other ∷ words) = None

-- what a list of words asks, where it has a form
abbrev pub command_of : List Bytes → Option Command
command_of [] = None
command_of (name ∷ words) =
    if bytes_eq name (codes "check") then check_of words
    else if bytes_eq name (codes "derive") then derive_of words
    else if bytes_eq name (codes "update") then update_of words
    else None
