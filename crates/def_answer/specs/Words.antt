-- The forms of words that the program takes. They are exact lists: any other one has no form.
use Rattle.std.specs.Prelude.{◌≡◌, ℕ, ◌%◌, ◌≤◌, ⊤, List, [], ◌∷◌, ◌++◌, length, All, IsSome, codes, decimal}
use Rattle.std.specs.List.{AllPass}
use Rattle.hex.specs.Hex.{is_hex_digit}
use Rattle.def_script.specs.Bytes.{Bytes}
use Rattle.def_text.specs.Word.{key_of}
use Rattle.def_sane.specs.declared.Rules.{Rules}
use Rattle.def_choice.specs.declared.choice.Choice.{Choice}
use Rattle.def_answer.specs.Satisfy.{rules_words, satisfy_words}

pub data Command : Type 0 where
  -- the Script of a text that is valid under these rules
  script : (rules : Rules) → (text : Bytes) → Command
  -- the instructions of the Script of a text that is valid under these rules, with the node that wrote each
  asm : (rules : Rules) → (text : Bytes) → Command
  -- the nodes of a text's tree, each with its type, whether or not it is sane under these rules
  outline : (rules : Rules) → (text : Bytes) → Command
  -- what is known of a text that is sane under these rules
  check : (rules : Rules) → (text : Bytes) → Command
  -- the satisfaction that is chosen so, of a text that is sane or valid under these rules, with an asset file
  satisfy : (choice : Choice) → (rules : Rules) → (text : Bytes) → Command
  -- a run of a script on a stack, with a run file
  run : Command
  -- a large text that is made from a number, and its satisfactions
  gen : (n : ℕ) → Command
  -- the abstract policy of a sane text
  policy : (text : Bytes) → Command
  -- which keys to ask for a signature for a sane text, with a plan file
  plan : (text : Bytes) → Command
  -- by which rows a stack satisfies a valid text, with a run file
  audit : (text : Bytes) → Command
  -- the trace of the run of a script on a stack, with a run file
  trace : Command
  -- the same, where the script is that of a valid text, with the node that wrote each instruction
  trace_text : (text : Bytes) → Command
  -- the text that a Script is read back as, with the keys that its hashes of keys may have
  decode : (digits : Bytes) → (keys : List Bytes) → Command

-- the words of a command
abbrev pub words_of : Command → List Bytes
words_of (script rules text) = codes "script" ∷ (rules_words rules ++ text ∷ [])
words_of (asm rules text) = codes "asm" ∷ (rules_words rules ++ text ∷ [])
words_of (outline rules text) = codes "tree" ∷ (rules_words rules ++ text ∷ [])
words_of (check rules text) = codes "check" ∷ (rules_words rules ++ text ∷ [])
words_of (satisfy choice rules text) = satisfy_words choice rules text
words_of run = codes "run" ∷ []
words_of (gen n) = codes "gen" ∷ decimal n ∷ []
words_of (policy text) = codes "policy" ∷ text ∷ []
words_of (plan text) = codes "plan" ∷ text ∷ []
words_of (audit text) = codes "audit" ∷ text ∷ []
words_of trace = codes "trace" ∷ []
words_of (trace_text text) = codes "trace" ∷ text ∷ []
words_of (decode digits keys) = codes "decode" ∷ digits ∷ keys

-- the greatest number that `gen` takes
abbrev pub MOST_GENERATED : ℕ
MOST_GENERATED = 30

-- an even number of hexadecimal digits of either case
abbrev pub IsHex : Bytes → Type 0
IsHex digits = (length digits % 2 ≡ 0) × AllPass is_hex_digit digits

-- the number of `gen` is 1 to 30, and each word after the Script of `decode` spells a key
abbrev pub IsCommand : Command → Type 0
IsCommand (script rules text) = ⊤
IsCommand (asm rules text) = ⊤
IsCommand (outline rules text) = ⊤
IsCommand (check rules text) = ⊤
IsCommand (satisfy choice rules text) = ⊤
IsCommand run = ⊤
IsCommand (gen n) = (1 ≤ n) × (n ≤ MOST_GENERATED)
IsCommand (policy text) = ⊤
IsCommand (plan text) = ⊤
IsCommand (audit text) = ⊤
IsCommand trace = ⊤
IsCommand (trace_text text) = ⊤
IsCommand (decode digits keys) = IsHex digits × All (λ word. IsSome (key_of word)) keys

-- the words are those of the command
pub record IsForm (words : List Bytes) (command : Command) : Type 0 where
  pub same : words ≡ words_of command
  pub in_range : IsCommand command

-- the words have no form
abbrev pub HasNoForm : (words : List Bytes) → Type 0
HasNoForm words = (command : Command) → ¬ IsForm words command
