-- What is read of a text from a place on, in the words of the machine that reads it.
use Rattle.std.specs.Prelude.{◌≡◌, ◌≤◌, ℕ, ◌+◌, Bool, true, false, ⊤, List, [], ◌∷◌, length, drop, Option, None, Result, MatchResult, IsUtf8}
use Rattle.std.specs.Option.{option_map}
use Rattle.std.specs.Str.{IsCharBoundary}
use Rattle.def_script.specs.Bytes.{Bytes}
use Rattle.def_text.specs.declared.TextFault.{TextFault}
use Rattle.def_text.specs.declared.TextFault.TheVariants.{TooLong, Syntax, TooDeep, Memory}
use Rattle.def_text.specs.Token.{Token, word, offset, tokens_from}
use Rattle.def_text.specs.Refusal.{MOST_BYTES}
use Rattle.def_text.specs.Scaffolding.Reader.{State, step, is_deep, Outcome, syntax_outcome, deep_outcome, next_outcome, outcome}

-- a place of a text that may be read: a character begins there, or the text ends
pub record IsPlace (text : Bytes) (at : ℕ) : Type 0 where
  pub utf8 : IsUtf8 text
  pub short : length text ≤ MOST_BYTES
  pub boundary : IsCharBoundary text at

-- the tokens from a place on
abbrev pub rest : Bytes → ℕ → List Token
rest text at = tokens_from at (drop at text)

-- what the machine answers from a place on
abbrev pub machine_from : State → Bytes → (at : ℕ) → Outcome
machine_from s text at = outcome s (rest text at)

-- the same behind the name of a fragment
abbrev pub machine_behind : Option State → (name : ℕ) → Bytes → (at : ℕ) → Outcome
machine_behind o name text at = next_outcome false name o (λ s. machine_from s text at)

-- a fault is the machine's answer
abbrev pub Refused : Outcome → TextFault → Type 0
Refused o (Syntax at) = o ≡ syntax_outcome at
Refused o (TooDeep at) = o ≡ deep_outcome at
Refused o TooLong = ⊥
Refused o Memory = ⊤

-- what was read is what the machine reads, and a fault is its answer
abbrev pub Answers : {A : Type 0} → Outcome → Result A TextFault → (A → Outcome) → Type 0
Answers o r next = MatchResult r (λ x. o ≡ next x) (Refused o)

-- a state goes on at some tokens alone, by what they hold
pub record Takes {A : Type 0} (read : Token → Option A) (s : State) (next : A → State) : Type 0 where
  pub shallow : (t : Token) → is_deep s t ≡ false
  pub steps : (t : Token) → step s t ≡ option_map next (read t)

-- what a word holds
abbrev pub word_read : {A : Type 0} → (value : Bytes → Option A) → Token → Option A
word_read value (word a w) = value w
word_read value t = None

abbrev pub is_word : Token → Bool
is_word (word a w) = true
is_word t = false

-- the tokens begin with one that is no word, at this place
pub record NoWord (ts : List Token) (at : ℕ) : Type 0 where
  pub token : Token
  pub later : List Token
  pub is : ts ≡ token ∷ later
  pub there : offset token ≡ at
  pub other : is_word token ≡ false

-- a word stands at a place, or none where it is empty
abbrev pub FirstWord : Bytes → (at : ℕ) → (w : Bytes) → Type 0
FirstWord text at [] = NoWord (rest text at) at
FirstWord text at (b ∷ w) = rest text at ≡ word at (b ∷ w) ∷ rest text (at + length (b ∷ w))
