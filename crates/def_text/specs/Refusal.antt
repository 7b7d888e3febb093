-- Which texts have a tree, and why the others have none.
use Rattle.std.specs.Prelude.{◌≡◌, ℕ, ◌+◌, ◌<◌, ◌≤◌, ◌||◌, nat_eq, Bool, false, IsTrue, IsUtf8, List, [], ◌∷◌, ◌++◌, length, codes, if◌then◌else◌}
use Rattle.std.specs.List.{list_any, list_all}
use Rattle.def_script.specs.Bytes.{Bytes}
use Rattle.def_tree.specs.Tree.{Tree}
use Rattle.def_text.specs.declared.TextFault.{TextFault}
use Rattle.def_text.specs.declared.TextFault.TheVariants.{TooLong, Syntax, TooDeep, Memory}
use Rattle.def_text.specs.Token.{Token, word, opening, closing, comma, offset, tokens}
use Rattle.def_text.specs.Word.{is_fragment_name}
use Rattle.def_text.specs.Spells.{SpellsText}

-- how many bytes a text may have
abbrev pub MOST_BYTES : ℕ
MOST_BYTES = 65536

-- how deep a fragment name or a wrapper letter may stand
abbrev pub MOST_WRITTEN_DEPTH : ℕ
MOST_WRITTEN_DEPTH = 256

-- ---- the fronts of spelled texts

-- some spelled text has these tokens at its front, whatever its depth
pub record IsViable (front : List Token) : Type 0 where
  pub text : Bytes
  pub after : List Token
  pub tree : Tree
  pub offsets : List ℕ
  pub utf8 : IsUtf8 text
  pub split : tokens text ≡ front ++ after
  pub spelled : SpellsText (tokens text) tree offsets

-- an expression or its fragment may begin at an offset behind these tokens: the name `pk_k` may stand there
abbrev pub MayBegin : (before : List Token) → (at : ℕ) → Type 0
MayBegin before at = IsViable (before ++ word at (codes "pk_k") ∷ [])

-- ---- written depth

-- whether a byte is the letter of a wrapper or of sugar
abbrev pub is_letter : ℕ → Bool
is_letter b = list_any (nat_eq b) (codes "ascdvjntlu")

-- whether a word is a run of one or more letters
abbrev pub is_run : Bytes → Bool
is_run [] = false
is_run w = list_all is_letter w

-- how many levels a word begins: a name one, and a run one for each of its letters
abbrev pub levels_of : Bytes → ℕ
levels_of w = if is_fragment_name w then 1 else if is_run w then length w else 0

-- how many names and letters enclose what follows some tokens, by a count over them that knows no grammar. The
-- first number is the count so far, and behind it stands the count at each parenthesis that is open, innermost
-- first. A comma goes back to the count at its parenthesis, and `)` closes that one
abbrev pub count_step : List ℕ → Token → List ℕ
count_step (n ∷ ns) (word a w) = (n + levels_of w) ∷ ns
count_step (n ∷ ns) (opening a) = n ∷ n ∷ ns
count_step (n ∷ m ∷ ns) (comma a) = m ∷ m ∷ ns
count_step (n ∷ ns) (closing a) = ns
count_step ns t = ns

abbrev pub counts : List ℕ → List Token → List ℕ
counts ns [] = ns
counts ns (t ∷ ts) = counts (count_step ns t) ts

abbrev pub first_count : List ℕ → ℕ
first_count [] = 0
first_count (n ∷ ns) = n

abbrev pub enclosing : (before : List Token) → ℕ
enclosing before = first_count (counts (0 ∷ []) before)

-- a token is too deep behind the tokens before it: an expression or its fragment may begin there, the token is a
-- name or a run, and its written depth, those that enclose it and its own, is too great
abbrev pub IsDeep : (before : List Token) → Token → Type 0
IsDeep before (word a w) =
    MayBegin before a
    × IsTrue (is_fragment_name w || is_run w)
    × (MOST_WRITTEN_DEPTH < enclosing before + levels_of w)
IsDeep before t = ⊥

-- no token is too deep
abbrev pub NoneDeep : List Token → Type 0
NoneDeep ts =
    (before : List Token) (t : Token) (after : List Token) → ts ≡ before ++ t ∷ after → ¬ IsDeep before t

-- ---- the answers

-- a token of a text, and those before and after it
pub record Place (text : Bytes) (at : ℕ) : Type 0 where
  pub before : List Token
  pub token : Token
  pub after : List Token
  pub split : tokens text ≡ before ++ token ∷ after
  pub there : offset token ≡ at

-- the tokens before this place begin a spelled text, those up to and with the one at it begin none, and no
-- earlier token is too deep
pub record SyntaxAt (text : Bytes) (at : ℕ) : Type 0 where
  pub place : Place text at
  pub begins : IsViable place.before
  pub ends : ¬ IsViable (place.before ++ place.token ∷ [])
  pub none_deep : NoneDeep place.before

-- the token at this place is the first that is too deep, and those up to and with it begin a spelled text
pub record DeepAt (text : Bytes) (at : ℕ) : Type 0 where
  pub place : Place text at
  pub begins : IsViable (place.before ++ place.token ∷ [])
  pub deep : IsDeep place.before place.token
  pub none_deep : NoneDeep place.before

-- why a text is refused. Want of memory is no reason that lies in the text
abbrev pub TextRefusal : (text : Bytes) → TextFault → Type 0
TextRefusal text TooLong = MOST_BYTES < length text
TextRefusal text (Syntax at) = (length text ≤ MOST_BYTES) × SyntaxAt text at
TextRefusal text (TooDeep at) = (length text ≤ MOST_BYTES) × DeepAt text at
TextRefusal text Memory = ⊥

-- a text has this tree, and its nodes have these offsets
pub record TextReads (text : Bytes) (tree : Tree) (offsets : List ℕ) : Type 0 where
  pub short : length text ≤ MOST_BYTES
  pub spelled : SpellsText (tokens text) tree offsets
  pub none_deep : NoneDeep (tokens text)
