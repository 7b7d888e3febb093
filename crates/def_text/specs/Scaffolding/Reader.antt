-- A device of proofs, and nothing that has to be believed: a machine that reads a text, one token at a time. The
-- laws of this crate are proved over it, and a reader's proof may stand on it: what it answers to a text is what
-- `Spells` and the refusals say of the text.
use Rattle.std.specs.Prelude.{ℕ, ◌+◌, ◌==◌, nat_lt, Bool, true, false, List, [], ◌∷◌, ◌++◌, length, codes, Option, Some, None, if◌then◌else◌}
use Rattle.std.specs.Option.{option_and_then, option_map}
use Rattle.std.specs.Str.{bytes_eq}
use Rattle.def_script.specs.Bytes.{Bytes}
use Rattle.def_hash.specs.declared.HashKind.{HashKind}
use Rattle.def_hash.specs.declared.HashKind.TheVariants.{Sha256, Hash256, Ripemd160, Hash160}
use Rattle.def_tree.specs.declared.Wrapper.TheVariants.{A, S, C, D, V, J, N}
use Rattle.def_tree.specs.declared.Two.{Two}
use Rattle.def_tree.specs.declared.Two.TheVariants.{AndV, AndB, OrB, OrC, OrD, OrI}
use Rattle.def_tree.specs.Tree.{Key, Tree, Trees, just_0, just_1, pk_k, pk_h, older, after, hash, and_or, two, thresh, multi, wrap, none, more}
use Rattle.def_text.specs.Token.{Token, word, opening, closing, comma, colon, other, end, offset}
use Rattle.def_text.specs.Word.{key_of, number_of, hash_of, hash_name, two_name}
use Rattle.def_text.specs.Letter.{Letter, letter_of_wrapper, letter_t, letter_l, letter_u, letter_byte, letter_tree}
use Rattle.def_text.specs.Refusal.{MOST_WRITTEN_DEPTH}

-- ---- words

-- a fragment whose argument is one word
pub data Leaf : Type 0 where
  leaf_pk_k leaf_pk_h leaf_pk leaf_pkh leaf_older leaf_after : Leaf
  leaf_hash : (kind : HashKind) → Leaf

-- a fragment of two children
pub data Pair : Type 0 where
  pair_two : (kind : Two) → Pair
  pair_and_n : Pair

-- a fragment
pub data Form : Type 0 where
  form_0 form_1 : Form
  form_leaf : (leaf : Leaf) → Form
  form_andor : Form
  form_pair : (pair : Pair) → Form
  form_thresh form_multi : Form

abbrev pub leaf_name : Leaf → Bytes
leaf_name leaf_pk_k = codes "pk_k"
leaf_name leaf_pk_h = codes "pk_h"
leaf_name leaf_pk = codes "pk"
leaf_name leaf_pkh = codes "pkh"
leaf_name leaf_older = codes "older"
leaf_name leaf_after = codes "after"
leaf_name (leaf_hash kind) = hash_name kind

abbrev pub pair_name : Pair → Bytes
pair_name (pair_two kind) = two_name kind
pair_name pair_and_n = codes "and_n"

abbrev pub form_name : Form → Bytes
form_name form_0 = codes "0"
form_name form_1 = codes "1"
form_name (form_leaf leaf) = leaf_name leaf
form_name form_andor = codes "andor"
form_name (form_pair pair) = pair_name pair
form_name form_thresh = codes "thresh"
form_name form_multi = codes "multi"

-- all fragments, in the order of their names
abbrev pub FORMS : List Form
FORMS =
    form_0 ∷ form_1
    ∷ form_leaf leaf_pk_k ∷ form_leaf leaf_pk_h ∷ form_leaf leaf_pk ∷ form_leaf leaf_pkh
    ∷ form_leaf leaf_older ∷ form_leaf leaf_after
    ∷ form_leaf (leaf_hash Sha256) ∷ form_leaf (leaf_hash Hash256)
    ∷ form_leaf (leaf_hash Ripemd160) ∷ form_leaf (leaf_hash Hash160)
    ∷ form_andor ∷ form_pair (pair_two AndV) ∷ form_pair (pair_two AndB) ∷ form_pair pair_and_n
    ∷ form_pair (pair_two OrB) ∷ form_pair (pair_two OrC) ∷ form_pair (pair_two OrD) ∷ form_pair (pair_two OrI)
    ∷ form_thresh ∷ form_multi ∷ []

-- the first of some fragments that a word names
abbrev pub first_named : Bytes → List Form → Option Form
first_named w [] = None
first_named w (form ∷ forms) = if bytes_eq w (form_name form) then Some form else first_named w forms

abbrev pub LETTERS : List Letter
LETTERS =
    letter_of_wrapper A ∷ letter_of_wrapper S ∷ letter_of_wrapper C ∷ letter_of_wrapper D ∷ letter_of_wrapper V
    ∷ letter_of_wrapper J ∷ letter_of_wrapper N ∷ letter_t ∷ letter_l ∷ letter_u ∷ []

-- the first of some letters that a byte spells
abbrev pub first_letter : ℕ → List Letter → Option Letter
first_letter b [] = None
first_letter b (letter ∷ letters) = if b == letter_byte letter then Some letter else first_letter b letters

-- the letters of a word, where it has no other bytes
abbrev pub letters_of : Bytes → Option (List Letter)
letters_of [] = Some []
letters_of (b ∷ w) =
    option_and_then (λ letter. option_map (λ letters. letter ∷ letters) (letters_of w)) (first_letter b LETTERS)

-- what a word is where an expression may begin
pub data Head : Type 0 where
  named : (form : Form) → Head
  run : (letter : Letter) → (letters : List Letter) → Head
  neither : Head

abbrev pub head_from : Option (List Letter) → Option Form → Head
head_from (Some (letter ∷ letters)) form = run letter letters
head_from (Some []) form = neither
head_from None (Some form) = named form
head_from None None = neither

abbrev pub head_of : Bytes → Head
head_of w = head_from (letters_of w) (first_named w FORMS)

-- ---- states

-- the tree of a fragment whose argument is a word
abbrev pub leaf_of : Leaf → Bytes → Option Tree
leaf_of leaf_pk_k w = option_map pk_k (key_of w)
leaf_of leaf_pk_h w = option_map pk_h (key_of w)
leaf_of leaf_pk w = option_map (λ key. wrap C (pk_k key)) (key_of w)
leaf_of leaf_pkh w = option_map (λ key. wrap C (pk_h key)) (key_of w)
leaf_of leaf_older w = option_map older (number_of w)
leaf_of leaf_after w = option_map after (number_of w)
leaf_of (leaf_hash kind) w = option_map (hash kind) (hash_of kind w)

abbrev pub leaf_offsets : Leaf → ℕ → List ℕ
leaf_offsets leaf_pk a = a ∷ a ∷ []
leaf_offsets leaf_pkh a = a ∷ a ∷ []
leaf_offsets leaf a = a ∷ []

abbrev pub pair_tree : Pair → Tree → Tree → Tree
pair_tree (pair_two kind) x y = two kind x y
pair_tree pair_and_n x y = and_or x y just_0

abbrev pub pair_offsets : Pair → ℕ → List ℕ
pair_offsets (pair_two kind) a = a ∷ []
pair_offsets pair_and_n a = a ∷ a ∷ []

-- the offsets of the nodes that a letter adds before its expression, and behind it
abbrev pub offsets_before : Letter → ℕ → List ℕ
offsets_before letter_l a = a ∷ []
offsets_before letter a = []

abbrev pub offsets_behind : Letter → ℕ → List ℕ
offsets_behind letter_t a = a ∷ a ∷ []
offsets_behind letter_u a = a ∷ a ∷ []
offsets_behind letter a = a ∷ []

-- one list of trees, and then another
abbrev pub joined : Trees → Trees → Trees
joined none ys = ys
joined (more x xs) ys = more x (joined xs ys)

-- what is wanted next
pub data Want : Type 0 where
  -- an expression or its fragment
  expression : Want
  -- the colon behind letters
  colon_next : Want
  -- the rest of a fragment whose argument is one word
  leaf_open : (leaf : Leaf) → Want
  leaf_word : (leaf : Leaf) → Want
  leaf_close : (x : Tree) → Want
  -- the parenthesis behind `andor`, and behind a fragment of two children
  andor_open : (at : ℕ) → Want
  pair_open : (pair : Pair) → (at : ℕ) → Want
  -- what stands before the children of `thresh`
  thresh_open : (at : ℕ) → Want
  thresh_number : (at : ℕ) → Want
  thresh_comma : (k : ℕ) → (at : ℕ) → Want
  -- the rest of `multi`
  multi_open : Want
  multi_number : Want
  multi_comma : (k : ℕ) → Want
  multi_key : (k : ℕ) → (keys : List Key) → Want
  multi_next : (k : ℕ) → (keys : List Key) → Want
  -- an expression has been read: what follows it
  ended : (x : Tree) → Want
  -- the text has been read
  finished : (x : Tree) → Want

-- what waits for an expression to end
pub data Frame : Type 0 where
  letter_frame : (letter : Letter) → (at : ℕ) → Frame
  andor_first : (at : ℕ) → Frame
  andor_second : (x : Tree) → (at : ℕ) → Frame
  andor_third : (x y : Tree) → (at : ℕ) → Frame
  pair_first : (pair : Pair) → (at : ℕ) → Frame
  pair_second : (pair : Pair) → (x : Tree) → (at : ℕ) → Frame
  thresh_child : (k : ℕ) → (xs : Trees) → (at : ℕ) → Frame

-- what is wanted, what waits, innermost first, and the offsets of the nodes so far
abbrev pub State : Type 0
State = Want × List Frame × List ℕ

abbrev pub START : State
START = (expression, [], [])

abbrev pub to : Want → List Frame → List ℕ → Option State
to want frames offsets = Some (want, frames, offsets)

-- ---- one token

abbrev pub begin_form : Form → ℕ → List Frame → List ℕ → Option State
begin_form form_0 a fs os = to (ended just_0) fs (os ++ a ∷ [])
begin_form form_1 a fs os = to (ended just_1) fs (os ++ a ∷ [])
begin_form (form_leaf leaf) a fs os = to (leaf_open leaf) fs (os ++ leaf_offsets leaf a)
begin_form form_andor a fs os = to (andor_open a) fs os
begin_form (form_pair pair) a fs os = to (pair_open pair a) fs os
begin_form form_thresh a fs os = to (thresh_open a) fs os
begin_form form_multi a fs os = to multi_open fs (os ++ a ∷ [])

-- what waits behind a run of letters, and the offsets so far
abbrev pub run_frames : ℕ → List Letter → List Frame → List Frame
run_frames a [] fs = fs
run_frames a (letter ∷ letters) fs = run_frames (a + 1) letters (letter_frame letter a ∷ fs)

abbrev pub run_offsets : ℕ → List Letter → List ℕ → List ℕ
run_offsets a [] os = os
run_offsets a (letter ∷ letters) os = run_offsets (a + 1) letters (os ++ offsets_before letter a)

abbrev pub begin : Head → ℕ → List Frame → List ℕ → Option State
begin (named form) a fs os = begin_form form a fs os
begin (run letter letters) a fs os =
    to colon_next (run_frames a (letter ∷ letters) fs) (run_offsets a (letter ∷ letters) os)
begin neither a fs os = None

abbrev pub step_word : Want → ℕ → Bytes → List Frame → List ℕ → Option State
step_word expression a w fs os = begin (head_of w) a fs os
step_word (leaf_word leaf) a w fs os = option_map (λ x. (leaf_close x, fs, os)) (leaf_of leaf w)
step_word (thresh_number at) a w fs os = option_map (λ k. (thresh_comma k at, fs, os)) (number_of w)
step_word multi_number a w fs os = option_map (λ k. (multi_comma k, fs, os)) (number_of w)
step_word (multi_key k keys) a w fs os = option_map (λ key. (multi_next k (keys ++ key ∷ []), fs, os)) (key_of w)
step_word want a w fs os = None

abbrev pub step_opening : Want → List Frame → List ℕ → Option State
step_opening (leaf_open leaf) fs os = to (leaf_word leaf) fs os
step_opening (andor_open a) fs os = to expression (andor_first a ∷ fs) os
step_opening (pair_open pair a) fs os = to expression (pair_first pair a ∷ fs) os
step_opening (thresh_open a) fs os = to (thresh_number a) fs os
step_opening multi_open fs os = to multi_number fs os
step_opening want fs os = None

-- a comma, and `)`, behind an expression
abbrev pub comma_behind : Tree → List Frame → List ℕ → Option State
comma_behind x [] os = None
comma_behind x (letter_frame letter a ∷ fs) os =
    comma_behind (letter_tree letter x) fs (os ++ offsets_behind letter a)
comma_behind x (andor_first a ∷ fs) os = to expression (andor_second x a ∷ fs) os
comma_behind x (andor_second y a ∷ fs) os = to expression (andor_third y x a ∷ fs) os
comma_behind x (andor_third y z a ∷ fs) os = None
comma_behind x (pair_first pair a ∷ fs) os = to expression (pair_second pair x a ∷ fs) os
comma_behind x (pair_second pair y a ∷ fs) os = None
comma_behind x (thresh_child k xs a ∷ fs) os = to expression (thresh_child k (joined xs (more x none)) a ∷ fs) os

abbrev pub closing_behind : Tree → List Frame → List ℕ → Option State
closing_behind x [] os = None
closing_behind x (letter_frame letter a ∷ fs) os =
    closing_behind (letter_tree letter x) fs (os ++ offsets_behind letter a)
closing_behind x (andor_first a ∷ fs) os = None
closing_behind x (andor_second y a ∷ fs) os = None
closing_behind x (andor_third y z a ∷ fs) os = to (ended (and_or y z x)) fs (os ++ a ∷ [])
closing_behind x (pair_first pair a ∷ fs) os = None
closing_behind x (pair_second pair y a ∷ fs) os = to (ended (pair_tree pair y x)) fs (os ++ pair_offsets pair a)
closing_behind x (thresh_child k xs a ∷ fs) os = to (ended (thresh k (joined xs (more x none)))) fs (os ++ a ∷ [])

-- the end behind an expression
abbrev pub end_behind : Tree → List Frame → List ℕ → Option State
end_behind x [] os = to (finished x) [] os
end_behind x (letter_frame letter a ∷ fs) os =
    end_behind (letter_tree letter x) fs (os ++ offsets_behind letter a)
end_behind x (frame ∷ fs) os = None

abbrev pub step_closing : Want → List Frame → List ℕ → Option State
step_closing (leaf_close x) fs os = to (ended x) fs os
step_closing (multi_next k keys) fs os = to (ended (multi k keys)) fs os
step_closing (ended x) fs os = closing_behind x fs os
step_closing want fs os = None

abbrev pub step_comma : Want → List Frame → List ℕ → Option State
step_comma (thresh_comma k a) fs os = to expression (thresh_child k none a ∷ fs) os
step_comma (multi_comma k) fs os = to (multi_key k []) fs os
step_comma (multi_next k keys) fs os = to (multi_key k keys) fs os
step_comma (ended x) fs os = comma_behind x fs os
step_comma want fs os = None

abbrev pub step_colon : Want → List Frame → List ℕ → Option State
step_colon colon_next fs os = to expression fs os
step_colon want fs os = None

abbrev pub step_end : Want → List Frame → List ℕ → Option State
step_end (ended x) fs os = end_behind x fs os
step_end want fs os = None

-- the next state, where the token can stand there
abbrev pub step : State → Token → Option State
step (want, fs, os) (word a w) = step_word want a w fs os
step (want, fs, os) (opening a) = step_opening want fs os
step (want, fs, os) (closing a) = step_closing want fs os
step (want, fs, os) (comma a) = step_comma want fs os
step (want, fs, os) (colon a) = step_colon want fs os
step (want, fs, os) (other a) = None
step (want, fs, os) (end a) = step_end want fs os

-- ---- all tokens

-- the state behind some tokens, where they can stand there
abbrev pub behind : State → List Token → Option State
behind s [] = Some s
behind s (t ∷ ts) = option_and_then (λ next. behind next ts) (step s t)

-- what a word adds to the depth: each frame counts as one already
abbrev pub head_levels : Head → ℕ
head_levels (named form) = 1
head_levels (run letter letters) = length (letter ∷ letters)
head_levels neither = 0

-- whether a name or a run of letters is too deep behind so many frames
abbrev pub is_deep_head : Head → (depth : ℕ) → Bool
is_deep_head (named form) depth = nat_lt MOST_WRITTEN_DEPTH (depth + head_levels (named form))
is_deep_head (run letter letters) depth = nat_lt MOST_WRITTEN_DEPTH (depth + head_levels (run letter letters))
is_deep_head neither depth = false

abbrev pub is_deep_word : Want → Bytes → List Frame → Bool
is_deep_word expression w fs = is_deep_head (head_of w) (length fs)
is_deep_word want w fs = false

-- whether a token is too deep
abbrev pub is_deep : State → Token → Bool
is_deep (want, fs, os) (word a w) = is_deep_word want w fs
is_deep s t = false

-- what a text answers
pub data Outcome : Type 0 where
  tree_outcome : (x : Tree) → (offsets : List ℕ) → Outcome
  syntax_outcome : (at : ℕ) → Outcome
  deep_outcome : (at : ℕ) → Outcome

abbrev pub last_outcome : Want → List ℕ → Outcome
last_outcome (finished x) os = tree_outcome x os
last_outcome want os = syntax_outcome 0

abbrev pub next_outcome : Bool → ℕ → Option State → (State → Outcome) → Outcome
next_outcome true a next go = deep_outcome a
next_outcome false a None go = syntax_outcome a
next_outcome false a (Some next) go = go next

-- what the tokens answer from a state on
abbrev pub outcome : State → List Token → Outcome
outcome (want, fs, os) [] = last_outcome want os
outcome s (t ∷ ts) = next_outcome (is_deep s t) (offset t) (step s t) (λ next. outcome next ts)
