-- What each state of the machine makes of the next token.
use Rattle.std.proofs.Common.{◌≡◌, ℕ, Bool, true, false, List, [], ◌∷◌, ◌++◌, Option, Some, None, refl}
use Rattle.std.specs.Option.{option_map}
use Rattle.def_script.specs.Bytes.{Bytes}
use Rattle.def_tree.specs.Tree as model
use Rattle.def_text.specs.Token.{Token, word, opening, closing, comma, colon, other, end}
use Rattle.def_text.specs.Word.{key_of, number_of}
use Rattle.def_text.specs.Scaffolding.Reader.{Leaf, leaf_of, Pair, pair_tree, pair_offsets, joined, Want, expression, colon_next, leaf_open, leaf_word, leaf_close, andor_open, pair_open, thresh_open, thresh_number, thresh_comma, multi_open, multi_number, multi_comma, multi_key, multi_next, ended, finished, Frame, andor_first, andor_second, andor_third, pair_first, pair_second, thresh_child, State, step, is_deep, is_deep_word}
use Rattle.ms_text.specs.declared.tokens.Mark.TheVariants as mark
use Rattle.ms_text.specs.declared.tokens.Separator.{Separator}
use Rattle.ms_text.specs.declared.tokens.Separator.TheVariants as separator
use Rattle.ms_text.specs.Scaffolding.Marks.{mark_read, separator_read}
use Rattle.ms_text.specs.Scaffolding.Place.{Takes, word_read}

-- no token is too deep but where an expression may begin
abbrev is_within : Want → Bool
is_within expression = false
is_within want = true

quiet_word : (want : Want) (w : Bytes) (fs : List Frame) → is_within want ≡ true → is_deep_word want w fs ≡ false
quiet_word expression w fs h = absurd (cc)
quiet_word want w fs h = refl

quiet : (want : Want) (fs : List Frame) (os : List ℕ) → is_within want ≡ true → (t : Token) → is_deep (want, fs, os) t ≡ false
quiet want fs os h (word a w) = quiet_word want w fs h
quiet want fs os h t = refl

-- a state takes what is read alone, where it goes on so at each kind of token
takes : {A : Type 0} (read : Token → Option A) (want : Want) (fs : List Frame) (os : List ℕ) (next : A → State) → is_within want ≡ true
    → ((a : ℕ) (w : Bytes) → step (want, fs, os) (word a w) ≡ option_map next (read (word a w)))
    → ((a : ℕ) → step (want, fs, os) (opening a) ≡ option_map next (read (opening a)))
    → ((a : ℕ) → step (want, fs, os) (closing a) ≡ option_map next (read (closing a)))
    → ((a : ℕ) → step (want, fs, os) (comma a) ≡ option_map next (read (comma a)))
    → ((a : ℕ) → step (want, fs, os) (colon a) ≡ option_map next (read (colon a)))
    → ((a : ℕ) → step (want, fs, os) (other a) ≡ option_map next (read (other a)))
    → ((a : ℕ) → step (want, fs, os) (end a) ≡ option_map next (read (end a)))
    → Takes read (want, fs, os) next
takes read want fs os next within words openings closings commas colons others ends =
    record { shallow = quiet want fs os within; steps = at_each }
  where
    at_each : (t : Token) → step (want, fs, os) t ≡ option_map next (read t)
    at_each (word a w) = words a w
    at_each (opening a) = openings a
    at_each (closing a) = closings a
    at_each (comma a) = commas a
    at_each (colon a) = colons a
    at_each (other a) = others a
    at_each (end a) = ends a

-- what stands behind a child of `thresh`, and behind a key of `multi`
abbrev pub child_next : (k : ℕ) → model.Trees → (at : ℕ) → List Frame → List ℕ → Separator → State
child_next k xs a fs os separator.Comma = (expression, thresh_child k xs a ∷ fs, os)
child_next k xs a fs os separator.Close = (ended (model.thresh k xs), fs, os ++ a ∷ [])

abbrev pub key_next : (k : ℕ) → List model.Key → List Frame → List ℕ → Separator → State
key_next k keys fs os separator.Comma = (multi_key k keys, fs, os)
key_next k keys fs os separator.Close = (ended (model.multi k keys), fs, os)

pub takes_colon_next : (fs : List Frame) (os : List ℕ) → Takes (mark_read mark.Colon) (colon_next, fs, os) (λ u. (expression, fs, os))
takes_colon_next fs os = takes _ colon_next fs os _ refl (λ a w. refl) (λ a. refl) (λ a. refl) (λ a. refl) (λ a. refl) (λ a. refl) (λ a. refl)

pub takes_leaf_open : (leaf : Leaf) (fs : List Frame) (os : List ℕ) → Takes (mark_read mark.Open) (leaf_open leaf, fs, os) (λ u. (leaf_word leaf, fs, os))
takes_leaf_open leaf fs os = takes _ (leaf_open leaf) fs os _ refl (λ a w. refl) (λ a. refl) (λ a. refl) (λ a. refl) (λ a. refl) (λ a. refl) (λ a. refl)

pub takes_leaf_word : (leaf : Leaf) (fs : List Frame) (os : List ℕ) → Takes (word_read (leaf_of leaf)) (leaf_word leaf, fs, os) (λ x. (leaf_close x, fs, os))
takes_leaf_word leaf fs os = takes _ (leaf_word leaf) fs os _ refl (λ a w. refl) (λ a. refl) (λ a. refl) (λ a. refl) (λ a. refl) (λ a. refl) (λ a. refl)

pub takes_leaf_close : (x : model.Tree) (fs : List Frame) (os : List ℕ) → Takes (mark_read mark.Close) (leaf_close x, fs, os) (λ u. (ended x, fs, os))
takes_leaf_close x fs os = takes _ (leaf_close x) fs os _ refl (λ a w. refl) (λ a. refl) (λ a. refl) (λ a. refl) (λ a. refl) (λ a. refl) (λ a. refl)

pub takes_andor_open : (a : ℕ) (fs : List Frame) (os : List ℕ) → Takes (mark_read mark.Open) (andor_open a, fs, os) (λ u. (expression, andor_first a ∷ fs, os))
takes_andor_open a fs os = takes _ (andor_open a) fs os _ refl (λ a w. refl) (λ a. refl) (λ a. refl) (λ a. refl) (λ a. refl) (λ a. refl) (λ a. refl)

pub takes_andor_first : (x : model.Tree) (a : ℕ) (fs : List Frame) (os : List ℕ) → Takes (mark_read mark.Comma) (ended x, andor_first a ∷ fs, os) (λ u. (expression, andor_second x a ∷ fs, os))
takes_andor_first x a fs os = takes _ (ended x) (andor_first a ∷ fs) os _ refl (λ a w. refl) (λ a. refl) (λ a. refl) (λ a. refl) (λ a. refl) (λ a. refl) (λ a. refl)

pub takes_andor_second : (y x : model.Tree) (a : ℕ) (fs : List Frame) (os : List ℕ) → Takes (mark_read mark.Comma) (ended x, andor_second y a ∷ fs, os) (λ u. (expression, andor_third y x a ∷ fs, os))
takes_andor_second y x a fs os = takes _ (ended x) (andor_second y a ∷ fs) os _ refl (λ a w. refl) (λ a. refl) (λ a. refl) (λ a. refl) (λ a. refl) (λ a. refl) (λ a. refl)

pub takes_andor_third : (y z x : model.Tree) (a : ℕ) (fs : List Frame) (os : List ℕ)
    → Takes (mark_read mark.Close) (ended x, andor_third y z a ∷ fs, os) (λ u. (ended (model.and_or y z x), fs, os ++ a ∷ []))
takes_andor_third y z x a fs os = takes _ (ended x) (andor_third y z a ∷ fs) os _ refl (λ a w. refl) (λ a. refl) (λ a. refl) (λ a. refl) (λ a. refl) (λ a. refl) (λ a. refl)

pub takes_pair_open : (pair : Pair) (a : ℕ) (fs : List Frame) (os : List ℕ) → Takes (mark_read mark.Open) (pair_open pair a, fs, os) (λ u. (expression, pair_first pair a ∷ fs, os))
takes_pair_open pair a fs os = takes _ (pair_open pair a) fs os _ refl (λ a w. refl) (λ a. refl) (λ a. refl) (λ a. refl) (λ a. refl) (λ a. refl) (λ a. refl)

pub takes_pair_first : (pair : Pair) (x : model.Tree) (a : ℕ) (fs : List Frame) (os : List ℕ)
    → Takes (mark_read mark.Comma) (ended x, pair_first pair a ∷ fs, os) (λ u. (expression, pair_second pair x a ∷ fs, os))
takes_pair_first pair x a fs os = takes _ (ended x) (pair_first pair a ∷ fs) os _ refl (λ a w. refl) (λ a. refl) (λ a. refl) (λ a. refl) (λ a. refl) (λ a. refl) (λ a. refl)

pub takes_pair_second : (pair : Pair) (y x : model.Tree) (a : ℕ) (fs : List Frame) (os : List ℕ)
    → Takes (mark_read mark.Close) (ended x, pair_second pair y a ∷ fs, os) (λ u. (ended (pair_tree pair y x), fs, os ++ pair_offsets pair a))
takes_pair_second pair y x a fs os = takes _ (ended x) (pair_second pair y a ∷ fs) os _ refl (λ a w. refl) (λ a. refl) (λ a. refl) (λ a. refl) (λ a. refl) (λ a. refl) (λ a. refl)

pub takes_thresh_open : (a : ℕ) (fs : List Frame) (os : List ℕ) → Takes (mark_read mark.Open) (thresh_open a, fs, os) (λ u. (thresh_number a, fs, os))
takes_thresh_open a fs os = takes _ (thresh_open a) fs os _ refl (λ a w. refl) (λ a. refl) (λ a. refl) (λ a. refl) (λ a. refl) (λ a. refl) (λ a. refl)

pub takes_thresh_number : (a : ℕ) (fs : List Frame) (os : List ℕ) → Takes (word_read number_of) (thresh_number a, fs, os) (λ k. (thresh_comma k a, fs, os))
takes_thresh_number a fs os = takes _ (thresh_number a) fs os _ refl (λ a w. refl) (λ a. refl) (λ a. refl) (λ a. refl) (λ a. refl) (λ a. refl) (λ a. refl)

pub takes_thresh_comma : (k a : ℕ) (fs : List Frame) (os : List ℕ) → Takes (mark_read mark.Comma) (thresh_comma k a, fs, os) (λ u. (expression, thresh_child k model.none a ∷ fs, os))
takes_thresh_comma k a fs os = takes _ (thresh_comma k a) fs os _ refl (λ a w. refl) (λ a. refl) (λ a. refl) (λ a. refl) (λ a. refl) (λ a. refl) (λ a. refl)

pub takes_thresh_child : (k : ℕ) (xs : model.Trees) (x : model.Tree) (a : ℕ) (fs : List Frame) (os : List ℕ)
    → Takes separator_read (ended x, thresh_child k xs a ∷ fs, os) (child_next k (joined xs (model.more x model.none)) a fs os)
takes_thresh_child k xs x a fs os = takes _ (ended x) (thresh_child k xs a ∷ fs) os _ refl (λ a w. refl) (λ a. refl) (λ a. refl) (λ a. refl) (λ a. refl) (λ a. refl) (λ a. refl)

pub takes_multi_open : (fs : List Frame) (os : List ℕ) → Takes (mark_read mark.Open) (multi_open, fs, os) (λ u. (multi_number, fs, os))
takes_multi_open fs os = takes _ multi_open fs os _ refl (λ a w. refl) (λ a. refl) (λ a. refl) (λ a. refl) (λ a. refl) (λ a. refl) (λ a. refl)

pub takes_multi_number : (fs : List Frame) (os : List ℕ) → Takes (word_read number_of) (multi_number, fs, os) (λ k. (multi_comma k, fs, os))
takes_multi_number fs os = takes _ multi_number fs os _ refl (λ a w. refl) (λ a. refl) (λ a. refl) (λ a. refl) (λ a. refl) (λ a. refl) (λ a. refl)

pub takes_multi_comma : (k : ℕ) (fs : List Frame) (os : List ℕ) → Takes (mark_read mark.Comma) (multi_comma k, fs, os) (λ u. (multi_key k [], fs, os))
takes_multi_comma k fs os = takes _ (multi_comma k) fs os _ refl (λ a w. refl) (λ a. refl) (λ a. refl) (λ a. refl) (λ a. refl) (λ a. refl) (λ a. refl)

pub takes_multi_key : (k : ℕ) (keys : List model.Key) (fs : List Frame) (os : List ℕ) → Takes (word_read key_of) (multi_key k keys, fs, os) (λ key. (multi_next k (keys ++ key ∷ []), fs, os))
takes_multi_key k keys fs os = takes _ (multi_key k keys) fs os _ refl (λ a w. refl) (λ a. refl) (λ a. refl) (λ a. refl) (λ a. refl) (λ a. refl) (λ a. refl)

pub takes_multi_next : (k : ℕ) (keys : List model.Key) (fs : List Frame) (os : List ℕ) → Takes separator_read (multi_next k keys, fs, os) (key_next k keys fs os)
takes_multi_next k keys fs os = takes _ (multi_next k keys) fs os _ refl (λ a w. refl) (λ a. refl) (λ a. refl) (λ a. refl) (λ a. refl) (λ a. refl) (λ a. refl)

-- the end of a text, behind an expression that nothing waits for
abbrev pub end_read : Token → Option Unit
end_read (end a) = Some tt
end_read t = None

pub takes_end : (x : model.Tree) (os : List ℕ) → Takes end_read (ended x, [], os) (λ u. (finished x, [], os))
takes_end x os = takes _ (ended x) [] os _ refl (λ a w. refl) (λ a. refl) (λ a. refl) (λ a. refl) (λ a. refl) (λ a. refl) (λ a. refl)
