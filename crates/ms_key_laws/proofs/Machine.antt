-- What the reader's machine does depends on no key: its states but for their keys.
use Rattle.std.proofs.Common.{◌≡◌, ℕ, ◌+◌, Bool, true, false, List, [], ◌∷◌, ◌++◌, length, map, Option, Some, None, refl, sym, ap, ◌∙◌, arith, suc}
use Rattle.std.specs.Option.{option_map}
use Rattle.std.proofs.lemmas.List.{map-append}
use Rattle.def_script.specs.Bytes.{Bytes}
use Rattle.def_tree.specs.declared.Wrapper.TheVariants.{C}
use Rattle.def_tree.specs.Tree.{Key, Tree, Trees, pk_k, pk_h, older, after, hash, and_or, two, thresh, multi, wrap, none, more}
use Rattle.def_text.specs.Token.{Token, word, opening, closing, comma, colon, other, end}
use Rattle.def_text.specs.Word.{key_of, number_of}
use Rattle.def_text.specs.Letter.{Letter, letter_tree}
use Rattle.def_text.specs.Scaffolding.Reader.{Leaf, leaf_pk_k, leaf_pk_h, leaf_pk, leaf_pkh, leaf_older, leaf_after, leaf_hash, leaf_of, Pair, pair_two, pair_and_n, pair_tree, pair_offsets, Head, named, run, neither, head_of, Want, expression, colon_next, leaf_word, leaf_close, thresh_number, thresh_comma, multi_number, multi_comma, multi_key, multi_next, ended, finished, Frame, letter_frame, andor_second, andor_third, pair_second, thresh_child, State, joined, offsets_behind, run_frames, run_offsets, begin, comma_behind, closing_behind, end_behind, step_word, step_opening, step_closing, step_comma, step_colon, step_end, step, is_deep_head, is_deep_word, is_deep, Outcome, tree_outcome, last_outcome, next_outcome, outcome}
use Rattle.ms_key_laws.specs.WithoutKeys.{no_key, without_keys, all_without_keys}
use Rattle.ms_key_laws.proofs.Words.{ReadAlike}

-- ---- states but for their keys

abbrev want_without : Want → Want
want_without (leaf_close x) = leaf_close (without_keys x)
want_without (multi_key k keys) = multi_key k (map no_key keys)
want_without (multi_next k keys) = multi_next k (map no_key keys)
want_without (ended x) = ended (without_keys x)
want_without (finished x) = finished (without_keys x)
want_without want = want

abbrev frame_without : Frame → Frame
frame_without (andor_second x a) = andor_second (without_keys x) a
frame_without (andor_third x y a) = andor_third (without_keys x) (without_keys y) a
frame_without (pair_second pair x a) = pair_second pair (without_keys x) a
frame_without (thresh_child k xs a) = thresh_child k (all_without_keys xs) a
frame_without frame = frame

abbrev frames_without : List Frame → List Frame
frames_without [] = []
frames_without (frame ∷ fs) = frame_without frame ∷ frames_without fs

abbrev pub state_without : State → State
state_without (want, fs, os) = (want_without want, frames_without fs, os)

-- ---- twice is once

keys_once : (keys : List Key) → map no_key (map no_key keys) ≡ map no_key keys
keys_once [] = refl
keys_once (key ∷ keys) = ap (λ z. [] ∷ z) (keys_once keys)

mutual
  tree_once : (x : Tree) → without_keys (without_keys x) ≡ without_keys x
  tree_once (and_or x y z) = rw (tree_once x, tree_once y, tree_once z) refl
  tree_once (two kind x y) = rw (tree_once x, tree_once y) refl
  tree_once (thresh k xs) = ap (thresh k) (trees_once xs)
  tree_once (multi k keys) = ap (multi k) (keys_once keys)
  tree_once (wrap wrapper x) = ap (wrap wrapper) (tree_once x)
  tree_once x = refl

  trees_once : (xs : Trees) → all_without_keys (all_without_keys xs) ≡ all_without_keys xs
  trees_once none = refl
  trees_once (more x xs) = rw (tree_once x, trees_once xs) refl

frame_once : (frame : Frame) → frame_without (frame_without frame) ≡ frame_without frame
frame_once (andor_second x a) = ap (λ z. andor_second z a) (tree_once x)
frame_once (andor_third x y a) = rw (tree_once x, tree_once y) refl
frame_once (pair_second pair x a) = ap (λ z. pair_second pair z a) (tree_once x)
frame_once (thresh_child k xs a) = ap (λ z. thresh_child k z a) (trees_once xs)
frame_once frame = refl

frames_once : (fs : List Frame) → frames_without (frames_without fs) ≡ frames_without fs
frames_once [] = refl
frames_once (frame ∷ fs) = rw (frame_once frame, frames_once fs) refl

-- ---- a token that is no word

letter_without : (letter : Letter) (x : Tree) → without_keys (letter_tree letter x) ≡ letter_tree letter (without_keys x)
letter_without letter x = grind arith

joined_without : (xs : Trees) (x : Tree) → all_without_keys (joined xs (more x none)) ≡ joined (all_without_keys xs) (more (without_keys x) none)
joined_without none x = refl
joined_without (more y ys) x = ap (more (without_keys y)) (joined_without ys x)

pair_without : (pair : Pair) (x y : Tree) → without_keys (pair_tree pair x y) ≡ pair_tree pair (without_keys x) (without_keys y)
pair_without (pair_two kind) x y = refl
pair_without pair_and_n x y = refl

-- the next state, but for its keys
abbrev pub next_without : Option State → Option State
next_without = option_map state_without

comma_without : (x : Tree) (fs : List Frame) (os : List ℕ) → next_without (comma_behind x fs os) ≡ comma_behind (without_keys x) (frames_without fs) os
comma_without x [] os = refl
comma_without x (letter_frame letter a ∷ fs) os =
    comma_without (letter_tree letter x) fs (os ++ offsets_behind letter a)
    ∙ ap (λ z. comma_behind z (frames_without fs) (os ++ offsets_behind letter a)) (letter_without letter x)
comma_without x (thresh_child k xs a ∷ fs) os = ap (λ z. Some (expression, thresh_child k z a ∷ frames_without fs, os)) (joined_without xs x)
comma_without x (frame ∷ fs) os = refl

closing_without : (x : Tree) (fs : List Frame) (os : List ℕ) → next_without (closing_behind x fs os) ≡ closing_behind (without_keys x) (frames_without fs) os
closing_without x [] os = refl
closing_without x (letter_frame letter a ∷ fs) os =
    closing_without (letter_tree letter x) fs (os ++ offsets_behind letter a)
    ∙ ap (λ z. closing_behind z (frames_without fs) (os ++ offsets_behind letter a)) (letter_without letter x)
closing_without x (pair_second pair y a ∷ fs) os = ap (λ z. Some (ended z, frames_without fs, os ++ pair_offsets pair a)) (pair_without pair y x)
closing_without x (thresh_child k xs a ∷ fs) os = ap (λ z. Some (ended (thresh k z), frames_without fs, os ++ a ∷ [])) (joined_without xs x)
closing_without x (frame ∷ fs) os = refl

end_without : (x : Tree) (fs : List Frame) (os : List ℕ) → next_without (end_behind x fs os) ≡ end_behind (without_keys x) (frames_without fs) os
end_without x [] os = refl
end_without x (letter_frame letter a ∷ fs) os =
    end_without (letter_tree letter x) fs (os ++ offsets_behind letter a)
    ∙ ap (λ z. end_behind z (frames_without fs) (os ++ offsets_behind letter a)) (letter_without letter x)
end_without x (frame ∷ fs) os = refl

module _ (fs : List Frame) (os : List ℕ) where
  opening_step : (want : Want) → next_without (step_opening want fs os) ≡ step_opening (want_without want) (frames_without fs) os
  opening_step want = grind arith

  closing_step : (want : Want) → next_without (step_closing want fs os) ≡ step_closing (want_without want) (frames_without fs) os
  closing_step (ended x) = closing_without x fs os
  closing_step want = refl

  comma_step : (want : Want) → next_without (step_comma want fs os) ≡ step_comma (want_without want) (frames_without fs) os
  comma_step (ended x) = comma_without x fs os
  comma_step want = refl

  colon_step : (want : Want) → next_without (step_colon want fs os) ≡ step_colon (want_without want) (frames_without fs) os
  colon_step want = grind arith

  end_step : (want : Want) → next_without (step_end want fs os) ≡ step_end (want_without want) (frames_without fs) os
  end_step (ended x) = end_without x fs os
  end_step want = refl

-- ---- a word

run_without : (a : ℕ) (letters : List Letter) (fs : List Frame) → frames_without (run_frames a letters fs) ≡ run_frames a letters (frames_without fs)
run_without a [] fs = refl
run_without a (letter ∷ letters) fs = run_without (a + 1) letters (letter_frame letter a ∷ fs)

begin_without : (head : Head) (a : ℕ) (fs : List Frame) (os : List ℕ) → next_without (begin head a fs os) ≡ begin head a (frames_without fs) os
begin_without (named form) a fs os = grind arith
begin_without (run letter letters) a fs os =
    ap (λ z. Some (colon_next, z, run_offsets a (letter ∷ letters) os)) (run_without a (letter ∷ letters) fs)
begin_without neither a fs os = refl

-- a state that a value leads to
by_value : {A : Type 0} (f g : A → State) (o : Option A) → ((x : A) → state_without (f x) ≡ state_without (g x)) → next_without (option_map f o) ≡ next_without (option_map g o)
by_value f g None h = refl
by_value f g (Some x) h = ap Some (h x)

module _ (a : ℕ) (w : Bytes) (fs : List Frame) (os : List ℕ) where
  once : (want : Want) → state_without (want, fs, os) ≡ state_without (want, frames_without fs, os)
  once want = ap (λ z. (want_without want, z, os)) (sym (frames_once fs))

  more_keys : (keys : List Key) (key : Key) → map no_key (keys ++ key ∷ []) ≡ map no_key (map no_key keys ++ key ∷ [])
  more_keys keys key =
      map-append no_key keys (key ∷ []) ∙ (ap (λ z. z ++ [] ∷ []) (sym (keys_once keys)) ∙ sym (map-append no_key (map no_key keys) (key ∷ [])))

  word_step : (want : Want) → next_without (step_word want a w fs os) ≡ next_without (step_word (want_without want) a w (frames_without fs) os)
  word_step expression =
      begin_without (head_of w) a fs os
      ∙ sym (begin_without (head_of w) a (frames_without fs) os ∙ ap (λ z. begin (head_of w) a z os) (frames_once fs))
  word_step (leaf_word leaf) = by_value _ _ (leaf_of leaf w) (λ x. once (leaf_close x))
  word_step (thresh_number at) = by_value _ _ (number_of w) (λ k. once (thresh_comma k at))
  word_step multi_number = by_value _ _ (number_of w) (λ k. once (multi_comma k))
  word_step (multi_key k keys) = by_value _ _ (key_of w) (λ key.
      ap (λ z. (multi_next k z, frames_without fs, os)) (more_keys keys key)
      ∙ once (multi_next k (map no_key keys ++ key ∷ [])))
  word_step want = refl

-- ---- words that are read alike

-- what is made of two values that are one but for keys is so too
through : {A B X Y : Type 0} (p : A → B) (f : A → X) (q : X → Y) (g : B → Y) (o : Option A) → ((x : A) → q (f x) ≡ g (p x))
    → option_map q (option_map f o) ≡ option_map g (option_map p o)
through p f q g None h = refl
through p f q g (Some x) h = ap Some (h x)

made_alike : {A B X Y : Type 0} (p : A → B) (f : A → X) (q : X → Y) (g : B → Y) (o r : Option A) → ((x : A) → q (f x) ≡ g (p x))
    → option_map p o ≡ option_map p r → option_map q (option_map f o) ≡ option_map q (option_map f r)
made_alike p f q g o r h e = through p f q g o h ∙ (ap (option_map g) e ∙ sym (through p f q g r h))

leaf_alike : (leaf : Leaf) {w v : Bytes} → ReadAlike w v → option_map without_keys (leaf_of leaf w) ≡ option_map without_keys (leaf_of leaf v)
leaf_alike leaf_pk_k {w = w} {v = v} h = made_alike no_key pk_k without_keys pk_k (key_of w) (key_of v) (λ key. refl) h.key
leaf_alike leaf_pk_h {w = w} {v = v} h = made_alike no_key pk_h without_keys pk_h (key_of w) (key_of v) (λ key. refl) h.key
leaf_alike leaf_pk {w = w} {v = v} h =
    made_alike no_key (λ key. wrap C (pk_k key)) without_keys (λ key. wrap C (pk_k key)) (key_of w) (key_of v) (λ key. refl) h.key
leaf_alike leaf_pkh {w = w} {v = v} h =
    made_alike no_key (λ key. wrap C (pk_h key)) without_keys (λ key. wrap C (pk_h key)) (key_of w) (key_of v) (λ key. refl) h.key
leaf_alike leaf_older h = ap (λ z. option_map without_keys (option_map older z)) h.number
leaf_alike leaf_after h = ap (λ z. option_map without_keys (option_map after z)) h.number
leaf_alike (leaf_hash kind) h = ap (λ z. option_map without_keys (option_map (hash kind) z)) (h.hash kind)

module _ {w v : Bytes} (h : ReadAlike w v) (a : ℕ) (fs : List Frame) (os : List ℕ) where
  word_alike : (want : Want) → next_without (step_word want a w fs os) ≡ next_without (step_word want a v fs os)
  word_alike expression = ap (λ z. next_without (begin z a fs os)) h.head
  word_alike (leaf_word leaf) =
      made_alike without_keys (λ x. (leaf_close x, fs, os)) state_without (λ x. (leaf_close x, frames_without fs, os)) (leaf_of leaf w) (leaf_of leaf v) (λ x. refl)
      (leaf_alike leaf h)
  word_alike (thresh_number at) = ap (λ z. next_without (option_map (λ k. (thresh_comma k at, fs, os)) z)) h.number
  word_alike multi_number = ap (λ z. next_without (option_map (λ k. (multi_comma k, fs, os)) z)) h.number
  word_alike (multi_key k keys) =
      made_alike no_key (λ key. (multi_next k (keys ++ key ∷ []), fs, os)) state_without (λ key. (multi_next k (map no_key keys ++ key ∷ []), frames_without fs, os))
      (key_of w) (key_of v) (λ key. ap (λ z. (multi_next k z, frames_without fs, os)) (map-append no_key keys (key ∷ []))) h.key
  word_alike want = refl

-- ---- one token

-- a token that is no word
abbrev is_word : Token → Bool
is_word (word a w) = true
is_word t = false

other_step : (s : State) (t : Token) → is_word t ≡ false → next_without (step s t) ≡ step (state_without s) t
other_step (want, fs, os) (word a w) h = absurd (cc)
other_step (want, fs, os) (opening a) h = opening_step fs os want
other_step (want, fs, os) (closing a) h = closing_step fs os want
other_step (want, fs, os) (comma a) h = comma_step fs os want
other_step (want, fs, os) (colon a) h = colon_step fs os want
other_step (want, fs, os) (other a) h = refl
other_step (want, fs, os) (end a) h = end_step fs os want

-- from two states that are one but for keys, a token leads to such states
pub same_step : (s n : State) (t : Token) → state_without s ≡ state_without n → next_without (step s t) ≡ next_without (step n t)
same_step (want, fs, os) (own, gs, ps) (word a w) e =
    word_step a w fs os want ∙ (ap (λ (z : State). next_without (step_word z.0 a w z.1 z.2)) e ∙ sym (word_step a w gs ps own))
same_step s n t e = other_step s t refl ∙ (ap (λ (z : State). step z t) e ∙ sym (other_step n t refl))

pub step_alike : (s n : State) (a : ℕ) {w v : Bytes} → ReadAlike w v → state_without s ≡ state_without n
    → next_without (step s (word a w)) ≡ next_without (step n (word a v))
step_alike s n a {w = w} h e = same_step s n (word a w) e ∙ word_alike h a n.1 n.2 n.0

-- ---- depth

length_without : (fs : List Frame) → length (frames_without fs) ≡ length fs
length_without [] = refl
length_without (frame ∷ fs) = ap suc (length_without fs)

deep_word : (want : Want) (w : Bytes) (fs : List Frame) → is_deep_word (want_without want) w (frames_without fs) ≡ is_deep_word want w fs
deep_word expression w fs = ap (is_deep_head (head_of w)) (length_without fs)
deep_word want w fs = refl

deep_without : (s : State) (t : Token) → is_deep (state_without s) t ≡ is_deep s t
deep_without (want, fs, os) (word a w) = deep_word want w fs
deep_without s t = refl

pub same_deep : (s n : State) (t : Token) → state_without s ≡ state_without n → is_deep s t ≡ is_deep n t
same_deep s n t e = sym (deep_without s t) ∙ (ap (λ (z : State). is_deep z t) e ∙ deep_without n t)

deep_by_head : (want : Want) (w v : Bytes) (fs : List Frame) → head_of w ≡ head_of v → is_deep_word want w fs ≡ is_deep_word want v fs
deep_by_head expression w v fs e = ap (λ z. is_deep_head z (length fs)) e
deep_by_head want w v fs e = refl

pub deep_alike : (s n : State) (a : ℕ) {w v : Bytes} → ReadAlike w v → state_without s ≡ state_without n → is_deep s (word a w) ≡ is_deep n (word a v)
deep_alike s n a {w = w} {v = v} h e = same_deep s n (word a w) e ∙ deep_by_head n.0 w v n.1 h.head

-- ---- what is answered

abbrev pub outcome_without : Outcome → Outcome
outcome_without (tree_outcome x os) = tree_outcome (without_keys x) os
outcome_without outcome = outcome

last_without : (want : Want) (os : List ℕ) → outcome_without (last_outcome want os) ≡ last_outcome (want_without want) os
last_without want os = grind arith

pub last_alike : (s n : State) → state_without s ≡ state_without n → outcome_without (outcome s []) ≡ outcome_without (outcome n [])
last_alike (want, fs, os) (own, gs, ps) e =
    last_without want os ∙ (ap (λ (z : State). last_outcome z.0 z.2) e ∙ sym (last_without own ps))

unwrapped : (s n : State) → ◌≡◌ {A = Option State} (Some s) (Some n) → s ≡ n
unwrapped s n e = cc

pub next_alike : (b : Bool) (at : ℕ) (o r : Option State) (go on : State → Outcome) → next_without o ≡ next_without r
    → ((s n : State) → state_without s ≡ state_without n → outcome_without (go s) ≡ outcome_without (on n))
    → outcome_without (next_outcome b at o go) ≡ outcome_without (next_outcome b at r on)
next_alike true at o r go on e h = refl
next_alike false at None None go on e h = refl
next_alike false at None (Some n) go on e h = absurd (cc)
next_alike false at (Some s) None go on e h = absurd (cc)
next_alike false at (Some s) (Some n) go on e h = h s n (unwrapped (state_without s) (state_without n) e)
