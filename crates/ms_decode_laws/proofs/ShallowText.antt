-- A text that spells a tree which isn't deep has no token that is too deep: what the machine has read so far makes the
-- tree at least so deep.
use Rattle.std.specs.Option.{option_map}
use Rattle.std.proofs.Common.{◌≡◌, ℕ, ◌+◌, ◌<◌, ◌≤◌, max, true, List, [], ◌∷◌, ◌++◌, length, Option, Some, None, refl, sym, ◌∙◌, ap, subst, arith}
use Rattle.std.specs.Prelude.{⊤}
use Rattle.std.proofs.lemmas.Bool.{ltb-true}
use Rattle.def_script.specs.Bytes.{Bytes}
use Rattle.def_tree.specs.Tree.{Tree, Trees, just_0, none, more}
use Rattle.def_tree.specs.InRange.{depth, depth_of}
use Rattle.def_text.specs.Token.{Token, word, closing, comma, end, tokens}
use Rattle.def_text.specs.Letter.{Letter, letter_tree}
use Rattle.def_text.specs.Refusal.{MOST_BYTES, MOST_WRITTEN_DEPTH, NoneDeep, TextReads}
use Rattle.def_text.specs.Spells.{SpellsText}
use Rattle.def_text.specs.Scaffolding.Reader.{Leaf, leaf_of, Head, named, run, neither, head_of, Want, expression, leaf_close, ended, finished, Frame, letter_frame, andor_second, andor_third, pair_second, thresh_child, joined, State, START, run_frames, begin, comma_behind, closing_behind, end_behind, step, behind, offsets_behind, is_deep, is_deep_head}
use Rattle.def_text.proofs.Complete.{complete_text}
use Rattle.def_text.proofs.Counted.{length_of_run}
use Rattle.def_text.proofs.Deep.{deep_machine}
use Rattle.def_text.proofs.Viable.{behind-append, some_first}

-- how deep the tree is for the trees that wait for others
abbrev waiting : List Frame → ℕ
waiting [] = 0
waiting (andor_second x a ∷ fs) = max (depth x + 1 + length fs) (waiting fs)
waiting (andor_third x y a ∷ fs) = max (max (depth x) (depth y) + 1 + length fs) (waiting fs)
waiting (pair_second pair x a ∷ fs) = max (depth x + 1 + length fs) (waiting fs)
waiting (thresh_child k xs a ∷ fs) = max (depth_of xs + 1 + length fs) (waiting fs)
waiting (frame ∷ fs) = waiting fs

-- and for what is wanted or has been read
abbrev reached : Want → List Frame → ℕ
reached (leaf_close x) fs = max (depth x + length fs) (waiting fs)
reached (ended x) fs = max (depth x + length fs) (waiting fs)
reached (finished x) fs = depth x
reached want fs = max (1 + length fs) (waiting fs)

-- it is no deeper than in the next state
abbrev Rises : ℕ → Option State → Type 0
Rises n None = ⊤
Rises n (Some s) = n ≤ reached s.0 s.1

-- each tree has a node
some_depth : (x : Tree) → 1 ≤ depth x
some_depth just_0 = omega arith
some_depth x = omega arith

letter_depth : (l : Letter) (x : Tree) → depth x + 1 ≤ depth (letter_tree l x)
letter_depth l x = grind (arith, some_depth)

joined_depth : (xs ys : Trees) → depth_of (joined xs ys) ≡ max (depth_of xs) (depth_of ys)
joined_depth none ys = omega arith
joined_depth (more x xs) ys = omega (arith, joined_depth xs ys)

-- ---- one token

waiting_run : (a : ℕ) (ls : List Letter) (fs : List Frame) → waiting (run_frames a ls fs) ≡ waiting fs
waiting_run a [] fs = refl
waiting_run a (l ∷ ls) fs = waiting_run (a + 1) ls (letter_frame l a ∷ fs)

head_rises : (head : Head) (a : ℕ) (fs : List Frame) (os : List ℕ) → Rises (max (1 + length fs) (waiting fs)) (begin head a fs os)
head_rises (named form) a fs os = grind arith
head_rises (run l ls) a fs os = omega (arith, length_of_run a (l ∷ ls) fs, waiting_run a (l ∷ ls) fs)
head_rises neither a fs os = tt

leaf_rises : (leaf : Leaf) (w : Bytes) (fs : List Frame) (os : List ℕ) →
    Rises (max (1 + length fs) (waiting fs)) (option_map (λ x. (leaf_close x, fs, os)) (leaf_of leaf w))
leaf_rises leaf w fs os = grind (arith, some_depth)

next_rises : (x : Tree) (fs : List Frame) (os : List ℕ) → Rises (max (depth x + length fs) (waiting fs)) (comma_behind x fs os)
next_rises x [] os = tt
next_rises x (letter_frame l a ∷ fs) os = grind (arith, letter_depth l x, next_rises (letter_tree l x) fs (os ++ offsets_behind l a))
next_rises x (frame ∷ fs) os = grind (arith, joined_depth)

closed_rises : (x : Tree) (fs : List Frame) (os : List ℕ) → Rises (max (depth x + length fs) (waiting fs)) (closing_behind x fs os)
closed_rises x [] os = tt
closed_rises x (letter_frame l a ∷ fs) os = grind (arith, letter_depth l x, closed_rises (letter_tree l x) fs (os ++ offsets_behind l a))
closed_rises x (frame ∷ fs) os = grind (arith, joined_depth, some_depth)

last_rises : (x : Tree) (fs : List Frame) (os : List ℕ) → Rises (max (depth x + length fs) (waiting fs)) (end_behind x fs os)
last_rises x [] os = omega arith
last_rises x (letter_frame l a ∷ fs) os = grind (arith, letter_depth l x, last_rises (letter_tree l x) fs (os ++ offsets_behind l a))
last_rises x (frame ∷ fs) os = tt

step_rises : (s : State) (t : Token) → Rises (reached s.0 s.1) (step s t)
step_rises (expression, fs, os) (word a w) = head_rises (head_of w) a fs os
step_rises s (word a w) = grind (arith, leaf_rises)
step_rises s (closing a) = grind (arith, closed_rises)
step_rises s (comma a) = grind (arith, next_rises)
step_rises s (end a) = grind (arith, last_rises)
step_rises s t = grind arith

-- behind a word that is too deep the tree is too deep
deep_head : (head : Head) (a : ℕ) (fs : List Frame) (os : List ℕ) (n : State) → is_deep_head head (length fs) ≡ true → begin head a fs os ≡ Some n →
    MOST_WRITTEN_DEPTH < reached n.0 n.1
deep_head (named form) a fs os n deep e =
    let over = ltb-true 256 (length fs + 1) deep in
    let rises : Rises (max (1 + length fs) (waiting fs)) (Some n) = subst (Rises (max (1 + length fs) (waiting fs))) e (head_rises (named form) a fs os) in
    omega (arith, over, rises)
deep_head (run l ls) a fs os n deep e =
    let over = ltb-true 256 (length fs + length (l ∷ ls)) deep in
    let size = length_of_run a (l ∷ ls) fs in
    grind (arith, over, size)
deep_head neither a fs os n deep e = absurd (cc)

deep_rises : (s : State) (t : Token) (n : State) → is_deep s t ≡ true → step s t ≡ Some n → MOST_WRITTEN_DEPTH < reached n.0 n.1
deep_rises (expression, fs, os) (word a w) n deep e = deep_head (head_of w) a fs os n deep e
deep_rises s (word a w) n deep e = absurd (cc)
deep_rises s t n deep e = absurd (cc)

-- ---- all tokens

behind_rises : (ts : List Token) (s n : State) → behind s ts ≡ Some n → reached s.0 s.1 ≤ reached n.0 n.1
behind_rises [] s n e = let same : s ≡ n = cc in subst (λ (r : State). reached s.0 s.1 ≤ reached r.0 r.1) same (omega arith)
behind_rises (t ∷ ts) s n e =
    let (m, first, rest) = some_first (λ m. behind m ts) (step s t) n e in
    let one : Rises (reached s.0 s.1) (Some m) = subst (Rises (reached s.0 s.1)) first (step_rises s t) in
    omega (arith, one, behind_rises ts m n rest)

-- a text that spells a tree is read as it, where it isn't long and the tree isn't deep
pub shallow_is_read : (text : Bytes) (x : Tree) (os : List ℕ) → length text ≤ MOST_BYTES → depth x ≤ MOST_WRITTEN_DEPTH → SpellsText (tokens text) x os →
    TextReads text x os
shallow_is_read text x os short shallow spelled = record { short = short; spelled = spelled; none_deep = none }
  where
    none : NoneDeep (tokens text)
    none before t after split deep =
        let whole : behind START (before ++ t ∷ after) ≡ Some (finished x, [], os) = ap (behind START) (sym split) ∙ complete_text spelled in
        let (m, front, rest) = some_first (λ n. behind n (t ∷ after)) (behind START before) (finished x, [], os) (sym (behind-append before (t ∷ after) START) ∙ whole) in
        let (n, goes, ends) = some_first (λ n. behind n after) (step m t) (finished x, [], os) rest in
        let over = deep_rises m t n (deep_machine before t m front deep) goes in
        let end = behind_rises after n (finished x, [], os) ends in
        omega (arith, over, end, shallow)
