-- A spelled tree is shallow where no token of its text is too deep: what the machine has read so far never is too deep.
use Rattle.std.specs.Option.{option_map}
use Rattle.std.specs.Str.{IsUtf8}
use Rattle.std.specs.Prelude.{⊤}
use Rattle.std.proofs.Common.{◌≡◌, ℕ, ◌+◌, ◌≤◌, max, Bool, false, List, [], ◌∷◌, ◌++◌, length, Option, Some, None, refl, subst, arith}
use Rattle.std.proofs.lemmas.Bool.{ltb-false}
use Rattle.def_script.specs.Bytes.{Bytes}
use Rattle.def_tree.specs.Tree.{Tree, Trees, just_0, none, more}
use Rattle.def_tree.specs.InRange.{depth, depth_of, MOST_DEPTH}
use Rattle.def_text.specs.declared.TextFault.TheVariants.{Syntax, TooDeep}
use Rattle.def_text.specs.Token.{Token, word, closing, comma, end, offset, tokens}
use Rattle.def_text.specs.Letter.{Letter, letter_tree}
use Rattle.def_text.specs.Refusal.{TextReads}
use Rattle.def_text.specs.Scaffolding.Reader.{Leaf, leaf_of, Head, named, run, neither, head_of, Want, expression, colon_next, leaf_close, ended, finished, Frame, letter_frame, andor_second, andor_third, pair_second, thresh_child, joined, State, START, run_frames, begin, comma_behind, closing_behind, end_behind, step, offsets_behind, is_deep, is_deep_head, Outcome, tree_outcome, syntax_outcome, deep_outcome, next_outcome, outcome}
use Rattle.def_text.proofs.Complete.{one_tree}
use Rattle.def_text.proofs.Report.{Reports, report}
use Rattle.def_text.proofs.OneAnswer.{none_beside_tree}

-- a tree behind so many frames isn't too deep
abbrev Fits : (levels : ℕ) → List Frame → Type 0
Fits levels fs = levels + length fs ≤ MOST_DEPTH

-- the trees that wait for others aren't too deep as children of their fragments
abbrev WaitingFit : List Frame → Type 0
WaitingFit [] = ⊤
WaitingFit (andor_second x a ∷ fs) = Fits (depth x + 1) fs × WaitingFit fs
WaitingFit (andor_third x y a ∷ fs) = Fits (depth x + 1) fs × Fits (depth y + 1) fs × WaitingFit fs
WaitingFit (pair_second pair x a ∷ fs) = Fits (depth x + 1) fs × WaitingFit fs
WaitingFit (thresh_child k xs a ∷ fs) = Fits (depth_of xs + 1) fs × WaitingFit fs
WaitingFit (frame ∷ fs) = WaitingFit fs

-- nor is what has been read; behind a name a node and a child of it fit
abbrev WantFits : Want → List Frame → Type 0
WantFits expression fs = ⊤
WantFits colon_next fs = ⊤
WantFits (leaf_close x) fs = Fits (depth x) fs
WantFits (ended x) fs = Fits (depth x) fs
WantFits (finished x) fs = Fits (depth x) fs
WantFits want fs = Fits 2 fs

abbrev NextFits : Option State → Type 0
NextFits None = ⊤
NextFits (Some n) = WantFits n.0 n.1 × WaitingFit n.1

-- each tree has a node
some_depth : (x : Tree) → 1 ≤ depth x
some_depth just_0 = omega arith
some_depth x = omega arith

letter_depth : (l : Letter) (x : Tree) → depth (letter_tree l x) ≤ depth x + 1
letter_depth l x = grind (arith, some_depth)

joined_depth : (xs ys : Trees) → depth_of (joined xs ys) ≡ max (depth_of xs) (depth_of ys)
joined_depth none ys = omega arith
joined_depth (more x xs) ys = omega (arith, joined_depth xs ys)

-- ---- one token

run_fits : (a : ℕ) (ls : List Letter) (fs : List Frame) → WaitingFit fs → WaitingFit (run_frames a ls fs)
run_fits a [] fs h = h
run_fits a (l ∷ ls) fs h = run_fits (a + 1) ls (letter_frame l a ∷ fs) h

head_fits : (head : Head) (a : ℕ) (fs : List Frame) (os : List ℕ) → is_deep_head head (length fs) ≡ false → WaitingFit fs →
    NextFits (begin head a fs os)
head_fits (named form) a fs os shallow h = let room = ltb-false 256 (length fs + 1) shallow in grind arith
head_fits (run l ls) a fs os shallow h = (tt, run_fits a (l ∷ ls) fs h)
head_fits neither a fs os shallow h = tt

leaf_fits : (leaf : Leaf) (w : Bytes) (fs : List Frame) (os : List ℕ) → Fits 2 fs → WaitingFit fs →
    NextFits (option_map (λ x. (leaf_close x, fs, os)) (leaf_of leaf w))
leaf_fits leaf w fs os room h = grind arith

next_fits : (x : Tree) (fs : List Frame) (os : List ℕ) → Fits (depth x) fs → WaitingFit fs → NextFits (comma_behind x fs os)
next_fits x [] os h k = tt
next_fits x (letter_frame l a ∷ fs) os h k = next_fits (letter_tree l x) fs (os ++ offsets_behind l a) (omega (arith, letter_depth l x)) k
next_fits x (frame ∷ fs) os h k = grind (arith, joined_depth)

closed_fits : (x : Tree) (fs : List Frame) (os : List ℕ) → Fits (depth x) fs → WaitingFit fs → NextFits (closing_behind x fs os)
closed_fits x [] os h k = tt
closed_fits x (letter_frame l a ∷ fs) os h k = closed_fits (letter_tree l x) fs (os ++ offsets_behind l a) (omega (arith, letter_depth l x)) k
closed_fits x (frame ∷ fs) os h k = grind (arith, joined_depth, some_depth)

last_fits : (x : Tree) (fs : List Frame) (os : List ℕ) → Fits (depth x) fs → WaitingFit fs → NextFits (end_behind x fs os)
last_fits x [] os h k = (h, tt)
last_fits x (letter_frame l a ∷ fs) os h k = last_fits (letter_tree l x) fs (os ++ offsets_behind l a) (omega (arith, letter_depth l x)) k
last_fits x (frame ∷ fs) os h k = tt

step_fits : (s : State) (t : Token) → is_deep s t ≡ false → WantFits s.0 s.1 → WaitingFit s.1 → NextFits (step s t)
step_fits (expression, fs, os) (word a w) shallow h k = head_fits (head_of w) a fs os shallow k
step_fits s (word a w) shallow h k = grind (arith, leaf_fits)
step_fits s (closing a) shallow h k = grind (arith, closed_fits)
step_fits s (comma a) shallow h k = grind (arith, next_fits)
step_fits s (end a) shallow h k = grind (arith, last_fits)
step_fits s t shallow h k = grind arith

-- ---- all tokens

module _ (x : Tree) (os : List ℕ) where
  answer_fits : (ts : List Token) (s : State) → NextFits (Some s) → outcome s ts ≡ tree_outcome x os → depth x ≤ MOST_DEPTH
  answer_fits [] (finished y, fs, ps) h e = let same : y ≡ x = cc in subst (λ z. depth z ≤ MOST_DEPTH) same (omega (arith, h.0))
  answer_fits [] (want, fs, ps) h e = absurd (cc)
  answer_fits (t ∷ ts) s h e = go (is_deep s t) (step s t) refl refl e (answer_fits ts)
    where
      go : (b : Bool) (o : Option State) → is_deep s t ≡ b → step s t ≡ o →
          next_outcome b (offset t) o (λ n. outcome n ts) ≡ tree_outcome x os →
          ((n : State) → NextFits (Some n) → outcome n ts ≡ tree_outcome x os → depth x ≤ MOST_DEPTH) → depth x ≤ MOST_DEPTH
      go false (Some n) shallow goes e others = others n (subst NextFits goes (step_fits s t shallow h.0 h.1)) e
      go b o shallow goes e others = absurd (cc)

-- a tree as which a text is read
pub depth_of_text : (text : Bytes) (x : Tree) (os : List ℕ) → IsUtf8 text → TextReads text x os → depth x ≤ MOST_DEPTH
depth_of_text text x os utf8 reads = go (outcome START (tokens text)) refl (report text utf8)
  where
    go : (o : Outcome) → outcome START (tokens text) ≡ o → Reports text o → depth x ≤ MOST_DEPTH
    go (tree_outcome y ps) e r =
        subst (λ z. depth z ≤ MOST_DEPTH) (one_tree r.0 reads.spelled).0 (answer_fits y ps (tokens text) START (tt, tt) e)
    go (syntax_outcome p) e r = absurd (none_beside_tree text x os (Syntax p) utf8 reads (reads.short, r))
    go (deep_outcome p) e r = absurd (none_beside_tree text x os (TooDeep p) utf8 reads (reads.short, r))
