-- The count over tokens agrees with what waits: where an expression is wanted, the written depth is the number of frames.
use Rattle.std.proofs.Common.{◌≡◌, ℕ, suc, ◌+◌, List, [], ◌∷◌, ◌++◌, length, Option, Some, None, refl, sym, ap, ◌∙◌, subst, arith}
use Rattle.std.specs.Prelude.{⊤}
use Rattle.def_script.specs.Bytes.{Bytes}
use Rattle.def_tree.specs.Tree.{Tree}
use Rattle.def_text.specs.Token.{Token, word, closing, comma, end}
use Rattle.def_text.specs.Letter.{Letter, letter_tree}
use Rattle.def_text.specs.Refusal.{levels_of, count_step, counts, first_count, enclosing}
use Rattle.def_text.specs.Scaffolding.Reader.{Form, Head, named, run, neither, head_of, head_levels, Want, expression, colon_next, leaf_open, andor_open, pair_open, thresh_open, multi_open, ended, finished, Frame, letter_frame, State, START, run_frames, begin_form, begin, step_word, comma_behind, closing_behind, end_behind, step, behind, offsets_behind}
use Rattle.def_text.proofs.Levels.{head_says}
use Rattle.def_text.proofs.Viable.{some_first}

-- the counts of the parentheses that are open
abbrev below : List Frame → List ℕ
below [] = []
below (letter_frame l a ∷ fs) = below fs
below (frame ∷ fs) = suc (length fs) ∷ below fs

-- the counts in a state: the first one is of use only before and behind the head of an expression
abbrev Agrees : Want → List Frame → List ℕ → Type 0
Agrees expression fs ns = ns ≡ length fs ∷ below fs
Agrees colon_next fs ns = ns ≡ length fs ∷ below fs
Agrees (leaf_open leaf) fs ns = ns ≡ suc (length fs) ∷ below fs
Agrees (andor_open a) fs ns = ns ≡ suc (length fs) ∷ below fs
Agrees (pair_open pair a) fs ns = ns ≡ suc (length fs) ∷ below fs
Agrees (thresh_open a) fs ns = ns ≡ suc (length fs) ∷ below fs
Agrees multi_open fs ns = ns ≡ suc (length fs) ∷ below fs
Agrees (ended x) fs ns = ns ≡ first_count ns ∷ below fs
Agrees (finished x) fs ns = ⊤
Agrees want fs ns = ns ≡ first_count ns ∷ suc (length fs) ∷ below fs

abbrev NextAgrees : Option State → List ℕ → Type 0
NextAgrees None ns = ⊤
NextAgrees (Some n) ns = Agrees n.0 n.1 ns

-- ---- words

pub length_of_run : (a : ℕ) (ls : List Letter) (fs : List Frame) → length (run_frames a ls fs) ≡ length fs + length ls
length_of_run a [] fs = omega arith
length_of_run a (l ∷ ls) fs = let e = length_of_run (a + 1) ls (letter_frame l a ∷ fs) in omega arith

below_run : (a : ℕ) (ls : List Letter) (fs : List Frame) → below (run_frames a ls fs) ≡ below fs
below_run a [] fs = refl
below_run a (l ∷ ls) fs = below_run (a + 1) ls (letter_frame l a ∷ fs)

form_agrees : (form : Form) (a : ℕ) (fs : List Frame) (os : List ℕ) →
    NextAgrees (begin_form form a fs os) (suc (length fs) ∷ below fs)
form_agrees form a fs os = grind arith

head_agrees : (head : Head) (a : ℕ) (fs : List Frame) (os : List ℕ) (k : ℕ) → k ≡ head_levels head →
    NextAgrees (begin head a fs os) ((length fs + k) ∷ below fs)
head_agrees (named form) a fs os k e =
    let n : suc (length fs) ≡ length fs + k = omega arith in
    subst (λ m. NextAgrees (begin_form form a fs os) (m ∷ below fs)) n (form_agrees form a fs os)
head_agrees (run l ls) a fs os k e =
    let n : length fs + k ≡ length (run_frames a (l ∷ ls) fs) =
    ap (λ m. length fs + m) e ∙ sym (length_of_run a (l ∷ ls) fs) in
    ap (λ m. m ∷ below fs) n ∙ ap (λ ns. length (run_frames a (l ∷ ls) fs) ∷ ns) (sym (below_run a (l ∷ ls) fs))
head_agrees neither a fs os k e = tt

word_agrees : (want : Want) (a : ℕ) (w : Bytes) (fs : List Frame) (os ns : List ℕ) (n k : ℕ) → k ≡ head_levels (head_of w) →
    Agrees want fs (n ∷ ns) → NextAgrees (step_word want a w fs os) ((n + k) ∷ ns)
word_agrees expression a w fs os ns n k e h =
    let same : (length fs + k) ∷ below fs ≡ (n + k) ∷ ns = cc in
    subst (NextAgrees (begin (head_of w) a fs os)) same (head_agrees (head_of w) a fs os k e)
word_agrees want a w fs os ns n k e h = grind arith

none_agree : (want : Want) (a : ℕ) (w : Bytes) (fs : List Frame) (os : List ℕ) → Agrees want fs [] →
    NextAgrees (step_word want a w fs os) []
none_agree expression a w fs os h = absurd (cc)
none_agree want a w fs os h = grind arith

-- ---- other tokens

closed_agrees : (x : Tree) (fs : List Frame) (os : List ℕ) (a : ℕ) (ns : List ℕ) → ns ≡ first_count ns ∷ below fs →
    NextAgrees (closing_behind x fs os) (count_step ns (closing a))
closed_agrees x [] os a ns h = tt
closed_agrees x (letter_frame l b ∷ fs) os a ns h = closed_agrees (letter_tree l x) fs (os ++ offsets_behind l b) a ns h
closed_agrees x (frame ∷ fs) os a ns h = grind arith

next_agrees : (x : Tree) (fs : List Frame) (os : List ℕ) (a : ℕ) (ns : List ℕ) → ns ≡ first_count ns ∷ below fs →
    NextAgrees (comma_behind x fs os) (count_step ns (comma a))
next_agrees x [] os a ns h = tt
next_agrees x (letter_frame l b ∷ fs) os a ns h = next_agrees (letter_tree l x) fs (os ++ offsets_behind l b) a ns h
next_agrees x (frame ∷ fs) os a ns h = grind arith

last_agrees : (x : Tree) (fs : List Frame) (os ns : List ℕ) → NextAgrees (end_behind x fs os) ns
last_agrees x [] os ns = tt
last_agrees x (letter_frame l b ∷ fs) os ns = last_agrees (letter_tree l x) fs (os ++ offsets_behind l b) ns
last_agrees x (frame ∷ fs) os ns = tt

step_agrees : (s : State) (t : Token) (ns : List ℕ) → Agrees s.0 s.1 ns → NextAgrees (step s t) (count_step ns t)
step_agrees s (word a w) [] h = none_agree s.0 a w s.1 s.2 h
step_agrees s (word a w) (n ∷ ns) h = word_agrees s.0 a w s.1 s.2 ns n (levels_of w) (head_says w).levels h
step_agrees s (closing a) ns h = grind (arith, closed_agrees)
step_agrees s (comma a) ns h = grind (arith, next_agrees)
step_agrees s (end a) ns h = grind (arith, last_agrees)
step_agrees s t ns h = grind arith

-- ---- all tokens

counted : (us : List Token) (s n : State) (ns : List ℕ) → Agrees s.0 s.1 ns → behind s us ≡ Some n → Agrees n.0 n.1 (counts ns us)
counted [] s n ns h e = let same : s ≡ n = cc in subst (λ (r : State). Agrees r.0 r.1 ns) same h
counted (u ∷ us) s n ns h e =
    let (m, first, rest) = some_first (λ m. behind m us) (step s u) n e in
    let k : NextAgrees (Some m) (count_step ns u) = subst (λ o. NextAgrees o (count_step ns u)) first (step_agrees s u ns h) in
    counted us m n (count_step ns u) k rest

-- where an expression is wanted, what waits encloses it
pub enclosing_is : (us : List Token) (fs : List Frame) (os : List ℕ) → behind START us ≡ Some (expression, fs, os) →
    enclosing us ≡ length fs
enclosing_is us fs os h = ap first_count (counted us START (expression, fs, os) (0 ∷ []) refl h)
