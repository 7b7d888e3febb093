-- Runs of letters.
use Rattle.std.proofs.Common.{◌≡◌, ℕ, zero, suc, ◌+◌, ◌==◌, ◌<◌, ◌≤◌, true, List, [], ◌∷◌, ◌++◌, length, get_or, take, Option, Some, None, is_some, refl, sym, append-nil, ap, ◌∙◌, subst, arith}
use Rattle.std.specs.Option.{option_map, option_and_then}
use Rattle.std.specs.Prelude.{if◌then◌else◌}
use Rattle.std.specs.Str.{byte}
use Rattle.std.proofs.lemmas.List.{take_all, length-take}
use Rattle.def_tree.specs.Tree.{Tree, just_0}
use Rattle.def_tree.specs.InRange.{measure, depth}
use Rattle.def_tree.specs.Range.{IsWritable}
use Rattle.def_text.specs.Token.{Token}
use Rattle.def_text.proofs.Outcomes.{outcome-letter}
use Rattle.def_script.specs.Bytes.{Bytes}
use Rattle.def_tree.specs.declared.Wrapper.TheVariants.{A}
use Rattle.def_text.specs.Letter.{Letter, letter_of_wrapper, letter_t, letter_l, letter_u, letter_byte, letter_tree}
use Rattle.def_text.proofs.Words.{word_is}
use Rattle.def_text.specs.Scaffolding.Reader.{Frame, LETTERS, first_letter, letters_of, letter_frame, colon_next, run_frames, run_offsets, offsets_before, offsets_behind, ended, outcome}
use Rattle.ms_text.specs.Scaffolding.Place.{machine_from}
use Rattle.ms_text.specs.Scaffolding.Room.{IsLarger}
use Rattle.ms_text.specs.Scaffolding.Runs.{offsets_before_run}
use Rattle.ms_text.proofs.NameLemmas.{letters_are_long}

-- the letters of a word are its first one and those of the rest
parted : (b : ℕ) (w : Bytes) (ls : List Letter) (o : Option Letter) (p : Option (List Letter)) → first_letter b LETTERS ≡ o → letters_of w ≡ p → letters_of (b ∷ w) ≡ Some ls →
    (l : Letter) × (ms : List Letter) × (ls ≡ l ∷ ms) × (first_letter b LETTERS ≡ Some l) × (letters_of w ≡ Some ms)
parted b w ls None p e f h = let clash : None ≡ Some ls = ap (option_and_then (λ m. option_map (λ ns. m ∷ ns) (letters_of w))) (sym e) ∙ h in absurd (cc)
parted b w ls (Some l) None e f h =
    let clash : None ≡ Some ls = ap (option_map (λ ns. l ∷ ns)) (sym f) ∙ (ap (option_and_then (λ m. option_map (λ ns. m ∷ ns) (letters_of w))) (sym e) ∙ h) in absurd (cc)
parted b w ls (Some l) (Some ms) e f h =
    let same : Some (l ∷ ms) ≡ Some ls = ap (option_map (λ ns. l ∷ ns)) (sym f) ∙ (ap (option_and_then (λ m. option_map (λ ns. m ∷ ns) (letters_of w))) (sym e) ∙ h) in
    (l, ms, cc, e, f)

pub part_letters : (b : ℕ) (w : Bytes) (ls : List Letter) → letters_of (b ∷ w) ≡ Some ls →
    (l : Letter) × (ms : List Letter) × (ls ≡ l ∷ ms) × (first_letter b LETTERS ≡ Some l) × (letters_of w ≡ Some ms)
part_letters b w ls h = parted b w ls (first_letter b LETTERS) (letters_of w) refl refl h

-- the letter that a byte spells
pub letter_is : (b : ℕ) (l : Letter) → first_letter b LETTERS ≡ Some l → b ≡ letter_byte l
letter_is b l h = ap (λ w. get_or w 0 0) (word_is (b ∷ []) (l ∷ []) (ap (option_and_then (λ m. option_map (λ ms. m ∷ ms) (letters_of []))) h))

-- the offsets before a run are those of its letters
before_letter : (b a : ℕ) (l : Letter) (os : List ℕ) → first_letter b LETTERS ≡ Some l → (if b == byte "l" then os ++ a ∷ [] else os) ≡ os ++ offsets_before l a
before_letter b a l os h = rw (letter_is b l h) (before_byte l)
  where
    before_byte : (l : Letter) → (if letter_byte l == byte "l" then os ++ a ∷ [] else os) ≡ os ++ offsets_before l a
    before_byte letter_l = refl
    before_byte (letter_of_wrapper A) = sym (append-nil os)
    before_byte l = sym (append-nil os)

pub run_offsets_are_of : (w : Bytes) (ls : List Letter) (a : ℕ) (os : List ℕ) → letters_of w ≡ Some ls → run_offsets a ls os ≡ offsets_before_run a w os
run_offsets_are_of [] ls a os h = let none : ls ≡ [] = cc in ap (λ ms. run_offsets a ms os) none
run_offsets_are_of (b ∷ w) ls a os h =
    let (l, ms, is, first, others) = part_letters b w ls h in
    ap (λ ns. run_offsets a ns os) is
    ∙ (ap (run_offsets (a + 1) ms) (sym (before_letter b a l os first)) ∙ run_offsets_are_of w ms (a + 1) (if b == byte "l" then os ++ a ∷ [] else os) others)

pub run_offsets_are : (w : Bytes) (ls : List Letter) (name : ℕ) (fs : List Frame) (os ps : List ℕ) (text : Bytes) (at : ℕ) → letters_of w ≡ Some ls → ps ≡ offsets_before_run name w os →
    machine_from (colon_next, run_frames name ls fs, run_offsets name ls os) text at ≡ machine_from (colon_next, run_frames name ls fs, ps) text at
run_offsets_are w ls name fs os ps text at h e = ap (λ qs. machine_from (colon_next, run_frames name ls fs, qs) text at) (run_offsets_are_of w ls name os h ∙ sym e)

frames_length : (ls : List Letter) (name : ℕ) (fs : List Frame) → length (run_frames name ls fs) ≡ length fs + length ls
frames_length [] name fs = omega arith
frames_length (l ∷ ls) name fs = omega (arith, frames_length ls (name + 1) (letter_frame l name ∷ fs))

pub run_is_long : (w : Bytes) (ls : List Letter) (name : ℕ) (fs : List Frame) → letters_of w ≡ Some ls → length (run_frames name ls fs) ≡ length fs + length w
run_is_long w ls name fs h = omega (arith, frames_length ls name fs, letters_are_long w ls h)

-- the letter at a place of a run, and those before it
pub letter_at : (w : Bytes) (ls : List Letter) (i : ℕ) → letters_of w ≡ Some ls → i < length w →
    (l : Letter) × (first_letter (get_or w i 0) LETTERS ≡ Some l) × (take (suc i) ls ≡ take i ls ++ l ∷ [])
letter_at [] ls i h below = absurd (omega (arith, below))
letter_at (b ∷ w) ls zero h below =
    let (l, ms, is, first, others) = part_letters b w ls h in (l, first, ap (take 1) is)
letter_at (b ∷ w) ls (suc i) h below =
    let (l, ms, is, first, others) = part_letters b w ls h in
    let (m, here, more) = letter_at w ms i others (omega (arith, below)) in
    (m, here, ap (take (suc (suc i))) is ∙ (ap (λ ns. l ∷ ns) more ∙ ap (λ ns. take (suc i) ns ++ m ∷ []) (sym is)))

-- the last letter of a run waits first
frames_end : (ls : List Letter) (l : Letter) (name n : ℕ) (fs : List Frame) → n ≡ name + length ls → run_frames name (ls ++ l ∷ []) fs ≡ letter_frame l n ∷ run_frames name ls fs
frames_end [] l name n fs e = let same : name ≡ n = omega (arith, e) in ap (λ a. letter_frame l a ∷ fs) same
frames_end (m ∷ ls) l name n fs e = frames_end ls l (name + 1) n (letter_frame m name ∷ fs) (omega (arith, e))

-- each byte of a run spells a letter
pub no_other_byte : (w : Bytes) (i : ℕ) → is_some (letters_of w) ≡ true → i < length w → None ≡ first_letter (get_or w i 0) LETTERS → ⊥
no_other_byte w i h below none = other_by (letters_of w) refl h
  where
    other_by : (o : Option (List Letter)) → letters_of w ≡ o → is_some o ≡ true → ⊥
    other_by None e s = absurd (cc)
    other_by (Some ls) e s =
        let (l, here, more) = letter_at w ls i e below in
        cc

module _ (w : Bytes) (name : ℕ) (x y : Tree) (fs : List Frame) (os : List ℕ) (ls : List Letter) (ts : List Token) where
  -- before the first letter is put
  pub run_starts : letters_of w ≡ Some ls → outcome (ended x, run_frames name ls fs, os) ts ≡ outcome (ended x, run_frames name (take (length w) ls) fs, os) ts
  run_starts h = ap (λ ms. outcome (ended x, run_frames name ms fs, os) ts) (sym (take_all (length w) ls (omega (arith, letters_are_long w ls h))))

  -- one letter is put
  pub run_goes : (n i : ℕ) (l : Letter) (ps : List ℕ) → letters_of w ≡ Some ls → n ≡ suc i → i < length w → Some l ≡ first_letter (get_or w i 0) LETTERS → y ≡ letter_tree l x →
      ps ≡ os ++ offsets_behind l (name + i) →
      outcome (ended x, run_frames name (take n ls) fs, os) ts ≡ outcome (ended y, run_frames name (take i ls) fs, ps) ts
  run_goes n i l ps h next below first is added =
      let (m, here, more) = letter_at w ls i h below in
      let same : m ≡ l = the_same m l (sym here ∙ sym first) in
      let long : name + i ≡ name + length (take i ls) = simp length-take (omega (arith, letters_are_long w ls h)) in
      ap (λ ms. outcome (ended x, run_frames name ms fs, os) ts) (ap (λ k. take k ls) next ∙ more)
      ∙ (ap (λ gs. outcome (ended x, gs, os) ts) (frames_end (take i ls) m name (name + i) fs long)
      ∙ (outcome-letter m (name + i) x (run_frames name (take i ls) fs) os ts
      ∙ (ap (λ n. outcome (ended (letter_tree n x), run_frames name (take i ls) fs, os ++ offsets_behind n (name + i)) ts) same
      ∙ (ap (λ z. outcome (ended z, run_frames name (take i ls) fs, os ++ offsets_behind l (name + i)) ts) (sym is)
      ∙ ap (λ qs. outcome (ended y, run_frames name (take i ls) fs, qs) ts) (sym added)))))
    where
      the_same : (m l : Letter) → Some m ≡ Some l → m ≡ l
      the_same m l e = cc

-- ---- how large a tree is with a letter before it

pub some_depth : (x : Tree) → 1 ≤ depth x
some_depth just_0 = omega arith
some_depth x = omega arith

larger_by : (l : Letter) (x : Tree) → IsWritable x → (measure (letter_tree l x) ≤ measure x + 2) × (depth (letter_tree l x) ≤ depth x + 1) × IsWritable (letter_tree l x)
larger_by (letter_of_wrapper wrapper) x h = (omega arith, omega arith, h)
larger_by letter_t x h = (omega arith, omega (arith, some_depth x), (h, tt))
larger_by letter_l x h = (omega arith, omega (arith, some_depth x), (tt, h))
larger_by letter_u x h = (omega arith, omega (arith, some_depth x), (h, tt))

pub one_larger : (n m : ℕ) (l : Letter) (x y z : Tree) → m ≡ n + 1 → IsLarger n x y → z ≡ letter_tree l y → IsLarger m x z
one_larger n m l x y z e larger is =
    let (a, b, c) = larger_by l y larger.writable in
    let a2 : measure z ≡ measure (letter_tree l y) = ap measure is in
    let b2 : depth z ≡ depth (letter_tree l y) = ap depth is in
    record { measure = omega (arith, e, larger.measure, a, a2); depth = omega (arith, e, larger.depth, b, b2); writable = subst IsWritable (sym is) c }
