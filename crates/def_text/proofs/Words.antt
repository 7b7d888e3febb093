-- What a word is where an expression may begin: names and letters, and back.
use Rattle.std.proofs.Common.{◌≡◌, ℕ, List, [], ◌∷◌, Option, Some, refl, ap, arith}
use Rattle.std.specs.Option.{option_and_then, option_map}
use Rattle.std.proofs.lemmas.Bool.{eqb-true}
use Rattle.std.proofs.lemmas.Slice.Eq.{bytes_eq-Decides}
use Rattle.def_script.specs.Bytes.{Bytes}
use Rattle.def_hash.specs.declared.HashKind.{HashKind}
use Rattle.def_tree.specs.declared.Two.{Two}
use Rattle.def_text.specs.Word.{hash_name, two_name}
use Rattle.def_text.specs.Letter.{Letter, letter_byte, letter_word}
use Rattle.def_text.specs.Scaffolding.Reader.{Form, form_leaf, leaf_hash, form_pair, pair_two, form_name, FORMS, first_named, LETTERS, first_letter, letters_of, named, run, head_from, head_of}

-- ---- from names and letters to heads

first_letter_of : (l : Letter) → first_letter (letter_byte l) LETTERS ≡ Some l
first_letter_of l = grind arith

letters_of_word : (ls : List Letter) → letters_of (letter_word ls) ≡ Some ls
letters_of_word [] = refl
letters_of_word (l ∷ ls) = rw (first_letter_of l, letters_of_word ls) refl

pub head_of_letters : (l : Letter) (ls : List Letter) → head_of (letter_word (l ∷ ls)) ≡ run l ls
head_of_letters l ls = ap (λ o. head_from o (first_named (letter_word (l ∷ ls)) FORMS)) (letters_of_word (l ∷ ls))

pub head_of_hash : (kind : HashKind) → head_of (hash_name kind) ≡ named (form_leaf (leaf_hash kind))
head_of_hash kind = grind arith

pub head_of_two : (kind : Two) → head_of (two_name kind) ≡ named (form_pair (pair_two kind))
head_of_two kind = grind arith

-- ---- from heads to names and letters

pub named_is : (w : Bytes) (f : Form) (fs : List Form) → first_named w fs ≡ Some f → w ≡ form_name f
named_is w f [] h = absurd (cc)
named_is w f (g ∷ gs) h = grind (arith, named_is w f gs, (bytes_eq-Decides w (form_name g)).0)

letter_is : (n : ℕ) (l : Letter) (ls : List Letter) → first_letter n ls ≡ Some l → n ≡ letter_byte l
letter_is n l [] h = absurd (cc)
letter_is n l (m ∷ ms) h = grind (arith, letter_is n l ms, eqb-true n (letter_byte m))

letters_are : (n : ℕ) (w : Bytes) (ls : List Letter) (o : Option Letter) (p : Option (List Letter)) →
    ((l : Letter) → o ≡ Some l → n ≡ letter_byte l) → ((ms : List Letter) → p ≡ Some ms → w ≡ letter_word ms) →
    option_and_then (λ l. option_map (λ ms. l ∷ ms) p) o ≡ Some ls → n ∷ w ≡ letter_word ls
letters_are n w ls o p = grind arith

pub word_is : (w : Bytes) (ls : List Letter) → letters_of w ≡ Some ls → w ≡ letter_word ls
word_is [] ls h = let e : [] ≡ ls = cc in ap letter_word e
word_is (n ∷ w) ls h = letters_are n w ls (first_letter n LETTERS) (letters_of w) (λ l. letter_is n l LETTERS) (word_is w) h

name_from : (f : Form) (o : Option (List Letter)) (p : Option Form) → head_from o p ≡ named f → p ≡ Some f
name_from f o p = grind arith

run_from : (l : Letter) (ls : List Letter) (o : Option (List Letter)) (p : Option Form) → head_from o p ≡ run l ls →
    o ≡ Some (l ∷ ls)
run_from l ls o p = grind arith

pub name_of_head : (w : Bytes) (f : Form) → head_of w ≡ named f → w ≡ form_name f
name_of_head w f h = named_is w f FORMS (name_from f (letters_of w) (first_named w FORMS) h)

pub letters_of_head : (w : Bytes) (l : Letter) (ls : List Letter) → head_of w ≡ run l ls → w ≡ letter_word (l ∷ ls)
letters_of_head w l ls h = word_is w (l ∷ ls) (run_from l ls (letters_of w) (first_named w FORMS) h)
