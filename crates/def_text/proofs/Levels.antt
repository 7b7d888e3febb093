-- What a word adds to the written depth is what its head says.
use Rattle.std.proofs.Common.{◌≡◌, ℕ, Bool, true, false, ◌&&◌, ◌||◌, List, [], ◌∷◌, length, map, Option, Some, None, is_some, suc, refl, sym, ap, ◌∙◌, subst, arith}
use Rattle.std.specs.Prelude.{if◌then◌else◌}
use Rattle.std.specs.Option.{option_and_then, option_map}
use Rattle.std.specs.List.{list_any, list_all}
use Rattle.std.specs.Str.{bytes_eq}
use Rattle.def_script.specs.Bytes.{Bytes}
use Rattle.def_text.specs.Word.{is_fragment_name}
use Rattle.def_text.specs.Letter.{Letter, letter_byte, letter_word}
use Rattle.def_text.specs.Refusal.{is_letter, is_run, levels_of}
use Rattle.def_text.specs.Scaffolding.Reader.{Form, form_name, FORMS, first_named, LETTERS, first_letter, letters_of, Head, named, run, neither, head_from, head_of, head_levels}
use Rattle.def_text.proofs.Words.{named_is, word_is}

-- ---- names

any_named : (w : Bytes) (forms : List Form) → list_any (bytes_eq w) (map form_name forms) ≡ is_some (first_named w forms)
any_named w [] = refl
any_named w (form ∷ forms) = grind (arith, any_named w forms)

-- a word is the name of a fragment where the table has it
name_is_found : (w : Bytes) → is_fragment_name w ≡ is_some (first_named w FORMS)
name_is_found w = any_named w FORMS

-- no name is a run of letters
name_no_run : (form : Form) → letters_of (form_name form) ≡ None
name_no_run form = grind arith

run_no_name : (w : Bytes) (l : Letter) (ls : List Letter) (o : Option Form) → first_named w FORMS ≡ o →
    letters_of w ≡ Some (l ∷ ls) →
    is_some o ≡ false
run_no_name w l ls None e h = refl
run_no_name w l ls (Some form) e h =
    let k : letters_of w ≡ None = ap letters_of (named_is w form FORMS e) ∙ name_no_run form in
    absurd (cc)

-- ---- letters

is_letter_byte : (l : Letter) → is_letter (letter_byte l) ≡ true
is_letter_byte l = grind arith

all_letters : (ls : List Letter) → list_all is_letter (letter_word ls) ≡ true
all_letters [] = refl
all_letters (l ∷ ls) = rw (is_letter_byte l, all_letters ls) refl

length_of_word : (ls : List Letter) → length (letter_word ls) ≡ length ls
length_of_word [] = refl
length_of_word (l ∷ ls) = ap suc (length_of_word ls)

not_all_here : (n : ℕ) (w : Bytes) (o : Option Letter) (p : Option (List Letter)) → first_letter n LETTERS ≡ o →
    (p ≡ None → list_all is_letter w ≡ false) → option_and_then (λ l. option_map (λ ls. l ∷ ls) p) o ≡ None →
    (is_letter n && list_all is_letter w) ≡ false
not_all_here n w o p = grind arith

not_all_letters : (w : Bytes) → letters_of w ≡ None → list_all is_letter w ≡ false
not_all_letters [] h = absurd (cc)
not_all_letters (n ∷ w) h = not_all_here n w (first_letter n LETTERS) (letters_of w) refl (not_all_letters w) h

-- ---- heads

abbrev pub is_begun : Head → Bool
is_begun (named form) = true
is_begun (run letter letters) = true
is_begun neither = false

-- what a word's head says of it
pub record HeadSays (w : Bytes) (head : Head) : Type 0 where
  pub begun : (is_fragment_name w || is_run w) ≡ is_begun head
  pub levels : levels_of w ≡ head_levels head

-- by the tests of a word
by_tests : (w : Bytes) (f r : Bool) → is_fragment_name w ≡ f → is_run w ≡ r →
    ((is_fragment_name w || is_run w) ≡ (f || r)) × (levels_of w ≡ (if f then 1 else if r then length w else 0))
by_tests w f r n e = (cc, cc)

run_is_run : (w : Bytes) (l : Letter) (ls : List Letter) → w ≡ letter_word (l ∷ ls) →
    (is_run w ≡ true) × (length w ≡ length (l ∷ ls))
run_is_run w l ls e = (ap is_run e ∙ all_letters (l ∷ ls), ap length e ∙ length_of_word (l ∷ ls))

no_run : (w : Bytes) → letters_of w ≡ None → is_run w ≡ false
no_run [] h = refl
no_run (n ∷ w) h = not_all_letters (n ∷ w) h

empty_says : (w : Bytes) → w ≡ [] → HeadSays w neither
empty_says w e = subst (λ v. HeadSays v neither) (sym e) (record { begun = refl; levels = refl })

says : (w : Bytes) (o : Option (List Letter)) (p : Option Form) → letters_of w ≡ o → first_named w FORMS ≡ p →
    HeadSays w (head_from o p)
says w (Some (l ∷ ls)) p h e =
    let (is, n) = run_is_run w l ls (word_is w (l ∷ ls) h) in
    let (begun, levels) = by_tests w false true (name_is_found w ∙ (ap is_some e ∙ run_no_name w l ls p e h)) is in
    record { begun = begun; levels = levels ∙ n }
says w (Some []) p h e = empty_says w (word_is w [] h)
says w None (Some form) h e =
    let (begun, levels) = by_tests w true false (name_is_found w ∙ ap is_some e) (no_run w h) in
    record { begun = begun; levels = levels }
says w None None h e =
    let (begun, levels) = by_tests w false false (name_is_found w ∙ ap is_some e) (no_run w h) in
    record { begun = begun; levels = levels }

pub head_says : (w : Bytes) → HeadSays w (head_of w)
head_says w = says w (letters_of w) (first_named w FORMS) refl refl
