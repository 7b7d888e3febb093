-- Words of letters.
use Rattle.std.proofs.Common.{◌≡◌, ◌<◌, true, List, [], ◌∷◌, length, Option, Some, None, is_some, refl, sym, ap, ◌∙◌, arith}
use Rattle.def_script.specs.Bytes.{Bytes}
use Rattle.def_text.specs.Letter.{Letter, letter_byte}
use Rattle.std.proofs.lemmas.List.{length-map}
use Rattle.hex.proofs.OnLiterals.{hex_on_literals}
use Rattle.def_text.specs.Word.{number_of, key_of}
use Rattle.def_hash.specs.declared.HashKind.TheVariants.{Sha256}
use Rattle.def_text.specs.Scaffolding.Reader.{Leaf, leaf_hash, leaf_of, FORMS, first_named, letters_of, head_from}
use Rattle.def_text.proofs.Words.{word_is}
use Rattle.ms_text.specs.Scaffolding.Names.{IsLetters}

letters_by : (w : Bytes) (o : Option (List Letter)) → letters_of w ≡ o → is_some o ≡ true → 0 < length w → IsLetters w
letters_by w None e h l = absurd (cc)
letters_by w (Some []) e h l = let none : w ≡ [] = word_is w [] e in absurd (omega (arith, l, ap length none))
letters_by w (Some (first ∷ others)) e h l =
    record { first = first; others = others; spells = e; is = ap (λ o. head_from o (first_named w FORMS)) e }

pub run_of_letters : (w : Bytes) → is_some (letters_of w) ≡ true → 0 < length w → IsLetters w
run_of_letters w h l = letters_by w (letters_of w) refl h l

-- no number, key or hash value is empty
pub no_empty_number : number_of [] ≡ None
no_empty_number = refl

pub no_empty_key : key_of [] ≡ None
unfolding hex_on_literals
no_empty_key = refl

pub no_empty_leaf : (leaf : Leaf) → leaf_of leaf [] ≡ None
unfolding hex_on_literals
no_empty_leaf (leaf_hash Sha256) = refl
no_empty_leaf (leaf_hash kind) = refl
no_empty_leaf leaf = refl

pub letters_are_long : (w : Bytes) (ls : List Letter) → letters_of w ≡ Some ls → length ls ≡ length w
letters_are_long w ls h = sym (ap length (word_is w ls h) ∙ length-map ls letter_byte)
