-- What is read of a text in Base58 that has a check behind.
use Rattle.std.proofs.Common.{◌≡◌, ℕ, ◌-◌, ◌&&◌, List, length, take, drop, true, false, sym, ap, subst, ◌∙◌}
use Rattle.std.proofs.lemmas.Bool.{cond-true, cond-false}
use Rattle.std.specs.Prelude.{nat_le, Option, Some, None, MatchOption}
use Rattle.std.specs.Option.{option_map, option_and_then}
use Rattle.std.specs.Str.{bytes_eq}
use Rattle.def_script.specs.Bytes.{Bytes}
use Rattle.def_address.specs.Digits.{read_digits}
use Rattle.def_address.specs.Base58.{base58_alphabet, rebased, check_of, unchecked, read_base58_check}

pub match_none : {A : Type 0} (o : Option A) (P : Type 0) (Q : A → Type 0) → o ≡ None → MatchOption o P Q → P
match_none None P Q e h = h
match_none (Some x) P Q e h = absurd (cc)

pub match_some : {A : Type 0} (o : Option A) (P : Type 0) (Q : A → Type 0) (x : A) → o ≡ Some x → MatchOption o P Q → Q x
match_some None P Q x e h = absurd (cc)
match_some (Some y) P Q x e h = let same : y ≡ x = cc in subst Q same h

-- nothing of a text with a character of no digit
pub none_of : (text : Bytes) → read_digits base58_alphabet text ≡ None → read_base58_check text ≡ None
unfolding read_base58_check
none_of text h = ap (λ (z : Option (List ℕ)). option_and_then unchecked (option_map (rebased 58 256) z)) h

-- and of another one the bytes of its digits, where the check is theirs
read_is : (text : Bytes) (digits : List ℕ) (all : Bytes) → read_digits base58_alphabet text ≡ Some digits → all ≡ rebased 58 256 digits → read_base58_check text ≡ unchecked all
unfolding read_base58_check
read_is text digits all h e = ap (λ (z : Option (List ℕ)). option_and_then unchecked (option_map (rebased 58 256) z)) h ∙ ap unchecked (sym e)

pub refused : (text : Bytes) (digits : List ℕ) (all : Bytes) → read_digits base58_alphabet text ≡ Some digits → all ≡ rebased 58 256 digits
    → (nat_le 4 (length all) && bytes_eq (drop (length all - 4) all) (check_of (take (length all - 4) all))) ≡ false → read_base58_check text ≡ None
refused text digits all h e test =
    read_is text digits all h e
    ∙ cond-false (nat_le 4 (length all) && bytes_eq (drop (length all - 4) all) (check_of (take (length all - 4) all))) (Some (take (length all - 4) all)) None test

pub passed : (text : Bytes) (digits : List ℕ) (all : Bytes) → read_digits base58_alphabet text ≡ Some digits → all ≡ rebased 58 256 digits
    → (nat_le 4 (length all) && bytes_eq (drop (length all - 4) all) (check_of (take (length all - 4) all))) ≡ true → read_base58_check text ≡ Some (take (length all - 4) all)
passed text digits all h e test =
    read_is text digits all h e
    ∙ cond-true (nat_le 4 (length all) && bytes_eq (drop (length all - 4) all) (check_of (take (length all - 4) all))) (Some (take (length all - 4) all)) None test
