-- Where letters end.
use Rattle.std.proofs.Common.{◌≡◌, ℕ, zero, suc, ◌+◌, ◌-◌, ◌<◌, ◌≤◌, Bool, true, false, List, [], ◌∷◌, length, get_or, drop, take, Option, Some, None, is_some, refl, sym, ap, ◌∙◌, nat_lt, arith, drop-cons, length-drop}
use Rattle.std.specs.Option.{option_map}
use Rattle.std.proofs.lemmas.List.{drop_all, get_or-drop, get_or-take}
use Rattle.def_script.specs.Bytes.{Bytes}
use Rattle.def_text.specs.Letter.{Letter, letter_byte}
use Rattle.def_text.specs.Token.{is_word_byte}
use Rattle.def_text.specs.Scaffolding.Reader.{LETTERS, first_letter, letters_of}
use Rattle.ms_text.specs.Scaffolding.Marks.{starts_word}
use Rattle.ms_text.specs.Scaffolding.Names.{starts_letter}
use Rattle.ms_text.proofs.PlaceLemmas.{starts_at}
use Rattle.ms_text.proofs.RunLemmas.{letter_is, letter_at, part_letters}

letter_byte_in_word : (l : Letter) → is_word_byte (letter_byte l) ≡ true
letter_byte_in_word l = grind arith

-- the letter at a place
at_letter : (text : Bytes) (at : ℕ) → starts_letter (drop at text) ≡ true → (at < length text) × (l : Letter) × (first_letter (get_or text at 0) LETTERS ≡ Some l)
at_letter text at h = by_end (nat_lt at (length text)) refl
  where
    spelled : (o : Option Letter) → first_letter (get_or text at 0) LETTERS ≡ o → is_some o ≡ true → (l : Letter) × (first_letter (get_or text at 0) LETTERS ≡ Some l)
    spelled None e s = absurd (cc)
    spelled (Some l) e s = (l, e)

    by_end : (within : Bool) → nat_lt at (length text) ≡ within → (at < length text) × (l : Letter) × (first_letter (get_or text at 0) LETTERS ≡ Some l)
    by_end true e =
        let l : at < length text = grind arith in
        let (letter, is) = spelled (first_letter (get_or text at 0) LETTERS) refl (ap starts_letter (sym (drop-cons text at 0 l)) ∙ h) in
        (l, letter, is)
    by_end false e =
        let above : length text ≤ at = grind arith in
        let none : starts_letter (drop at text) ≡ false = ap starts_letter (drop_all at text above) in
        absurd (cc)

pub letter_is_word : (text : Bytes) (at : ℕ) → starts_letter (drop at text) ≡ true → starts_word (drop at text) ≡ true
letter_is_word text at h =
    let (within, l, spells) = at_letter text at h in
    ap starts_word (drop-cons text at 0 within) ∙ (ap is_word_byte (letter_is (get_or text at 0) l spells) ∙ letter_byte_in_word l)

-- one more letter
one_more_letter : (xs : Bytes) (k : ℕ) (l : Letter) → k < length xs → is_some (letters_of (take k xs)) ≡ true → first_letter (get_or xs k 0) LETTERS ≡ Some l →
    is_some (letters_of (take (suc k) xs)) ≡ true
one_more_letter [] k l below all here = absurd (omega arith)
one_more_letter (x ∷ xs) zero l below all here = rw here refl
one_more_letter (x ∷ xs) (suc k) l below all here =
    by_letters x (take k xs) (take (suc k) xs) (letters_of (x ∷ take k xs)) refl all (λ some. one_more_letter xs k l (omega arith) some here)
  where
    put : (m : Letter) (o : Option (List Letter)) → is_some o ≡ true → is_some (option_map (λ ms. m ∷ ms) o) ≡ true
    put m None s = absurd (cc)
    put m (Some ms) s = refl

    by_letters : (x : ℕ) (u v : Bytes) (o : Option (List Letter)) → letters_of (x ∷ u) ≡ o → is_some o ≡ true → (is_some (letters_of u) ≡ true → is_some (letters_of v) ≡ true) →
        is_some (letters_of (x ∷ v)) ≡ true
    by_letters x u v None e s more = absurd (cc)
    by_letters x u v (Some ls) e s more =
        let (m, ms, is, first, others) = part_letters x u ls e in
        rw first (put m (letters_of v) (more (ap is_some others)))

pub letters_more : (text : Bytes) (at n : ℕ) → at ≤ n → is_some (letters_of (take (n - at) (drop at text))) ≡ true → starts_letter (drop n text) ≡ true →
    is_some (letters_of (take (n + 1 - at) (drop at text))) ≡ true
letters_more text at n h all here =
    let (below, l, spells) = at_letter text n here in
    let e : n + 1 - at ≡ suc (n - at) = omega arith in
    let m : at + (n - at) ≡ n = omega arith in
    let within : n - at < length (drop at text) = simp length-drop (omega arith) in
    let byte_is : get_or (drop at text) (n - at) 0 ≡ get_or text n 0 = get_or-drop at text (n - at) 0 ∙ ap (λ k. get_or text k 0) m in
    rw e (one_more_letter (drop at text) (n - at) l within all (ap (λ b. first_letter b LETTERS) byte_is ∙ spells))

-- a word that goes on behind its letters isn't one of letters
pub not_letters : (text w : Bytes) (at n : ℕ) → at ≤ n → w ≡ take (length w) (drop at text) → n ≤ at + length w → starts_word (drop (at + length w) text) ≡ false →
    starts_word (drop n text) ≡ true → starts_letter (drop n text) ≡ false → letters_of w ≡ None
not_letters text w at n after is longer whole more none = by_letters (letters_of w) refl
  where
    inside : (b : Bool) → nat_lt n (at + length w) ≡ b → n < at + length w
    inside true e = grind arith
    inside false e =
        let same : at + length w ≡ n = grind arith in
        let clash : false ≡ true = sym whole ∙ (ap (λ k. starts_word (drop k text)) same ∙ more) in
        absurd (cc)

    by_letters : (o : Option (List Letter)) → letters_of w ≡ o → letters_of w ≡ None
    by_letters None e = e
    by_letters (Some ls) e =
        let within : n < at + length w = inside (nat_lt n (at + length w)) refl in
        let m : at + (n - at) ≡ n = omega arith in
        let (l, here, _) = letter_at w ls (n - at) e (omega arith) in
        let byte_is : get_or w (n - at) 0 ≡ get_or text n 0 =
        ap (λ v. get_or v (n - at) 0) is ∙ (get_or-take (length w) (drop at text) (n - at) 0 (omega arith)
        ∙ (get_or-drop at text (n - at) 0 ∙ ap (λ k. get_or text k 0) m)) in
        let (below, _) = starts_at text n more in
        let letter : starts_letter (drop n text) ≡ true =
        ap starts_letter (drop-cons text n 0 below) ∙ ap is_some (ap (λ b. first_letter b LETTERS) (sym byte_is) ∙ here) in
        absurd (cc)
