-- The command of some words, found.
use Rattle.std.proofs.Common.{◌≡◌, inl, inr, ℕ, zero, suc, ◌+◌, ◌-◌, ◌%◌, ◌==◌, ◌≤◌, ◌<◌, length, is_some, IsSome, Bool, true, false, ◌&&◌, nat_eq, if◌then◌else◌, List, [], ◌∷◌, Option, Some, None, codes, decimal, find, option_map, refl, sym, ap, subst, ◌∙◌, arith, slice_index_or}
use Rattle.std.specs.Bool.{Decides}
use Rattle.std.specs.List.{list_all, range_with_len}
use Rattle.std.specs.Fmt.{digits}
use Rattle.std.specs.Str.{bytes_eq}
use Rattle.std.proofs.lemmas.Bool.{eqb-true, and_parts, cases_Bool}
use Rattle.std.proofs.lemmas.Bool.Decides.{Decides-and, Decides-eqb, Decides-by_and}
use Rattle.std.proofs.lemmas.List.Sums.{AllPass-from_list_all, list_all-from_AllPass}
use Rattle.hex.specs.Hex.{is_hex_digit}
use Rattle.std.proofs.lemmas.List.FromFn.{get_or-range_with_len}
use Rattle.std.proofs.lemmas.Slice.Eq.{bytes_eq-Decides}
use Rattle.def_script.specs.Bytes.{Bytes}
use Rattle.def_text.specs.Word.{key_of}
use Rattle.def_sane.specs.declared.Rules.TheVariants.{Policy, Consensus}
use Rattle.def_choice.specs.declared.choice.Choice.TheVariants.{Strict, Cheapest}
use Rattle.def_answer.specs.Words.{Command, script, asm, outline, check, satisfy, run, gen, policy, plan, audit, trace, trace_text, decode, words_of, MOST_GENERATED, IsCommand, IsForm, HasNoForm}

-- the number of 1 to 30 that a word spells
unfoldable pub children_of : Bytes → Option ℕ
children_of word = find (λ n. bytes_eq (decimal n) word) (range_with_len 1 MOST_GENERATED)

abbrev pub one_word : (first : Bytes) → Option Command
one_word first =
    if bytes_eq first (codes "run") then Some run
    else if bytes_eq first (codes "trace") then Some trace
    else None

abbrev pub two_words : (first second : Bytes) → Option Command
two_words first second =
    if bytes_eq first (codes "script") then Some (script Policy second)
    else if bytes_eq first (codes "asm") then Some (asm Policy second)
    else if bytes_eq first (codes "tree") then Some (outline Policy second)
    else if bytes_eq first (codes "check") then Some (check Policy second)
    else if bytes_eq first (codes "satisfy") then Some (satisfy Strict Policy second)
    else if bytes_eq first (codes "gen") then option_map gen (children_of second)
    else if bytes_eq first (codes "policy") then Some (policy second)
    else if bytes_eq first (codes "plan") then Some (plan second)
    else if bytes_eq first (codes "audit") then Some (audit second)
    else if bytes_eq first (codes "trace") then Some (trace_text second)
    else None

abbrev pub consensus_words : (first text : Bytes) → Option Command
consensus_words first text =
    if bytes_eq first (codes "script") then Some (script Consensus text)
    else if bytes_eq first (codes "asm") then Some (asm Consensus text)
    else if bytes_eq first (codes "tree") then Some (outline Consensus text)
    else if bytes_eq first (codes "check") then Some (check Consensus text)
    else if bytes_eq first (codes "satisfy") then Some (satisfy Strict Consensus text)
    else None

abbrev pub three_words : (first second third : Bytes) → Option Command
three_words first second third =
    if bytes_eq first (codes "satisfy") && bytes_eq second (codes "--malleable") then Some (satisfy Cheapest Policy third)
    else if bytes_eq second (codes "--consensus") then consensus_words first third
    else None

abbrev pub four_words : (first second third fourth : Bytes) → Option Command
four_words first second third fourth =
    if bytes_eq first (codes "satisfy") && (bytes_eq second (codes "--malleable") && bytes_eq third (codes "--consensus")) then
    Some (satisfy Cheapest Consensus fourth)
    else None

abbrev pub are_script_and_keys : (digits : Bytes) → (keys : List Bytes) → Bool
are_script_and_keys digits keys = ((length digits % 2 == 0) && list_all is_hex_digit digits) && list_all (λ word. is_some (key_of word)) keys

abbrev pub decode_words : (digits : Bytes) → (keys : List Bytes) → Option Command
decode_words digits keys = if are_script_and_keys digits keys then Some (decode digits keys) else None

abbrev pub several_words : (first second : Bytes) → (more : List Bytes) → Option Command
several_words first second [] = two_words first second
several_words first second (third ∷ []) = three_words first second third
several_words first second (third ∷ fourth ∷ []) = four_words first second third fourth
several_words first second (third ∷ fourth ∷ fifth ∷ more) = None

abbrev pub command_of : List Bytes → Option Command
command_of [] = None
command_of (first ∷ []) = one_word first
command_of (first ∷ second ∷ more) = if bytes_eq first (codes "decode") then decode_words second more else several_words first second more

-- ---- a command is found from its words

script_and_keys_tell : (digits : Bytes) (keys : List Bytes) → Decides (are_script_and_keys digits keys) (IsCommand (decode digits keys))
script_and_keys_tell digits keys =
    Decides-and _ _ (Decides-and _ _ (Decides-eqb (length digits % 2) 0) (AllPass-from_list_all is_hex_digit digits, list_all-from_AllPass is_hex_digit digits))
    (Decides-by_and (λ word. is_some (key_of word)) (λ word. IsSome (key_of word)) (list_all (λ word. is_some (key_of word)))
    (λ word. (λ e. e, λ h. h)) refl (λ x xs. refl) keys)

found_number : Option ℕ → ℕ → Bool
found_number None n = false
found_number (Some m) n = nat_eq m n

all_found : list_all (λ n. found_number (children_of (decimal n)) n) (range_with_len 1 30) ≡ true
unfolding children_of digits found_number
all_found = refl

found_is : (o : Option ℕ) (n : ℕ) → found_number o n ≡ true → o ≡ Some n
unfolding found_number
found_is None n e = cc e
found_is (Some m) n e = ap Some (eqb-true m n e)

children_found : (n : ℕ) → 1 ≤ n → n ≤ 30 → children_of (decimal n) ≡ Some n
children_found n some few =
    let at = AllPass-from_list_all (λ m. found_number (children_of (decimal m)) m) (range_with_len 1 30) all_found (n - 1) 0 (omega arith) in
    let here : slice_index_or (range_with_len 1 30) (n - 1) 0
    ≡ n = get_or-range_with_len 1 30 (n - 1) 0 (omega arith) ∙ omega arith in
    found_is (children_of (decimal n)) n (subst (λ m. found_number (children_of (decimal m)) m ≡ true) here at)

pub command_found : (command : Command) → IsCommand command → command_of (words_of command) ≡ Some command
command_found (script Policy text) h = refl
command_found (asm Policy text) h = refl
command_found (outline Policy text) h = refl
command_found (check Policy text) h = refl
command_found (satisfy Strict Policy text) h = refl
command_found (satisfy Cheapest Policy text) h = refl
command_found (gen n) h = ap (option_map gen) (children_found n h.0 h.1)
command_found (decode digits keys) h = rw ((script_and_keys_tell digits keys).1 h)
command_found command h = refl

-- ---- and its words are those

-- a word that is the given one
is_word : (word wanted : Bytes) → bytes_eq word wanted ≡ true → word ≡ wanted
is_word word wanted e = (bytes_eq-Decides word wanted).0 e

-- a command that is found in one branch or the other
branch : (words : List Bytes) (c : Command) (b : Bool) (x y : Option Command) → (b ≡ true → x ≡ Some c → IsForm words c) → (y ≡ Some c → IsForm words c)
    → (if b then x else y) ≡ Some c → IsForm words c
branch words c b x y here there e = grind arith

-- a command that is found by its first word
named : (first name : Bytes) (words : List Bytes) (d c : Command) → name ∷ words ≡ words_of d → IsCommand d → bytes_eq first name ≡ true
    → Some d ≡ Some c → IsForm (first ∷ words) c
named first name words d c same in_range is e =
    let one : d ≡ c = cc e in
    subst (IsForm (first ∷ words)) one (record { same = ap (λ w. w ∷ words) (is_word first name is) ∙ same; in_range = in_range })

-- what is found in a range is in it, and passes
found_in : (p : ℕ → Bool) (a count n : ℕ) → find p (range_with_len a count) ≡ Some n → (p n ≡ true) × (a ≤ n) × (n < a + count)
found_in p a zero n e = cc e
found_in p a (suc count) n e = elim (cases_Bool (p a)) [
  | inl q ↦ let same : a ≡ n = cc (rw q at e) in (rw same at q, omega arith, omega arith)
  | inr q ↦ let found = found_in p (a + 1) count n (rw q at e) in (found.0, omega arith, omega arith)
]

children_is : (word : Bytes) (n : ℕ) → children_of word ≡ Some n → (word ≡ decimal n) × (1 ≤ n) × (n ≤ 30)
unfolding children_of
children_is word n e =
    let found = found_in (λ m. bytes_eq (decimal m) word) 1 30 n e in
    (sym ((bytes_eq-Decides (decimal n) word).0 found.0), found.1, omega arith)

gen_form : (first second : Bytes) (o : Option ℕ) (c : Command) → children_of second ≡ o → bytes_eq first (codes "gen") ≡ true → option_map gen o ≡ Some c
    → IsForm (first ∷ second ∷ []) c
gen_form first second None c found is e = cc e
gen_form first second (Some n) c found is e =
    let at = children_is second n found in rw at.0 (named first (codes "gen") _ (gen n) c refl (at.1, at.2) is e)

two_form : (first second : Bytes) (c : Command) → two_words first second ≡ Some c → IsForm (first ∷ second ∷ []) c
two_form first second c =
    branch _ c _ _ _ (named first (codes "script") _ (script Policy second) c refl tt) (
    branch _ c _ _ _ (named first (codes "asm") _ (asm Policy second) c refl tt) (
    branch _ c _ _ _ (named first (codes "tree") _ (outline Policy second) c refl tt) (
    branch _ c _ _ _ (named first (codes "check") _ (check Policy second) c refl tt) (
    branch _ c _ _ _ (named first (codes "satisfy") _ (satisfy Strict Policy second) c refl tt) (
    branch _ c _ _ _ (gen_form first second (children_of second) c refl) (
    branch _ c _ _ _ (named first (codes "policy") _ (policy second) c refl tt) (
    branch _ c _ _ _ (named first (codes "plan") _ (plan second) c refl tt) (
    branch _ c _ _ _ (named first (codes "audit") _ (audit second) c refl tt) (
    branch _ c _ _ _ (named first (codes "trace") _ (trace_text second) c refl tt) (λ e. cc e))))))))))

consensus_form : (first third : Bytes) (c : Command) → consensus_words first third ≡ Some c → IsForm (first ∷ codes "--consensus" ∷ third ∷ []) c
consensus_form first third c =
    branch _ c _ _ _ (named first (codes "script") _ (script Consensus third) c refl tt) (
    branch _ c _ _ _ (named first (codes "asm") _ (asm Consensus third) c refl tt) (
    branch _ c _ _ _ (named first (codes "tree") _ (outline Consensus third) c refl tt) (
    branch _ c _ _ _ (named first (codes "check") _ (check Consensus third) c refl tt) (
    branch _ c _ _ _ (named first (codes "satisfy") _ (satisfy Strict Consensus third) c refl tt) (λ e. cc e)))))

three_form : (first second third : Bytes) (c : Command) → three_words first second third ≡ Some c → IsForm (first ∷ second ∷ third ∷ []) c
three_form first second third c =
    branch _ c _ _ _ (λ is e.
    let both = and_parts (bytes_eq first (codes "satisfy")) (bytes_eq second (codes "--malleable")) is in
    rw (is_word second (codes "--malleable") both.1) (named first (codes "satisfy") _ (satisfy Cheapest Policy third) c refl tt both.0 e)) (
    branch _ c _ _ _ (λ is e. rw (is_word second (codes "--consensus") is) (consensus_form first third c e)) (λ e. cc e))

four_form : (first second third fourth : Bytes) (c : Command) → four_words first second third fourth ≡ Some c →
    IsForm (first ∷ second ∷ third ∷ fourth ∷ []) c
four_form first second third fourth c =
    branch _ c _ _ _ (λ is e.
    let both = and_parts (bytes_eq first (codes "satisfy")) _ is in
    let more = and_parts (bytes_eq second (codes "--malleable")) (bytes_eq third (codes "--consensus")) both.1 in
    rw (is_word second (codes "--malleable") more.0, is_word third (codes "--consensus") more.1)
    (named first (codes "satisfy") _ (satisfy Cheapest Consensus fourth) c refl tt both.0 e)) (λ e. cc e)

several_form : (first second : Bytes) (more : List Bytes) (c : Command) → several_words first second more ≡ Some c → IsForm (first ∷ second ∷ more) c
several_form first second [] c e = two_form first second c e
several_form first second (third ∷ []) c e = three_form first second third c e
several_form first second (third ∷ fourth ∷ []) c e = four_form first second third fourth c e
several_form first second (third ∷ fourth ∷ fifth ∷ more) c e = cc e

pub is_form : (words : List Bytes) (c : Command) → command_of words ≡ Some c → IsForm words c
is_form [] c e = cc e
is_form (first ∷ []) c e =
    branch _ c _ _ _ (named first (codes "run") [] run c refl tt) (
    branch _ c _ _ _ (named first (codes "trace") [] trace c refl tt) (λ e. cc e)) e
is_form (first ∷ second ∷ more) c e =
    branch _ c _ _ _ (λ is. branch _ c _ _ _ (λ told.
    named first (codes "decode") _ (decode second more) c refl ((script_and_keys_tell second more).0 told) is) (λ e. cc e))
    (several_form first second more c) e

-- the command of words that have a form
pub form_found : (words : List Bytes) (c : Command) → IsForm words c → command_of words ≡ Some c
form_found words c form = ap command_of form.same ∙ command_found c form.in_range

pub none_has_form : (words : List Bytes) → command_of words ≡ None → HasNoForm words
none_has_form words e c form = cc (sym e ∙ form_found words c form)
