-- What a value asks, by what was found in it.
use Rattle.std.proofs.Common.{Option, None, Some, ◌≡◌, ◌<◌, ◌≤◌, Bool, true, false, ℕ, List, [], ◌∷◌, length, map, refl, sym, ◌∙◌, ap, inl, inr, arith}
use Rattle.std.specs.Prelude.{option_and_then, option_map, nat_lt, if◌then◌else◌}
use Rattle.std.specs.List.{list_all}
use Rattle.std.specs.Str.{IsUtf8, is_utf8}
use Rattle.std.proofs.lemmas.Bool.{cases_Bool}
use Rattle.std.proofs.lemmas.Bool.Decides.{nat_tests}
use Rattle.std.proofs.lemmas.Str.{IsUtf8-from_is_utf8, is_utf8-from_IsUtf8}
use Rattle.serde_json.specs.Data.{Data, null, boolean, number, string, array, object}
use Rattle.serde_json.specs.Find.{as_str, as_number, as_u64, as_array}
use Rattle.serde_json.specs.Read.{read}
use Rattle.serde_json.specs.View.{view, items_of, items_view}
use Rattle.serde_json.specs.declared.value.Value.{Value}
use Rattle.def_files.specs.Json.{reading, elements_of}
use Rattle.def_files.specs.Parts.{is_text}
use Rattle.def_lines.specs.declared.LineFault.TheVariants as fault
use Rattle.def_lines.specs.Question.{id_number, id_text, id_in, text_in, texts_in, told_words, MOST_LINE, line_in, line_read, line_of}
use Rattle.def_lines.specs.Answer.{answer_line, fault_line, REFUSED}
use Rattle.def_lines.specs.Answers.{AnswersOf, AnswersLine}
use Rattle.ms_lines.specs.Puts.{AnswersOrLacks}

-- the id that a value is, by whether it is a string
pub id_of_text : (d : Data) (t : List ℕ) → Some t ≡ as_str d → id_in d ≡ id_text t
id_of_text null t e = absurd (cc e)
id_of_text (boolean b) t e = absurd (cc e)
id_of_text (number n) t e = absurd (cc e)
id_of_text (string s) t e = let same : s ≡ t = cc e in ap id_text same
id_of_text (array ds) t e = absurd (cc e)
id_of_text (object ms) t e = absurd (cc e)

pub id_of_number : (d : Data) → None ≡ as_str d → id_in d ≡ id_number (option_and_then as_u64 (as_number d))
id_of_number null e = refl
id_of_number (boolean b) e = refl
id_of_number (number n) e = refl
id_of_number (string s) e = absurd (cc e)
id_of_number (array ds) e = refl
id_of_number (object ms) e = refl

-- ---- words

elements_of_items : (ds : List Data) → elements_of (items_of ds) ≡ ds
elements_of_items [] = refl
elements_of_items (d ∷ ds) = ap (λ xs. d ∷ xs) (elements_of_items ds)

-- the words of a member that is a list, by whether its elements are texts
pub words_seen : (found : Option Data) (d : Data) (values seen : List Value) (are : Bool) → Some d ≡ found → Some (items_view values) ≡ as_array d → seen ≡ values
    → are ≡ list_all is_text (map view seen) → (if are then Some (map text_in (map view seen)) else None) ≡ told_words found
words_seen found d values seen are is_found is_array same tested =
    ap (λ b. if b then Some (map text_in (map view seen)) else None) tested
    ∙ ap (λ vs. texts_in (map view vs)) same
    ∙ sym (ap (λ o. option_and_then texts_in (option_map elements_of o)) (sym is_array) ∙ ap texts_in (elements_of_items (map view values)))
    ∙ ap told_words is_found

-- ---- lines

is_long : (most : ℕ) (line : List ℕ) → most < length line → nat_lt most (length line) ≡ true
is_long most line over = grind (arith, nat_tests)

is_short : (most : ℕ) (line : List ℕ) → length line ≤ most → nat_lt most (length line) ≡ false
is_short most line few = grind (arith, nat_tests)

-- one that has too many bytes
pub too_long_line : (IsAnswer : AnswersOf) (line : List ℕ) → MOST_LINE < length line
    → AnswersLine IsAnswer line (answer_line None REFUSED (fault_line fault.TooLong))
unfolding line_of
too_long_line IsAnswer line over = inl (rw (is_long MOST_LINE line over) refl)

-- one that hasn't, by what it is read as
pub short_line : (IsAnswer : AnswersOf) (line answer : List ℕ) → length line ≤ MOST_LINE
    → AnswersOrLacks IsAnswer (line_read (reading line)) answer → AnswersLine IsAnswer line answer
unfolding line_of
short_line IsAnswer line answer few answers = rw (is_short MOST_LINE line few) answers

-- one that is read as a value
pub read_line : (IsAnswer : AnswersOf) (line answer : List ℕ) (d : Data) → IsUtf8 line → read line ≡ Some d
    → AnswersOrLacks IsAnswer (line_in d) answer → AnswersOrLacks IsAnswer (line_read (reading line)) answer
read_line IsAnswer line answer d utf8 e answers = rw (is_utf8-from_IsUtf8 line utf8, e) answers

reading_none : (bytes : List ℕ) → (IsUtf8 bytes → read bytes ≡ None) → reading bytes ≡ None
reading_none bytes none = elim (cases_Bool (is_utf8 bytes)) [ inl e ↦ rw e (none (IsUtf8-from_is_utf8 bytes e)) | inr e ↦ rw e refl ]

-- one that is none
pub unread_line : (IsAnswer : AnswersOf) (line : List ℕ) → (IsUtf8 line → read line ≡ None)
    → AnswersOrLacks IsAnswer (line_read (reading line)) (answer_line None REFUSED (fault_line fault.NotJson))
unread_line IsAnswer line none = inl (rw (reading_none line none) refl)
