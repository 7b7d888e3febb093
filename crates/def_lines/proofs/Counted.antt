-- There are as many answers as lines.
use Rattle.std.proofs.Common.{ℕ, ◌≡◌, ◌<◌, ◌==◌, ◌⊎◌, inl, inr, Bool, true, false, List, [], ◌∷◌, ◌++◌, Some, append_assoc, refl, sym, ◌∙◌, ap, subst, arith}
use Rattle.std.specs.Prelude.{◌^◌, ◌&&◌, nat_le, nat_lt, if◌then◌else◌, codes, length, Option, None, option_map, option_and_then}
use Rattle.std.specs.List.{list_all}
use Rattle.std.proofs.lemmas.Bool.{and_parts, leb-true, ne_eqb}
use Rattle.serde_json.specs.Data.{Data, null, boolean, number, string, array, object, unsigned, negative, float}
use Rattle.serde_json.specs.Find.{get, as_number, as_str, as_u64}
use Rattle.def_script.specs.Bytes.{Bytes}
use Rattle.def_files.specs.Json.{reading, is_object}
use Rattle.def_lines.specs.declared.LineFault.{LineFault}
use Rattle.def_lines.specs.declared.LineFault.TheVariants as fault
use Rattle.def_lines.specs.declared.Part.TheVariants as part
use Rattle.def_lines.specs.Lines.{cut, cut_before, last_line, lines, LF, Cut}
use Rattle.def_lines.specs.Question.{Id, whole, text, Line, asks, refused, is_plain, id_in, told_id, told_words, told_source, with_id, line_read, line_of, id_told, MOST_LINE, MOST_ID, MOST_ID_LENGTH}
use Rattle.def_lines.specs.Answer.{answer_line, fault_line, REFUSED, NO_MEMORY}
use Rattle.def_lines.specs.Answers.{AnswersOf, Answers, LacksMemory, AnswersEach}
use Rattle.def_lines.specs.Laws.{is_reported, ReportsTextsPlainly, IsReply, IsLack, Replies, AreToldBy, One, ReadsReplies}
use Rattle.def_lines.proofs.Lists.{to_all}
use Rattle.def_lines.proofs.Texts.{IsLow}
use Rattle.def_lines.proofs.Strings.{AsksText, line_asks}
use Rattle.def_lines.proofs.Cuts.{before_is, lines_alone}
use Rattle.def_lines.proofs.Told.{none_some, AreShown, is_shown, IsReread, without_feed, answer_is, shown_line, told_back}

-- ---- the id that is told is read again as it is

whole_again : (b : Bool) (n : ℕ) (id : Id) → nat_le n MOST_ID ≡ b → (if b then Some (whole n) else None) ≡ Some id → IsReread (Some id)
whole_again true n id small e = subst IsReread e (ap (λ b. if b then Some (whole n) else None) small)
whole_again false n id small e = absurd (none_some id e)

text_again : (b : Bool) (t : Bytes) (id : Id) → (nat_le (length t) MOST_ID_LENGTH && list_all is_plain t) ≡ b
    → (if b then Some (text t) else None) ≡ Some id → IsReread (Some id)
text_again true t id plain e = subst IsReread e (ap (λ b. if b then Some (text t) else None) plain)
text_again false t id plain e = absurd (none_some id e)

id_again : (d : Data) (id : Id) → id_in d ≡ Some id → IsReread (Some id)
id_again null id e = absurd (none_some id e)
id_again (boolean b) id e = absurd (none_some id e)
id_again (number (unsigned n)) id e = whole_again _ n id refl e
id_again (number (negative z)) id e = absurd (none_some id e)
id_again (number (float x)) id e = absurd (none_some id e)
id_again (string t) id e = text_again _ t id refl e
id_again (array ds) id e = absurd (none_some id e)
id_again (object ms) id e = absurd (none_some id e)

abbrev held : Option (Option Id) → Option Id
held None = None
held (Some id) = id

mapped_again : (d : Data) (o id : Option Id) → id_in d ≡ o → option_map (λ id. Some id) o ≡ Some id → IsReread id
mapped_again d None id is e = absurd (none_some id e)
mapped_again d (Some it) id is e = subst IsReread (ap held e) (id_again d it is)

told_again : (o : Option Data) (id : Option Id) → told_id o ≡ Some id → IsReread id
told_again None id e = subst IsReread (ap held e) tt
told_again (Some d) id e = mapped_again d (id_in d) id refl e

with_again : (id : Option (Option Id)) (words : Option (List Bytes)) (source : Option Bytes)
    → ((found : Option Id) → id ≡ Some found → IsReread found) → IsReread (id_told (with_id id words source))
with_again None words source h = tt
with_again (Some id) None source h = h id refl
with_again (Some id) (Some words) None h = h id refl
with_again (Some id) (Some words) (Some source) h = h id refl

if_again : (b : Bool) (x y : Line) → IsReread (id_told x) → IsReread (id_told y) → IsReread (id_told (if b then x else y))
if_again true x y p q = p
if_again false x y p q = q

read_again : (o : Option Data) → IsReread (id_told (line_read o))
read_again None = tt
read_again (Some d) =
    if_again (is_object d) _ _
    (with_again (told_id (get (codes "id") d)) (told_words (get (codes "words") d)) (told_source (get (codes "source") d)) (told_again (get (codes "id") d)))
    tt

line_again : (line : Bytes) → IsReread (id_told (line_of line))
unfolding line_of
line_again line = if_again (nat_lt MOST_LINE (length line)) _ _ tt (read_again (reading line))

-- ---- what an answer says

record IsSaid (IsAnswer : AnswersOf) (line : Line) (answer : Bytes) : Type 0 where
  id : Option Id
  status : ℕ
  report : Bytes
  replies : IsReply IsAnswer line id status report ⊎ IsLack line id status report
  is : answer ≡ answer_line id status report
  again : IsReread id
  small : status < 2 ^ 64
  plain : list_all is_reported report ≡ true

fault_plain : (fault : LineFault) → list_all is_reported (fault_line fault) ≡ true
fault_plain fault.TooLong = refl
fault_plain fault.NotJson = refl
fault_plain (fault.Shape part.Line) = refl
fault_plain (fault.Shape part.Id) = refl
fault_plain (fault.Shape part.Words) = refl
fault_plain (fault.Shape part.Source) = refl

said : (IsAnswer : AnswersOf) → ReportsTextsPlainly IsAnswer → (line : Line) (answer : Bytes) → IsReread (id_told line) → AsksText line
    → Answers IsAnswer line answer ⊎ LacksMemory line answer → IsSaid IsAnswer line answer
said IsAnswer plain (asks id words source) answer again low (inl (status, report, answers, e)) =
    let fits = plain words source status report (to_all IsLow source low) answers in
    record {
      id = id;
      status = status;
      report = report;
      replies = inl (refl, answers);
      is = e;
      again = again;
      small = fits.0;
      plain = fits.1;
    }
said IsAnswer plain (refused id fault) answer again low (inl e) =
    record {
      id = id;
      status = REFUSED;
      report = fault_line fault;
      replies = inl (refl, refl, refl);
      is = e;
      again = again;
      small = omega arith;
      plain = fault_plain fault;
    }
said IsAnswer plain line answer again low (inr (id, from, e)) =
    let known : IsReread id = elim from [
      | inl none ↦ subst IsReread (sym none) tt
      | inr same ↦ subst IsReread (sym same) again
    ] in
    record {
      id = id;
      status = NO_MEMORY;
      report = [];
      replies = inr (from, refl, refl);
      is = e;
      again = known;
      small = omega arith;
      plain = refl;
    }

-- ---- lines of answers

no_feed : (c : ℕ) → is_shown c ≡ true → (c == LF) ≡ false
no_feed c e = ne_eqb c LF (λ same. omega (arith, leb-true 32 c (and_parts (nat_le 32 c) (nat_le c 126) e).0))

cut_line : (line : Bytes) → AreShown line → cut (line ++ LF ∷ []) ≡ record { ended = line ∷ []; rest = [] }
unfolding cut
cut_line [] e = refl
cut_line (c ∷ line) e =
    let p = and_parts (is_shown c) (list_all is_shown line) e in
    ap (cut_before c) (cut_line line p.1) ∙ before_is false c _ (no_feed c p.0)

one_line : (line rest : Bytes) → AreShown line → lines (line ++ LF ∷ rest) ≡ line ∷ lines rest
one_line line rest e =
    lines_alone line rest ∙ ap (λ (c : Cut). (c.ended ++ last_line c.rest) ++ lines rest) (cut_line line e)

told_each : (IsAnswer : AnswersOf) → ReportsTextsPlainly IsAnswer → (ls : List Bytes) (answers : Bytes) → AnswersEach IsAnswer ls answers
    → AreToldBy IsAnswer ls (lines answers)
unfolding AnswersEach AreToldBy cut
told_each IsAnswer plain [] answers none = subst (λ a. AreToldBy IsAnswer [] (lines a)) (sym none) tt
told_each IsAnswer plain (line ∷ ls) answers (answer, rests, one, more, e) =
    let it = said IsAnswer plain (line_of line) answer (line_again line) (line_asks line) one in
    let body = without_feed it.id it.status it.report in
    let whole_is = it.is ∙ answer_is it.id it.status it.report in
    let parts = ap lines (e ∙ ap (λ a. a ++ rests) whole_is ∙ append_assoc body (LF ∷ []) rests)
    ∙ one_line body rests (shown_line it.id it.status it.report it.again it.small it.plain) in
    subst (AreToldBy IsAnswer (line ∷ ls)) (sym parts) (
      record {
        id = it.id;
        status = it.status;
        report = it.report;
        replies = it.replies;
        written = sym (answer_is it.id it.status it.report);
        back = told_back it.id it.status it.report it.again it.small it.plain;
      },
      told_each IsAnswer plain ls rests more,
    )

pub one_each : (IsAnswer : AnswersOf) → ReportsTextsPlainly IsAnswer → One IsAnswer
one_each IsAnswer plain source answers all = told_each IsAnswer plain (lines source) answers all

-- ---- what is read of an answer is what was written

value_of : (o : Option Data) (d e : Data) → o ≡ Some d → o ≡ Some e → d ≡ e
value_of o d e p q = cc

abbrev status_in : Data → Option ℕ
status_in value = option_and_then as_u64 (option_and_then as_number (get (codes "status") value))

abbrev report_in : Data → Option Bytes
report_in value = option_and_then as_str (get (codes "report") value)

same_of : {A : Type 0} (f : Data → Option A) (d e : Data) (x y : A) → d ≡ e → f d ≡ Some x → f e ≡ Some y → x ≡ y
same_of f d e x y same p q = let both = sym p ∙ ap f same ∙ q in cc

pub read_back : (IsAnswer : AnswersOf) → ReadsReplies IsAnswer
read_back IsAnswer line answer id status report told back =
    let same = value_of (reading answer) told.back.value back.value told.back.read back.read in
    let id_is = same_of (λ d. told_id (get (codes "id") d)) told.back.value back.value told.id id same told.back.told back.told in
    let status_is = same_of status_in told.back.value back.value told.status status same told.back.status_is back.status_is in
    let report_is = same_of report_in told.back.value back.value told.report report same told.back.report_is back.report_is in
    subst (λ report. Replies IsAnswer line id status report) report_is
    (subst (λ status. Replies IsAnswer line id status told.report) status_is
    (subst (λ id. Replies IsAnswer line id told.status told.report) id_is told.replies))
