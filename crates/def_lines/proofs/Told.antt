-- An answer is a line of JSON, which tells its status, its report and its id.
use Rattle.std.proofs.Common.{ℕ, ◌≡◌, ◌<◌, ◌≤◌, ◌==◌, ◌&&◌, ◌||◌, ◌⊎◌, inl, inr, Bool, true, false, List, [], ◌∷◌, ◌++◌, Some, append_assoc, append-nil, refl, sym, ◌∙◌, ap, subst, arith}
use Rattle.std.specs.Prelude.{◌^◌, nat_le, nat_lt, not, if◌then◌else◌, codes, decimal, length, Option, None, option_map, option_and_then, ⊤}
use Rattle.std.specs.List.{list_all}
use Rattle.std.proofs.lemmas.Bool.{and_parts, leb-true, le-leb, lt-ltb, eqb-true, eqb-false, not-true}
use Rattle.std.proofs.lemmas.List.Folds.{list_all-append}
use Rattle.std.proofs.lemmas.Str.{is_utf8-from_IsUtf8}
use Rattle.std.proofs.lemmas.Fmt.{decimal_is_IsNumeral}
use Rattle.std.specs.Str.Parse.{AllDigits}
use Rattle.std.proofs.lemmas.Str.Parse.{digit_from_value}
use Rattle.json.specs.Lex.{tokens}
use Rattle.json.specs.Token.{Token}
use Rattle.json.specs.Json as json
use Rattle.json.specs.Print.{escape, escape_byte, print}
use Rattle.json.specs.Tree.{json_tokens, HasNumbers, depth}
use Rattle.json.proofs.OnLiterals.{json_on_literals}
use Rattle.json.proofs.Printed.Decimals.{IsNumber-decimal}
use Rattle.json.proofs.Printed.Strings.{escape_byte_plain}
use Rattle.json.proofs.Printed.Tokens.{tokens-print}
use Rattle.json.proofs.Printed.Trees.{ArePrintable-json_tokens, value-json_tokens}
use Rattle.json.proofs.Printed.Utf8.{IsUtf8-are_ascii, are_ascii}
use Rattle.serde_json.specs.Data.{Data, Num, number, string, object, unsigned, Members, no_members, member, put}
use Rattle.serde_json.specs.Find.{get, as_number, as_str, as_u64}
use Rattle.serde_json.specs.Read.{read, number_of, of_json, of_members, max_depth}
use Rattle.serde_json.proofs.Numbers.{number_of-decimal}
use Rattle.def_script.specs.Bytes.{Bytes}
use Rattle.def_files.specs.Json.{is_object}
use Rattle.def_lines.specs.Lines.{LF}
use Rattle.def_lines.specs.Question.{Id, whole, text, is_plain, id_in, told_id, MOST_ID, MOST_ID_LENGTH}
use Rattle.def_lines.specs.Answer.{id_member, byte_escaped, escaped, answer_line}
use Rattle.def_lines.specs.Laws.{is_reported, TellsBack}
use Rattle.def_lines.proofs.OnLiterals.{lines_on_literals}

-- ---- characters from space to `~`

abbrev pub is_shown : ℕ → Bool
is_shown c = nat_le 32 c && nat_le c 126

abbrev pub AreShown : Bytes → Type 0
AreShown bytes = list_all is_shown bytes ≡ true

either : (a b : Bool) → (a || b) ≡ true → (a ≡ true) ⊎ (b ≡ true)
either true b e = inl refl
either false b e = inr e

both : (a b : Bool) → a ≡ true → b ≡ true → (a && b) ≡ true
both a b p q = ap (λ a. a && b) p ∙ q

shown : (c : ℕ) → 32 ≤ c → c ≤ 126 → is_shown c ≡ true
shown c low high = both (nat_le 32 c) (nat_le c 126) (le-leb 32 c low) (le-leb c 126 high)

pub are_shown : (a b : Bytes) → AreShown a → AreShown b → AreShown (a ++ b)
are_shown a b p q = list_all-append is_shown a b ∙ both (list_all is_shown a) (list_all is_shown b) p q

shown_digits : (digits : Bytes) → AllDigits 10 digits → AreShown digits
shown_digits [] all = refl
shown_digits (c ∷ digits) all =
    let range = digit_from_value c all.0 in
    both (is_shown c) (list_all is_shown digits) (shown c (omega (arith, range)) (omega (arith, range))) (shown_digits digits all.1)

shown_decimal : (n : ℕ) → n < 2 ^ 64 → AreShown (decimal n)
shown_decimal n small = shown_digits (decimal n) (decimal_is_IsNumeral n small).0.1

pub are_ascii_shown : (bytes : Bytes) → AreShown bytes → are_ascii bytes ≡ true
are_ascii_shown [] e = refl
are_ascii_shown (c ∷ bytes) e =
    let p = and_parts (is_shown c) (list_all is_shown bytes) e in
    let high = leb-true c 126 (and_parts (nat_le 32 c) (nat_le c 126) p.0).1 in
    both (nat_lt c 128) (are_ascii bytes) (lt-ltb c 128 (omega arith)) (are_ascii_shown bytes p.1)

-- ---- reports, escaped

-- a byte that JSON writes as it is
record IsPlain (c : ℕ) : Type 0 where
  low : 32 ≤ c
  high : c ≤ 126
  quote : c ≡ 34 → ⊥
  backslash : c ≡ 92 → ⊥

from_plain : (c : ℕ) → is_plain c ≡ true → IsPlain c
from_plain c e =
    let last = and_parts (nat_le 32 c && nat_le c 126 && not (c == 34)) (not (c == 92)) e in
    let third = and_parts (nat_le 32 c && nat_le c 126) (not (c == 34)) last.0 in
    let first = and_parts (nat_le 32 c) (nat_le c 126) third.0 in
    record {
      low = leb-true 32 c first.0;
      high = leb-true c 126 first.1;
      quote = eqb-false c 34 (not-true _ third.1);
      backslash = eqb-false c 92 (not-true _ last.1);
    }

plain_escaped : (c : ℕ) → IsPlain c → escape_byte c ≡ c ∷ []
plain_escaped c p = escape_byte_plain c p.quote p.backslash p.low

plain_byte : (b : Bool) (c : ℕ) → (c == LF) ≡ b → 32 ≤ c → byte_escaped c ≡ c ∷ []
plain_byte true c e low = absurd (omega (arith, low, eqb-true c LF e))
plain_byte false c e low = ap (λ b. if b then codes "\\n" else c ∷ []) e

-- a character of a report, escaped: as JSON escapes it, and from space to `~`
record IsEscaped (c : ℕ) : Type 0 where
  same : byte_escaped c ≡ escape_byte c
  seen : AreShown (byte_escaped c)

feed_escaped : IsEscaped LF
unfolding json_on_literals
feed_escaped = record { same = refl; seen = refl }

byte_is : (c : ℕ) → is_reported c ≡ true → IsEscaped c
byte_is c e = elim (either (is_plain c) (c == LF) e) [
  | inl plain ↦
      let p = from_plain c plain in
      let one = plain_byte (c == LF) c refl p.low in
      record {
        same = one ∙ sym (plain_escaped c p);
        seen = subst AreShown (sym one) (both (is_shown c) true (shown c p.low p.high) refl);
      }
  | inr feed ↦ subst IsEscaped (sym (eqb-true c LF feed)) feed_escaped
]

-- `escaped` is JSON's own escape
pub escaped_is : (report : Bytes) → list_all is_reported report ≡ true → (escaped report ≡ escape report) × AreShown (escaped report)
unfolding escaped
escaped_is [] e = (refl, refl)
escaped_is (c ∷ report) e =
    let p = and_parts (is_reported c) (list_all is_reported report) e in
    let one = byte_is c p.0 in
    let more = escaped_is report p.1 in
    (ap (λ l. l ++ escaped report) one.same ∙ ap (λ l. escape_byte c ++ l) more.0, are_shown (byte_escaped c) (escaped report) one.seen more.1)

plain_text : (t : Bytes) → list_all is_plain t ≡ true → (escape t ≡ t) × AreShown t
plain_text [] e = (refl, refl)
plain_text (c ∷ t) e =
    let p = and_parts (is_plain c) (list_all is_plain t) e in
    let one = from_plain c p.0 in
    let more = plain_text t p.1 in
    (ap (λ l. l ++ escape t) (plain_escaped c one) ∙ ap (λ l. c ∷ l) more.0, both (is_shown c) (list_all is_shown t) (shown c one.low one.high) more.1)

-- ---- ids

abbrev pub id_data : Id → Data
id_data (whole n) = number (unsigned n)
id_data (text t) = string t

-- an id that is read again as it is
abbrev pub IsReread : Option Id → Type 0
IsReread None = ⊤
IsReread (Some id) = id_in (id_data id) ≡ Some id

pub none_some : {A : Type 0} (x : A) → None ≡ Some x → ⊥
none_some x e = cc

whole_small : (b : Bool) (n : ℕ) → nat_le n MOST_ID ≡ b → (if b then Some (whole n) else None) ≡ Some (whole n) → n ≤ MOST_ID
whole_small true n small e = leb-true n MOST_ID small
whole_small false n small e = absurd (none_some (whole n) e)

text_plain : (b : Bool) (t : Bytes) → (nat_le (length t) MOST_ID_LENGTH && list_all is_plain t) ≡ b → (if b then Some (text t) else None) ≡ Some (text t)
    → list_all is_plain t ≡ true
text_plain true t plain e = (and_parts (nat_le (length t) MOST_ID_LENGTH) (list_all is_plain t) plain).1
text_plain false t plain e = absurd (none_some (text t) e)

-- ---- the line of an answer, without its line feed

abbrev pub without_feed : Option Id → (status : ℕ) → (report : Bytes) → Bytes
without_feed id status report =
    codes "{" ++ id_member id ++ codes "\"status\":" ++ decimal status ++ codes ",\"report\":\"" ++ escaped report ++ codes "\"}"

pub answer_is : (id : Option Id) (status : ℕ) (report : Bytes) → answer_line id status report ≡ without_feed id status report ++ LF ∷ []
unfolding answer_line
answer_is id status report = refl

-- the same, part by part
abbrev report_on : (report : Bytes) → Bytes
report_on report = codes ",\"report\":\"" ++ (escaped report ++ codes "\"}")

abbrev status_on : (status : ℕ) (report : Bytes) → Bytes
status_on status report = codes "\"status\":" ++ (decimal status ++ report_on report)

abbrev in_parts : Option Id → (status : ℕ) → (report : Bytes) → Bytes
in_parts id status report = codes "{" ++ (id_member id ++ status_on status report)

parted : (a b c d e f g : Bytes) → a ++ b ++ c ++ d ++ e ++ f ++ g ≡ a ++ (b ++ (c ++ (d ++ (e ++ (f ++ g)))))
parted a b c d e f g =
    append_assoc (a ++ b ++ c ++ d ++ e) f g ∙ append_assoc (a ++ b ++ c ++ d) e (f ++ g) ∙ append_assoc (a ++ b ++ c) d (e ++ (f ++ g))
    ∙ append_assoc (a ++ b) c (d ++ (e ++ (f ++ g))) ∙ append_assoc a b (c ++ (d ++ (e ++ (f ++ g))))

parts_are : (id : Option Id) (status : ℕ) (report : Bytes) → without_feed id status report ≡ in_parts id status report
parts_are id status report =
    parted (codes "{") (id_member id) (codes "\"status\":") (decimal status) (codes ",\"report\":\"") (escaped report) (codes "\"}")

shown_id : (id : Option Id) → IsReread id → AreShown (id_member id)
shown_id None is = refl
shown_id (Some (whole n)) is =
    are_shown (codes "\"id\":" ++ decimal n) (codes ",")
    (are_shown (codes "\"id\":") (decimal n) refl (shown_decimal n (omega (arith, whole_small _ n refl is)))) refl
shown_id (Some (text t)) is =
    are_shown (codes "\"id\":" ++ (codes "\"" ++ t ++ codes "\"")) (codes ",")
    (are_shown (codes "\"id\":") (codes "\"" ++ t ++ codes "\"") refl
    (are_shown (codes "\"" ++ t) (codes "\"") (are_shown (codes "\"") t refl (plain_text t (text_plain _ t refl is)).1) refl)) refl

pub shown_line : (id : Option Id) (status : ℕ) (report : Bytes) → IsReread id → status < 2 ^ 64 → list_all is_reported report ≡ true
    → AreShown (without_feed id status report)
shown_line id status report is small plain =
    subst AreShown (sym (parts_are id status report))
    (are_shown (codes "{") (id_member id ++ status_on status report) refl
    (are_shown (id_member id) (status_on status report) (shown_id id is)
    (are_shown (codes "\"status\":") (decimal status ++ report_on report) refl
    (are_shown (decimal status) (report_on report) (shown_decimal status small)
    (are_shown (codes ",\"report\":\"") (escaped report ++ codes "\"}") refl
    (are_shown (escaped report) (codes "\"}") (escaped_is report plain).1 refl))))))

-- ---- as JSON

abbrev status_members : (status : ℕ) (report : Bytes) → json.Members
status_members status report =
    json.member (codes "status") (json.number (decimal status)) (json.member (codes "report") (json.string report) json.no_members)

abbrev members_with : Option Id → json.Members → json.Members
members_with None ms = ms
members_with (Some (whole n)) ms = json.member (codes "id") (json.number (decimal n)) ms
members_with (Some (text t)) ms = json.member (codes "id") (json.string t) ms

abbrev json_of : Option Id → (status : ℕ) → (report : Bytes) → json.Json
json_of id status report = json.object (members_with id (status_members status report))

-- the text behind the first word of the status
report_is : (report : Bytes) → list_all is_reported report ≡ true
    → codes ",\"report\":\"" ++ ((escape report ++ 34 ∷ []) ++ 125 ∷ []) ≡ report_on report
report_is report plain =
    ap (λ l. codes ",\"report\":\"" ++ l) (append_assoc (escape report) (34 ∷ []) (125 ∷ []) ∙ ap (λ l. l ++ codes "\"}") (sym (escaped_is report plain).0))

printed_parts : (id : Option Id) (status : ℕ) (report : Bytes) → IsReread id → list_all is_reported report ≡ true
    → print (json_tokens (json_of id status report)) ≡ in_parts id status report
unfolding json_on_literals
printed_parts None status report is plain = ap (λ l. codes "{\"status\":" ++ (decimal status ++ l)) (report_is report plain)
printed_parts (Some (whole n)) status report is plain =
    ap (λ l. codes "{\"id\":" ++ (decimal n ++ (codes ",\"status\":" ++ (decimal status ++ l)))) (report_is report plain)
    ∙ ap (λ l. codes "{\"id\":" ++ l) (sym (append_assoc (decimal n) (codes ",") (status_on status report)))
printed_parts (Some (text t)) status report is plain =
    ap (λ l. codes "{\"id\":\"" ++ ((escape t ++ 34 ∷ []) ++ (codes ",\"status\":" ++ (decimal status ++ l)))) (report_is report plain)
    ∙ ap (λ l. codes "{\"id\":\"" ++ ((l ++ 34 ∷ []) ++ (codes "," ++ status_on status report))) (plain_text t (text_plain _ t refl is)).0
    ∙ ap (λ l. codes "{\"id\":\"" ++ l) (sym (append_assoc (t ++ 34 ∷ []) (codes ",") (status_on status report)))

printed : (id : Option Id) (status : ℕ) (report : Bytes) → IsReread id → list_all is_reported report ≡ true
    → print (json_tokens (json_of id status report)) ≡ without_feed id status report
printed id status report is plain = printed_parts id status report is plain ∙ sym (parts_are id status report)

has_numbers : (id : Option Id) (status : ℕ) (report : Bytes) → IsReread id → status < 2 ^ 64 → HasNumbers (json_of id status report)
has_numbers None status report is small = (IsNumber-decimal status small, (tt, tt))
has_numbers (Some (whole n)) status report is small =
    (IsNumber-decimal n (omega (arith, whole_small _ n refl is)), (IsNumber-decimal status small, (tt, tt)))
has_numbers (Some (text t)) status report is small = (tt, (IsNumber-decimal status small, (tt, tt)))

shallow : (id : Option Id) (status : ℕ) (report : Bytes) → depth (json_of id status report) ≤ max_depth
shallow None status report = omega arith
shallow (Some (whole n)) status report = omega arith
shallow (Some (text t)) status report = omega arith

-- the value, whose members stand in the order of their names
abbrev status_data : (status : ℕ) (report : Bytes) → Members
status_data status report = member (codes "report") (string report) (member (codes "status") (number (unsigned status)) no_members)

abbrev data_of : Option Id → (status : ℕ) → (report : Bytes) → Data
data_of None status report = object (status_data status report)
data_of (Some id) status report = object (member (codes "id") (id_data id) (status_data status report))

status_read : (o : Option Num) (n : ℕ) (next : Data → Option Members) → o ≡ Some (unsigned n)
    → option_and_then next (option_map number o) ≡ next (number (unsigned n))
status_read o n next e = ap (λ o. option_and_then next (option_map number o)) e

value_is : (id : Option Id) (status : ℕ) (report : Bytes) → IsReread id → status < 2 ^ 64
    → of_json (json_of id status report) ≡ Some (data_of id status report)
unfolding lines_on_literals
value_is None status report is small =
    ap (option_map object) (status_read (number_of (decimal status)) status
    (λ d. of_members (json.member (codes "report") (json.string report) json.no_members) (put (codes "status") d no_members))
    (number_of-decimal status small))
value_is (Some (whole n)) status report is small =
    ap (option_map object) (status_read (number_of (decimal n)) n
    (λ d. of_members (status_members status report) (put (codes "id") d no_members))
    (number_of-decimal n (omega (arith, whole_small _ n refl is)))
    ∙ status_read (number_of (decimal status)) status
    (λ d. of_members (json.member (codes "report") (json.string report) json.no_members)
    (put (codes "status") d (member (codes "id") (number (unsigned n)) no_members)))
    (number_of-decimal status small))
value_is (Some (text t)) status report is small =
    ap (option_map object) (status_read (number_of (decimal status)) status
    (λ d. of_members (json.member (codes "report") (json.string report) json.no_members)
    (put (codes "status") d (member (codes "id") (string t) no_members)))
    (number_of-decimal status small))

abbrev whole_text : Option (json.Json × List Token) → Option Data
whole_text o = option_and_then of_json (option_and_then (λ p. json.if_last p.0 p.1) o)

read_is : (id : Option Id) (status : ℕ) (report : Bytes) → IsReread id → status < 2 ^ 64 → list_all is_reported report ≡ true
    → read (without_feed id status report) ≡ Some (data_of id status report)
read_is id status report is small plain =
    let j = json_of id status report in
    let same = ap tokens (sym (printed id status report is plain))
    ∙ tokens-print (json_tokens j) (ArePrintable-json_tokens j (has_numbers id status report is small)) in
    ap whole_text (ap (json.value max_depth) (same ∙ sym (append-nil (json_tokens j))) ∙ value-json_tokens j max_depth [] (shallow id status report))
    ∙ value_is id status report is small

told_id_is : (id : Option Id) (status : ℕ) (report : Bytes) → IsReread id → told_id (get (codes "id") (data_of id status report)) ≡ Some id
unfolding lines_on_literals
told_id_is None status report is = refl
told_id_is (Some id) status report is = ap (option_map (λ id. Some id)) is

told_status_is : (id : Option Id) (status : ℕ) (report : Bytes)
    → option_and_then as_u64 (option_and_then as_number (get (codes "status") (data_of id status report))) ≡ Some status
unfolding lines_on_literals
told_status_is None status report = refl
told_status_is (Some id) status report = refl

told_report_is : (id : Option Id) (status : ℕ) (report : Bytes) → option_and_then as_str (get (codes "report") (data_of id status report)) ≡ Some report
unfolding lines_on_literals
told_report_is None status report = refl
told_report_is (Some id) status report = refl

object_is : (id : Option Id) (status : ℕ) (report : Bytes) → is_object (data_of id status report) ≡ true
object_is None status report = refl
object_is (Some id) status report = refl

pub told_back : (id : Option Id) (status : ℕ) (report : Bytes) → IsReread id → status < 2 ^ 64 → list_all is_reported report ≡ true
    → TellsBack (without_feed id status report) id status report
told_back id status report is small plain =
    let line = without_feed id status report in
    let utf8 = is_utf8-from_IsUtf8 line (IsUtf8-are_ascii line (are_ascii_shown line (shown_line id status report is small plain))) in
    record {
      value = data_of id status report;
      read = ap (λ b. if b then read line else None) utf8 ∙ read_is id status report is small plain;
      object = object_is id status report;
      told = told_id_is id status report is;
      status_is = told_status_is id status report;
      report_is = told_report_is id status report;
    }
