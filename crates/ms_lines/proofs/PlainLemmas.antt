-- What a line is, by its tokens.
use Rattle.std.proofs.Common.{Option, Some, None, Ok, Err, ◌≡◌, ◌-◌, ◌<◌, ◌≤◌, ℕ, suc, List, [], ◌∷◌, ◌++◌, length, map, true, refl, sym, ap, subst, ◌∙◌, arith}
use Rattle.std.specs.Prelude.{◌^◌, codes, decimal, option_map, option_and_then, if◌then◌else◌, ⊤, IfSome, IfOk, Result}
use Rattle.std.specs.List.{list_all}
use Rattle.std.specs.Option.{ok_or}
use Rattle.std.specs.Str.{IsUtf8}
use Rattle.std.proofs.lemmas.Str.{is_utf8-from_IsUtf8}
use Rattle.json.specs.Token.{Token}
use Rattle.json.specs.Lex.{tokens}
use Rattle.json.specs.Json as json
use Rattle.json.specs.Json.{parse_map, after_end_array, read_key, items, members, value, if_last}
use Rattle.json.proofs.Grammar.{value_is, value-begin_array, value-begin_object, items_end, items_more, members_end, members_more, read_key-shorter}
use Rattle.serde_json.specs.Data.{Data, number, string, array, object, unsigned, Items, no_items, item, Members, no_members, put}
use Rattle.serde_json.specs.Find.{get_member, as_str}
use Rattle.serde_json.specs.Read.{number_of, of_json, of_items, of_members, converted, read}
use Rattle.serde_json.proofs.Numbers.{number_of-decimal}
use Rattle.serde_json.proofs.Views.{get_member-put, get_member-put_other}
use Rattle.def_script.specs.Bytes.{Bytes}
use Rattle.def_files.specs.Json.{reading, elements_of}
use Rattle.def_files.specs.Parts.{is_text}
use Rattle.def_lines.specs.Question.{Id, id_in, id_text, id_number, text_in, told_id, told_words, told_source, asks, with_id, line_in, line_read}
use Rattle.ms_lines.specs.declared.plain.Unread.{Unread}
use Rattle.ms_lines.specs.declared.question.Id.{Id as Told}
use Rattle.ms_lines.specs.Seen.{id_seen, ids_seen}
use Rattle.ms_lines.specs.Scaffolding.Tokens.{Reads, strings}

pub if_ok : {A B : Type 0} (r : Result A B) (P Q : A → Type 0) → ((x : A) → P x → Q x) → IfOk r P → IfOk r Q
if_ok (Ok x) P Q f h = f x h
if_ok (Err e) P Q f h = tt

-- ---- lists of strings

-- strings, and then more
abbrev pub strings_before : List Bytes → json.Items → json.Items
strings_before [] rest = rest
strings_before (text ∷ texts) rest = json.item (json.string text) (strings_before texts rest)

strings_alone : (texts : List Bytes) → strings_before texts json.no_items ≡ strings texts
strings_alone [] = refl
strings_alone (text ∷ texts) = ap (json.item (json.string text)) (strings_alone texts)

one_more : (texts : List Bytes) (text : Bytes) (rest : json.Items)
    → strings_before texts (json.item (json.string text) rest) ≡ strings_before (texts ++ text ∷ []) rest
one_more [] text rest = refl
one_more (first ∷ texts) text rest = ap (json.item (json.string first)) (one_more texts text rest)

one_more_read : (texts : List Bytes) (text : Bytes) (o : Option (json.Items × List Token))
    → parse_map (strings_before texts) (parse_map (json.item (json.string text)) o) ≡ parse_map (strings_before (texts ++ text ∷ [])) o
one_more_read texts text None = refl
one_more_read texts text (Some p) = ap (λ js. Some (js, p.1)) (one_more texts text p.0)

none_before : (o : Option (json.Items × List Token)) → o ≡ parse_map (strings_before []) o
none_before None = refl
none_before (Some p) = refl

pub one_more_text : {A : Type 0} (f : A → Bytes) (words : List A) (word : A) (text : Bytes) → f word ≡ text
    → map f (words ++ word ∷ []) ≡ map f words ++ text ∷ []
one_more_text f [] word text e = ap (λ t. t ∷ []) e
one_more_text f (first ∷ words) word text e = ap (λ ts. f first ∷ ts) (one_more_text f words word text e)

-- the items are these strings and what is still to come
abbrev pub TextsSoFar : (first now : List Token) → (texts : List Bytes) → Type 0
TextsSoFar first now texts =
    (n : ℕ) × (length now ≤ n) × (items (value 125) (length first) first ≡ parse_map (strings_before texts) (items (value 125) n now))
    × (length now ≤ length first)

pub texts_begin : (first : List Token) → TextsSoFar first first []
texts_begin first = (length first, omega arith, none_before (items (value 125) (length first) first), omega arith)

pub texts_more : (first now rest : List Token) (texts : List Bytes) (text : Bytes) → after_end_array now ≡ None → now ≡ Token.string text ∷ rest
    → TextsSoFar first now texts → TextsSoFar first rest (texts ++ text ∷ [])
texts_more first now rest texts text going is so =
    let size : length now ≡ suc (length rest) = ap length is in
    let few = so.1 in
    let fewer = so.3 in
    let turn = items_more (value 125) so.0 now rest (json.string text) (omega (arith, few, size)) going (ap (value 125) is ∙ value_is 125 (Token.string text ∷ rest)) in (
      so.0 - 1,
      omega (arith, few, size),
      so.2 ∙ ap (parse_map (strings_before texts)) turn ∙ one_more_read texts text (items (value 125) (so.0 - 1) rest),
      omega (arith, fewer, size),
    )

pub texts_end : (first now rest : List Token) (texts : List Bytes) → after_end_array now ≡ Some rest → TextsSoFar first now texts
    → items (value 125) (length first) first ≡ Some (strings texts, rest)
texts_end first now rest texts over so =
    so.2 ∙ ap (parse_map (strings_before texts)) (items_end (value 125) so.0 now rest so.1 over) ∙ ap (λ js. Some (js, rest)) (strings_alone texts)

-- ---- words

abbrev texts_data : List Bytes → Items
texts_data [] = no_items
texts_data (text ∷ texts) = item (string text) (texts_data texts)

strings_data : (texts : List Bytes) → of_items (strings texts) ≡ Some (texts_data texts)
strings_data [] = refl
strings_data (text ∷ texts) = ap (option_map (item (string text))) (strings_data texts)

all_texts : (texts : List Bytes) → list_all is_text (elements_of (texts_data texts)) ≡ true
all_texts [] = refl
all_texts (text ∷ texts) = all_texts texts

texts_again : (texts : List Bytes) → map text_in (elements_of (texts_data texts)) ≡ texts
texts_again [] = refl
texts_again (text ∷ texts) = ap (λ ts. text ∷ ts) (texts_again texts)

pub words_read : (old first new : List Token) (texts : List Bytes) → old ≡ Token.begin_array ∷ first
    → items (value 125) (length first) first ≡ Some (strings texts, new) → Reads 126 old new (λ d. told_words (Some d) ≡ Some texts)
words_read old first new texts is e = (
  json.array (strings texts),
  array (texts_data texts),
  ap (value 126) is ∙ value-begin_array 126 first (omega arith) ∙ ap (parse_map json.array) e,
  ap (option_map array) (strings_data texts),
  ap (λ b. if b then Some (map text_in (elements_of (texts_data texts))) else None) (all_texts texts) ∙ ap (λ ts. Some ts) (texts_again texts),
)

-- ---- ids and texts

pub text_read : (old new : List Token) (text : Bytes) (IsSo : Data → Type 0) → old ≡ Token.string text ∷ new → IsSo (string text) → Reads 126 old new IsSo
text_read old new text IsSo is so = (json.string text, string text, ap (value 126) is ∙ value_is 126 (Token.string text ∷ new), refl, so)

pub number_read : (old new : List Token) (text : Bytes) (n : ℕ) (id : Id) → old ≡ Token.number text ∷ new → number_of text ≡ Some (unsigned n)
    → id_number (Some n) ≡ Some id → Reads 126 old new (λ d. id_in d ≡ Some id)
number_read old new text n id is read told =
    (json.number text, number (unsigned n), ap (value 126) is ∙ value_is 126 (Token.number text ∷ new), ap (option_map number) read, told)

-- a number as it is printed
pub decimal_found : (text : Bytes) (n : ℕ) (id : Option Told) → n < 2 ^ 64 → text ≡ decimal n → ids_seen id ≡ id_number (Some n)
    → IfSome id (λ id. (n : ℕ) × (number_of text ≡ Some (unsigned n)) × (id_number (Some n) ≡ Some (id_seen id)))
decimal_found text n None small is e = tt
decimal_found text n (Some id) small is e = (n, ap number_of is ∙ number_of-decimal n small, sym e)

-- an id that is told where it is one
pub told_id_read : (id : Option Told) (why : Unread) (r : Result Told Unread) (IsSo : Told → Type 0) → r ≡ ok_or id why → IfSome id IsSo → IfOk r IsSo
told_id_read None why r IsSo is so = subst (λ r. IfOk r IsSo) (sym is) tt
told_id_read (Some id) why r IsSo is so = subst (λ r. IfOk r IsSo) (sym is) so

pub text_id_read : (old new : List Token) (text : Bytes) (id : Option Told) → old ≡ Token.string text ∷ new → ids_seen id ≡ id_text text
    → IfSome id (λ id. Reads 126 old new (λ d. id_in d ≡ Some (id_seen id)))
text_id_read old new text None is e = tt
text_id_read old new text (Some id) is e = text_read old new text (λ d. id_in d ≡ Some (id_seen id)) is (sym e)

pub number_id_read : (old new : List Token) (text : Bytes) (id : Option Told) → old ≡ Token.number text ∷ new
    → IfSome id (λ id. (n : ℕ) × (number_of text ≡ Some (unsigned n)) × (id_number (Some n) ≡ Some (id_seen id)))
    → IfSome id (λ id. Reads 126 old new (λ d. id_in d ≡ Some (id_seen id)))
number_id_read old new text None is e = tt
number_id_read old new text (Some id) is e = number_read old new text e.0 (id_seen id) is e.1 e.2

-- ---- members

with_member : (k : Bytes) (j : json.Json) (d : Data) (old : Members) → of_json j ≡ Some d → (o : Option (json.Members × List Token))
    → converted (λ ms. of_members ms old) (parse_map (json.member k j) o) ≡ converted (λ ms. of_members ms (put k d old)) o
with_member k j d old e None = refl
with_member k j d old e (Some p) = rw e

-- a member's words, where they were read
abbrev pub HasWords : (found : Option Data) → (words : Option (List Bytes)) → Type 0
HasWords found None = ⊤
HasWords found (Some texts) = told_words found ≡ Some texts

-- members have these parts
pub record Holds (found : Members) (id : Option Id) (words : Option (List Bytes)) (source : Bytes) : Type 0 where
  pub id_is : told_id (get_member (codes "id") found) ≡ Some id
  pub words_are : HasWords (get_member (codes "words") found) words
  pub source_is : told_source (get_member (codes "source") found) ≡ Some source

-- the members are these, and then those that are still to come
pub record MembersSoFar (first now : List Token) (id : Option Id) (words : Option (List Bytes)) (source : Bytes) : Type 0 where
  pub n : ℕ
  pub few : length now ≤ n
  pub found : Members
  pub same : converted (λ ms. of_members ms no_members) (members (value 126) (length first) first) ≡ converted (λ ms. of_members ms found) (members (value 126) n now)
  pub holds : Holds found id words source
  pub fewer : length now ≤ length first

pub members_begin : (first : List Token) → MembersSoFar first first None None []
members_begin first = record {
  n = length first;
  few = omega arith;
  found = no_members;
  same = refl;
  holds = record { id_is = refl; words_are = tt; source_is = refl };
  fewer = omega arith;
}

-- another member, which leaves these parts
member_more : (first now mid rest : List Token) (id new_id : Option Id) (words new_words : Option (List Bytes)) (source new_source name : Bytes) (IsSo : Data → Type 0)
    → read_key now ≡ Some (Some name, mid) → Reads 126 mid rest IsSo → length rest < length mid
    → ((found : Members) (d : Data) → IsSo d → Holds found id words source → Holds (put name d found) new_id new_words new_source)
    → MembersSoFar first now id words source → MembersSoFar first rest new_id new_words new_source
member_more first now mid rest id new_id words new_words source new_source name IsSo key reads shorter put_so so =
    let less = read_key-shorter now (Some name) mid key in
    let few = so.few in
    let fewer = so.fewer in
    let turn = members_more (value 126) so.n name now mid rest reads.0 (omega (arith, few, less)) key reads.2 in
    record {
      n = so.n - 1;
      few = omega (arith, few, less, shorter);
      found = put name reads.1 so.found;
      same =
          so.same ∙ ap (converted (λ ms. of_members ms so.found)) turn
          ∙ with_member name reads.0 reads.1 so.found reads.3 (members (value 126) (so.n - 1) rest);
      holds = put_so so.found reads.1 reads.4 so.holds;
      fewer = omega (arith, fewer, less, shorter);
    }

other_length : (a b : Bytes) → (length a ≡ length b → ⊥) → a ≡ b → ⊥
other_length a b other e = other (ap length e)

words_stay : (a b : Option Data) (words : Option (List Bytes)) → a ≡ b → HasWords b words → HasWords a words
words_stay a b None e h = tt
words_stay a b (Some texts) e h = ap told_words e ∙ h

pub id_more : (first now mid rest : List Token) (id : Option Id) (words : Option (List Bytes)) (source : Bytes) (new : Id)
    → read_key now ≡ Some (Some (codes "id"), mid) → Reads 126 mid rest (λ d. id_in d ≡ Some new) → length rest < length mid
    → MembersSoFar first now id words source → MembersSoFar first rest (Some new) words source
id_more first now mid rest id words source new key reads shorter =
    member_more first now mid rest id (Some new) words words source source (codes "id") (λ d. id_in d ≡ Some new) key reads shorter
    (λ found d is h. record {
      id_is = ap told_id (get_member-put (codes "id") d found) ∙ ap (option_map (λ id. Some id)) is;
      words_are = words_stay _ _ words (get_member-put_other (codes "words") (codes "id") d found (other_length (codes "words") (codes "id") (λ e. omega (arith, e)))) h.words_are;
      source_is = ap told_source (get_member-put_other (codes "source") (codes "id") d found (other_length (codes "source") (codes "id") (λ e. omega (arith, e)))) ∙ h.source_is;
    })

pub words_more : (first now mid rest : List Token) (id : Option Id) (words : Option (List Bytes)) (source : Bytes) (new : List Bytes)
    → read_key now ≡ Some (Some (codes "words"), mid) → Reads 126 mid rest (λ d. told_words (Some d) ≡ Some new) → length rest < length mid
    → MembersSoFar first now id words source → MembersSoFar first rest id (Some new) source
words_more first now mid rest id words source new key reads shorter =
    member_more first now mid rest id id words (Some new) source source (codes "words") (λ d. told_words (Some d) ≡ Some new) key reads shorter
    (λ found d are h. record {
      id_is = ap told_id (get_member-put_other (codes "id") (codes "words") d found (other_length (codes "id") (codes "words") (λ e. omega (arith, e)))) ∙ h.id_is;
      words_are = ap told_words (get_member-put (codes "words") d found) ∙ are;
      source_is = ap told_source (get_member-put_other (codes "source") (codes "words") d found (other_length (codes "source") (codes "words") (λ e. omega (arith, e)))) ∙ h.source_is;
    })

pub source_more : (first now mid rest : List Token) (id : Option Id) (words : Option (List Bytes)) (source new : Bytes)
    → read_key now ≡ Some (Some (codes "source"), mid) → mid ≡ Token.string new ∷ rest
    → MembersSoFar first now id words source → MembersSoFar first rest id words new
source_more first now mid rest id words source new key is =
    member_more first now mid rest id id words words source new (codes "source") (λ d. as_str d ≡ Some new) key
    (text_read mid rest new (λ d. as_str d ≡ Some new) is refl) (let size : length mid ≡ suc (length rest) = ap length is in omega (arith, size))
    (λ found d told h. record {
      id_is = ap told_id (get_member-put_other (codes "id") (codes "source") d found (other_length (codes "id") (codes "source") (λ e. omega (arith, e)))) ∙ h.id_is;
      words_are = words_stay _ _ words (get_member-put_other (codes "words") (codes "source") d found (other_length (codes "words") (codes "source") (λ e. omega (arith, e)))) h.words_are;
      source_is = ap told_source (get_member-put (codes "source") d found) ∙ told;
    })

pub members_done : (first now rest : List Token) (id : Option Id) (texts : List Bytes) (source : Bytes) → read_key now ≡ Some (None, rest) → rest ≡ []
    → MembersSoFar first now id (Some texts) source
    → (found : Members) × (converted (λ ms. of_members ms no_members) (members (value 126) (length first) first) ≡ Some (found, []))
    × (line_in (object found) ≡ asks id texts source)
members_done first now rest id texts source key none so = (
  so.found,
  so.same ∙ ap (converted (λ ms. of_members ms so.found)) (members_end (value 126) so.n now rest so.few key) ∙ ap (λ r. Some (so.found, r)) none,
  ap (λ i. with_id i (told_words (get_member (codes "words") so.found)) (told_source (get_member (codes "source") so.found))) so.holds.id_is
      ∙ ap (λ w. with_id (Some id) w (told_source (get_member (codes "source") so.found))) so.holds.words_are
      ∙ ap (with_id (Some id) (Some texts)) so.holds.source_is,
)

-- ---- the whole line

abbrev whole_text : Option (json.Json × List Token) → Option Data
whole_text o = option_and_then of_json (option_and_then (λ p. if_last p.0 p.1) o)

abbrev pick : Option (Members × List Token) → Members
pick None = no_members
pick (Some p) = p.0

abbrev pick_rest : Option (Members × List Token) → List Token
pick_rest None = []
pick_rest (Some p) = p.1

object_read_of : (js : json.Members) (rest : List Token) (x : Option Members) (found : Members) → of_members js no_members ≡ x
    → option_map {U = Members × List Token} (λ b. (b, rest)) x ≡ Some (found, []) → whole_text (Some (json.object js, rest)) ≡ Some (object found)
object_read_of js rest None found is e = absurd (cc)
object_read_of js [] (Some ms) found is e = ap (option_map object) (is ∙ ap (λ ms. Some ms) (ap pick e))
object_read_of js (t ∷ rest) (Some ms) found is e = absurd (let none : t ∷ rest ≡ [] = ap pick_rest e in cc)

object_read : (o : Option (json.Members × List Token)) (found : Members) → converted (λ ms. of_members ms no_members) o ≡ Some (found, [])
    → whole_text (parse_map json.object o) ≡ Some (object found)
object_read None found e = absurd (cc)
object_read (Some p) found e = object_read_of p.0 p.1 (of_members p.0 no_members) found refl e

pub line_is : (line : Bytes) (first : List Token) (found : Members) → IsUtf8 line → tokens line ≡ Token.begin_object ∷ first
    → converted (λ ms. of_members ms no_members) (members (value 126) (length first) first) ≡ Some (found, []) → line_read (reading line) ≡ line_in (object found)
line_is line first found utf8 begins e =
    let all = ap whole_text (ap (value 127) begins ∙ value-begin_object 127 first (omega arith)) ∙ object_read (members (value 126) (length first) first) found e in
    ap line_read (ap (λ b. if b then read line else None) (is_utf8-from_IsUtf8 line utf8) ∙ all)
