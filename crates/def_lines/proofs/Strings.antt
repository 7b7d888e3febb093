-- What is read of a text in UTF-8 has strings of such texts.
use Rattle.std.proofs.Common.{ℕ, zero, suc, ◌≡◌, ◌==◌, Bool, true, false, List, [], ◌∷◌, length, Option, Some, None, refl, cond, if◌then◌else◌}
use Rattle.std.specs.Prelude.{⊤, codes, nat_lt, option_map, option_and_then}
use Rattle.std.specs.Str.{is_utf8}
use Rattle.std.specs.Cmp.Lexicographic.{slice_cmp}
use Rattle.std.specs.Ordering.{nat_cmp, match_ordering}
use Rattle.std.specs.declared.cmp.Ordering.{Ordering}
use Rattle.std.specs.declared.cmp.Ordering.TheVariants.{Less, Equal, Greater}
use Rattle.json.specs.Ascii as ascii
use Rattle.json.specs.Token as token
use Rattle.json.specs.Token.{Token}
use Rattle.json.specs.Text.{plain, content}
use Rattle.json.specs.Word.{word, head, number_before, after_number, ends_word}
use Rattle.json.specs.Lex as lexing
use Rattle.json.specs.Lex.{Lexeme, comma, colon, Class, quote, backslash, operator, space, other, class, operator_lexeme, string_token, Mode, between, in_word, in_string, in_escape, lex_byte, lex, Place, fresh, after_value, after_comma, after_key, begins_colon, may_begin, may_close, if_allowed, place_token, punctuate, tokens}
use Rattle.json.specs.Json as json
use Rattle.serde_json.specs.Data as data_of
use Rattle.serde_json.specs.Data.{Data, put}
use Rattle.serde_json.specs.Read.{number_of, of_json, of_items, of_members, max_depth, read}
use Rattle.serde_json.specs.Find.{get, get_member, as_str}
use Rattle.def_script.specs.Bytes.{Bytes}
use Rattle.def_files.specs.Json.{reading, is_object}
use Rattle.def_lines.specs.Question.{Id, Line, asks, refused, told_id, told_words, told_source, with_id, line_read, line_of, MOST_LINE}
use Rattle.def_lines.proofs.Lists.{Every}
use Rattle.def_lines.proofs.Texts.{AreLow, IsLowIfAny, content_low, utf8_low}

-- ---- tokens

abbrev IsToken : Token → Type 0
IsToken token.begin_object = ⊤
IsToken token.end_object = ⊤
IsToken token.begin_array = ⊤
IsToken token.end_array = ⊤
IsToken (token.key s) = ⊤
IsToken (token.string s) = AreLow s
IsToken (token.number s) = ⊤
IsToken (token.boolean b) = ⊤
IsToken token.null = ⊤
IsToken token.bad = ⊤

abbrev IsLexeme : Lexeme → Type 0
IsLexeme (lexing.token t) = IsToken t
IsLexeme comma = ⊤
IsLexeme colon = ⊤

token_test : (b : Bool) (x y : Token) → IsToken x → IsToken y → IsToken (cond b x y)
token_test true x y p q = p
token_test false x y p q = q

lexeme_test : (b : Bool) (x y : Lexeme) → IsLexeme x → IsLexeme y → IsLexeme (cond b x y)
lexeme_test true x y p q = p
lexeme_test false x y p q = q

number_token : (text : Bytes) (rest : Option Bytes) → IsToken (number_before text rest)
number_token text None = tt
number_token text (Some rest) = token_test (ends_word rest) _ token.bad tt tt

word_is : (text : Bytes) → IsToken (word text)
unfolding word
word_is text =
    token_test (head text == ascii.lower_t) _ _ (token_test _ (token.boolean true) token.bad tt tt)
    (token_test (head text == ascii.lower_f) _ _ (token_test _ (token.boolean false) token.bad tt tt)
    (token_test (head text == ascii.lower_n) _ _ (token_test _ token.null token.bad tt tt) (number_token text (after_number text))))

operator_is : (x : ℕ) → IsLexeme (operator_lexeme x)
operator_is x =
    lexeme_test (x == ascii.open_brace) (lexing.token token.begin_object) _ tt
    (lexeme_test (x == ascii.close_brace) (lexing.token token.end_object) _ tt
    (lexeme_test (x == ascii.open_bracket) (lexing.token token.begin_array) _ tt
    (lexeme_test (x == ascii.close_bracket) (lexing.token token.end_array) _ tt (lexeme_test (x == ascii.comma) comma colon tt tt))))

string_is : (s : Option Bytes) → IsLowIfAny s → IsToken (string_token s)
string_is None h = tt
string_is (Some s) h = h

byte_lexed : (m : Mode) (c : Class) (x : ℕ) (xs : Bytes) (k : Mode → List Lexeme) → AreLow xs → ((next : Mode) → Every IsLexeme (k next))
    → Every IsLexeme (lex_byte m c x xs k)
byte_lexed between quote x xs k h on = (string_is (content plain xs) (content_low plain xs tt h), on in_string)
byte_lexed between backslash x xs k h on = (tt, on in_word)
byte_lexed between operator x xs k h on = (operator_is x, on between)
byte_lexed between space x xs k h on = on between
byte_lexed between other x xs k h on = (word_is (x ∷ xs), on in_word)
byte_lexed in_word quote x xs k h on = on in_word
byte_lexed in_word backslash x xs k h on = on in_word
byte_lexed in_word operator x xs k h on = (operator_is x, on between)
byte_lexed in_word space x xs k h on = on between
byte_lexed in_word other x xs k h on = on in_word
byte_lexed in_string quote x xs k h on = on between
byte_lexed in_string backslash x xs k h on = on in_escape
byte_lexed in_string operator x xs k h on = on in_string
byte_lexed in_string space x xs k h on = on in_string
byte_lexed in_string other x xs k h on = on in_string
byte_lexed in_escape c x xs k h on = on in_string

lexed : (m : Mode) (text : Bytes) → AreLow text → Every IsLexeme (lex m text)
unfolding lex
lexed m [] h = tt
lexed m (x ∷ xs) h = byte_lexed m (class x) x xs (λ next. lex next xs) h.1 (λ next. lexed next xs h.1)

allowed : (b : Bool) (t : Token) (k : Place → List Token) (next : Place) → IsToken t → ((p : Place) → Every IsToken (k p)) → Every IsToken (if_allowed b t k next)
allowed true t k next h on = (h, on next)
allowed false t k next h on = (tt, tt)

token_placed : (p : Place) (t : Token) (before_colon : Bool) (k : Place → List Token) → IsToken t → ((next : Place) → Every IsToken (k next))
    → Every IsToken (place_token p t before_colon k)
token_placed p token.begin_object b k h on = allowed (may_begin p) token.begin_object k fresh tt on
token_placed p token.end_object b k h on = allowed (may_close p) token.end_object k after_value tt on
token_placed p token.begin_array b k h on = allowed (may_begin p) token.begin_array k fresh tt on
token_placed p token.end_array b k h on = allowed (may_close p) token.end_array k after_value tt on
token_placed p (token.key s) b k h on = (tt, tt)
token_placed p (token.string s) true k h on = allowed (may_begin p) (token.key s) k after_key tt on
token_placed p (token.string s) false k h on = allowed (may_begin p) (token.string s) k after_value h on
token_placed p (token.number s) b k h on = allowed (may_begin p) (token.number s) k after_value tt on
token_placed p (token.boolean v) b k h on = allowed (may_begin p) (token.boolean v) k after_value tt on
token_placed p token.null b k h on = allowed (may_begin p) token.null k after_value tt on
token_placed p token.bad b k h on = (tt, tt)

punctuated : (p : Place) (ls : List Lexeme) → Every IsLexeme ls → Every IsToken (punctuate p ls)
unfolding punctuate
punctuated fresh [] h = tt
punctuated after_value [] h = tt
punctuated after_comma [] h = (tt, tt)
punctuated after_key [] h = (tt, tt)
punctuated fresh (lexing.token t ∷ ls) h = token_placed fresh t (begins_colon ls) (λ next. punctuate next ls) h.0 (λ next. punctuated next ls h.1)
punctuated after_value (lexing.token t ∷ ls) h = token_placed after_value t (begins_colon ls) (λ next. punctuate next ls) h.0 (λ next. punctuated next ls h.1)
punctuated after_comma (lexing.token t ∷ ls) h = token_placed after_comma t (begins_colon ls) (λ next. punctuate next ls) h.0 (λ next. punctuated next ls h.1)
punctuated after_key (lexing.token t ∷ ls) h = token_placed after_key t (begins_colon ls) (λ next. punctuate next ls) h.0 (λ next. punctuated next ls h.1)
punctuated fresh (comma ∷ ls) h = (tt, tt)
punctuated after_value (comma ∷ ls) h = punctuated after_comma ls h.1
punctuated after_comma (comma ∷ ls) h = (tt, tt)
punctuated after_key (comma ∷ ls) h = (tt, tt)
punctuated fresh (colon ∷ ls) h = (tt, tt)
punctuated after_value (colon ∷ ls) h = (tt, tt)
punctuated after_comma (colon ∷ ls) h = (tt, tt)
punctuated after_key (colon ∷ ls) h = punctuated fresh ls h.1

tokens_are : (text : Bytes) → AreLow text → Every IsToken (tokens text)
tokens_are text h = punctuated fresh (lex between text) (lexed between text h)

-- ---- values over tokens

abbrev mutual
  IsValue : json.Json → Type 0
  IsValue json.null = ⊤
  IsValue (json.boolean b) = ⊤
  IsValue (json.number s) = ⊤
  IsValue (json.string s) = AreLow s
  IsValue (json.array js) = AreItems js
  IsValue (json.object ms) = AreMembers ms

  AreItems : json.Items → Type 0
  AreItems json.no_items = ⊤
  AreItems (json.item j js) = IsValue j × AreItems js

  AreMembers : json.Members → Type 0
  AreMembers json.no_members = ⊤
  AreMembers (json.member k j ms) = IsValue j × AreMembers ms

-- what is parsed, and the tokens behind it
abbrev IsParsed : {A : Type 0} → (A → Type 0) → Option (A × List Token) → Type 0
IsParsed P None = ⊤
IsParsed P (Some read) = P read.0 × Every IsToken read.1

abbrev Parses : {A : Type 0} → (A → Type 0) → json.Parse A → Type 0
Parses P parse = (ts : List Token) → Every IsToken ts → IsParsed P (parse ts)

mapped : {A B : Type 0} (P : A → Type 0) (Q : B → Type 0) (f : A → B) (read : Option (A × List Token)) → ((x : A) → P x → Q (f x)) → IsParsed P read
    → IsParsed Q (json.parse_map f read)
mapped P Q f None on h = tt
mapped P Q f (Some read) on h = (on read.0 h.0, h.1)

then_parsed : {A B : Type 0} (P : A → Type 0) (Q : B → Type 0) (read : Option (A × List Token)) (next : A × List Token → Option (B × List Token))
    → IsParsed P read → ((p : A × List Token) → P p.0 → Every IsToken p.1 → IsParsed Q (next p)) → IsParsed Q (option_and_then next read)
then_parsed P Q None next h on = tt
then_parsed P Q (Some read) next h on = on read h.0 h.1

abbrev IsRest : Option (List Token) → Type 0
IsRest None = ⊤
IsRest (Some ts) = Every IsToken ts

array_ends : (ts : List Token) → Every IsToken ts → IsRest (json.after_end_array ts)
array_ends [] h = tt
array_ends (token.begin_object ∷ ts) h = tt
array_ends (token.end_object ∷ ts) h = tt
array_ends (token.begin_array ∷ ts) h = tt
array_ends (token.end_array ∷ ts) h = h.1
array_ends (token.key s ∷ ts) h = tt
array_ends (token.string s ∷ ts) h = tt
array_ends (token.number s ∷ ts) h = tt
array_ends (token.boolean b ∷ ts) h = tt
array_ends (token.null ∷ ts) h = tt
array_ends (token.bad ∷ ts) h = tt

abbrev IsAnyKey : Option Bytes → Type 0
IsAnyKey key = ⊤

key_parses : Parses IsAnyKey json.read_key
key_parses [] h = tt
key_parses (token.begin_object ∷ ts) h = tt
key_parses (token.end_object ∷ ts) h = (tt, h.1)
key_parses (token.begin_array ∷ ts) h = tt
key_parses (token.end_array ∷ ts) h = tt
key_parses (token.key s ∷ ts) h = (tt, h.1)
key_parses (token.string s ∷ ts) h = tt
key_parses (token.number s ∷ ts) h = tt
key_parses (token.boolean b ∷ ts) h = tt
key_parses (token.null ∷ ts) h = tt
key_parses (token.bad ∷ ts) h = tt

item_parsed : (value : json.Parse json.Json) (more : json.Parse json.Items) (ts : List Token) (end : Option (List Token)) → Parses IsValue value → Parses AreItems more
    → Every IsToken ts → IsRest end → IsParsed AreItems (json.items_step value more ts end)
item_parsed value more ts (Some rest) v m h e = (tt, e)
item_parsed value more ts None v m h e =
    then_parsed IsValue AreItems (value ts) _ (v ts h) (λ p i k. mapped AreItems AreItems (json.item p.0) (more p.1) (λ js is. (i, is)) (m p.1 k))

items_parse : (value : json.Parse json.Json) (n : ℕ) → Parses IsValue value → Parses AreItems (json.items value n)
unfolding json.items
items_parse value zero v ts h = tt
items_parse value (suc n) v ts h = item_parsed value (json.items value n) ts (json.after_end_array ts) v (items_parse value n v) h (array_ends ts h)

member_parsed : (value : json.Parse json.Json) (more : json.Parse json.Members) (key : Option Bytes) (ts : List Token) → Parses IsValue value → Parses AreMembers more
    → Every IsToken ts → IsParsed AreMembers (json.members_step value more key ts)
member_parsed value more None ts v m h = (tt, h)
member_parsed value more (Some k) ts v m h =
    then_parsed IsValue AreMembers (value ts) _ (v ts h) (λ p i r. mapped AreMembers AreMembers (json.member k p.0) (more p.1) (λ ms is. (i, is)) (m p.1 r))

members_parse : (value : json.Parse json.Json) (n : ℕ) → Parses IsValue value → Parses AreMembers (json.members value n)
unfolding json.members
members_parse value zero v ts h = tt
members_parse value (suc n) v ts h =
    then_parsed IsAnyKey AreMembers (json.read_key ts) _ (key_parses ts h) (λ p i k. member_parsed value (json.members value n) p.0 p.1 v (members_parse value n v) k)

value_parsed : (a : json.Parse json.Items) (o : json.Parse json.Members) → Parses AreItems a → Parses AreMembers o → Parses IsValue (json.value_with a o)
value_parsed a o i m [] h = tt
value_parsed a o i m (token.begin_object ∷ ts) h = mapped AreMembers IsValue json.object (o ts) (λ ms is. is) (m ts h.1)
value_parsed a o i m (token.end_object ∷ ts) h = tt
value_parsed a o i m (token.begin_array ∷ ts) h = mapped AreItems IsValue json.array (a ts) (λ js is. is) (i ts h.1)
value_parsed a o i m (token.end_array ∷ ts) h = tt
value_parsed a o i m (token.key s ∷ ts) h = tt
value_parsed a o i m (token.string s ∷ ts) h = h
value_parsed a o i m (token.number s ∷ ts) h = (tt, h.1)
value_parsed a o i m (token.boolean b ∷ ts) h = (tt, h.1)
value_parsed a o i m (token.null ∷ ts) h = (tt, h.1)
value_parsed a o i m (token.bad ∷ ts) h = tt

value_parses : (depth : ℕ) → Parses IsValue (json.value depth)
unfolding json.value
value_parses zero ts h = value_parsed (λ ts. None) (λ ts. None) (λ ts h. tt) (λ ts h. tt) ts h
value_parses (suc depth) ts h =
    value_parsed (λ ts. json.items (json.value depth) (length ts) ts) (λ ts. json.members (json.value depth) (length ts) ts)
    (λ ts h. items_parse (json.value depth) (length ts) (value_parses depth) ts h) (λ ts h. members_parse (json.value depth) (length ts) (value_parses depth) ts h) ts h

-- ---- values

abbrev mutual
  IsData : Data → Type 0
  IsData data_of.null = ⊤
  IsData (data_of.boolean b) = ⊤
  IsData (data_of.number n) = ⊤
  IsData (data_of.string s) = AreLow s
  IsData (data_of.array ds) = AreElements ds
  IsData (data_of.object ms) = AreEntries ms

  AreElements : data_of.Items → Type 0
  AreElements data_of.no_items = ⊤
  AreElements (data_of.item d ds) = IsData d × AreElements ds

  AreEntries : data_of.Members → Type 0
  AreEntries data_of.no_members = ⊤
  AreEntries (data_of.member k d ms) = IsData d × AreEntries ms

abbrev IfAny : {A : Type 0} → (A → Type 0) → Option A → Type 0
IfAny P None = ⊤
IfAny P (Some x) = P x

if_mapped : {A B : Type 0} (P : A → Type 0) (Q : B → Type 0) (f : A → B) (o : Option A) → ((x : A) → P x → Q (f x)) → IfAny P o → IfAny Q (option_map f o)
if_mapped P Q f None on h = tt
if_mapped P Q f (Some x) on h = on x h

if_then : {A B : Type 0} (P : A → Type 0) (Q : B → Type 0) (next : A → Option B) (o : Option A) → IfAny P o → ((x : A) → P x → IfAny Q (next x)) → IfAny Q (option_and_then next o)
if_then P Q next None h on = tt
if_then P Q next (Some x) h on = on x h

put_are : (k : Bytes) (d : Data) (ms : data_of.Members) → IsData d → AreEntries ms → AreEntries (put k d ms)
put_are k d data_of.no_members i h = (i, tt)
put_are k d (data_of.member l e ms) i h = by (slice_cmp nat_cmp k l) (put_are k d ms i h.1)
  where
    by : (o : Ordering) → AreEntries (put k d ms)
        → AreEntries (match_ordering o (data_of.member k d (data_of.member l e ms)) (data_of.member l d ms) (data_of.member l e (put k d ms)))
    by Less rest = (i, h)
    by Equal rest = (i, h.1)
    by Greater rest = (h.0, rest)

any_number : {A : Type 0} (o : Option A) → IfAny (λ n. ⊤) o
any_number None = tt
any_number (Some n) = tt

mutual
  converted : (j : json.Json) → IsValue j → IfAny IsData (of_json j)
  converted json.null h = tt
  converted (json.boolean b) h = tt
  converted (json.number s) h = if_mapped (λ n. ⊤) IsData data_of.number (number_of s) (λ n u. tt) (any_number (number_of s))
  converted (json.string s) h = h
  converted (json.array js) h = if_mapped AreElements IsData data_of.array (of_items js) (λ ds is. is) (items_converted js h)
  converted (json.object ms) h = if_mapped AreEntries IsData data_of.object (of_members ms data_of.no_members) (λ ms is. is) (members_converted ms data_of.no_members h tt)

  items_converted : (js : json.Items) → AreItems js → IfAny AreElements (of_items js)
  items_converted json.no_items h = tt
  items_converted (json.item j js) h =
      if_then IsData AreElements (λ d. option_map (data_of.item d) (of_items js)) (of_json j) (converted j h.0)
      (λ d i. if_mapped AreElements AreElements (data_of.item d) (of_items js) (λ ds is. (i, is)) (items_converted js h.1))

  members_converted : (ms : json.Members) (found : data_of.Members) → AreMembers ms → AreEntries found → IfAny AreEntries (of_members ms found)
  members_converted json.no_members found h f = f
  members_converted (json.member k j ms) found h f =
      if_then IsData AreEntries (λ d. of_members ms (put k d found)) (of_json j) (converted j h.0)
      (λ d i. members_converted ms (put k d found) h.1 (put_are k d found i f))

last_is : (j : json.Json) (ts : List Token) → IsValue j → IfAny IsValue (json.if_last j ts)
last_is j [] h = h
last_is j (t ∷ ts) h = tt

whole_is : (p : Option (json.Json × List Token)) → IsParsed IsValue p → IfAny IsValue (option_and_then (λ (p : json.Json × List Token). json.if_last p.0 p.1) p)
whole_is None h = tt
whole_is (Some p) h = last_is p.0 p.1 h.0

read_is : (text : Bytes) → AreLow text → IfAny IsData (read text)
read_is text h =
    if_then IsValue IsData of_json (option_and_then (λ (p : json.Json × List Token). json.if_last p.0 p.1) (json.value max_depth (tokens text)))
    (whole_is (json.value max_depth (tokens text)) (value_parses max_depth (tokens text) (tokens_are text h))) converted

reading_is : (bytes : Bytes) → IfAny IsData (reading bytes)
reading_is bytes = by (is_utf8 bytes) refl
  where
    by : (b : Bool) → is_utf8 bytes ≡ b → IfAny IsData (if b then read bytes else None)
    by true e = read_is bytes (utf8_low bytes e)
    by false e = tt

-- ---- questions

member_is : (k : Bytes) (ms : data_of.Members) → AreEntries ms → IfAny IsData (get_member k ms)
member_is k data_of.no_members h = tt
member_is k (data_of.member l e ms) h = by (slice_cmp nat_cmp k l) (member_is k ms h.1)
  where
    by : (o : Ordering) → IfAny IsData (get_member k ms) → IfAny IsData (match_ordering o (get_member k ms) (Some e) (get_member k ms))
    by Less rest = rest
    by Equal rest = h.0
    by Greater rest = rest

got_is : (k : Bytes) (d : Data) → IsData d → IfAny IsData (get k d)
got_is k data_of.null h = tt
got_is k (data_of.boolean b) h = tt
got_is k (data_of.number n) h = tt
got_is k (data_of.string s) h = tt
got_is k (data_of.array ds) h = tt
got_is k (data_of.object ms) h = member_is k ms h

text_is : (d : Data) → IsData d → IfAny AreLow (as_str d)
text_is data_of.null h = tt
text_is (data_of.boolean b) h = tt
text_is (data_of.number n) h = tt
text_is (data_of.string s) h = h
text_is (data_of.array ds) h = tt
text_is (data_of.object ms) h = tt

source_is : (o : Option Data) → IfAny IsData o → IfAny AreLow (told_source o)
source_is None h = tt
source_is (Some d) h = text_is d h

-- the source of a question is of such bytes
abbrev pub AsksText : Line → Type 0
AsksText (asks id words source) = AreLow source
AsksText (refused id fault) = ⊤

with_is : (id : Option (Option Id)) (words : Option (List Bytes)) (source : Option Bytes) → IfAny AreLow source → AsksText (with_id id words source)
with_is None words source h = tt
with_is (Some id) None source h = tt
with_is (Some id) (Some words) None h = tt
with_is (Some id) (Some words) (Some source) h = h

line_test : (b : Bool) (x y : Line) → AsksText x → AsksText y → AsksText (if b then x else y)
line_test true x y p q = p
line_test false x y p q = q

read_asks : (o : Option Data) → IfAny IsData o → AsksText (line_read o)
read_asks None h = tt
read_asks (Some d) h =
    line_test (is_object d) _ _
    (with_is (told_id (get (codes "id") d)) (told_words (get (codes "words") d)) (told_source (get (codes "source") d))
    (source_is (get (codes "source") d) (got_is (codes "source") d h))) tt

pub line_asks : (line : Bytes) → AsksText (line_of line)
unfolding line_of
line_asks line = line_test (nat_lt MOST_LINE (length line)) _ _ tt (read_asks (reading line) (reading_is line))
