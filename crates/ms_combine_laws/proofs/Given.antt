-- The parts that a source of bytes gives are whole, and have in common what PSBTs of one transaction have.
use Rattle.std.proofs.Common.{◌≡◌, ℕ, suc, ◌+◌, ◌<◌, ◌≤◌, ◌==◌, nat_lt, not, Bool, true, false, cond, List, [], ◌∷◌, ◌++◌, length, take, drop, filter, Option, Some, None, Result, Ok, Err, inl, inr, refl, sym, ap, subst, ◌∙◌, arith}
use Rattle.std.specs.List.{AllByRecursion}
use Rattle.std.proofs.lemmas.Bool.{cases_Bool, le-ltb, ltb-false, eqb-true}
use Rattle.std.proofs.lemmas.List.{take-append-drop}
use Rattle.std.proofs.lemmas.List.Filters.{length-filter_both}
use Rattle.std.proofs.lemmas.Option.{same_Some}
use Rattle.std.proofs.lemmas.Slice.Eq.{bytes_eq-Decides}
use Rattle.base64.specs.declared.decode.DecodeError.{DecodeError}
use Rattle.base64.specs.Rfc4648.{encode_symbols}
use Rattle.base64.specs.Engines.{standard}
use Rattle.base64.specs.GeneralPurpose.{decode_of, encode_of}
use Rattle.base64.proofs.EngineFacts.{decode_of_strict}
use Rattle.def_script.specs.Bytes.{Bytes, IsBytes}
use Rattle.def_psbt.specs.declared.PsbtVersion.{PsbtVersion}
use Rattle.def_psbt.specs.declared.PsbtVersion.TheVariants as version
use Rattle.def_psbt.specs.declared.Refusal.{Refusal}
use Rattle.def_psbt.specs.Transaction.{Transaction, transaction_text}
use Rattle.def_psbt.specs.TransactionReading.{transaction_of}
use Rattle.def_psbt.specs.Map.{Psbt, magic}
use Rattle.def_psbt.specs.Fields.{version_number, version_of}
use Rattle.def_psbt.specs.Reading.{input_rules, output_rules}
use Rattle.def_psbt.specs.Laws.{IsWholeMap}
use Rattle.def_psbt.specs.Source.{MAX_SOURCE_SIZE, has_magic, is_blank, without_blanks, psbt_bytes, psbt_of}
use Rattle.def_combine.specs.declared.LineFault.{LineFault}
use Rattle.def_combine.specs.declared.LineFault.TheVariants.{OtherVersion, OtherTransaction}
use Rattle.def_combine.specs.declared.CombineRefusal.{CombineRefusal}
use Rattle.def_combine.specs.Joined.{joined_all, same_version, same_transaction, keeps_lock_time}
use Rattle.def_combine.specs.Combine.{◌>>=◌, LF, byte_before, lines, Line, line_before, lines_from, at_line, text_psbt, line_psbt, other_fault, beside, other_psbt, other_psbts, Parts, line_parts, parts_of, whole_of, combined}
use Rattle.ms_given_laws.specs.Given.{EachIsSound, IsWhole}
use Rattle.ms_given_laws.proofs.BytesOf.{none, more, kept}
use Rattle.ms_given_laws.proofs.TransactionBack.{transaction_back}
use Rattle.ms_combine_laws.proofs.Common.{IsCommon, IsOwn, common_of, common_all}
use Rattle.ms_combine_laws.proofs.Whole.{whole_common}

-- ---- lines

-- a line consists of bytes, of which there are no more than so many
abbrev IsPiece : (most : ℕ) → Bytes → Type 0
IsPiece most line = IsBytes line × (length line ≤ most)

weaker : (most : ℕ) (ls : List Bytes) → AllByRecursion (IsPiece most) ls → AllByRecursion (IsPiece (suc most)) ls
weaker most [] h = tt
weaker most (line ∷ ls) h = let less = h.0.1 in ((h.0.0, omega (arith, less)), weaker most ls h.1)

one_more : (byte most : ℕ) (ls : List Bytes) → byte < 256 → AllByRecursion (IsPiece most) ls → AllByRecursion (IsPiece (suc most)) (byte_before byte ls)
one_more byte most [] low h = ((more byte [] low none, omega arith), tt)
one_more byte most (line ∷ ls) low h = let less = h.0.1 in ((more byte line low h.0.0, omega (arith, less)), weaker most ls h.1)

pieces : (bytes : Bytes) → IsBytes bytes → AllByRecursion (IsPiece (length bytes)) (lines bytes)
unfolding lines
pieces [] h = ((none, omega arith), tt)
pieces (byte ∷ bytes) h =
    let rest = pieces bytes (λ i. h (suc i)) in
    elim (cases_Bool (byte == LF)) [
      | inl e ↦ rw e ((none, omega arith), weaker (length bytes) (lines bytes) rest)
      | inr e ↦ rw e (one_more byte (length bytes) (lines bytes) (h 0) rest)
    ]

-- what is left of a line has no blanks
pub record IsText (most : ℕ) (line : Line) : Type 0 where
  pub bytes : IsBytes line.text
  pub short : length line.text ≤ most
  pub full : without_blanks line.text ≡ line.text

filter_twice : (test : ℕ → Bool) (xs : Bytes) → filter test (filter test xs) ≡ filter test xs
filter_twice test [] = refl
filter_twice test (x ∷ xs) =
    let rest = filter_twice test xs in
    elim (cases_Bool (test x)) [ inl e ↦ rw (e, e) (ap (λ (l : Bytes). x ∷ l) rest) | inr e ↦ rw e rest ]

text_of : (most number : ℕ) (line : Bytes) → IsPiece most line → IsText most (record { number = number; text = without_blanks line })
text_of most number line h =
    let less = h.1 in
    let few = length-filter_both (λ byte. not (is_blank byte)) (λ byte. not (not (is_blank byte))) (λ byte. refl) line in
    record {
      bytes = kept (λ byte. not (is_blank byte)) line h.0;
      short = omega (arith, few, less);
      full = filter_twice (λ byte. not (is_blank byte)) line;
    }

put : (most : ℕ) (line : Line) (others : List Line) → IsText most line → AllByRecursion (IsText most) others → AllByRecursion (IsText most) (line_before line others)
put most line others h k = elim (cases_Bool (nat_lt 0 (length line.text))) [ inl e ↦ rw e (h, k) | inr e ↦ rw e k ]

pub texts : (most number : ℕ) (ls : List Bytes) → AllByRecursion (IsPiece most) ls → AllByRecursion (IsText most) (lines_from number ls)
unfolding lines_from
texts most number [] h = tt
texts most number (line ∷ ls) h =
    put most (record { number = number; text = without_blanks line }) (lines_from (number + 1) ls) (text_of most number line h.0) (texts most (number + 1) ls h.1)

-- ---- the PSBT of a line is that of its text as a source

no_magic : (m : Bytes) → has_magic (encode_of standard (magic ++ m)) ≡ false
unfolding encode_symbols
no_magic m = refl

same_source : (text : Bytes) (psbt : Psbt) → IsBytes text → length text ≤ MAX_SOURCE_SIZE → without_blanks text ≡ text → text_psbt text ≡ Ok psbt → psbt_of text ≡ Ok psbt
unfolding psbt_of psbt_bytes
same_source text psbt fits short full e = go (decode_of standard text) refl e
  where
    room : nat_lt MAX_SOURCE_SIZE (length text) ≡ false
    room = le-ltb MAX_SOURCE_SIZE (length text) short

    begins : (b : Bytes) → decode_of standard text ≡ Ok b → has_magic b ≡ true → has_magic text ≡ false
    begins b is h =
        let front : take 5 b ≡ magic = (bytes_eq-Decides (take 5 b) magic).0 h in
        let split : b ≡ magic ++ drop 5 b = sym (take-append-drop 5 b) ∙ ap (λ (x : Bytes). x ++ drop 5 b) front in
        ap has_magic (decode_of_strict standard text b (refl, refl) fits is ∙ ap (encode_of standard) split) ∙ no_magic (drop 5 b)

    go : (r : Result Bytes DecodeError) → decode_of standard text ≡ r → text_psbt text ≡ Ok psbt → psbt_of text ≡ Ok psbt
    go (Err fault) is e = let no = rw is at e in absurd cc
    go (Ok b) is e = elim (cases_Bool (has_magic b)) [
      | inl h ↦ (let read = rw (is, h) at e in rw (room, begins b is h, full, is, h) read)
      | inr h ↦ (let no = rw (is, h) at e in absurd cc)
    ]

-- ---- what comes next

pub bind_is : {A B : Type 0} (r : Result A CombineRefusal) (f : A → Result B CombineRefusal) (y : B) → (r >>= f) ≡ Ok y → (x : A) × (r ≡ Ok x) × (f x ≡ Ok y)
bind_is (Ok x) f y e = (x, refl, e)
bind_is (Err why) f y e = absurd cc

pub ok_same : {A : Type 0} (x y : A) → ◌≡◌ {A = Result A CombineRefusal} (Ok x) (Ok y) → x ≡ y
ok_same x y e = cc

pub at_line_is : (number : ℕ) (r : Result Psbt Refusal) (psbt : Psbt) → at_line number r ≡ Ok psbt → r ≡ Ok psbt
at_line_is number (Ok x) psbt e = ap Ok (ok_same x psbt e)
at_line_is number (Err why) psbt e = absurd cc

pub line_whole : EachIsSound → (line : Line) (psbt : Psbt) → IsText MAX_SOURCE_SIZE line → line_psbt line ≡ Ok psbt → IsWhole psbt
line_whole law line psbt h e =
    law line.text psbt h.bytes (same_source line.text psbt h.bytes h.short h.full (at_line_is line.number (text_psbt line.text) psbt e))

-- ---- another part beside the first

-- a part that is whole, and goes together with the first
pub record IsBeside (first other : Psbt) : Type 0 where
  pub whole : IsWhole other
  pub together : other_fault first other ≡ None

beside_is : (why : Option LineFault) (number : ℕ) (other psbt : Psbt) → beside why number other ≡ Ok psbt → (why ≡ None) × (other ≡ psbt)
beside_is None number other psbt e = (refl, ok_same other psbt e)
beside_is (Some why) number other psbt e = absurd cc

other_is : EachIsSound → (first : Psbt) (line : Line) (other : Psbt) → IsText MAX_SOURCE_SIZE line → other_psbt first line ≡ Ok other → IsBeside first other
other_is law first line other h e =
    let read = bind_is (line_psbt line) (λ psbt. beside (other_fault first psbt) line.number psbt) other e in
    let is = beside_is (other_fault first read.0) line.number read.0 other read.2 in
    subst (λ (x : Psbt). IsBeside first x) is.1 (record { whole = line_whole law line read.0 h read.1; together = is.0 })

others_are : EachIsSound → (first : Psbt) (ls : List Line) (others : List Psbt) → AllByRecursion (IsText MAX_SOURCE_SIZE) ls → other_psbts first ls ≡ Ok others
    → AllByRecursion (IsBeside first) others
unfolding other_psbts
others_are law first [] others h e = subst (λ (l : List Psbt). AllByRecursion (IsBeside first) l) (ok_same [] others e) tt
others_are law first (line ∷ ls) others h e =
    let one = bind_is (other_psbt first line) (λ other. other_psbts first ls >>= λ others. Ok (other ∷ others)) others e in
    let rest = bind_is (other_psbts first ls) (λ others. Ok (one.0 ∷ others)) others one.2 in
    subst (λ (l : List Psbt). AllByRecursion (IsBeside first) l) (ok_same (one.0 ∷ rest.0) others rest.2)
    (other_is law first line one.0 h.0 one.1, others_are law first ls rest.0 h.1 rest.1)

-- all parts
pub record AreWhole (parts : Parts) : Type 0 where
  pub first : IsWhole parts.first
  pub others : AllByRecursion (IsBeside parts.first) parts.others

parts_are : EachIsSound → (ls : List Line) (parts : Parts) → AllByRecursion (IsText MAX_SOURCE_SIZE) ls → line_parts ls ≡ Ok parts → AreWhole parts
parts_are law [] parts h e = absurd cc
parts_are law (line ∷ ls) parts h e =
    let one = bind_is (line_psbt line) (λ first. other_psbts first ls >>= λ others. Ok (record { first = first; others = others })) parts e in
    let rest = bind_is (other_psbts one.0 ls) (λ others. Ok (record { first = one.0; others = others })) parts one.2 in
    subst AreWhole (ok_same (record { first = one.0; others = rest.0 }) parts rest.2)
    (record { first = line_whole law line one.0 h.0 one.1; others = others_are law one.0 ls rest.0 h.1 rest.1 })

pub source_lines : (source : Bytes) (parts : Parts) → parts_of source ≡ Ok parts → (length source ≤ MAX_SOURCE_SIZE) × (line_parts (lines_from 1 (lines source)) ≡ Ok parts)
unfolding parts_of
source_lines source parts e = elim (cases_Bool (nat_lt MAX_SOURCE_SIZE (length source))) [
  | inl big ↦ (let no = rw big at e in absurd cc)
  | inr small ↦ (ltb-false MAX_SOURCE_SIZE (length source) small, rw small at e)
]

short_texts : (most size : ℕ) (ls : List Line) → size ≤ most → AllByRecursion (IsText size) ls → AllByRecursion (IsText most) ls
short_texts most size [] less h = tt
short_texts most size (line ∷ ls) less h =
    let short = h.0.short in
    (record { bytes = h.0.bytes; short = omega (arith, short, less); full = h.0.full }, short_texts most size ls less h.1)

pub source_texts : (source : Bytes) → IsBytes source → length source ≤ MAX_SOURCE_SIZE → AllByRecursion (IsText MAX_SOURCE_SIZE) (lines_from 1 (lines source))
source_texts source fits short = short_texts MAX_SOURCE_SIZE (length source) (lines_from 1 (lines source)) short (texts (length source) 1 (lines source) (pieces source fits))

pub parts_whole : EachIsSound → (source : Bytes) (parts : Parts) → IsBytes source → parts_of source ≡ Ok parts → AreWhole parts
parts_whole law source parts fits e =
    let l = source_lines source parts e in
    parts_are law (lines_from 1 (lines source)) parts (source_texts source fits l.0) l.1

-- ---- what they have in common

both_same : (a b : Bool) → ◌≡◌ {A = Option LineFault} (cond a (cond b None (Some OtherTransaction)) (Some OtherVersion)) None → (a ≡ true) × (b ≡ true)
both_same true true e = (refl, refl)
both_same true false e = absurd cc
both_same false b e = absurd cc

beside_common : (first other : Psbt) → IsWhole first → IsBeside first other → IsCommon (version_number first.global) (version_of first.global) first.transaction other
beside_common first other h k =
    let same = both_same (same_version first other) (same_transaction first other) k.together in
    let number : version_number other.global ≡ version_number first.global = sym (eqb-true (version_number first.global) (version_number other.global) same.0) in
    let version : version_of other.global ≡ version_of first.global = ap (λ (m : ℕ). cond (m == 2) version.Two version.Zero) number in
    let text : transaction_text first.transaction ≡ transaction_text other.transaction =
    (bytes_eq-Decides (transaction_text first.transaction) (transaction_text other.transaction)).0 same.1 in
    let back : ◌≡◌ {A = Option Transaction} (Some other.transaction) (Some first.transaction) =
    sym (transaction_back other.transaction k.whole.transaction) ∙ ap transaction_of (sym text) ∙ transaction_back first.transaction h.transaction in
    let transaction : other.transaction ≡ first.transaction = same_Some other.transaction first.transaction back in
    let own = common_of other k.whole in
    record {
      number = number;
      version = version;
      transaction = transaction;
      global = own.global;
      inputs = subst (λ (v : PsbtVersion). AllByRecursion (IsWholeMap (input_rules v)) other.inputs) version own.inputs;
      outputs = subst (λ (v : PsbtVersion). AllByRecursion (IsWholeMap (output_rules v)) other.outputs) version own.outputs;
      each_input = own.each_input ∙ ap (λ (t : Transaction). length t.inputs) transaction;
      each_output = own.each_output ∙ ap (λ (t : Transaction). length t.outputs) transaction;
      global_bytes = own.global_bytes;
      input_bytes = own.input_bytes;
      output_bytes = own.output_bytes;
      own = subst (λ (v : PsbtVersion). IsOwn v first.transaction other) version (subst (λ (t : Transaction). IsOwn (version_of other.global) t other) transaction own.own);
    }

pub all_common : (first : Psbt) (others : List Psbt) → IsWhole first → AllByRecursion (IsBeside first) others
    → AllByRecursion (IsCommon (version_number first.global) (version_of first.global) first.transaction) others
all_common first [] h k = tt
all_common first (other ∷ others) h k = (beside_common first other h k.0, all_common first others h k.1)

whole_is : (psbt whole : Psbt) → whole_of psbt ≡ Ok whole → (psbt ≡ whole) × (keeps_lock_time psbt ≡ true)
whole_is psbt whole e = elim (cases_Bool (keeps_lock_time psbt)) [
  | inl keeps ↦ (ok_same psbt whole (rw keeps at e), keeps)
  | inr other ↦ (let bad = rw other at e in absurd cc)
]

pub combined_is : (parts : Parts) (whole : Psbt) → combined parts ≡ Ok whole → (joined_all parts.first parts.others ≡ whole) × (keeps_lock_time whole ≡ true)
unfolding combined
combined_is parts whole e =
    let is = whole_is (joined_all parts.first parts.others) whole e in
    (is.0, subst (λ (x : Psbt). keeps_lock_time x ≡ true) is.0 is.1)

-- of the parts of a source and of what they are combined to
pub record AreCombined (parts : Parts) (whole : Psbt) : Type 0 where
  pub is : joined_all parts.first parts.others ≡ whole
  pub keeps : keeps_lock_time whole ≡ true
  pub is_whole : IsWhole whole
  pub common : IsCommon (version_number parts.first.global) (version_of parts.first.global) parts.first.transaction whole
  pub each : AllByRecursion (IsCommon (version_number parts.first.global) (version_of parts.first.global) parts.first.transaction) (parts.first ∷ parts.others)

pub are_combined : EachIsSound → (source : Bytes) (parts : Parts) (whole : Psbt) → IsBytes source → parts_of source ≡ Ok parts → combined parts ≡ Ok whole → AreCombined parts whole
are_combined law source parts whole fits e c =
    let h = parts_whole law source parts fits e in
    let is = combined_is parts whole c in
    let first = common_of parts.first h.first in
    let others = all_common parts.first parts.others h.first h.others in
    let n = version_number parts.first.global in
    let v = version_of parts.first.global in
    let all = subst (λ (x : Psbt). IsCommon (version_number parts.first.global) (version_of parts.first.global) parts.first.transaction x) is.0
    (common_all n v parts.first.transaction parts.first parts.others first others) in
    record {
      is = is.0;
      keeps = is.1;
      is_whole = whole_common n v parts.first.transaction whole h.first.transaction all is.1;
      common = all;
      each = (first, others);
    }
