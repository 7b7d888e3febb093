-- What the map of an input holds: keys, and assets.
use Rattle.std.proofs.Common.{◌≡◌, ℕ, suc, ◌^◌, ◌<◌, ◌==◌, ◌||◌, Bool, true, false, List, [], ◌∷◌, ◌++◌, length, map, filter, All, None, Ok, Err, inl, inr, refl, sym, ap, subst, ◌∙◌, append_assoc, arith}
use Rattle.std.specs.List.{AllByRecursion, IsDistinct}
use Rattle.std.specs.Str.{bytes_eq}
use Rattle.std.proofs.lemmas.Bool.{and_parts, or_parts, cases_Bool, eqb-true, false_from_ne_true, false≢true}
use Rattle.std.proofs.lemmas.Slice.Eq.{bytes_eq-Decides}
use Rattle.std.proofs.lemmas.List.Elements.{All-from_recursion, recursion_from_All, All-filter}
use Rattle.def_script.specs.Bytes.{Bytes, IsBytes}
use Rattle.def_script.specs.Key.{is_key}
use Rattle.def_script.specs.Sizes.{SizeReading, size_bytes, read_size}
use Rattle.def_script.proofs.Sizing.{size_has_one_spelling}
use Rattle.def_tree.specs.Range.{IsKey}
use Rattle.def_assets.specs.Assets.{Assets, IsSignature, IsPreimage, AreAssets, same_key, same_pair}
use Rattle.def_assets.proofs.Distinct.{distinct_pairs}
use Rattle.def_psbt.specs.declared.PsbtVersion.{PsbtVersion}
use Rattle.def_psbt.specs.Map.{Pair, Map, type_of, data_of, data_read}
use Rattle.def_psbt.specs.Forms.{is_signature}
use Rattle.def_psbt.specs.Listed.{Form, stands, passes, input_form, shape_fault, pair_fault}
use Rattle.def_psbt.specs.Laws.{IsSoundMap}
use Rattle.def_psbt.specs.Types.{IN_PARTIAL_SIG, IN_BIP32_DERIVATION}
use Rattle.def_spend.specs.Fields.{has_type, is_signed, signatures_in, has_key, keys_in, is_preimage_pair, preimages_in}
use Rattle.def_spend.specs.declared.Verification.{Verification}
use Rattle.def_spend.specs.declared.Verification.TheVariants.{Verified, Unverified}
use Rattle.def_spend.specs.Input.{Spend, locks_of}
use Rattle.def_spend.specs.Good.{word_of, is_good, counted_by, assets_of}
use Rattle.ms_given_laws.specs.Given.{IsMapOfBytes}
use Rattle.ms_given_laws.proofs.BytesOf.{dropped}
use Rattle.ms_given_laws.proofs.Later.{IsPairOfBytes}

-- what holds of what is made of the elements that pass a test
pub each_kept : {A B : Type 0} (P : A → Type 0) (Q : B → Type 0) (test : A → Bool) (make : A → B) → ((x : A) → test x ≡ true → P x → Q (make x)) → (xs : List A)
    → AllByRecursion P xs → AllByRecursion Q (map make (filter test xs))
each_kept {A} {B} P Q test make each [] h = tt
each_kept {A} {B} P Q test make each (x ∷ xs) h =
    let rest = each_kept P Q test make each xs h.1 in
    elim (cases_Bool (test x)) [ inl e ↦ rw e (each x e h.0, rest) | inr e ↦ rw e rest ]

-- ---- keys

pub data_bytes : (key : Bytes) → IsBytes key → IsBytes (data_of key)
data_bytes key fits = go (read_size key)
  where
    go : (reading : SizeReading) → IsBytes (data_read reading key)
    go (Ok read) = dropped read.1 key fits
    go (Err fault) = λ i. omega arith

-- a key with a type that isn't 0 is the type and its data
pub key_is : (key : Bytes) (type : ℕ) → IsBytes key → type_of key ≡ suc type → key ≡ size_bytes (suc type) ++ data_of key
key_is key type fits e = let spelled = size_has_one_spelling key in grind (arith, spelled, fits)

pub keys_are : (fields : Map) → IsMapOfBytes fields → All IsKey (keys_in fields)
keys_are fields fits =
    All-from_recursion IsKey (keys_in fields)
    (each_kept IsPairOfBytes IsKey has_key (λ pair. data_of pair.key) (λ pair test h. record {
      form = (and_parts (has_type IN_PARTIAL_SIG pair || has_type IN_BIP32_DERIVATION pair) (is_key (data_of pair.key)) test).1;
      bytes = data_bytes pair.key h.0;
    }) fields (recursion_from_All IsPairOfBytes fields fits))

-- ---- the form of each pair

pub fault_none : (forms : ℕ → Form) (before : Map) (pair : Pair) → pair_fault forms before pair ≡ None → (stands pair.key before ≡ false) × (shape_fault forms pair ≡ None)
unfolding pair_fault
fault_none forms before pair e = grind arith

-- a pair with nothing wrong by itself
abbrev pub HasShape : (forms : ℕ → Form) → Pair → Type 0
HasShape forms pair = shape_fault forms pair ≡ None

pub shapes : (forms : ℕ → Form) (before map : Map) → IsSoundMap forms before map → AllByRecursion (HasShape forms) map
shapes forms before [] h = tt
shapes forms before (pair ∷ map) h = ((fault_none forms before pair h.0.fault).1, shapes forms (before ++ pair ∷ []) map h.1)

-- the form of the pair's type holds
pub form_of : (forms : ℕ → Form) (pair : Pair) → HasShape forms pair
    → ((forms (type_of pair.key)).key (data_of pair.key) ≡ true) × ((forms (type_of pair.key)).value (data_of pair.key) pair.value ≡ None)
unfolding shape_fault
form_of forms pair e = grind arith

pub passed : (b : Bool) → passes b ≡ None → b ≡ true
passed true e = refl
passed false e = absurd cc

-- the value of a pair of the type of signatures is one
pub signature_form : (version : PsbtVersion) (pair : Pair) → HasShape (input_form version) pair → has_type IN_PARTIAL_SIG pair ≡ true → is_signature pair.value ≡ true
unfolding input_form shape_fault
signature_form version pair shape is = grind arith

signature_is : (sig : Bytes) → IsBytes sig → is_signature sig ≡ true → IsSignature sig
unfolding is_signature
signature_is sig fits e = record { some = grind arith; few = grind arith; bytes = fits }

-- ---- no key signs twice

differ : (forms : ℕ → Form) (first : Pair) (before after map : Map) → IsSoundMap forms (before ++ first ∷ after) map → AllByRecursion (λ (pair : Pair). bytes_eq pair.key first.key ≡ false) map
differ forms first before after [] h = tt
differ forms first before after (pair ∷ map) h = (
  other before ((fault_none forms (before ++ first ∷ after) pair h.0.fault).0),
  differ forms first before (after ++ pair ∷ []) map
      (subst (λ (former : Map). IsSoundMap forms former map) (append_assoc before (first ∷ after) (pair ∷ [])) h.1),
)
  where
    other : (before : Map) → stands pair.key (before ++ first ∷ after) ≡ false → bytes_eq pair.key first.key ≡ false
    other [] e = (or_parts (bytes_eq pair.key first.key) (stands pair.key after) e).0
    other (x ∷ before) e = other before (or_parts (bytes_eq pair.key x.key) (stands pair.key (before ++ first ∷ after)) e).1

-- of two pairs of signatures, with different keys, the keys that sign differ
keys_differ : (first pair : Pair) → IsPairOfBytes first → IsPairOfBytes pair → has_type IN_PARTIAL_SIG first ≡ true → has_type IN_PARTIAL_SIG pair ≡ true
    → bytes_eq pair.key first.key ≡ false → bytes_eq (data_of first.key) (data_of pair.key) ≡ false
keys_differ first pair fits own signs_first signs other = false_from_ne_true _ (λ e.
    let same_data = (bytes_eq-Decides (data_of first.key) (data_of pair.key)).0 e in
    let one = key_is first.key 1 fits.0 (eqb-true (type_of first.key) 0x02 signs_first) in
    let two = key_is pair.key 1 own.0 (eqb-true (type_of pair.key) 0x02 signs) in
    let same : pair.key ≡ first.key = two ∙ ap (λ (d : Bytes). size_bytes 2 ++ d) (sym same_data) ∙ sym one in
    false≢true (sym other ∙ (bytes_eq-Decides pair.key first.key).1 same))

abbrev pub signature : Pair → Bytes × Bytes
signature pair = (data_of pair.key, pair.value)

signs : (pair : Pair) → is_signed pair ≡ true → has_type IN_PARTIAL_SIG pair ≡ true
signs pair e = (and_parts (has_type IN_PARTIAL_SIG pair) (is_key (data_of pair.key)) e).0

later_differ : (first : Pair) (fields : Map) → IsPairOfBytes first → is_signed first ≡ true → AllByRecursion IsPairOfBytes fields
    → AllByRecursion (λ (pair : Pair). bytes_eq pair.key first.key ≡ false) fields
    → AllByRecursion (λ other. same_key (signature first) other ≡ false) (signatures_in fields)
later_differ first [] fits is all h = tt
later_differ first (pair ∷ fields) fits is all h =
    let rest = later_differ first fields fits is all.1 h.1 in
    elim (cases_Bool (is_signed pair)) [
      | inl e ↦ rw e (keys_differ first pair fits all.0 (signs first is) (signs pair e) h.0, rest)
      | inr e ↦ rw e rest
    ]

pub one_signature : (version : PsbtVersion) (before fields : Map) → IsSoundMap (input_form version) before fields → AllByRecursion IsPairOfBytes fields → IsDistinct same_key (signatures_in fields)
unfolding IsDistinct
one_signature version before [] sound all = tt
one_signature version before (pair ∷ fields) sound all =
    let rest = one_signature version (before ++ pair ∷ []) fields sound.1 all.1 in
    elim (cases_Bool (is_signed pair)) [
      | inl e ↦ rw e (later_differ pair fields all.0 e all.1 (differ (input_form version) pair before [] fields sound.1), rest)
      | inr e ↦ rw e rest
    ]

-- ---- the assets

-- the numbers of the locks
pub record HasLocks (spend : Spend) : Type 0 where
  pub version : spend.transaction.version < 2 ^ 32
  pub sequence : spend.input.sequence < 2 ^ 32
  pub lock_time : spend.transaction.lock_time < 2 ^ 32

-- those in which every signature counts
abbrev all_assets : Spend → Assets
all_assets spend = record { locks = locks_of spend; pairs = signatures_in spend.fields; preimages = preimages_in spend.fields }

all_are : (version : PsbtVersion) (spend : Spend) → HasLocks spend → IsSoundMap (input_form version) [] spend.fields → IsMapOfBytes spend.fields → AreAssets (all_assets spend)
all_are version spend locks sound fits =
    let all = recursion_from_All IsPairOfBytes spend.fields fits in
    let forms = shapes (input_form version) [] spend.fields sound in
    record {
      keys = All-from_recursion (λ pair. IsKey pair.0) (signatures_in spend.fields)
          (each_kept IsPairOfBytes (λ pair. IsKey pair.0) is_signed signature (λ pair test h. record {
            form = (and_parts (has_type IN_PARTIAL_SIG pair) (is_key (data_of pair.key)) test).1;
            bytes = data_bytes pair.key h.0;
          }) spend.fields all);
      signatures = All-from_recursion (λ pair. IsSignature pair.1) (signatures_in spend.fields)
          (each_kept (λ pair. IsPairOfBytes pair × HasShape (input_form version) pair) (λ pair. IsSignature pair.1) is_signed signature
          (λ pair test h. signature_is pair.value h.0.1 (signature_form version pair h.1 (signs pair test))) spend.fields (both_hold spend.fields all forms));
      distinct = distinct_pairs (signatures_in spend.fields) (one_signature version [] spend.fields sound all);
      preimages = All-from_recursion IsPreimage (preimages_in spend.fields)
          (each_kept IsPairOfBytes IsPreimage is_preimage_pair (λ pair. pair.value) (λ pair test h. record {
            length = eqb-true (length pair.value) 32 ((and_parts _ (length pair.value == 32) test).1);
            bytes = h.1;
          }) spend.fields all);
      version = locks.version;
      sequence = locks.sequence;
      locktime = locks.lock_time;
    }
  where
    both_hold : (fields : Map) → AllByRecursion IsPairOfBytes fields → AllByRecursion (HasShape (input_form version)) fields
        → AllByRecursion (λ pair. IsPairOfBytes pair × HasShape (input_form version) pair) fields
    both_hold [] p q = tt
    both_hold (pair ∷ fields) p q = ((p.0, q.0), both_hold fields p.1 q.1)

-- some of the pairs
differ_from_some : (test : Bytes × Bytes → Bool) (first : Bytes × Bytes) (pairs : List (Bytes × Bytes)) → AllByRecursion (λ other. same_pair first other ≡ false) pairs
    → AllByRecursion (λ other. same_pair first other ≡ false) (filter test pairs)
differ_from_some test first [] h = tt
differ_from_some test first (pair ∷ pairs) h =
    let rest = differ_from_some test first pairs h.1 in
    elim (cases_Bool (test pair)) [ inl e ↦ rw e (h.0, rest) | inr e ↦ rw e rest ]

some_distinct : (test : Bytes × Bytes → Bool) (pairs : List (Bytes × Bytes)) → IsDistinct same_pair pairs → IsDistinct same_pair (filter test pairs)
unfolding IsDistinct
some_distinct test [] h = tt
some_distinct test (pair ∷ pairs) h =
    let rest = some_distinct test pairs h.1 in
    elim (cases_Bool (test pair)) [ inl e ↦ rw e (differ_from_some test pair pairs h.0, rest) | inr e ↦ rw e rest ]

-- the assets with some of the pairs
pub some_are : (test : Bytes × Bytes → Bool) (assets : Assets) → AreAssets assets → AreAssets (record assets { pairs = filter test assets.pairs })
some_are test assets are = record {
  keys = All-filter test (λ pair. IsKey pair.0) assets.pairs are.keys;
  signatures = All-filter test (λ pair. IsSignature pair.1) assets.pairs are.signatures;
  distinct = some_distinct test assets.pairs are.distinct;
  preimages = are.preimages;
  version = are.version;
  sequence = are.sequence;
  locktime = are.locktime;
}

pub assets_are : (version : PsbtVersion) (spend : Spend) → HasLocks spend → IsSoundMap (input_form version) [] spend.fields → IsMapOfBytes spend.fields → AreAssets (assets_of spend)
assets_are version spend locks sound fits = go spend.verification
  where
    all : AreAssets (all_assets spend)
    all = all_are version spend locks sound fits

    go : (verification : Verification) → AreAssets (record (all_assets spend) { pairs = counted_by verification spend })
    go Verified = some_are (λ pair. is_good (word_of spend pair)) (all_assets spend) all
    go Unverified = all
