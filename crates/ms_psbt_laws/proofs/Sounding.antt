-- What is written is sound: the kept pairs of each Ready input with its final witness, and the maps of others.
use Rattle.std.proofs.Common.{◌≡◌, ℕ, zero, suc, ◌+◌, ◌*◌, ◌^◌, ◌<◌, ◌≤◌, ◌==◌, nat_lt, Bool, true, false, not, cond, List, [], ◌∷◌, ◌++◌, length, map, filter, inl, inr, All, Some, None, is_some, refl, sym, ap, subst, ◌∙◌, if◌then◌else◌, arith}
use Rattle.std.specs.List.{flat_map, AllByRecursion}
use Rattle.std.specs.Int.{w16, w32, w64, to_le_bytes, byte_at, bytes_low_first}
use Rattle.std.specs.Str.{bytes_eq}
use Rattle.std.proofs.lemmas.Bool.{false≢true, eqb-true, and_parts, ltb-true, cases_Bool, or_parts, or_from, false_from_ne_true}
use Rattle.std.proofs.lemmas.List.{append-nil, length-append}
use Rattle.std.proofs.lemmas.List.Concat.{flat_map-cons}
use Rattle.std.proofs.lemmas.List.Elements.{All-nil, All-cons, All-append, All-contains, All-filter, recursion_from_All}
use Rattle.std.proofs.lemmas.Slice.Eq.{bytes_eq-Decides}
use Rattle.def_hash.specs.declared.HashKind.TheVariants as kind
use Rattle.def_hash.specs.Hash.{sha256, hash160}
use Rattle.def_hash.proofs.Lengths.{digest_has_its_length, digest_has_bytes, sha256-IsBytes}
use Rattle.def_script.specs.Bytes.{Bytes, IsBytes}
use Rattle.def_script.specs.Sizes.{size_bytes, read_size}
use Rattle.def_script.specs.Witness.{sized, items_text, witness_text}
use Rattle.def_machine.specs.Program.{program_of}
use Rattle.def_tree.specs.Tree.{Key, Tree}
use Rattle.def_tree.specs.Range.{IsKey}
use Rattle.def_assets.specs.Assets.{IsSignature}
use Rattle.def_emit.specs.Emit.{script_of}
use Rattle.def_satisfaction.proofs.OfBytes.{sat_is_of_bytes}
use Rattle.ms_witness.specs.Reading.{MOST_WITNESS, FitsWitness}
use Rattle.def_psbt.specs.declared.PsbtVersion.{PsbtVersion}
use Rattle.def_psbt.specs.Map.{Pair, Map, type_of}
use Rattle.def_psbt.specs.Part.{Part, first_string, first_list, whole}
use Rattle.def_psbt.specs.Forms as forms
use Rattle.def_psbt.specs.Listed.{Form, stands, shape_fault, pair_fault, input_form}
use Rattle.def_psbt.specs.Laws.{IsSoundPair, IsSoundMap}
use Rattle.def_spend.specs.declared.State.TheVariants as state
use Rattle.def_psbt.specs.Types.{IN_WITNESS_SCRIPT, IN_FINAL_SCRIPTSIG, IN_FINAL_SCRIPTWITNESS}
use Rattle.def_spend.specs.Fields.{has_type, field}
use Rattle.def_spend.specs.Good.{counted_signatures, assets_of}
use Rattle.def_spend.specs.Kinds.{pushed, IsGuardedBy}
use Rattle.def_spend.specs.Reading.{Input}
use Rattle.def_spend.specs.States.{state_of, is_ready, stack_of}
use Rattle.def_spend.specs.Finalized.{is_cleared, is_kept, script_sig_pair, witness_pair, final_pairs, final_map, script_sig_of, witness_of, written_map}
use Rattle.ms_given_laws.specs.Given.{OfEachInput, EachIsSound, IsMapOfBytes}
use Rattle.ms_given_laws.proofs.BytesOf as bytes
use Rattle.ms_given_laws.proofs.Later.{IsPairOfBytes}
use Rattle.ms_given_laws.proofs.Parts.{some_is}
use Rattle.ms_given_laws.proofs.Held.{fault_none}
use Rattle.ms_given_laws.proofs.Joined.{sound_joins}
use Rattle.ms_spend_laws.specs.KeyHash.{key_program}
use Rattle.ms_spend_laws.specs.Ready.{IsScriptWitness, IsKeyWitness}
use Rattle.ms_spend_laws.proofs.Inputs.{IsGiven, held, of_each}
use Rattle.ms_spend_laws.proofs.States.{opens, ready_is, ready_some, stack_is, writes}
use Rattle.ms_spend_laws.proofs.Chosen.{IsChosen, canonical, fits_witness, witness_is}
use Rattle.ms_given_laws.proofs.PartsBack.{AreItems, witness_back}

-- ---- the kept pairs

-- what doesn't stand before doesn't stand among the kept ones
abbrev Within : (kept before : Map) → Type 0
Within kept before = (key : Bytes) → stands key before ≡ false → stands key kept ≡ false

stands_front : (key : Bytes) (before : Map) (pair : Pair) → stands key (before ++ pair ∷ []) ≡ false → stands key before ≡ false
stands_front key [] pair e = refl
stands_front key (x ∷ before) pair e =
    let p = or_parts (bytes_eq key x.key) (stands key (before ++ pair ∷ [])) e in
    or_from (bytes_eq key x.key) (stands key before) p.0 (stands_front key before pair p.1)

stands_last : (key : Bytes) (before : Map) (pair : Pair) → stands key (before ++ pair ∷ []) ≡ false → bytes_eq key pair.key ≡ false
stands_last key [] pair e = (or_parts (bytes_eq key pair.key) false e).0
stands_last key (x ∷ before) pair e = stands_last key before pair (or_parts (bytes_eq key x.key) (stands key (before ++ pair ∷ [])) e).1

stands_both : (key : Bytes) (before : Map) (pair : Pair) → stands key before ≡ false → bytes_eq key pair.key ≡ false → stands key (before ++ pair ∷ []) ≡ false
stands_both key [] pair e f = or_from (bytes_eq key pair.key) false f refl
stands_both key (x ∷ before) pair e f =
    let p = or_parts (bytes_eq key x.key) (stands key before) e in
    or_from (bytes_eq key x.key) (stands key (before ++ pair ∷ [])) p.0 (stands_both key before pair p.1 f)

still_sound : (forms : ℕ → Form) (before kept : Map) (pair : Pair) → Within kept before → IsSoundPair forms before pair → IsSoundPair forms kept pair
unfolding pair_fault
still_sound forms before kept pair within sound =
    let parts = fault_none forms before pair sound.fault in
    let new : stands pair.key kept ≡ false = within pair.key parts.0 in
    record { fault = rw new parts.1; key = sound.key; value = sound.value }

filtered : (forms : ℕ → Form) (test : Pair → Bool) (before kept map : Map) → Within kept before → IsSoundMap forms before map → IsSoundMap forms kept (filter test map)
filtered forms test before kept [] within sound = tt
filtered forms test before kept (pair ∷ map) within sound =
    go (test pair)
    (filtered forms test (before ++ pair ∷ []) (kept ++ pair ∷ []) map
    (λ key e. stands_both key kept pair (within key (stands_front key before pair e)) (stands_last key before pair e)) sound.1)
    (filtered forms test (before ++ pair ∷ []) kept map (λ key e. within key (stands_front key before pair e)) sound.1)
  where
    go : (b : Bool) → IsSoundMap forms (kept ++ pair ∷ []) (filter test map) → IsSoundMap forms kept (filter test map)
        → IsSoundMap forms kept (cond b (pair ∷ filter test map) (filter test map))
    go true with_it without = (still_sound forms before kept pair within sound.0, with_it)
    go false with_it without = without

-- ---- the final witness

-- no kept pair has a key of a type that is cleared
none_cleared : (key : Bytes) → is_cleared (type_of key) ≡ true → (fields : Map) → stands key (filter is_kept fields) ≡ false
none_cleared key is [] = refl
none_cleared key is (pair ∷ fields) =
    let rest = none_cleared key is fields in
    elim (cases_Bool (is_kept pair)) [
      | inl kept ↦ rw kept (or_from (bytes_eq key pair.key) _ (false_from_ne_true _ (λ e.
          let same = (bytes_eq-Decides key pair.key).0 e in
          let other : not (is_cleared (type_of key)) ≡ true = subst (λ (k : Bytes). not (is_cleared (type_of k)) ≡ true) (sym same) kept in
          false≢true (ap not (sym is) ∙ other))) rest)
      | inr cleared ↦ rw cleared rest
    ]

witness_cleared : is_cleared (type_of (IN_FINAL_SCRIPTWITNESS ∷ [])) ≡ true
unfolding read_size
witness_cleared = refl

script_sig_cleared : is_cleared (type_of (IN_FINAL_SCRIPTSIG ∷ [])) ≡ true
unfolding read_size
script_sig_cleared = refl

-- items that were written are the witness
pub items_back : (items : List Bytes) → AreItems items → forms.witness_of (items_text items) ≡ Some items
unfolding whole
items_back items are =
    let read = witness_back items [] are in
    ap (λ (l : Bytes). whole (first_list first_string l)) (sym (append-nil (items_text items))) ∙ ap (λ (o : Part (List Bytes)). whole o) read

size_few : (n : ℕ) → length (size_bytes n) ≤ 9
unfolding size_bytes
size_few n = go (nat_lt n 0xfd) (nat_lt n (2 ^ 16)) (nat_lt n (2 ^ 32))
  where
    go : (a b c : Bool) → length (if a then n ∷ [] else if b then 0xfd ∷ to_le_bytes w16 n else if c then 0xfe ∷ to_le_bytes w32 n else 0xff ∷ to_le_bytes w64 n) ≤ 9
    go true b c = omega arith
    go false true c = omega arith
    go false false true = omega arith
    go false false false = omega arith

items_few : (items : List Bytes) → AllByRecursion (λ (item : Bytes). length item ≤ MOST_WITNESS) items → length (flat_map sized items) ≤ length items * 10009
items_few [] h = omega arith
items_few (item ∷ items) h =
    let long : length (flat_map sized (item ∷ items)) ≡ length (sized item) + length (flat_map sized items) =
    ap length (flat_map-cons sized item items) ∙ length-append (sized item) (flat_map sized items) in
    let first = h.0 in
    omega (arith, long, length-append (size_bytes (length item)) item, size_few (length item), first, items_few items h.1)

-- the items of a witness within its limits
abbrev pub all_items : List Bytes → Bytes → List Bytes
all_items stack script = stack ++ script ∷ []

each_fits : (stack : List Bytes) (script : Bytes) → FitsWitness stack script → AllByRecursion (λ (item : Bytes). length item ≤ MOST_WITNESS) (all_items stack script)
each_fits stack script fits =
    recursion_from_All (λ (item : Bytes). length item ≤ MOST_WITNESS) (all_items stack script)
    (All-append (λ (item : Bytes). length item ≤ MOST_WITNESS) stack (script ∷ []) fits.items
    (All-cons (λ (item : Bytes). length item ≤ MOST_WITNESS) script [] fits.last (All-nil (λ (item : Bytes). length item ≤ MOST_WITNESS))))

short_of : (items : List Bytes) → AllByRecursion (λ (item : Bytes). length item ≤ MOST_WITNESS) items → AllByRecursion (λ (item : Bytes). length item < 2 ^ 64) items
short_of [] h = tt
short_of (item ∷ items) h = (let first = h.0 in omega (arith, first), short_of items h.1)

pub are_items : (stack : List Bytes) (script : Bytes) → FitsWitness stack script → AreItems (all_items stack script)
are_items stack script fits =
    let few = fits.few in
    record { few = omega (arith, few, length-append stack (script ∷ [])); short = short_of (all_items stack script) (each_fits stack script fits) }

witness_short : (stack : List Bytes) (script : Bytes) → FitsWitness stack script → length (witness_text stack script) < 2 ^ 64
witness_short stack script fits =
    let few = fits.few in
    let items = items_few (all_items stack script) (each_fits stack script fits) in
    let size = size_few (length (all_items stack script)) in
    let both = length-append (size_bytes (length (all_items stack script))) (flat_map sized (all_items stack script)) in
    omega (arith, few, length-append stack (script ∷ []), items, size, both)

final_fault : (version : PsbtVersion) (before : Map) (witness : Bytes) → stands (IN_FINAL_SCRIPTWITNESS ∷ []) before ≡ false → is_some (forms.witness_of witness) ≡ true
    → pair_fault (input_form version) before (witness_pair witness) ≡ None
unfolding pair_fault shape_fault read_size input_form
final_fault version before witness none form = rw (none, form) refl

script_sig_fault : (version : PsbtVersion) (before : Map) (script_sig : Bytes) → stands (IN_FINAL_SCRIPTSIG ∷ []) before ≡ false
    → pair_fault (input_form version) before (script_sig_pair script_sig) ≡ None
unfolding pair_fault shape_fault read_size input_form
script_sig_fault version before script_sig none = rw none refl

-- the final pairs behind the kept ones
pairs_sound : (version : PsbtVersion) (fields : Map) (stack : List Bytes) (script : Bytes) → FitsWitness stack script → (script_sig : Bytes) → length script_sig < 2 ^ 64
    → IsSoundMap (input_form version) (filter is_kept fields) (final_pairs script_sig (witness_text stack script))
pairs_sound version fields stack script fits [] short =
    let form : is_some (forms.witness_of (witness_text stack script)) ≡ true = ap is_some (items_back (all_items stack script) (are_items stack script fits)) in
    let none = none_cleared (IN_FINAL_SCRIPTWITNESS ∷ []) witness_cleared fields in
    (record { fault = final_fault version (filter is_kept fields) (witness_text stack script) none form; key = omega arith; value = witness_short stack script fits }, tt)
pairs_sound version fields stack script fits (byte ∷ rest) short =
    let form : is_some (forms.witness_of (witness_text stack script)) ≡ true = ap is_some (items_back (all_items stack script) (are_items stack script fits)) in
    let none = none_cleared (IN_FINAL_SCRIPTWITNESS ∷ []) witness_cleared fields in
    let behind = stands_both (IN_FINAL_SCRIPTWITNESS ∷ []) (filter is_kept fields) (script_sig_pair (byte ∷ rest)) none refl in (
      record {
        fault = script_sig_fault version (filter is_kept fields) (byte ∷ rest) (none_cleared (IN_FINAL_SCRIPTSIG ∷ []) script_sig_cleared fields);
        key = omega arith;
        value = short;
      },
      (
        record {
          fault = final_fault version (filter is_kept fields ++ script_sig_pair (byte ∷ rest) ∷ []) (witness_text stack script) behind form;
          key = omega arith;
          value = witness_short stack script fits;
        },
        tt,
      ),
    )

-- the map of a Ready input is sound
final_sound : (version : PsbtVersion) (fields : Map) (stack : List Bytes) (script script_sig : Bytes) → IsSoundMap (input_form version) [] fields → FitsWitness stack script
    → length script_sig < 2 ^ 64 → IsSoundMap (input_form version) [] (final_map fields script_sig (witness_text stack script))
final_sound version fields stack script script_sig sound fits short =
    sound_joins (input_form version) [] (filter is_kept fields) (final_pairs script_sig (witness_text stack script))
    (filtered (input_form version) is_kept [] [] fields (λ key e. e) sound) (pairs_sound version fields stack script fits script_sig short)

-- ---- it consists of bytes

-- the bytes of a number, low byte first
one_byte : (i n : ℕ) → byte_at i n < 256
one_byte zero n = omega arith
one_byte (suc i) n = omega arith

low_first : (i k n : ℕ) → IsBytes (bytes_low_first i k n)
low_first i zero n = bytes.none
low_first i (suc k) n = bytes.more (byte_at i n) (bytes_low_first (suc i) k n) (one_byte i n) (low_first (suc i) k n)

pub size_fits : (n : ℕ) → IsBytes (size_bytes n)
unfolding size_bytes
size_fits n = go (nat_lt n 0xfd) refl (nat_lt n (2 ^ 16)) (nat_lt n (2 ^ 32))
  where
    go : (a : Bool) → nat_lt n 0xfd ≡ a → (b c : Bool)
        → IsBytes (if a then n ∷ [] else if b then 0xfd ∷ to_le_bytes w16 n else if c then 0xfe ∷ to_le_bytes w32 n else 0xff ∷ to_le_bytes w64 n)
    go true e b c = let low : n < 0xfd = ltb-true n 0xfd e in bytes.more n [] (omega arith) bytes.none
    go false e true c = bytes.more 0xfd (to_le_bytes w16 n) (omega arith) (low_first 0 2 n)
    go false e false true = bytes.more 0xfe (to_le_bytes w32 n) (omega arith) (low_first 0 4 n)
    go false e false false = bytes.more 0xff (to_le_bytes w64 n) (omega arith) (low_first 0 8 n)

pub sized_fits : (item : Bytes) → IsBytes item → IsBytes (sized item)
sized_fits item h = bytes.both (size_bytes (length item)) item (size_fits (length item)) h

each_sized : (items : List Bytes) → AllByRecursion IsBytes items → AllByRecursion (λ (item : Bytes). IsBytes (sized item)) items
each_sized [] h = tt
each_sized (item ∷ items) h = (sized_fits item h.0, each_sized items h.1)

witness_fits : (items : List Bytes) → AllByRecursion IsBytes items → IsBytes (items_text items)
witness_fits items h =
    bytes.both (size_bytes (length items)) (flat_map sized items) (size_fits (length items)) (bytes.joined sized items (each_sized items h))

-- a string that can be spelled, and consists of bytes
abbrev Fits : Bytes → Type 0
Fits string = (length string < 2 ^ 64) × IsBytes string

-- the scriptSig of a program
program_fits : (program : Bytes) → length program < 76 → IsBytes program → Fits (pushed program)
program_fits program short fits = (omega (arith, short), bytes.more (length program) program (omega (arith, short)) fits)

script_hash_fits : (script : Bytes) → Fits (pushed (program_of script))
script_hash_fits script =
    let long : length (sha256 script) ≡ 32 = digest_has_its_length kind.Sha256 script in
    program_fits (program_of script) (omega (arith, long))
    (bytes.more 0x00 (0x20 ∷ sha256 script) (omega arith) (bytes.more 0x20 (sha256 script) (omega arith) (sha256-IsBytes script)))

key_hash_fits : (key : Key) → Fits (pushed (key_program key))
key_hash_fits key =
    let long : length (hash160 key) ≡ 20 = digest_has_its_length kind.Hash160 key in
    program_fits (key_program key) (omega (arith, long))
    (bytes.more 0x00 (0x14 ∷ hash160 key) (omega arith) (bytes.more 0x14 (hash160 key) (omega arith) (digest_has_bytes kind.Hash160 key)))

guarded_fits : (program output script_sig : Bytes) → Fits (pushed program) → IsGuardedBy program output script_sig → Fits script_sig
guarded_fits program output script_sig fits (inl h) = subst Fits (sym h.1) (omega arith, bytes.none)
guarded_fits program output script_sig fits (inr h) = subst Fits (sym h.1) fits

witness_fit : (witness : Bytes) → IsBytes witness → All IsPairOfBytes (witness_pair witness ∷ [])
witness_fit witness fits =
    let key : IsBytes (IN_FINAL_SCRIPTWITNESS ∷ []) = bytes.more IN_FINAL_SCRIPTWITNESS [] (omega arith) bytes.none in
    All-cons IsPairOfBytes (witness_pair witness) [] (key, fits) (All-nil IsPairOfBytes)

pairs_fit : (script_sig witness : Bytes) → IsBytes script_sig → IsBytes witness → All IsPairOfBytes (final_pairs script_sig witness)
pairs_fit [] witness sig fits = witness_fit witness fits
pairs_fit (byte ∷ rest) witness sig fits =
    let key : IsBytes (IN_FINAL_SCRIPTSIG ∷ []) = bytes.more IN_FINAL_SCRIPTSIG [] (omega arith) bytes.none in
    All-cons IsPairOfBytes (script_sig_pair (byte ∷ rest)) (witness_pair witness ∷ []) (key, sig) (witness_fit witness fits)

-- ---- each map as it is written

-- a map that is written of one consists of bytes, and is sound where that was
pub record IsGoodMap (fields written : Map) : Type 0 where
  pub sound : (version : PsbtVersion) → IsSoundMap (input_form version) [] fields → IsSoundMap (input_form version) [] written
  pub fits : IsMapOfBytes written

-- the final fields of a Ready input: the last item of the witness, and those before it
pub record IsFinalWitness (input : Input) : Type 0 where
  pub stack : List Bytes
  pub last : Bytes
  pub is : witness_of input ≡ witness_text stack last
  pub fits : FitsWitness stack last
  pub stack_bytes : All IsBytes stack
  pub last_bytes : IsBytes last
  pub script_sig_fits : Fits (script_sig_of input.spend)

-- the value of a field is that of a pair of its type, of which holds what holds of all
pub field_pair : (P : Pair → Type 0) (type : ℕ) (fields : Map) (value : Bytes) → AllByRecursion P fields → field type fields ≡ Some value
    → (pair : Pair) × P pair × (has_type type pair ≡ true) × (pair.value ≡ value)
field_pair P type [] value all e = absurd cc
field_pair P type (pair ∷ fields) value all e = elim (cases_Bool (has_type type pair)) [
  | inl is ↦ (pair, all.0, is, some_is pair.value value (rw is at e))
  | inr other ↦ field_pair P type fields value all.1 (rw other at e)
]

-- of P2WSH the last one is the script
script_final : (input : Input) (tree : Tree) (script : Bytes) → IsChosen input tree script → IsScriptWitness input tree → IsFinalWitness input
script_final input tree script c w =
    let found = field_pair IsPairOfBytes IN_WITNESS_SCRIPT input.spend.fields (script_of tree)
    (recursion_from_All IsPairOfBytes input.spend.fields c.given.place.fits) w.script in
    record {
      stack = stack_of input;
      last = script_of tree;
      is = w.witness;
      fits = fits_witness input tree script c;
      stack_bytes = sat_is_of_bytes tree (assets_of input.spend) (stack_of input) (writes input tree script c.tried) (held input c.given) (canonical input tree script c);
      last_bytes = subst IsBytes found.3 found.1.1;
      script_sig_fits = guarded_fits (program_of (script_of tree)) w.output.script (script_sig_of input.spend) (script_hash_fits (script_of tree)) w.guarded;
    }

-- of P2WPKH the key
key_final : (input : Input) (tree : Tree) → IsGiven input → IsKeyWitness input tree → IsFinalWitness input
key_final input tree given w =
    let are = held input given in
    let key : IsKey w.key = All-contains (λ pair. IsKey pair.0) (counted_signatures input.spend) (w.key, w.sig) are.keys w.counts in
    let sig : IsSignature w.sig = All-contains (λ pair. IsSignature pair.1) (counted_signatures input.spend) (w.key, w.sig) are.signatures w.counts in
    let long : length w.key ≡ 33 = eqb-true (length w.key) 33 (and_parts (length w.key == 33) _ key.form).0 in
    record {
      stack = w.sig ∷ [];
      last = w.key;
      is = w.witness;
      fits = record {
        few = omega arith;
        items = All-cons (λ item. length item ≤ MOST_WITNESS) w.sig [] (omega (arith, sig.few)) (All-nil (λ item. length item ≤ MOST_WITNESS));
        last = omega (arith, long);
      };
      stack_bytes = All-cons IsBytes w.sig [] sig.bytes (All-nil IsBytes);
      last_bytes = key.bytes;
      script_sig_fits = guarded_fits (key_program w.key) w.output.script (script_sig_of input.spend) (key_hash_fits w.key) w.guarded;
    }

pub final_witness : (input : Input) → IsGiven input → is_ready (state_of input) ≡ true → IsFinalWitness input
final_witness input given ready =
    let o = opens input state.Ready given.read tt (ready_is (state_of input) ready) in
    let some = ready_some _ o.chosen in
    let stack = stack_is input o.tree o.script some.0 o.tried some.1 in
    let c : IsChosen input o.tree o.script = record { given = given; tried = o.tried; chosen = some.1 ∙ ap Some (sym stack) } in
    elim (witness_is input o.tree o.script c) [ inl w ↦ script_final input o.tree o.script c w | inr w ↦ key_final input o.tree given w ]

final_good : (input : Input) → IsGiven input → IsFinalWitness input → IsGoodMap input.spend.fields (final_map input.spend.fields (script_sig_of input.spend) (witness_of input))
final_good input given w =
    let place = given.place in
    let items = All-append IsBytes w.stack (w.last ∷ []) w.stack_bytes (All-cons IsBytes w.last [] w.last_bytes (All-nil IsBytes)) in
    let text = witness_fits (all_items w.stack w.last) (recursion_from_All IsBytes (all_items w.stack w.last) items) in
    subst (λ (witness : Bytes). IsGoodMap input.spend.fields (final_map input.spend.fields (script_sig_of input.spend) witness)) (sym w.is) (record {
      sound = λ version sound. final_sound version input.spend.fields w.stack w.last (script_sig_of input.spend) sound w.fits w.script_sig_fits.0;
      fits = All-append IsPairOfBytes (filter is_kept input.spend.fields) (final_pairs (script_sig_of input.spend) (witness_text w.stack w.last))
          (All-filter is_kept IsPairOfBytes input.spend.fields place.fits)
          (pairs_fit (script_sig_of input.spend) (witness_text w.stack w.last) w.script_sig_fits.1 text);
    })

pub good_map : (input : Input) → IsGiven input → IsGoodMap input.spend.fields (written_map input)
good_map input given = elim (cases_Bool (is_ready (state_of input))) [
  | inl e ↦ rw e (final_good input given (final_witness input given e))
  | inr e ↦ rw e (record { sound = λ version sound. sound; fits = given.place.fits })
]

pub good_maps : EachIsSound → OfEachInput (λ input. IsGoodMap input.spend.fields (written_map input))
good_maps law = of_each law _ good_map
