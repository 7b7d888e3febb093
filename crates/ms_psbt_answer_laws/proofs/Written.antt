-- What is written of inputs, and of those that were written.
use Rattle.std.proofs.Common.{◌≡◌, ℕ, zero, suc, ◌+◌, ◌^◌, ◌==◌, nat_lt, Bool, true, false, not, ◌&&◌, ◌||◌, List, [], ◌∷◌, ◌++◌, map, filter, find, All, length, Some, Ok, Err, if◌then◌else◌, refl, sym, ◌∙◌, ap, subst, arith, inl, inr}
use Rattle.std.proofs.lemmas.List.Elements.{filter-append}
use Rattle.std.proofs.Math.Bool.{or-true}
use Rattle.std.specs.Option.{option_map}
use Rattle.std.specs.Int.{w16, w32, w64, to_le_bytes}
use Rattle.std.specs.Str.{bytes_eq}
use Rattle.std.proofs.lemmas.Bool.{cases_Bool, false≢true, ne_eqb}
use Rattle.std.proofs.lemmas.List.{append-nil}
use Rattle.def_script.specs.Bytes.{Bytes}
use Rattle.def_script.specs.Sizes.{size_bytes, read_size}
use Rattle.def_script.specs.Witness.{items_text, witness_text}
use Rattle.def_tree.specs.Tree.{Tree}
use Rattle.def_choice.specs.Strict.{strict}
use Rattle.def_decode.specs.Decoded.{IsDecoded}
use Rattle.def_psbt.specs.Transaction.{TransactionInput, Transaction}
use Rattle.def_psbt.specs.Map.{Pair, Map, Psbt, type_of}
use Rattle.def_spend.specs.declared.State.TheVariants as state
use Rattle.def_psbt.specs.Types.{IN_FINAL_SCRIPTWITNESS, IN_FINAL_SCRIPTSIG}
use Rattle.def_spend.specs.Fields.{has_type, field, keys_in}
use Rattle.def_spend.specs.Hashes.{script_in}
use Rattle.def_spend.specs.declared.Verification.{Verification}
use Rattle.def_spend.specs.Good.{assets_of}
use Rattle.def_spend.specs.Input.{Spend, spends_from}
use Rattle.def_spend.specs.Kinds.{kind_of, ends_in_script}
use Rattle.def_spend.specs.Reading.{Input, has_byte, has_item, has_final, open_script, HasReading, AreInputs}
use Rattle.def_spend.specs.States.{state_by, state_of, is_ready, stack_of}
use Rattle.def_spend.specs.Finalized.{is_cleared, is_kept, witness_pair, final_pairs, final_map, script_sig_of, witness_of, written_map, finalized}
use Rattle.ms_spend_laws.proofs.KeyHash.{key_hash_is_read_as_pkh, strict_has_item}
use Rattle.ms_spend_laws.proofs.States.{SpendTells, IsOpen, script_is, opens, ready_is, ready_some, stack_is}
use Rattle.ms_psbt_answer_laws.specs.Laws.{LeavesOthers, KeepsPairs, NoneIsReady, WrittenAgain}
use Rattle.ms_psbt_answer_laws.proofs.Unique.{one_reading}

-- ---- the final map

-- the map of an input that is made final
abbrev map_made : Input → Map
map_made input = final_map input.spend.fields (script_sig_of input.spend) (witness_of input)

pub leaves_others : LeavesOthers
leaves_others input e = ap (λ b. if b then map_made input else input.spend.fields) e

filter-filter : (test : Pair → Bool) (xs : Map) → filter test (filter test xs) ≡ filter test xs
filter-filter test [] = refl
filter-filter test (x ∷ xs) =
    let rest = filter-filter test xs in
    elim (cases_Bool (test x)) [ inl e ↦ rw (e, e) (ap (λ l. x ∷ l) rest) | inr e ↦ rw e rest ]

none_of_final : (script_sig witness : Bytes) → filter is_kept (final_pairs script_sig witness) ≡ []
unfolding read_size
none_of_final [] witness = refl
none_of_final (byte ∷ bytes) witness = refl

kept_of_final : (fields : Map) (script_sig witness : Bytes) → filter is_kept (final_map fields script_sig witness) ≡ filter is_kept fields
kept_of_final fields script_sig witness =
    filter-append is_kept (filter is_kept fields) (final_pairs script_sig witness)
    ∙ ap (λ (l : Map). filter is_kept (filter is_kept fields) ++ l) (none_of_final script_sig witness)
    ∙ append-nil (filter is_kept (filter is_kept fields))
    ∙ filter-filter is_kept fields

pub keeps_pairs : KeepsPairs
keeps_pairs input = elim (cases_Bool (is_ready (state_of input))) [
  | inl e ↦ rw e (kept_of_final input.spend.fields (script_sig_of input.spend) (witness_of input))
  | inr e ↦ rw e refl
]

-- no pair that is kept is a final witness
kept_other : (type : ℕ) → not (is_cleared type) ≡ true → (type == IN_FINAL_SCRIPTWITNESS) ≡ false
kept_other type kept = ne_eqb type IN_FINAL_SCRIPTWITNESS (λ same.
    let no : false ≡ true = subst (λ t. not (is_cleared t) ≡ true) same kept in cc)

find_final : (fields : Map) (script_sig witness : Bytes) → find (has_type IN_FINAL_SCRIPTWITNESS) (final_map fields script_sig witness) ≡ Some (witness_pair witness)
unfolding read_size
find_final [] [] witness = refl
find_final [] (byte ∷ bytes) witness = refl
find_final (x ∷ xs) script_sig witness =
    let rest = find_final xs script_sig witness in
    elim (cases_Bool (is_kept x)) [
      | inl kept ↦ rw (kept, kept_other (type_of x.key) kept) rest
      | inr cleared ↦ rw cleared rest
    ]

-- a witness with an item
first_not_zero : (n : ℕ) (rest : Bytes) → bytes_eq (size_bytes (suc n) ++ rest) (0x00 ∷ []) ≡ false
unfolding size_bytes
first_not_zero n rest = go (nat_lt (suc n) 0xfd) (nat_lt (suc n) (2 ^ 16)) (nat_lt (suc n) (2 ^ 32))
  where
    go : (a b c : Bool) → bytes_eq ((if a then suc n ∷ []
        else if b then 0xfd ∷ to_le_bytes w16 (suc n)
        else if c then 0xfe ∷ to_le_bytes w32 (suc n)
        else 0xff ∷ to_le_bytes w64 (suc n)) ++ rest) (0x00 ∷ []) ≡ false
    go true b c = ap (λ e. e && bytes_eq rest []) (ne_eqb (suc n) 0 (λ e. omega (arith, e)))
    go false true c = refl
    go false false true = refl
    go false false false = refl

has_witness : (stack : List Bytes) (script : Bytes) → bytes_eq (witness_text stack script) (0x00 ∷ []) ≡ false
has_witness [] script = first_not_zero 0 _
has_witness (item ∷ stack) script = first_not_zero (length (stack ++ script ∷ [])) _

-- the stack of a Ready input whose witness doesn't end in a script is a signature and a key
key_stack : (input : Input) → HasReading input → is_ready (state_of input) ≡ true → ends_in_script (kind_of input.spend) ≡ false
    → (sig key : Bytes) × (stack_of input ≡ sig ∷ key ∷ [])
key_stack input read ready ends =
    let o = opens input state.Ready read tt (ready_is (state_of input) ready) in
    let some = ready_some (strict o.tree (assets_of input.spend)) o.chosen in
    go o some.0 some.1 (stack_is input o.tree o.script some.0 o.tried some.1) (script_is input.spend o.script o.tried.spends)
  where
    go : (o : IsOpen input state.Ready) (stack : List Bytes) → strict o.tree (assets_of input.spend) ≡ Some stack → stack_of input ≡ stack
        → SpendTells input.spend (Ok o.script) → (sig key : Bytes) × (stack_of input ≡ sig ∷ key ∷ [])
    go o stack chosen same (inl found) = absurd (false≢true (sym ends ∙ found.kind))
    go o stack chosen same (inr found) =
        let decoded = subst (λ (s : Bytes). IsDecoded (keys_in input.spend.fields) s o.tree) found.is_script o.tried.decoded in
        let as_pkh = key_hash_is_read_as_pkh (keys_in input.spend.fields) found.program o.tree found.key_hash decoded in
        let of_key = subst (λ (t : Tree). strict t (assets_of input.spend) ≡ Some stack) as_pkh.miniscript chosen in
        let items = strict_has_item as_pkh.key (assets_of input.spend) stack of_key in
        (items.0, as_pkh.key, same ∙ items.1)

-- so the witness of a Ready input has an item
some_item : (input : Input) → HasReading input → is_ready (state_of input) ≡ true → bytes_eq (witness_of input) (0x00 ∷ []) ≡ false
some_item input read ready = elim (cases_Bool (ends_in_script (kind_of input.spend))) [
  | inl ends ↦ ap (λ b. bytes_eq (of_kind b) (0x00 ∷ [])) ends ∙ has_witness (stack_of input) (script_in input.spend)
  | inr ends ↦
      let stack = key_stack input read ready ends in
      ap (λ b. bytes_eq (of_kind b) (0x00 ∷ [])) ends ∙ ap (λ (l : List Bytes). bytes_eq (items_text l) (0x00 ∷ [])) stack.2 ∙ first_not_zero 1 _
]
  where
    of_kind : Bool → Bytes
    of_kind ends = if ends then witness_text (stack_of input) (script_in input.spend) else items_text (stack_of input)

final_is_final : (input : Input) → HasReading input → is_ready (state_of input) ≡ true → has_final (map_made input) ≡ true
final_is_final input read ready =
    let fields = map_made input in
    let found = ap (option_map (λ (pair : Pair). pair.value)) (find_final input.spend.fields (script_sig_of input.spend) (witness_of input)) in
    let item = ap has_item found ∙ ap not (some_item input read ready) in
    ap (λ b. has_byte (field IN_FINAL_SCRIPTSIG fields) || b) item ∙ or-true (has_byte (field IN_FINAL_SCRIPTSIG fields))

-- ---- inputs that were written

-- the same input with another map
abbrev pub with_fields : Spend → Map → Spend
with_fields spend fields = record spend { fields = fields }

abbrev pub Stays : Input → Input → Type 0
Stays input again = (is_ready (state_of again) ≡ false) × (written_map again ≡ written_map input)

final_stays : (input again : Input) → HasReading input → again.spend ≡ with_fields input.spend (written_map input) → is_ready (state_of input) ≡ true → Stays input again
final_stays input again read same ready =
    let written = ap (λ b. if b then map_made input else input.spend.fields) ready in
    let fields = ap (λ spend. spend.fields) same ∙ written in
    let final = ap has_final fields ∙ final_is_final input read ready in
    let none = ap (λ b. state_by (if b then Err state.Final else open_script again.spend) again.tree again.spend) final in
    let closed = ap is_ready none in
    (closed, leaves_others again closed ∙ ap (λ spend. spend.fields) same)

other_stays : (input again : Input) → HasReading input → HasReading again → again.spend ≡ with_fields input.spend (written_map input)
    → is_ready (state_of input) ≡ false → Stays input again
other_stays input again h k same closed =
    let spend = same ∙ ap (with_fields input.spend) (leaves_others input closed) in
    let one = one_reading again input k h spend in
    (ap (λ x. is_ready (state_of x)) one ∙ closed, ap written_map one)

stays : (input again : Input) → HasReading input → HasReading again → again.spend ≡ with_fields input.spend (written_map input) → Stays input again
stays input again h k same = elim (cases_Bool (is_ready (state_of input))) [
  | inl e ↦ final_stays input again h same e
  | inr e ↦ other_stays input again h k same e
]

-- each input that was written, beside what it was
abbrev pub EachStays : List Input → List Input → Type 0
EachStays [] [] = Unit {0}
EachStays [] (y ∷ ys) = ⊥
EachStays (x ∷ xs) [] = ⊥
EachStays (x ∷ xs) (y ∷ ys) = Stays x y × EachStays xs ys

each_stays : (verification : Verification) (transaction : Transaction) (number : ℕ) (ins : List TransactionInput) (maps : List Map) (xs ys : List Input)
    → map (λ input. input.spend) xs ≡ spends_from verification transaction number ins maps
    → map (λ input. input.spend) ys ≡ spends_from verification transaction number ins (map written_map xs)
    → All HasReading xs → All HasReading ys → EachStays xs ys
each_stays verification transaction number [] maps [] [] e f h k = tt
each_stays verification transaction number (i ∷ ins) [] [] [] e f h k = tt
each_stays verification transaction number (i ∷ ins) (m ∷ maps) (x ∷ xs) (y ∷ ys) e f h k =
    let here : x.spend ≡ record { verification = verification; transaction = transaction; number = number; input = i; fields = m } = cc in
    let there : y.spend ≡ record { verification = verification; transaction = transaction; number = number; input = i; fields = written_map x } = cc in
    let rest : map (λ input. input.spend) xs ≡ spends_from verification transaction (number + 1) ins maps = cc in
    let behind : map (λ input. input.spend) ys ≡ spends_from verification transaction (number + 1) ins (map written_map xs) = cc in
    let same = there ∙ ap (λ spend. with_fields spend (written_map x)) (sym here) in (
      stays x y (h 0 x (omega arith)) (k 0 y (omega arith)) same,
      each_stays verification transaction (number + 1) ins maps xs ys rest behind (λ n d lt. h (suc n) d (omega arith)) (λ n d lt. k (suc n) d (omega arith)),
    )
each_stays verification transaction number ins maps xs ys e f h k = absurd cc

none_ready : (xs ys : List Input) → EachStays xs ys → All (λ input. is_ready (state_of input) ≡ false) ys
none_ready [] [] h k d lt = absurd (omega (arith, lt))
none_ready [] (y ∷ ys) h k d lt = absurd h
none_ready (x ∷ xs) [] h k d lt = absurd h
none_ready (x ∷ xs) (y ∷ ys) h zero d lt = h.0.0
none_ready (x ∷ xs) (y ∷ ys) h (suc k) d lt = none_ready xs ys h.1 k d (omega arith)

same_maps : (xs ys : List Input) → EachStays xs ys → map written_map ys ≡ map written_map xs
same_maps [] [] h = refl
same_maps [] (y ∷ ys) h = absurd h
same_maps (x ∷ xs) [] h = absurd h
same_maps (x ∷ xs) (y ∷ ys) h = ap (λ m. m ∷ map written_map ys) h.0.1 ∙ ap (λ ms. written_map x ∷ ms) (same_maps xs ys h.1)

each_of : (verification : Verification) (psbt : Psbt) (inputs again : List Input) → AreInputs verification psbt inputs
    → AreInputs verification (finalized psbt inputs) again → EachStays inputs again
each_of verification psbt inputs again h k =
    each_stays verification psbt.transaction 0 psbt.transaction.inputs psbt.inputs inputs again h.spends k.spends h.read k.read

pub none_is_ready : NoneIsReady
none_is_ready verification psbt inputs again h k = none_ready inputs again (each_of verification psbt inputs again h k)

pub written_again : WrittenAgain
written_again verification psbt inputs again h k = same_maps inputs again (each_of verification psbt inputs again h k)
