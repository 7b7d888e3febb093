-- The PSBT that is written is whole: sound, and of bytes.
use Rattle.std.proofs.Common.{◌≡◌, ℕ, ◌+◌, List, [], ◌∷◌, ◌++◌, length, map, All, Ok, refl, sym, ap, subst, ◌∙◌, arith}
use Rattle.std.specs.List.{flat_map, AllByRecursion}
use Rattle.std.proofs.lemmas.List.{length-map}
use Rattle.std.proofs.lemmas.List.Elements.{All-from_recursion, All-map, All-weaker, recursion_from_All}
use Rattle.def_script.specs.Bytes.{Bytes, IsBytes}
use Rattle.def_script.specs.Witness.{sized}
use Rattle.def_psbt.specs.Transaction.{TransactionInput, Transaction}
use Rattle.def_psbt.specs.Map.{Map, Psbt, pair_text, map_text, magic, psbt_text}
use Rattle.def_psbt.specs.declared.PsbtVersion.{PsbtVersion}
use Rattle.def_psbt.specs.Fields.{version_of}
use Rattle.def_psbt.specs.Reading.{input_rules}
use Rattle.def_psbt.proofs.Counting.{as_many_inputs}
use Rattle.def_psbt.specs.Source.{psbt_of}
use Rattle.def_psbt.specs.Laws.{IsWholeMap, IsSound, WrittenIsReadBack}
use Rattle.def_spend.specs.declared.Verification.{Verification}
use Rattle.def_spend.specs.Input.{Spend, spends_from, spends_of}
use Rattle.def_spend.specs.Reading.{Input, AreInputs}
use Rattle.def_spend.specs.Finalized.{written_map, finalized}
use Rattle.ms_given_laws.specs.Given.{EachIsSound, IsMapOfBytes, IsWhole}
use Rattle.ms_given_laws.proofs.BytesOf as bytes
use Rattle.ms_given_laws.proofs.Later.{IsPairOfBytes}
use Rattle.ms_psbt_laws.specs.Written.{WrittenIsRead}
use Rattle.ms_psbt_laws.proofs.Keeping.{AllSame, written_same, same_needed, all_written, transaction_same, unjoined_same}
use Rattle.ms_psbt_laws.proofs.Sounding.{sized_fits, IsGoodMap, good_maps}

-- ---- as many inputs as maps

spends_length : (verification : Verification) (transaction : Transaction) (number : ℕ) (ins : List TransactionInput) (maps : List Map) → length maps ≡ length ins
    → length (spends_from verification transaction number ins maps) ≡ length ins
spends_length verification transaction number [] maps e = refl
spends_length verification transaction number (i ∷ ins) [] e = absurd (omega (arith, e))
spends_length verification transaction number (i ∷ ins) (m ∷ maps) e =
    let rest = spends_length verification transaction (number + 1) ins maps (omega (arith, e)) in
    omega (arith, rest)

inputs_length : (verification : Verification) (psbt : Psbt) (inputs : List Input) → IsSound psbt → AreInputs verification psbt inputs → length inputs ≡ length psbt.transaction.inputs
inputs_length verification psbt inputs sound are =
    let spends : length (map (λ (input : Input). input.spend) inputs) ≡ length (spends_of verification psbt) = ap length are.spends in
    let same = length-map {B = Spend} inputs (λ (input : Input). input.spend) in
    let all = spends_length verification psbt.transaction 0 psbt.transaction.inputs psbt.inputs (as_many_inputs psbt sound) in
    omega (arith, spends, same, all)

-- the maps of the inputs are those of the PSBT
spends_fields : (verification : Verification) (transaction : Transaction) (number : ℕ) (ins : List TransactionInput) (maps : List Map) → length maps ≡ length ins
    → map (λ (spend : Spend). spend.fields) (spends_from verification transaction number ins maps) ≡ maps
spends_fields verification transaction number [] [] e = refl
spends_fields verification transaction number [] (m ∷ maps) e = absurd (omega (arith, e))
spends_fields verification transaction number (i ∷ ins) [] e = absurd (omega (arith, e))
spends_fields verification transaction number (i ∷ ins) (m ∷ maps) e = ap (λ (rest : List Map). m ∷ rest) (spends_fields verification transaction (number + 1) ins maps (omega (arith, e)))

fields_twice : (inputs : List Input) → map (λ (spend : Spend). spend.fields) (map (λ (input : Input). input.spend) inputs) ≡ map (λ (input : Input). input.spend.fields) inputs
fields_twice [] = refl
fields_twice (input ∷ inputs) = ap (λ (rest : List Map). input.spend.fields ∷ rest) (fields_twice inputs)

fields_are : (verification : Verification) (psbt : Psbt) (inputs : List Input) → IsSound psbt → AreInputs verification psbt inputs → map (λ (input : Input). input.spend.fields) inputs ≡ psbt.inputs
fields_are verification psbt inputs sound are =
    sym (fields_twice inputs) ∙ ap (map (λ (spend : Spend). spend.fields)) are.spends
    ∙ spends_fields verification psbt.transaction 0 psbt.transaction.inputs psbt.inputs (as_many_inputs psbt sound)

-- each map is whole as it was
each_whole : (version : PsbtVersion) (inputs : List Input) → AllByRecursion (IsWholeMap (input_rules version)) (map (λ (input : Input). input.spend.fields) inputs)
    → AllByRecursion (λ (input : Input). IsGoodMap input.spend.fields (written_map input)) inputs → AllByRecursion (IsWholeMap (input_rules version)) (map written_map inputs)
each_whole version [] whole good = tt
each_whole version (input ∷ inputs) whole good = (
  record {
    sound = good.0.sound version whole.0.sound;
    needed = same_needed version input.spend.fields (written_map input) (written_same input) ∙ whole.0.needed;
  },
  each_whole version inputs whole.1 good.1,
)

-- ---- what is written

pub whole_again : EachIsSound → (source : Bytes) (psbt : Psbt) → IsBytes source → psbt_of source ≡ Ok psbt → (verification : Verification) (inputs : List Input)
    → AreInputs verification psbt inputs → IsWhole (finalized psbt inputs)
whole_again law source psbt fits e verification inputs are =
    let whole = law source psbt fits e in
    let good = good_maps law source psbt fits e verification inputs are in
    let sound = whole.sound in
    let version = version_of psbt.global in
    let long = inputs_length verification psbt inputs sound are in
    let many = as_many_inputs psbt sound in
    let each = sound.each_input in
    let same = length-map {B = Map} inputs written_map in
    let fields = fields_are verification psbt inputs sound are in
    let all : AllSame psbt.inputs (map written_map inputs) = subst (λ (maps : List Map). AllSame maps (map written_map inputs)) fields (all_written inputs) in
    let before = subst (λ (maps : List Map). AllByRecursion (IsWholeMap (input_rules version)) maps) (sym fields) (recursion_from_All (IsWholeMap (input_rules version)) psbt.inputs sound.inputs) in
    let after = each_whole version inputs before (recursion_from_All (λ (input : Input). IsGoodMap input.spend.fields (written_map input)) inputs good) in
    record {
      sound = record {
        global = sound.global;
        allowed = sound.allowed;
        outline = sound.outline;
        said = sound.said;
        inputs = All-from_recursion (IsWholeMap (input_rules version)) (map written_map inputs) after;
        outputs = sound.outputs;
        each_input = omega (arith, long, many, each, same);
        each_output = sound.each_output;
        transaction = sound.transaction ∙ sym (transaction_same sound.outline psbt.global psbt.inputs (map written_map inputs) psbt.outputs all);
        joined = unjoined_same version (5 + length (map_text psbt.global)) (5 + length (map_text psbt.global)) psbt.inputs (map written_map inputs) all sound.joined;
      };
      transaction = whole.transaction;
      global = whole.global;
      inputs = All-map IsMapOfBytes written_map inputs
          (All-weaker (λ input. IsGoodMap input.spend.fields (written_map input)) (λ input. IsMapOfBytes (written_map input)) (λ input g. g.fits) inputs good);
      outputs = whole.outputs;
    }

pub written_is_read : EachIsSound → WrittenIsReadBack → WrittenIsRead
written_is_read law back source psbt fits e verification inputs are = back (finalized psbt inputs) (whole_again law source psbt fits e verification inputs are).sound

-- ---- its bytes

pair_fits : (map : Map) → AllByRecursion IsPairOfBytes map → AllByRecursion (λ pair. IsBytes (pair_text pair)) map
pair_fits [] h = tt
pair_fits (pair ∷ map) h = (bytes.both (sized pair.key) (sized pair.value) (sized_fits pair.key h.0.0) (sized_fits pair.value h.0.1), pair_fits map h.1)

map_fits : (map : Map) → IsMapOfBytes map → IsBytes (map_text map)
map_fits map h =
    bytes.both (flat_map pair_text map) (0x00 ∷ []) (bytes.joined pair_text map (pair_fits map (recursion_from_All IsPairOfBytes map h)))
    (bytes.more 0x00 [] (omega arith) bytes.none)

each_map_fits : (maps : List Map) → AllByRecursion IsMapOfBytes maps → AllByRecursion (λ map. IsBytes (map_text map)) maps
each_map_fits [] h = tt
each_map_fits (map ∷ maps) h = (map_fits map h.0, each_map_fits maps h.1)

maps_fit : (maps : List Map) → All IsMapOfBytes maps → IsBytes (flat_map map_text maps)
maps_fit maps h = bytes.joined map_text maps (each_map_fits maps (recursion_from_All IsMapOfBytes maps h))

magic_fits : IsBytes magic
magic_fits =
    let last = bytes.more 0xff [] (omega arith) bytes.none in
    let fourth = bytes.more 0x74 (0xff ∷ []) (omega arith) last in
    let third = bytes.more 0x62 (0x74 ∷ 0xff ∷ []) (omega arith) fourth in
    let second = bytes.more 0x73 (0x62 ∷ 0x74 ∷ 0xff ∷ []) (omega arith) third in
    bytes.more 0x70 (0x73 ∷ 0x62 ∷ 0x74 ∷ 0xff ∷ []) (omega arith) second

pub text_fits : (psbt : Psbt) → IsWhole psbt → IsBytes (psbt_text psbt.global psbt.inputs psbt.outputs)
text_fits psbt whole =
    let sides = bytes.both (flat_map map_text psbt.inputs) (flat_map map_text psbt.outputs) (maps_fit psbt.inputs whole.inputs) (maps_fit psbt.outputs whole.outputs) in
    let maps = bytes.both (map_text psbt.global) (flat_map map_text psbt.inputs ++ flat_map map_text psbt.outputs) (map_fits psbt.global whole.global) sides in
    bytes.both magic (map_text psbt.global ++ (flat_map map_text psbt.inputs ++ flat_map map_text psbt.outputs)) magic_fits maps
