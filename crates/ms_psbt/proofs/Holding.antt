-- The parts of a PSBT, by what is kept of it.
use Rattle.std.proofs.Common.{◌≡◌, ℕ, suc, ◌+◌, ◌-◌, ◌<◌, ◌≤◌, true, List, [], ◌++◌, length, length-append, take, drop, get_or, Some, refl, sym, ap, subst, ◌∙◌, append_assoc, add-one, arith}
use Rattle.std.proofs.lemmas.List.{take_at, drop_at, take_all}
use Rattle.std.proofs.lemmas.Option.{slice_get-get_or}
use Rattle.std.specs.List.{flat_map}
use Rattle.std.specs.Prelude.{slice_get}
use Rattle.def_script.specs.Bytes.{Bytes}
use Rattle.def_psbt.proofs.Counting.{as_many_inputs}
use Rattle.def_psbt.specs.Forms.{is_unsigned}
use Rattle.def_psbt.specs.Laws.{IsSoundMap}
use Rattle.def_psbt.specs.Fields.{version_of}
use Rattle.def_psbt.specs.Listed.{input_form}
use Rattle.def_psbt.specs.Map.{Map, Psbt, magic, map_text}
use Rattle.def_psbt.specs.TransactionReading.{transaction_of}
use Rattle.ms_psbt.specs.Pairs.{pairs_in}
use Rattle.ms_psbt.specs.Whole.{psbt_seen}
use Rattle.ms_psbt.specs.Scaffolding.Pairs.{IsMapText}
use Rattle.ms_psbt.proofs.Pairing.{pairs_of_text, sound_spelled, sound_text}
use Rattle.ms_psbt.specs.Scaffolding.Kept.{places_of, IsRead}
use Rattle.ms_psbt.proofs.Placing.{MapAt, first_place, many_places, last_place, map_place}

module _ {bytes value : Bytes} {places : List ℕ} (h : IsRead bytes value places) where
  abbrev inputs : List Map
  inputs = (psbt_seen bytes).inputs

  -- the bytes of the maps of inputs, and of those of outputs
  abbrev inputs_text : Bytes
  inputs_text = flat_map map_text (psbt_seen bytes).inputs

  abbrev outputs_text : Bytes
  outputs_text = flat_map map_text (psbt_seen bytes).outputs

  -- ---- the transaction

  pub transaction_is : transaction_of value ≡ Some (psbt_seen bytes).transaction
  transaction_is = h.value

  pub unsigned : is_unsigned (Some (psbt_seen bytes).transaction) ≡ true
  unsigned = h.unsigned

  pub each_has_map : length (psbt_seen bytes).inputs ≡ length (psbt_seen bytes).transaction.inputs
  each_has_map = as_many_inputs (psbt_seen bytes) h.sound

  -- ---- the maps

  front : Bytes
  front = magic ++ map_text (psbt_seen bytes).global

  whole : bytes ≡ front ++ (inputs_text ++ outputs_text)
  unfolding front
  whole = h.text ∙ sym (append_assoc magic (map_text (psbt_seen bytes).global) (inputs_text ++ outputs_text))

  whole_long : length bytes ≡ length front + (length inputs_text + length outputs_text)
  whole_long = ap length whole ∙ length-append front (inputs_text ++ outputs_text) ∙ ap (λ (n : ℕ). length front + n) (length-append inputs_text outputs_text)

  placed : places ≡ places_of (length front) inputs
  unfolding front
  placed = h.places_are ∙ ap (λ (n : ℕ). places_of n inputs) (sym (length-append magic (map_text (psbt_seen bytes).global)))

  pub places_count : length places ≡ suc (length inputs)
  places_count = ap length placed ∙ many_places (length front) inputs

  map_at_place : (k : ℕ) → k < length inputs → MapAt bytes (get_or places k 0) (get_or places (suc k) 0) inputs k
  map_at_place k inside =
      subst (λ (ps : List ℕ). MapAt bytes (get_or ps k 0) (get_or ps (suc k) 0) inputs k) (sym placed)
      (subst (λ (b : Bytes). MapAt b (get_or (places_of (length front) inputs) k 0) (get_or (places_of (length front) inputs) (suc k) 0) inputs k) (sym whole)
      (map_place front inputs outputs_text k inside))

  first_is : get_or places 0 0 ≡ length front
  first_is = ap (λ (ps : List ℕ). get_or ps 0 0) placed ∙ first_place (length front) inputs

  pub first_inside : get_or places 0 0 ≤ length bytes
  first_inside = omega (arith, first_is, whole_long)

  pub before_is : take (get_or places 0 0 - 0) (drop 0 bytes) ≡ magic ++ map_text (psbt_seen bytes).global
  unfolding front
  before_is =
      let size : get_or places 0 0 - 0 ≡ length front = omega (arith, first_is) in
      ap (λ (n : ℕ). take n bytes) size ∙ ap (take (length front)) whole ∙ take_at front (inputs_text ++ outputs_text) (length front) refl

  last_is : get_or places (length places - 1) 0 ≡ length front + length inputs_text
  last_is =
      let count : length places - 1 ≡ length inputs = omega (arith, places_count) in
      ap (λ (k : ℕ). get_or places k 0) count ∙ ap (λ (ps : List ℕ). get_or ps (length inputs) 0) placed ∙ last_place (length front) inputs

  pub last_inside : get_or places (length places - 1) 0 ≤ length bytes
  last_inside = omega (arith, last_is, whole_long)

  pub after_is : take (length bytes - get_or places (length places - 1) 0) (drop (get_or places (length places - 1) 0) bytes) ≡ outputs_text
  after_is =
      let last = get_or places (length places - 1) 0 in
      let split : bytes ≡ (front ++ inputs_text) ++ outputs_text = whole ∙ sym (append_assoc front inputs_text outputs_text) in
      let behind : drop last bytes ≡ outputs_text = ap (drop last) split
      ∙ drop_at (front ++ inputs_text) outputs_text last (length-append front inputs_text ∙ sym last_is) in
      ap (take (length bytes - last)) behind ∙ take_all (length bytes - last) outputs_text (omega (arith, last_is, whole_long))

-- a map of an input, from one place to another, with the text there
pub record MapIs (psbt : Psbt) (k : ℕ) (text : Bytes) : Type 0 where
  pub is_text : IsMapText text
  pub map : slice_get psbt.inputs k ≡ Some (pairs_in text)
  pub sound : IsSoundMap (input_form (version_of psbt.global)) [] (pairs_in text)

-- what the call takes and gives that cuts a map out of the bytes
pub record MapFrom (bytes : Bytes) (psbt : Psbt) (k from to : ℕ) : Type 0 where
  pub up : from ≤ to
  pub inside : to ≤ length bytes
  pub is : (text : Bytes) → text ≡ take (to - from) (drop from bytes) → MapIs psbt k text

pub map_is : {bytes value : Bytes} {places : List ℕ} → IsRead bytes value places → (psbt : Psbt) → psbt_seen bytes ≡ psbt → (k from to : ℕ)
    → k < length psbt.inputs
    → from ≡ get_or places k 0 → to ≡ get_or places (k + 1) 0 → MapFrom bytes psbt k from to
map_is {bytes} {value} {places} h psbt seen k from to less f t =
    let inside : k < length (psbt_seen bytes).inputs = subst (λ (p : Psbt). k < length p.inputs) (sym seen) less in
    let m = map_at_place h k inside in
    let at : MapAt bytes from to (psbt_seen bytes).inputs k = rw (f, t, add-one) m in
    let forms = input_form (version_of (psbt_seen bytes).global) in
    let sound : IsSoundMap (input_form (version_of (psbt_seen bytes).global)) [] at.map = rw (slice_get_is (psbt_seen bytes).inputs at.is inside) (h.sound.inputs k [] inside).sound in
    subst (λ (p : Psbt). MapFrom bytes p k from to) seen (record {
      up = at.up;
      inside = at.inside;
      is = λ text e.
          let is = pairs_of_text text at.map (e ∙ at.text) (sound_spelled forms [] at.map sound) in
          record {
            is_text = sound_text forms text at.map (e ∙ at.text) sound;
            map = at.is ∙ ap Some (sym is);
            sound = subst (IsSoundMap forms []) (sym is) sound;
          };
    })
  where
    slice_get_is : (maps : List Map) {map : Map} → slice_get maps k ≡ Some map → k < length maps → map ≡ get_or maps k []
    slice_get_is maps e inside = let is = slice_get-get_or maps k [] inside in cc
