-- A PSBT that was updated.
use Rattle.std.proofs.Common.{◌≡◌, ℕ, zero, suc, ◌+◌, ◌<◌, Bool, List, [], ◌∷◌, ◌++◌, length, filter, map, get_or, is_some, All, Option, Some, None, Result, Ok, refl, sym, ap, subst, ◌∙◌, arith}
use Rattle.std.specs.List.{AllByRecursion, list_any}
use Rattle.std.proofs.lemmas.List.Elements.{All-from_recursion, recursion_from_All}
use Rattle.std.proofs.lemmas.List.{length-map}
use Rattle.def_psbt.proofs.Counting.{as_many_inputs, as_many_outputs}
use Rattle.def_psbt.specs.Transaction.{TransactionInput}
use Rattle.def_psbt.specs.Map.{Pair, Map, Psbt, map_text}
use Rattle.def_psbt.specs.Fields.{version_of}
use Rattle.def_psbt.specs.Laws.{IsSound, WrittenIsReadBack}
use Rattle.def_psbt.specs.Listed.{Form, input_form, output_form}
use Rattle.def_psbt.specs.Reading.{or_else}
use Rattle.def_combine.specs.Joined.{is_new, joined_map, joined_maps}
use Rattle.def_update.specs.Known.{Known, OUTPUT, pairs_by}
use Rattle.def_update.specs.Updated.{known_of_output, each_input, input_pairs, inputs_pairs, outputs_pairs, has_known_input, conflict_in, conflict_among, behind, conflict_of, updated, update_by, update_of}
use Rattle.ms_update_laws.specs.Updated.{IsKnown, AreKept, IsKept, HoldEach, value_of_key, IsReadAgain, LosesNothing, HoldsWhatBelongs, StaysUpdated}
use Rattle.ms_update_laws.proofs.Own.{IsOnce, IsOwn, inputs_own, outputs_own}
use Rattle.ms_update_laws.proofs.Same.{AllSame, as_many}
use Rattle.ms_update_laws.proofs.Sound.{inputs_same, outputs_same, updated_sound}
use Rattle.ms_update_laws.proofs.Again.{none_among, all_stay, inputs_pairs_same, inputs_known_same, holds_own}

-- ---- what an update comes to

pub record IsDone (known : List Known) (psbt new : Psbt) (told : Bool) : Type 0 where
  pub inputs : conflict_among (inputs_pairs known psbt) (5 + length (map_text psbt.global)) psbt.inputs ≡ None
  pub outputs : conflict_among (outputs_pairs known psbt) (behind (5 + length (map_text psbt.global)) psbt.inputs) psbt.outputs ≡ None
  pub after : updated known psbt ≡ new
  pub has : has_known_input known psbt ≡ told

neither : (o p : Option ℕ) → or_else o p ≡ None → (o ≡ None) × (p ≡ None)
neither None p e = (refl, e)
neither (Some x) p e = absurd cc

ok_is : (x y : Psbt × Bool) → ◌≡◌ {A = Result (Psbt × Bool) ℕ} (Ok x) (Ok y) → x ≡ y
ok_is x y e = cc

done : (known : List Known) (psbt after : Psbt) (has : Bool) → update_of known psbt ≡ Ok (after, has) → IsDone known psbt after has
done known psbt after has e = go (conflict_of known psbt) refl e
  where
    go : (o : Option ℕ) → conflict_of known psbt ≡ o → update_by o known psbt ≡ Ok (after, has) → IsDone known psbt after has
    go (Some at) is f = absurd cc
    go None is f =
        let parts = neither (conflict_among (inputs_pairs known psbt) (5 + length (map_text psbt.global)) psbt.inputs)
        (conflict_among (outputs_pairs known psbt) (behind (5 + length (map_text psbt.global)) psbt.inputs) psbt.outputs) is in
        let both = ok_is (updated known psbt, has_known_input known psbt) (after, has) f in
        record {
          inputs = parts.0;
          outputs = parts.1;
          after = ap (λ (p : Psbt × Bool). p.0) both;
          has = ap (λ (p : Psbt × Bool). p.1) both;
        }

-- ---- it is read again

pub is_read_again : WrittenIsReadBack → IsReadAgain
is_read_again back known before after has all sound e =
    let d = done known before after has e in
    let is_sound : IsSound after = subst IsSound d.after (updated_sound known before (recursion_from_All IsKnown known all) sound) in
    (is_sound, back after is_sound)

-- ---- nothing is lost

kept_each : (maps owns : List Map) → length owns ≡ length maps → (i : ℕ) → i < length maps
    → get_or (joined_maps maps owns) i [] ≡ get_or maps i [] ++ filter (is_new (get_or maps i [])) (get_or owns i [])
kept_each [] owns e i less = absurd (omega arith)
kept_each (map ∷ maps) [] e i less = absurd (omega arith)
kept_each (map ∷ maps) (own ∷ owns) e zero less = refl
kept_each (map ∷ maps) (own ∷ owns) e (suc i) less = kept_each maps owns (omega arith) i (omega arith)

kept : (low high : ℕ) (maps owns : List Map) → length owns ≡ length maps → AllSame low high maps (joined_maps maps owns) → AreKept owns maps (joined_maps maps owns)
kept low high maps owns e same = record { count = as_many low high maps (joined_maps maps owns) same; each = kept_each maps owns e }

each_input_long : {B : Type 0} (of : TransactionInput → Map → B) (inputs : List TransactionInput) (maps : List Map) → length maps ≡ length inputs → length (each_input of inputs maps) ≡ length maps
each_input_long of [] [] e = refl
each_input_long of [] (map ∷ maps) e = absurd (omega arith)
each_input_long of (input ∷ inputs) [] e = refl
each_input_long of (input ∷ inputs) (map ∷ maps) e = let rest = each_input_long of inputs maps (omega arith) in omega (arith, rest)

pub loses_nothing : LosesNothing
loses_nothing known before after has all sound e =
    let d = done known before after has e in
    let every = recursion_from_All IsKnown known all in
    let inputs_long : length (inputs_pairs known before) ≡ length before.inputs = each_input_long (input_pairs known) before.transaction.inputs before.inputs (as_many_inputs before sound) in
    let outputs_long : length (outputs_pairs known before) ≡ length before.outputs =
    length-map before.transaction.outputs (λ output. pairs_by OUTPUT (known_of_output known output)) ∙ sym (as_many_outputs before sound) in
    subst (λ (p : Psbt). IsKept known before p) d.after (record {
      global = refl;
      transaction = refl;
      inputs = kept 4 6 before.inputs (inputs_pairs known before) inputs_long (inputs_same known before every);
      outputs = kept 0 2 before.outputs (outputs_pairs known before) outputs_long (outputs_same known before every);
    })

-- ---- what belongs is there

once_of : (forms : ℕ → Form) (low high : ℕ) (owns : List Map) → AllByRecursion (IsOwn forms low high) owns → AllByRecursion IsOnce owns
once_of forms low high [] all = tt
once_of forms low high (own ∷ owns) all = (all.0.once, once_of forms low high owns all.1)

inputs_once : (known : List Known) (psbt : Psbt) → AllByRecursion IsKnown known → AllByRecursion IsOnce (inputs_pairs known psbt)
inputs_once known psbt all =
    once_of (input_form (version_of psbt.global)) 4 6 (inputs_pairs known psbt) (inputs_own (version_of psbt.global) known psbt.transaction.inputs psbt.inputs all)

outputs_once : (known : List Known) (psbt : Psbt) → AllByRecursion IsKnown known → AllByRecursion IsOnce (outputs_pairs known psbt)
outputs_once known psbt all =
    once_of (output_form (version_of psbt.global)) 0 2 (outputs_pairs known psbt) (outputs_own (version_of psbt.global) known psbt.transaction.outputs all)

abbrev HasValues : (map own : Map) → Type 0
HasValues map own = All (λ (pair : Pair). value_of_key pair.key map ≡ Some pair.value) own

hold_each : (owns maps : List Map) (at : ℕ) → AllByRecursion IsOnce owns → conflict_among owns at maps ≡ None → (i : ℕ) → i < length maps → HasValues (get_or (joined_maps maps owns) i [])
    (get_or owns i [])
hold_each owns [] at once e i less = absurd (omega arith)
hold_each [] (map ∷ maps) at once e i less = λ k d inside. absurd (omega arith)
hold_each (own ∷ owns) (map ∷ maps) at once e zero less =
    let parts = neither (conflict_in own at map) (conflict_among owns (at + length (map_text map)) maps) e in
    All-from_recursion (λ (pair : Pair). value_of_key pair.key (joined_map map own) ≡ Some pair.value) own (holds_own own map at once.0 parts.0)
hold_each (own ∷ owns) (map ∷ maps) at once e (suc i) less =
    let parts = neither (conflict_in own at map) (conflict_among owns (at + length (map_text map)) maps) e in
    hold_each owns maps (at + length (map_text map)) once.1 parts.1 i (omega arith)

pub holds_what_belongs : HoldsWhatBelongs
holds_what_belongs known before after has all sound e =
    let d = done known before after has e in
    let every = recursion_from_All IsKnown known all in
    let ins = as_many 4 6 before.inputs (joined_maps before.inputs (inputs_pairs known before)) (inputs_same known before every) in
    let outs = as_many 0 2 before.outputs (joined_maps before.outputs (outputs_pairs known before)) (outputs_same known before every) in
    subst (λ (p : Psbt). (HoldEach (inputs_pairs known before) p.inputs) × (HoldEach (outputs_pairs known before) p.outputs)) d.after (
      λ i less. hold_each (inputs_pairs known before) before.inputs (5 + length (map_text before.global)) (inputs_once known before every) d.inputs i (omega (arith, less, ins)),
      λ i less. hold_each (outputs_pairs known before) before.outputs (behind (5 + length (map_text before.global)) before.inputs) (outputs_once known before every) d.outputs i
          (omega (arith, less, outs)),
    )

-- ---- once more

abbrev with_maps : Psbt → (inputs outputs : List Map) → Bool → Result (Psbt × Bool) ℕ
with_maps psbt inputs outputs has = Ok (record psbt { inputs = inputs; outputs = outputs }, has)

updated_again : (known : List Known) (psbt : Psbt) → AllByRecursion IsKnown known
    → conflict_among (inputs_pairs known psbt) (5 + length (map_text psbt.global)) psbt.inputs ≡ None
    → conflict_among (outputs_pairs known psbt) (behind (5 + length (map_text psbt.global)) psbt.inputs) psbt.outputs ≡ None
    → update_of known (updated known psbt) ≡ Ok (updated known psbt, has_known_input known psbt)
updated_again known psbt all ins outs =
    let new : List Map = joined_maps psbt.inputs (inputs_pairs known psbt) in
    let same = inputs_same known psbt all in
    let belonging : inputs_pairs known (updated known psbt) ≡ inputs_pairs known psbt =
    inputs_pairs_same known psbt.transaction.inputs psbt.inputs (joined_maps psbt.inputs (inputs_pairs known psbt)) same in
    let has : has_known_input known (updated known psbt) ≡ has_known_input known psbt =
    ap (list_any (λ (o : Option Known). is_some o)) (inputs_known_same known psbt.transaction.inputs psbt.inputs (joined_maps psbt.inputs (inputs_pairs known psbt)) same) in
    let first : conflict_among (inputs_pairs known (updated known psbt)) (5 + length (map_text psbt.global)) (joined_maps psbt.inputs (inputs_pairs known psbt)) ≡ None =
    ap (λ (owns : List Map). conflict_among owns (5 + length (map_text psbt.global)) (joined_maps psbt.inputs (inputs_pairs known psbt))) belonging
    ∙ none_among (inputs_pairs known psbt) psbt.inputs (5 + length (map_text psbt.global)) (5 + length (map_text psbt.global)) (inputs_once known psbt all) ins in
    let second : conflict_among (outputs_pairs known psbt) (behind (5 + length (map_text psbt.global)) (joined_maps psbt.inputs (inputs_pairs known psbt)))
    (joined_maps psbt.outputs (outputs_pairs known psbt)) ≡ None =
    none_among (outputs_pairs known psbt) psbt.outputs (behind (5 + length (map_text psbt.global)) psbt.inputs)
    (behind (5 + length (map_text psbt.global)) (joined_maps psbt.inputs (inputs_pairs known psbt))) (outputs_once known psbt all) outs in
    let none : conflict_of known (updated known psbt) ≡ None =
    ap (λ (o : Option ℕ). or_else o (conflict_among (outputs_pairs known psbt) (behind (5 + length (map_text psbt.global)) (joined_maps psbt.inputs (inputs_pairs known psbt)))
    (joined_maps psbt.outputs (outputs_pairs known psbt)))) first ∙ second in
    ap (λ (o : Option ℕ). update_by o known (updated known psbt)) none
    ∙ (ap (λ (ms : List Map). with_maps psbt ms (joined_maps (joined_maps psbt.outputs (outputs_pairs known psbt)) (outputs_pairs known psbt)) (has_known_input known (updated known psbt)))
    (ap (joined_maps (joined_maps psbt.inputs (inputs_pairs known psbt))) belonging ∙ all_stay psbt.inputs (inputs_pairs known psbt))
    ∙ (ap (λ (ms : List Map). with_maps psbt (joined_maps psbt.inputs (inputs_pairs known psbt)) ms (has_known_input known (updated known psbt))) (all_stay psbt.outputs (outputs_pairs known psbt))
    ∙ ap (with_maps psbt (joined_maps psbt.inputs (inputs_pairs known psbt)) (joined_maps psbt.outputs (outputs_pairs known psbt))) has))

pub stays_updated : StaysUpdated
stays_updated known before after has all sound e =
    let d = done known before after has e in
    let again = updated_again known before (recursion_from_All IsKnown known all) d.inputs d.outputs in
    subst (λ (b : Bool). update_of known after ≡ Ok (after, b)) d.has (subst (λ (p : Psbt). update_of known p ≡ Ok (p, has_known_input known before)) d.after again)
