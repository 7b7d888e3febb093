-- The whole of a PSBT with what belongs to its maps.
use Rattle.std.proofs.Common.{◌≡◌, ℕ, ◌+◌, ◌-◌, Bool, List, [], ◌∷◌, ◌++◌, length, length-append, Option, Some, None, Ok, Err, refl, sym, ap, subst, ◌∙◌, append_assoc, arith}
use Rattle.std.proofs.lemmas.List.Elements.{recursion_from_All}
use Rattle.std.specs.List.{AllByRecursion, flat_map}
use Rattle.def_script.specs.Bytes.{Bytes}
use Rattle.def_psbt.proofs.Counting.{as_many_outputs}
use Rattle.def_psbt.specs.Fields.{version_of}
use Rattle.def_psbt.specs.Laws.{IsWholeMap, IsSound}
use Rattle.def_psbt.specs.Map.{Map, Psbt, magic, map_text, psbt_text}
use Rattle.def_psbt.specs.Reading.{Rules, output_rules, or_else}
use Rattle.def_psbt.specs.Transaction.{TransactionInput, TransactionOutput}
use Rattle.def_combine.specs.Joined.{joined_maps}
use Rattle.def_update.specs.Known.{Known}
use Rattle.def_update.specs.Updated.{behind, conflict_among, inputs_pairs, outputs_pairs, has_known_input, update_of, update_by, updated}
use Rattle.ms_psbt.specs.Scaffolding.Pairs.{IsSpelled}
use Rattle.ms_psbt.proofs.Pairing.{sound_spelled}
use Rattle.ms_update.specs.declared.updating.Updated.{Updated}
use Rattle.ms_update.specs.declared.updating.UpdateStop.{UpdateStop}
use Rattle.ms_update.specs.declared.updating.UpdateStop.TheVariants as stop
use Rattle.ms_update.specs.Outcome.{Makes, Updates}
use Rattle.ms_update.specs.Scaffolding.Puts.{PutsMaps, PutsInputs}
use Rattle.ms_update.proofs.Going.{Left, OutputsLeft, owns_of, owns_of_outputs}

-- ---- places

pub behind_is : (at : ℕ) (maps : List Map) → behind at maps ≡ at + length (flat_map map_text maps)
behind_is at [] = omega arith
behind_is at (map ∷ maps) =
    let rest = behind_is (at + length (map_text map)) maps in
    let long = length-append (map_text map) (flat_map map_text maps) in
    omega (arith, rest, long)

pub size_is : (global : Map) (inputs outputs : List Map) → length (psbt_text global inputs outputs) ≡ 5 + length (map_text global) + length (flat_map map_text inputs) + length
    (flat_map map_text outputs)
size_is global inputs outputs =
    let a = length-append magic (map_text global ++ (flat_map map_text inputs ++ flat_map map_text outputs)) in
    let b = length-append (map_text global) (flat_map map_text inputs ++ flat_map map_text outputs) in
    let c = length-append (flat_map map_text inputs) (flat_map map_text outputs) in
    omega (arith, a, b, c)

pub inputs_place : (global : Map) (bytes : Bytes) → bytes ≡ magic ++ map_text global → length bytes ≡ 5 + length (map_text global)
inputs_place global bytes e = let long = ap length e in let both = length-append magic (map_text global) in omega (arith, long, both)

-- ---- as the walks over the maps begin

pub inputs_left : (known : List Known) (inputs : List TransactionInput) (maps : List Map) (at : ℕ) (out : Bytes)
    → Left (owns_of known inputs maps) maps at out (conflict_among (owns_of known inputs maps) at maps) (out ++ flat_map map_text (joined_maps maps (owns_of known inputs maps)))
    (at + length (flat_map map_text maps))
inputs_left known inputs maps at out = record { conflict = refl; text = refl; end = refl }

spelled : (rules : Rules) (maps : List Map) → AllByRecursion (IsWholeMap rules) maps → AllByRecursion (λ (map : Map). AllByRecursion IsSpelled map) maps
spelled rules [] all = tt
spelled rules (map ∷ maps) all = (sound_spelled rules.forms [] map all.0.sound, spelled rules maps all.1)

pub outputs_left : (known : List Known) (psbt : Psbt) (rest : Bytes) (at : ℕ) (out : Bytes) → IsSound psbt → rest ≡ flat_map map_text psbt.outputs
    → OutputsLeft known psbt.transaction.outputs rest at out (conflict_among (owns_of_outputs known psbt.transaction.outputs) at psbt.outputs)
    (out ++ flat_map map_text (joined_maps psbt.outputs (owns_of_outputs known psbt.transaction.outputs))) (at + length (flat_map map_text psbt.outputs))
outputs_left known psbt rest at out sound e = record {
  maps = psbt.outputs;
  text = e;
  spelled = spelled (output_rules (version_of psbt.global)) psbt.outputs (recursion_from_All (IsWholeMap (output_rules (version_of psbt.global))) psbt.outputs sound.outputs);
  count = as_many_outputs psbt sound;
  left = record { conflict = refl; text = refl; end = refl };
}

pub outputs_begin : (known : List Known) (psbt : Psbt) (items : List TransactionOutput) (rest : Bytes) (at : ℕ) (out : Bytes) → IsSound psbt → items ≡ psbt.transaction.outputs
    → rest ≡ flat_map map_text psbt.outputs
    → OutputsLeft known items rest at out (conflict_among (owns_of_outputs known psbt.transaction.outputs) at psbt.outputs)
    (out ++ flat_map map_text (joined_maps psbt.outputs (owns_of_outputs known psbt.transaction.outputs))) (at + length (flat_map map_text psbt.outputs))
outputs_begin known psbt items rest at out sound is e =
    subst (λ (os : List TransactionOutput). OutputsLeft known os rest at out (conflict_among (owns_of_outputs known psbt.transaction.outputs) at psbt.outputs)
    (out ++ flat_map map_text (joined_maps psbt.outputs (owns_of_outputs known psbt.transaction.outputs))) (at + length (flat_map map_text psbt.outputs))) (sym is)
    (outputs_left known psbt rest at out sound e)

pub outputs_place : (psbt : Psbt) (bytes rest : Bytes) → bytes ≡ psbt_text psbt.global psbt.inputs psbt.outputs → rest ≡ flat_map map_text psbt.outputs
    → length bytes - length rest ≡ behind (5 + length (map_text psbt.global)) psbt.inputs
outputs_place psbt bytes rest e f =
    let size = ap length e ∙ size_is psbt.global psbt.inputs psbt.outputs in
    let part = ap length f in
    let place = behind_is (5 + length (map_text psbt.global)) psbt.inputs in
    omega (arith, size, part, place)

-- ---- as they end

pub inputs_bar : (known : List Known) (psbt : Psbt) (place : ℕ) → conflict_among (inputs_pairs known psbt) (5 + length (map_text psbt.global)) psbt.inputs ≡ Some place → update_of known
    psbt ≡ Err place
inputs_bar known psbt place e =
    ap (λ (o : Option ℕ). update_by (or_else o (conflict_among (outputs_pairs known psbt) (behind (5 + length (map_text psbt.global)) psbt.inputs) psbt.outputs)) known psbt) e

pub outputs_bar : (known : List Known) (psbt : Psbt) (place : ℕ) → conflict_among (inputs_pairs known psbt) (5 + length (map_text psbt.global)) psbt.inputs ≡ None
    → conflict_among (outputs_pairs known psbt) (behind (5 + length (map_text psbt.global)) psbt.inputs) psbt.outputs ≡ Some place → update_of known psbt ≡ Err place
outputs_bar known psbt place e f =
    ap (λ (o : Option ℕ). update_by (or_else o (conflict_among (outputs_pairs known psbt) (behind (5 + length (map_text psbt.global)) psbt.inputs) psbt.outputs)) known psbt) e
    ∙ ap (λ (o : Option ℕ). update_by o known psbt) f

pub none_bars : (known : List Known) (psbt : Psbt) → conflict_among (inputs_pairs known psbt) (5 + length (map_text psbt.global)) psbt.inputs ≡ None
    → conflict_among (outputs_pairs known psbt) (behind (5 + length (map_text psbt.global)) psbt.inputs) psbt.outputs ≡ None → update_of known psbt ≡ Ok
    (updated known psbt, has_known_input known psbt)
none_bars known psbt e f =
    ap (λ (o : Option ℕ). update_by (or_else o (conflict_among (outputs_pairs known psbt) (behind (5 + length (map_text psbt.global)) psbt.inputs) psbt.outputs)) known psbt) e
    ∙ ap (λ (o : Option ℕ). update_by o known psbt) f

pub text_is : (known : List Known) (psbt : Psbt) (a b c : Bytes) → a ≡ magic ++ map_text psbt.global → b ≡ a ++ flat_map map_text (joined_maps psbt.inputs (inputs_pairs known psbt))
    → c ≡ b ++ flat_map map_text (joined_maps psbt.outputs (outputs_pairs known psbt))
    → c ≡ psbt_text (updated known psbt).global (updated known psbt).inputs (updated known psbt).outputs
text_is known psbt a b c p q r =
    r ∙ (ap (λ (x : Bytes). x ++ flat_map map_text (joined_maps psbt.outputs (outputs_pairs known psbt)))
    (q ∙ ap (λ (x : Bytes). x ++ flat_map map_text (joined_maps psbt.inputs (inputs_pairs known psbt))) p)
    ∙ (append_assoc (magic ++ map_text psbt.global) (flat_map map_text (joined_maps psbt.inputs (inputs_pairs known psbt))) (flat_map map_text (joined_maps psbt.outputs (outputs_pairs known psbt)))
    ∙ append_assoc magic (map_text psbt.global) (flat_map map_text (joined_maps psbt.inputs (inputs_pairs known psbt)) ++ flat_map map_text (joined_maps psbt.outputs (outputs_pairs known psbt)))))

-- ---- the update

pub barred_by_input : (known : List Known) (psbt : Psbt) (inputs : List TransactionInput) (before after : Bytes) (why : UpdateStop) → inputs ≡ psbt.transaction.inputs
    → PutsInputs known inputs psbt.inputs (5 + length (map_text psbt.global)) before after (Err why) → Updates known psbt (Err why)
barred_by_input known psbt inputs before after (stop.Conflict place) e put =
    inputs_bar known psbt place (ap (λ (ins : List TransactionInput). conflict_among (owns_of known ins psbt.inputs) (5 + length (map_text psbt.global)) psbt.inputs) (sym e) ∙ put)
barred_by_input known psbt inputs before after stop.Memory e put = tt

-- what is put of the inputs, by the transaction of the PSBT
inputs_put : (known : List Known) (psbt : Psbt) (inputs : List TransactionInput) (before after : Bytes) (has : Bool) → inputs ≡ psbt.transaction.inputs
    → PutsInputs known inputs psbt.inputs (5 + length (map_text psbt.global)) before after (Ok has)
    → PutsInputs known psbt.transaction.inputs psbt.inputs (5 + length (map_text psbt.global)) before after (Ok has)
inputs_put known psbt inputs before after has e put =
    subst (λ (ins : List TransactionInput). PutsInputs known ins psbt.inputs (5 + length (map_text psbt.global)) before after (Ok has)) e put

pub barred_by_output : (known : List Known) (psbt : Psbt) (inputs : List TransactionInput) (a b c : Bytes) (has : Bool) (why : UpdateStop) → inputs ≡ psbt.transaction.inputs
    → PutsInputs known inputs psbt.inputs (5 + length (map_text psbt.global)) a b (Ok has)
    → PutsMaps (outputs_pairs known psbt) (behind (5 + length (map_text psbt.global)) psbt.inputs) psbt.outputs b c (Err why) → Updates known psbt (Err why)
barred_by_output known psbt inputs a b c has (stop.Conflict place) e put other = outputs_bar known psbt place (inputs_put known psbt inputs a b has e put).0 other
barred_by_output known psbt inputs a b c has stop.Memory e put other = tt

pub is_updated : (known : List Known) (psbt : Psbt) (inputs : List TransactionInput) (a b : Bytes) (made : Updated) → inputs ≡ psbt.transaction.inputs → a ≡ magic ++ map_text psbt.global
    → PutsInputs known inputs psbt.inputs (5 + length (map_text psbt.global)) a b (Ok made.has_known_input)
    → PutsMaps (outputs_pairs known psbt) (behind (5 + length (map_text psbt.global)) psbt.inputs) psbt.outputs b made.psbt.items (Ok tt) → Updates known psbt (Ok made)
is_updated known psbt inputs a b made e begin put other =
    let ins = inputs_put known psbt inputs a b made.has_known_input e put in
    subst (Makes made) (sym (none_bars known psbt ins.0 other.0)) (text_is known psbt a b made.psbt.items begin ins.1 other.1, ins.2)
