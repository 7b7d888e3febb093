-- What a plan is made by, as arrays give it, or why they are refused: for what a plan file with the same keys, lengths and
-- preimages is.
use Rattle.std.specs.Prelude.{ℕ, ◌==◌, ◌*◌, ◌/◌, nat_le, List, [], ◌∷◌, ◌++◌, length, Option, Result}
use Rattle.def_script.specs.Bytes.{Bytes}
use Rattle.def_script.specs.Key.{is_key}
use Rattle.def_script.specs.Signature.{is_signature_size}
use Rattle.def_machine.specs.declared.Locks.{Locks}
use Rattle.def_files.specs.AssetFile.{MOST_PREIMAGES}
use Rattle.def_files.specs.Refusals.{unless, unless_any}
use Rattle.def_plan.specs.declared.PlanMember.TheVariants as member
use Rattle.def_plan.specs.declared.PlanFault.{PlanFault}
use Rattle.def_plan.specs.declared.PlanFault.TheVariants as fault
use Rattle.def_plan.specs.Lengths.{Lengths, MOST_KEYS}
use Rattle.def_plan.specs.PlanFile.{PlanFile}
use Rattle.ms_assets.specs.Parts.{first_refused, repeated}
use Rattle.ms_arrays.specs.Pieces.{KEY_SIZE, PREIMAGE_SIZE, entries_at, preimages_in}

-- the refusals of keys with the lengths of their signatures: a key's form, a length, a key that stands twice
abbrev pub entry_refusals : Lengths → List (Option PlanFault)
entry_refusals table =
    first_refused (λ entry. is_key entry.0) fault.KeyForm table ∷
    first_refused (λ entry. is_signature_size entry.1) fault.Length table ∷
    repeated fault.RepeatedKey table ∷ []

-- the refusals of arrays that haven't a key for each length, or hold too much
abbrev pub plan_shape_refusals : (keys : Bytes) → (lengths : List ℕ) → (preimages : Bytes) → List (Option PlanFault)
plan_shape_refusals keys lengths preimages =
    unless (length keys == KEY_SIZE * length lengths) (fault.Shape member.Keys) ∷
    unless (length preimages == PREIMAGE_SIZE * (length preimages / PREIMAGE_SIZE)) (fault.Shape member.Preimages) ∷
    unless (nat_le (length lengths) MOST_KEYS) (fault.TooMany member.Keys) ∷
    unless (nat_le (length preimages / PREIMAGE_SIZE) MOST_PREIMAGES) (fault.TooMany member.Preimages) ∷ []

-- what the arrays give: the first refusal that applies, those of single elements last, or what a plan is made by
abbrev pub plan_of_arrays : Locks → (keys : Bytes) → (lengths : List ℕ) → (preimages : Bytes) → Result PlanFile PlanFault
plan_of_arrays locks keys lengths preimages =
    unless_any (plan_shape_refusals keys lengths preimages ++ entry_refusals (entries_at lengths keys)) (record {
      assets = record { locks = locks; pairs = []; preimages = preimages_in preimages };
      table = entries_at lengths keys;
    })
