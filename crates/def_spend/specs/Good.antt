-- The judgement of the signatures of an input's map, and what the map holds for a satisfaction by those that count.
use Rattle.std.specs.Prelude.{Bool, true, false, [], filter, unwrap_or}
use Rattle.def_script.specs.Bytes.{Bytes}
use Rattle.def_machine.specs.Stacks.{Pairs}
use Rattle.def_assets.specs.Assets.{Assets}
use Rattle.def_curve.specs.declared.Judgement.{Judgement}
use Rattle.def_curve.specs.declared.Judgement.TheVariants.{Bad, High, Good}
use Rattle.def_curve.specs.Judgement.{judge}
use Rattle.def_spend.specs.declared.Verification.{Verification}
use Rattle.def_spend.specs.declared.Verification.TheVariants.{Verified, Unverified}
use Rattle.def_spend.specs.Fields.{signatures_in, preimages_in, last_byte}
use Rattle.def_spend.specs.Hashes.{hash_by}
use Rattle.def_spend.specs.Input.{Spend, locks_of}

-- the judgement of a signature by its key, for what its hash type signs; no hash has no byte, so that it is bad where there is none
abbrev pub word_of : Spend → (pair : Bytes × Bytes) → Judgement
word_of spend pair = judge pair.0 (unwrap_or (hash_by (last_byte pair.1) spend) []) pair.1

-- good with a low s, as nodes relay it
abbrev pub is_good : Judgement → Bool
is_good Bad = false
is_good High = false
is_good Good = true

-- the good signatures of compressed keys, in the map's order
abbrev pub good_signatures : Spend → Pairs
good_signatures spend = filter (λ pair. is_good (word_of spend pair)) (signatures_in spend.fields)

abbrev pub counted_by : Verification → Spend → Pairs
counted_by Verified spend = good_signatures spend
counted_by Unverified spend = signatures_in spend.fields

-- the signatures that count, in the map's order
abbrev pub counted_signatures : Spend → Pairs
counted_signatures spend = counted_by spend.verification spend

-- what the map holds for a satisfaction
abbrev pub assets_of : Spend → Assets
assets_of spend = record {
  locks = locks_of spend;
  pairs = counted_signatures spend;
  preimages = preimages_in spend.fields;
}
