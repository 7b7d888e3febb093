use Rattle.std.proofs.Common.{◌≡◌, slice_get, Some, Result, sym, ap, subst, ◌∙◌}
use Rattle.def_script.specs.Bytes.{Bytes}
use Rattle.def_spend.specs.declared.State.{State}
use Rattle.def_spend.specs.declared.Verification.{Verification}
use Rattle.def_spend.specs.declared.Verification.TheVariants.{Unverified}
use Rattle.def_spend.specs.Input.{Spend, spends_of}
use Rattle.def_spend.specs.Reading.{script_code}
use Rattle.ms_input.specs.Seen.{spend_at}
use Rattle.ms_input.specs.Spending.{code_seen, code_found, IsSpending}
use Rattle.ms_input.specs.Scaffolding.Kept.{IsAt, IsToldOf, IsSettledBy, asked_by}
use Rattle.ms_input.specs.Verified.{verification_of}
use Rattle.ms_input.proofs.Places.{is_at, locks_are, are_assets}
use Rattle.ms_input.proofs.Found.{guarded_by}
use Rattle.ms_input.proofs.JudgedBy.{told_verifying}
use Rattle.ms_input.proofs.input.Input.read.Goals as goal

pub settled_by-requires : goal.settled_by-requires
settled_by-requires c =
    let at = is_at Unverified c.args.psbt.now c.args.transaction.now c.args.number c.input-input.result c.input_map.result c.in_ok-fields.fields
    c.requires.transaction c.input-input.ensures c.input_map.ensures.map c.in_ok-fields.ensures in
    let spend = spend_at Unverified c.args.psbt.now c.args.number in
    are_assets c.args.psbt.now c.args.number c.input-input.result c.in_ok-fields.fields _ c.requires.assets at
    (locks_are spend c.args.psbt.now.transaction c.args.transaction.now c.input-input.result c.version.result c.sequence.result c.lock_time.result
    c.version.ensures c.sequence.ensures c.lock_time.ensures c.requires.transaction at.transaction at.same_input)

-- ---- when all is found

abbrev spend : goal.After-script_or_none → Spend
spend c = spend_at c.verification_of.result c.args.psbt.now c.args.number

at : (c : goal.After-script_or_none) → IsAt c.verification_of.result c.args.psbt.now c.args.number (spend c) c.input-input.result c.in_ok-fields.fields
at c =
    is_at c.verification_of.result c.args.psbt.now c.args.transaction.now c.args.number c.input-input.result c.input_map.result c.in_ok-fields.fields
    c.requires.transaction c.input-input.ensures c.input_map.ensures.map c.in_ok-fields.ensures

spending : (c : goal.After-script_or_none) → IsSpending (spend c) c.input-input.result c.in_ok-fields.fields
spending c = record { same_input = (at c).same_input; fields = (at c).fields }

told : (c : goal.After-script_or_none) → IsToldOf (spend c) c.input-input.result c.in_ok-fields.fields c.spending-spent.result c.args.verifying
told c = record {
  same_input = (at c).same_input;
  fields = (at c).fields;
  amount = c.spending-spent.ensures.amount (spend c) (spending c);
  script = c.spending-spent.ensures.script (spend c) (spending c);
  verifies = told_verifying c.args.verifying c.args.psbt.now c.args.number (spend c) (at c) c.requires.verifying;
}

settled : (c : goal.After-script_or_none) → IsSettledBy (spend c) c.in_ok-fields.fields c.spending-spent.result
    (record { version = c.version.result; sequence = c.sequence.result; locktime = c.lock_time.result }) c.args.verifying c.asked_hash-asked_hash.result
settled c = record {
  fields = (at c).fields;
  script = (told c).script;
  values = locks_are (spend c) c.args.psbt.now.transaction c.args.transaction.now c.input-input.result c.version.result c.sequence.result c.lock_time.result
      c.version.ensures c.sequence.ensures c.lock_time.ensures c.requires.transaction (at c).transaction (at c).same_input;
  verified = (at c).same_verification ∙ c.verification_of.ensures;
  hash_is = c.asked_hash-asked_hash.ensures (spend c) (told c);
}

pub invariant_of-result : goal.invariant_of-result
invariant_of-result c = record {
  at = at c;
  guarded = guarded_by (spend c) c.spending-spent.result.amount c.spending-spent.result.kind (code_found c.spending-spent.result.script) (code_seen c.script_or_none.result)
      (told c).amount (c.spending-spent.ensures.kind (spend c) (spending c)) (told c).script c.script_or_none.ensures;
  asked_is = (settled c).hash_is ∙ ap (λ (r : Result Bytes State). asked_by (verification_of c.args.verifying) r (spend c)) (told c).script
      ∙ ap (λ (v : Verification). asked_by v (script_code (spend c)) (spend c)) (sym c.verification_of.ensures);
  found = c.in_ok-settled.ensures (spend c) (settled c);
}

pub returns-clause-spend : goal.returns-clause-spend
returns-clause-spend c =
    subst (λ (v : Verification). slice_get (spends_of v c.args.psbt.now) c.args.number ≡ Some (spend c)) c.verification_of.ensures (at c).there

pub returns-clause-verification : goal.returns-clause-verification
returns-clause-verification c = (at c).same_verification ∙ c.verification_of.ensures

pub returns-clause-transaction : goal.returns-clause-transaction
returns-clause-transaction c = (at c).transaction

pub returns-clause-number : goal.returns-clause-number
returns-clause-number c = (at c).same_number

pub returns-clause-fields : goal.returns-clause-fields
returns-clause-fields c = (at c).map_is

pub returns-clause-reading : goal.returns-clause-reading
returns-clause-reading c = (c.in_ok-settled.ensures (spend c) (settled c)).reading
