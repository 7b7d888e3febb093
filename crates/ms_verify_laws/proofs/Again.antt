-- What is said of an input that was written.
use Rattle.std.proofs.Common.{◌≡◌, ℕ, zero, suc, ◌+◌, ◌^◌, ◌<◌, ◌≤◌, Bool, true, List, [], ◌∷◌, ◌++◌, length, map, slice_get, inl, inr, Option, Some, Ok, Err, sym, ap, subst, ◌∙◌, if◌then◌else◌, arith}
use Rattle.std.specs.Prelude.{unwrap_or}
use Rattle.std.specs.Int.{w32, w64, to_le_bytes}
use Rattle.std.specs.List.{AllByRecursion}
use Rattle.std.proofs.lemmas.List.Elements.{recursion_from_All}
use Rattle.def_hash.specs.Hash.{hash256}
use Rattle.def_script.specs.Bytes.{Bytes}
use Rattle.def_script.specs.Witness.{sized, items_text, witness_text}
use Rattle.def_machine.specs.Stacks.{Pairs, Checker}
use Rattle.def_machine.specs.Run.{run, accepted}
use Rattle.def_tree.specs.Tree.{Tree}
use Rattle.def_limits.specs.Scaffolding.Most.{limits_of}
use Rattle.def_limits.proofs.Greatest.{limits_are_computed}
use Rattle.def_satisfaction.specs.Satisfaction.{Sat}
use Rattle.def_decode.specs.Decoded.{IsDecoded}
use Rattle.ms_witness.specs.Reading.{MOST_WITNESS, FitsWitness}
use Rattle.def_curve.specs.Judgement.{judge}
use Rattle.def_psbt.specs.Transaction.{TransactionInput, TransactionOutput, Transaction, outpoint_text}
use Rattle.def_psbt.specs.Map.{Map}
use Rattle.def_psbt.specs.Forms as forms
use Rattle.def_spend.specs.declared.State.{State}
use Rattle.def_spend.specs.declared.State.TheVariants as state
use Rattle.def_spend.specs.declared.Verification.{Verification}
use Rattle.def_spend.specs.declared.Verification.TheVariants.{Verified}
use Rattle.def_spend.specs.Amount.{known_amount}
use Rattle.def_psbt.specs.Types.{IN_WITNESS_SCRIPT}
use Rattle.def_spend.specs.Fields.{field, keys_in, last_byte}
use Rattle.def_spend.specs.Utxo.{Utxo, utxo_of, amount_of}
use Rattle.def_spend.specs.Utxo as utxo
use Rattle.def_spend.specs.SignatureHash.{signed_prevouts, signed_sequences, signed_outputs}
use Rattle.def_spend.specs.Hashes.{script_or_none, script_in}
use Rattle.def_spend.specs.Good.{assets_of, counted_by}
use Rattle.def_spend.specs.Input.{Spend, spends_from, locks_of}
use Rattle.def_spend.specs.Kinds.{kind_of, spent_utxo}
use Rattle.def_spend.specs.Reading.{Input, has_final, key_hash_script, open_script}
use Rattle.def_spend.specs.States.{state_by, state_of, is_final, is_ready, stack_of}
use Rattle.def_spend.specs.Finalized.{final_map, script_sig_of, witness_of, written_map}
use Rattle.def_verify.specs.Check.{is_taken, consensus_check}
use Rattle.def_verify.specs.ConsensusHash.{outputs_by, type_by}
use Rattle.def_verify.specs.Final.{final_script_sig, final_items, execution_of}
use Rattle.def_verify.specs.Laws.{HashesOfTypes}
use Rattle.def_verify.specs.Verdict.{Verdict, not_final, valid, consensus_given, verdict_by, ran_verdict, output_verdict, utxo_verdict, final_verdict, verdict_of}
use Rattle.ms_given_laws.specs.Given.{EachIsSound}
use Rattle.ms_given_laws.proofs.Parts.{some_is}
use Rattle.ms_given_laws.proofs.PartsBack.{AreItems}
use Rattle.ms_spend_laws.specs.Ready.{output_in, spent_output}
use Rattle.ms_spend_laws.proofs.Inputs.{IsGiven, of_each}
use Rattle.ms_spend_laws.proofs.KeyHash.{key_hash_is_read_as_pkh, pkh_stack}
use Rattle.ms_spend_laws.proofs.States.{IsScriptFor, IsKeyHashFor, SpendTells, script_is, opens, ready_is, ready_some, stack_is}
use Rattle.ms_spend_laws.proofs.Chosen.{IsChosen, canonical, fits_witness, within}
use Rattle.ms_spend_laws.proofs.Verified.{good_is_taken}
use Rattle.ms_psbt_laws.proofs.Sounding.{all_items, are_items, items_back}
use Rattle.ms_psbt_laws.proofs.Again.{is_made_final}
use Rattle.ms_verify_laws.specs.Again.{IsValidAgain, WrittenIsValid, IsOfGood, WrittenIsOfGood}
use Rattle.ms_verify_laws.proofs.Kept.{kept_utxo}
use Rattle.ms_verify_laws.proofs.Runs.{script_executed, key_executed}

-- ---- the verdict of a run

abbrev by_state : State → Spend → Verdict
by_state told spend = if is_final told then final_verdict spend else not_final told

verdict_final : (later : Input) → has_final later.spend.fields ≡ true → verdict_of later ≡ final_verdict later.spend
verdict_final later final = ap (λ b. by_state (state_by (if b then Err state.Final else open_script later.spend) later.tree later.spend) later.spend) final

verdict_on : (spend : Spend) (u : Utxo) (output : TransactionOutput) → output_in u ≡ Some output → utxo_verdict spend u ≡ output_verdict spend output
verdict_on spend utxo.none output e = absurd cc
verdict_on spend utxo.wrong output e = absurd cc
verdict_on spend (utxo.proved known) output e = ap (output_verdict spend) (some_is known output e)
verdict_on spend (utxo.claimed known) output e = ap (output_verdict spend) (some_is known output e)

valid_verdict : (later : Input) (output : TransactionOutput) (script : Bytes) (stack : List Bytes) (ops peak : ℕ) (checks : Pairs) → has_final later.spend.fields ≡ true
    → output_in (spent_utxo later.spend) ≡ Some output → execution_of output.script (final_script_sig later.spend) (final_items later.spend) ≡ Ok (script, stack)
    → run (consensus_given later.spend script) script stack ≡ accepted ops peak checks → verdict_of later ≡ valid script checks
valid_verdict later output script stack ops peak checks final known executed ran =
    verdict_final later final ∙ verdict_on later.spend (spent_utxo later.spend) output known ∙ ap (ran_verdict later.spend) executed ∙ ap (verdict_by script) ran

-- ---- the check stays, since the spent output does

abbrev checker_by : Spend → (script : Bytes) → Utxo → Checker
checker_by spend script u key sig =
    is_taken (judge key (hash256 (
    to_le_bytes w32 spend.transaction.version
    ++ signed_prevouts (type_by (last_byte sig)) spend.transaction
    ++ signed_sequences (type_by (last_byte sig)) spend.transaction
    ++ outpoint_text spend.input.outpoint
    ++ sized script
    ++ to_le_bytes w64 (known_amount (amount_of u))
    ++ to_le_bytes w32 spend.input.sequence
    ++ signed_outputs (outputs_by (last_byte sig)) spend.transaction spend.number
    ++ to_le_bytes w32 spend.transaction.lock_time
    ++ to_le_bytes w32 (last_byte sig))) sig)

abbrev with_map : Verification → Spend → Map → Spend
with_map verification spend fields = record spend { verification = verification; fields = fields }

same_check : (verification : Verification) (spend : Spend) (fields : Map) (script : Bytes) → utxo_of spend.input.outpoint fields ≡ utxo_of spend.input.outpoint spend.fields
    → consensus_check (with_map verification spend fields) script ≡ consensus_check spend script
same_check verification spend fields script same = ap (checker_by spend script) same

-- ---- what the final fields of a Ready input have consensus run

record IsExecuted (input : Input) (script : Bytes) : Type 0 where
  pub output : TransactionOutput
  pub spent : spent_output input.spend ≡ Some output
  pub executed : execution_of output.script (script_sig_of input.spend) (unwrap_or (forms.witness_of (witness_of input)) []) ≡ Ok (script, stack_of input)

-- the witness, by whether it ends in a script
abbrev witness_of_kind : Bool → (stack : List Bytes) → (script : Bytes) → Bytes
witness_of_kind ends stack script = if ends then witness_text stack script else items_text stack

fits_script : (input : Input) (tree : Tree) (script : Bytes) → IsChosen input tree script → FitsWitness (stack_of input) script
fits_script input tree script c = let tried = c.tried in subst (FitsWitness (stack_of input)) tried.decoded.reading.same (fits_witness input tree script c)

script_case : (input : Input) (tree : Tree) (script : Bytes) → IsChosen input tree script
    → IsScriptFor (spent_output input.spend) (field IN_WITNESS_SCRIPT input.spend.fields) (kind_of input.spend) (script_sig_of input.spend) script → IsExecuted input script
script_case input tree script c found =
    let tried = c.tried in
    let text : witness_of input ≡ witness_text (stack_of input) script =
    ap (λ b. witness_of_kind b (stack_of input) (script_in input.spend)) found.kind ∙ ap (λ r. witness_text (stack_of input) (script_or_none r)) tried.spends in
    let items = ap forms.witness_of text ∙ items_back (all_items (stack_of input) script) (are_items (stack_of input) script (fits_script input tree script c)) in
    record {
      output = found.output;
      spent = found.spent;
      executed = ap (λ o. execution_of found.output.script (script_sig_of input.spend) (unwrap_or o [])) items
          ∙ script_executed script found.output.script (script_sig_of input.spend) (stack_of input) found.guarded;
    }

short_of : (items : List Bytes) → AllByRecursion (λ (item : Bytes). length item ≤ MOST_WITNESS) items → AllByRecursion (λ (item : Bytes). length item < 2 ^ 64) items
short_of [] h = tt
short_of (item ∷ items) h = (let first = h.0 in omega (arith, first), short_of items h.1)

stack_items : (stack : List Bytes) (script : Bytes) → FitsWitness stack script → AreItems stack
stack_items stack script fits =
    let few = fits.few in
    record { few = omega (arith, few); short = short_of stack (recursion_from_All (λ (item : Bytes). length item ≤ MOST_WITNESS) stack fits.items) }

key_case : (input : Input) (tree : Tree) (script : Bytes) → IsChosen input tree script
    → IsKeyHashFor (spent_output input.spend) (kind_of input.spend) (script_sig_of input.spend) script → IsExecuted input script
key_case input tree script c found =
    let tried = c.tried in
    let decoded : IsDecoded (keys_in input.spend.fields) (key_hash_script found.program) tree =
    subst (λ (s : Bytes). IsDecoded (keys_in input.spend.fields) s tree) found.is_script tried.decoded in
    let read = key_hash_is_read_as_pkh (keys_in input.spend.fields) found.program tree found.key_hash decoded in
    let sat = subst (λ (t : Tree). Sat t (assets_of input.spend) (stack_of input)) read.miniscript (canonical input tree script c) in
    let is = pkh_stack read.key (assets_of input.spend) (stack_of input) sat in
    let text : witness_of input ≡ items_text (stack_of input) = ap (λ b. witness_of_kind b (stack_of input) (script_in input.spend)) found.kind in
    let items = ap forms.witness_of text ∙ items_back (stack_of input) (stack_items (stack_of input) script (fits_script input tree script c)) in
    record {
      output = found.output;
      spent = found.spent;
      executed = ap (λ o. execution_of found.output.script (script_sig_of input.spend) (unwrap_or o [])) items
          ∙ ap (λ (stack : List Bytes). execution_of found.output.script (script_sig_of input.spend) stack) is.is_stack
          ∙ key_executed found.program found.output.script (script_sig_of input.spend) is.sig read.key found.key_hash found.guarded
          ∙ ap (λ (s : Bytes). Ok (s, is.sig ∷ read.key ∷ [])) (sym found.is_script)
          ∙ ap (λ (stack : List Bytes). Ok (script, stack)) (sym is.is_stack);
    }

is_executed : (input : Input) (tree : Tree) (script : Bytes) → IsChosen input tree script → IsExecuted input script
is_executed input tree script c = go (script_is input.spend script c.tried.spends)
  where
    go : SpendTells input.spend (Ok script) → IsExecuted input script
    go (inl found) = script_case input tree script c found
    go (inr found) = key_case input tree script c found

-- ---- a Ready input, read again

record IsReadyBy (input : Input) : Type 0 where
  pub tree : Tree
  pub script : Bytes
  pub chosen : IsChosen input tree script

ready_by : (input : Input) → IsGiven input → is_ready (state_of input) ≡ true → IsReadyBy input
ready_by input given ready =
    let o = opens input state.Ready given.read tt (ready_is (state_of input) ready) in
    let some = ready_some _ o.chosen in
    let stack = stack_is input o.tree o.script some.0 o.tried some.1 in
    record { tree = o.tree; script = o.script; chosen = record { given = given; tried = o.tried; chosen = some.1 ∙ ap Some (sym stack) } }

written_utxo : (input : Input) → is_ready (state_of input) ≡ true → utxo_of input.spend.input.outpoint (written_map input) ≡ utxo_of input.spend.input.outpoint input.spend.fields
written_utxo input ready =
    ap (λ b. utxo_of input.spend.input.outpoint (if b then final_map input.spend.fields (script_sig_of input.spend) (witness_of input) else input.spend.fields)) ready
    ∙ kept_utxo input.spend.input.outpoint input.spend.fields (script_sig_of input.spend) (witness_of input)

-- the spend of it
abbrev as_written : Verification → Input → Spend
as_written verification input = with_map verification input.spend (written_map input)

ran_again : HashesOfTypes → (verification : Verification) (input : Input) → input.spend.verification ≡ Verified → is_ready (state_of input) ≡ true
    → (tree : Tree) (script : Bytes) → IsChosen input tree script
    → (ops : ℕ) × (peak : ℕ) × (checks : Pairs) × (run (consensus_given (as_written verification input) script) script (stack_of input) ≡ accepted ops peak checks)
ran_again hashes verification input verified ready tree script c =
    let tried = c.tried in
    let in_it : script_in input.spend ≡ script = ap script_or_none tried.spends in
    let checker : Checker = consensus_check input.spend (script_in input.spend) in
    let a = within input tree script c (limits_of tree) checker (limits_are_computed tree) (good_is_taken hashes input.spend verified) in (
      a.ops,
      a.peak,
      a.checks,
      ap (λ (check : Checker). run (record { checker = check; locks = locks_of input.spend }) script (stack_of input))
          (same_check verification input.spend (written_map input) script (written_utxo input ready))
          ∙ ap (λ (s : Bytes). run (record { checker = consensus_check input.spend s; locks = locks_of input.spend }) script (stack_of input)) (sym in_it)
          ∙ ap (λ (s : Bytes). run (record { checker = checker; locks = locks_of input.spend }) s (stack_of input)) (sym tried.decoded.reading.same)
          ∙ a.run,
    )

written_input : HashesOfTypes → (verification : Verification) (input later : Input) → IsGiven input → input.spend.verification ≡ Verified → is_ready (state_of input) ≡ true
    → IsValidAgain input (record { spend = as_written verification input; tree = later.tree })
written_input hashes verification input later given verified ready =
    let r = ready_by input given ready in
    let x = is_executed input r.tree r.script r.chosen in
    let made = is_made_final input given ready in
    let a = ran_again hashes verification input verified ready r.tree r.script r.chosen in
    let again : Input = record { spend = as_written verification input; tree = later.tree } in
    let known : output_in (spent_utxo again.spend) ≡ Some x.output = ap output_in (written_utxo input ready) ∙ x.spent in
    let executed : execution_of x.output.script (final_script_sig again.spend) (final_items again.spend) ≡ Ok (r.script, stack_of input) =
    ap (λ (s : Bytes). execution_of x.output.script s (final_items again.spend)) made.script_sig
    ∙ ap (λ (o : Option Bytes). execution_of x.output.script (script_sig_of input.spend) (unwrap_or (forms.witness_of (unwrap_or o (0x00 ∷ []))) [])) made.witness
    ∙ x.executed in
    let tried = r.chosen.tried in
    record {
      checks = a.2;
      verdict = valid_verdict again x.output r.script (stack_of input) a.0 a.1 a.2 made.final known executed a.3
          ∙ ap (λ (s : Bytes). valid s a.2) (sym (ap script_or_none tried.spends));
    }

valid_again : HashesOfTypes → (verification : Verification) (input later : Input) → IsGiven input → input.spend.verification ≡ Verified → is_ready (state_of input) ≡ true
    → later.spend ≡ as_written verification input → IsValidAgain input later
valid_again hashes verification input later given verified ready same =
    let v = written_input hashes verification input later given verified ready in
    record { checks = v.checks; verdict = ap (λ (s : Spend). verdict_of (record { spend = s; tree = later.tree })) same ∙ v.verdict }

of_good : (input : Input) → IsGiven input → input.spend.verification ≡ Verified → is_ready (state_of input) ≡ true → IsOfGood input
of_good input given verified ready =
    let r = ready_by input given ready in
    let tried = r.chosen.tried in
    record {
      tree = r.tree;
      read = tried.read;
      signatures = ap (λ (v : Verification). counted_by v input.spend) verified;
      satisfied = canonical input r.tree r.script r.chosen;
    }

-- ---- each of a PSBT

holds_at : (P : Input → Type 0) (xs : List Input) → AllByRecursion P xs → (k : ℕ) (x : Input) → slice_get xs k ≡ Some x → P x
holds_at P [] h k x e = absurd cc
holds_at P (y ∷ xs) h zero x e = subst P (some_is y x e) h.0
holds_at P (y ∷ xs) h (suc k) x e = holds_at P xs h.1 k x e

all_verified : (transaction : Transaction) (number : ℕ) (ins : List TransactionInput) (maps : List Map) (xs : List Input)
    → map (λ input. input.spend) xs ≡ spends_from Verified transaction number ins maps → AllByRecursion (λ input. input.spend.verification ≡ Verified) xs
all_verified transaction number ins maps [] e = tt
all_verified transaction number (i ∷ ins) (m ∷ maps) (x ∷ xs) e =
    let here : x.spend ≡ record { verification = Verified; transaction = transaction; number = number; input = i; fields = m } = cc in
    let rest : map (λ input. input.spend) xs ≡ spends_from Verified transaction (number + 1) ins maps = cc in
    (ap (λ (s : Spend). s.verification) here, all_verified transaction (number + 1) ins maps xs rest)
all_verified transaction number ins maps xs e = absurd cc

written_at : (verification : Verification) (transaction : Transaction) (number : ℕ) (ins : List TransactionInput) (maps : List Map) (xs ys : List Input)
    → map (λ input. input.spend) xs ≡ spends_from Verified transaction number ins maps
    → map (λ input. input.spend) ys ≡ spends_from verification transaction number ins (map written_map xs)
    → (k : ℕ) (x y : Input) → slice_get xs k ≡ Some x → slice_get ys k ≡ Some y → y.spend ≡ as_written verification x
written_at verification transaction number ins maps [] ys e f k x y g h = absurd cc
written_at verification transaction number ins maps xs [] e f k x y g h = absurd cc
written_at verification transaction number (i ∷ ins) (m ∷ maps) (a ∷ xs) (b ∷ ys) e f zero x y g h =
    let here : a.spend ≡ record { verification = Verified; transaction = transaction; number = number; input = i; fields = m } = cc in
    let there : b.spend ≡ record { verification = verification; transaction = transaction; number = number; input = i; fields = written_map a } = cc in
    let same = there ∙ ap (λ (spend : Spend). with_map verification spend (written_map a)) (sym here) in
    sym (ap (λ (input : Input). input.spend) (some_is b y h)) ∙ same ∙ ap (as_written verification) (some_is a x g)
written_at verification transaction number (i ∷ ins) (m ∷ maps) (a ∷ xs) (b ∷ ys) e f (suc k) x y g h =
    let rest : map (λ input. input.spend) xs ≡ spends_from Verified transaction (number + 1) ins maps = cc in
    let behind : map (λ input. input.spend) ys ≡ spends_from verification transaction (number + 1) ins (map written_map xs) = cc in
    written_at verification transaction (number + 1) ins maps xs ys rest behind k x y g h
written_at verification transaction number ins maps xs ys e f k x y g h = absurd cc

pub written_is_of_good : EachIsSound → WrittenIsOfGood
written_is_of_good law source psbt fits e inputs are number input at ready =
    let given = recursion_from_All IsGiven inputs (of_each law IsGiven (λ input g. g) source psbt fits e Verified inputs are) in
    let verified = all_verified psbt.transaction 0 psbt.transaction.inputs psbt.inputs inputs are.spends in
    of_good input (holds_at IsGiven inputs given number input at) (holds_at (λ input. input.spend.verification ≡ Verified) inputs verified number input at) ready

pub written_is_valid : EachIsSound → HashesOfTypes → WrittenIsValid
written_is_valid law hashes source psbt fits e inputs are verification again are_again number input later at at_later ready =
    let given = recursion_from_All IsGiven inputs (of_each law IsGiven (λ input g. g) source psbt fits e Verified inputs are) in
    let verified = all_verified psbt.transaction 0 psbt.transaction.inputs psbt.inputs inputs are.spends in
    valid_again hashes verification input later (holds_at IsGiven inputs given number input at)
    (holds_at (λ input. input.spend.verification ≡ Verified) inputs verified number input at) ready
    (written_at verification psbt.transaction 0 psbt.transaction.inputs psbt.inputs inputs again are.spends are_again.spends number input later at at_later)
