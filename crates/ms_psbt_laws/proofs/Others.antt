-- What is said of an input goes by its transaction and by the other pairs of its map, those beside the fields of version 2.
use Rattle.std.proofs.Common.{◌≡◌, ℕ, ◌+◌, ◌==◌, ◌&&◌, ◌||◌, not, nat_le, nat_lt, Bool, true, false, List, [], ◌∷◌, ◌++◌, length, map, find, filter, flat_map, Option, Some, None, Result, Ok, Err, unwrap_or, if◌then◌else◌, inl, inr, refl, sym, ap, subst, ◌∙◌, arith}
use Rattle.std.specs.Prelude.{⊤, codes, decimal}
use Rattle.std.specs.Int.{w32, w64, to_le_bytes}
use Rattle.def_hash.specs.Hash.{hash256}
use Rattle.def_script.specs.Witness.{sized}
use Rattle.def_machine.specs.Run.{run}
use Rattle.def_curve.specs.declared.Judgement.{Judgement}
use Rattle.def_curve.specs.Judgement.{judge}
use Rattle.def_psbt.specs.Forms.{witness_of}
use Rattle.hex.specs.Hex.{encode_lower}
use Rattle.std.specs.List.{AllByRecursion, list_all, list_any}
use Rattle.std.specs.Option.{option_map, option_and_then}
use Rattle.std.proofs.lemmas.Bool.{and_parts, eqb-true, leb-true, lt-leb, cases_Bool}
use Rattle.std.proofs.lemmas.List.Elements.{All-from_recursion, recursion_from_All}
use Rattle.def_script.specs.Bytes.{Bytes}
use Rattle.def_script.specs.Key.{is_key}
use Rattle.def_machine.specs.Stacks.{Pairs}
use Rattle.def_tree.specs.Tree.{Tree}
use Rattle.def_assets.specs.Assets.{Assets}
use Rattle.def_sane.specs.Unfit.{first_unfit}
use Rattle.def_choice.specs.Strict.{strict}
use Rattle.def_policy.specs.Print.{printed as printed_policy}
use Rattle.def_psbt.specs.Transaction.{TransactionInput, TransactionOutput, Transaction, outpoint_text, transaction_text}
use Rattle.def_psbt.specs.Map.{Pair, Map, Psbt, type_of, data_of}
use Rattle.def_spend.specs.declared.Kind.{Kind}
use Rattle.def_spend.specs.declared.State.{State}
use Rattle.def_spend.specs.declared.State.TheVariants as state
use Rattle.def_spend.specs.declared.Verification.{Verification}
use Rattle.def_spend.specs.declared.Verification.TheVariants.{Verified, Unverified}
use Rattle.def_psbt.specs.Types.{IN_NON_WITNESS_UTXO, IN_WITNESS_UTXO, IN_PARTIAL_SIG, IN_SIGHASH_TYPE, IN_REDEEM_SCRIPT, IN_WITNESS_SCRIPT, IN_BIP32_DERIVATION, IN_FINAL_SCRIPTSIG, IN_FINAL_SCRIPTWITNESS, IN_RIPEMD160, IN_HASH256}
use Rattle.def_spend.specs.Fields.{has_type, is_between, field, is_signed, signatures_in, has_key, keys_in, is_preimage_pair, preimages_in, last_byte, asked, asked_type}
use Rattle.def_spend.specs.Amount.{known_amount}
use Rattle.def_spend.specs.Utxo.{Utxo, amount_of}
use Rattle.def_spend.specs.Utxo as utxo
use Rattle.def_spend.specs.SignatureHash.{signed_prevouts, signed_sequences, signed_outputs}
use Rattle.def_spend.specs.Hashes.{hash_by}
use Rattle.def_spend.specs.Input.{Spend, spends_from, locks_of}
use Rattle.def_spend.specs.Good.{word_of, is_good, counted_by, counted_signatures, assets_of}
use Rattle.def_spend.specs.Kinds.{spent_utxo, kind_of, script_sig_by}
use Rattle.def_spend.specs.Reading.{Input, has_item, has_final, script_code, ReadsAs, HasReading}
use Rattle.def_spend.specs.States.{MOST_HELD, is_sighash_wrong, are_too_many, choice_state, held_state, unless_unfit, tree_state, state_by, state_of, is_read, is_sane, is_final, is_ready, stack_of}
use Rattle.def_spend.specs.Asking.{plan_with}
use Rattle.def_spend.specs.Finalized.{final_input, final_inputs, final_witness, witnessed_text, network_text, known_script_sig, final_id}
use Rattle.def_verify.specs.declared.Flaw.{Flaw}
use Rattle.def_verify.specs.ConsensusHash.{outputs_by, type_by, consensus_hash}
use Rattle.def_verify.specs.Check.{judged_in, is_taken}
use Rattle.def_verify.specs.Final.{Execution, final_script_sig, final_items, execution_of}
use Rattle.def_verify.specs.Verdict.{Verdict, not_final, flawed, valid, consensus_given, verdict_by, ran_verdict, output_verdict, utxo_verdict, final_verdict, verdict_of, is_valid}
use Rattle.def_answer.specs.Lines.{line}
use Rattle.def_answer.specs.Decode.{decode_report}
use Rattle.def_answer.specs.Policy.{policy_of}
use Rattle.def_psbt_answer.specs.declared.status.Status.TheVariants as status
use Rattle.def_psbt_answer.specs.declared.words.Command.{Command}
use Rattle.def_psbt_answer.specs.declared.words.Command.TheVariants as command
use Rattle.def_psbt_answer.specs.declared.words.Request.{Request}
use Rattle.def_psbt_answer.specs.declared.words.Request.TheVariants as request
use Rattle.def_psbt_answer.specs.Words.{request_of}
use Rattle.def_psbt_answer.specs.declared.words.Form.{Form}
use Rattle.def_psbt_answer.specs.Lines.{psbt_line, final_id_line, output_lines, input_line, outpoint_line, amount_line, unchecked_line, signature_line, policy_line, sign_line, check_line, not_final_line}
use Rattle.def_psbt_answer.specs.Fee.{fee_line}
use Rattle.def_psbt_answer.specs.Report.{word_by, told_word, amount_in, plan_lines, last_lines, tree_lines, kind_lines, signature_lines, open_lines, input_report, inspect_report, checked_line, hash_lines, input_hashes, hashes_report}
use Rattle.def_psbt_answer.specs.Verified.{verdict_text, passed_lines, verdict_lines, input_verdict, verify_report}
use Rattle.def_psbt_answer.specs.Reply.{reply, is_settled, settled_status, verify_status, form_of, first_open, extract_by, extract_reply, command_reply}
use Rattle.def_psbt_answer.specs.Answer.{verification_of, RepliesToPsbt, RepliesToSource, RepliesToWords}
use Rattle.ms_spend_laws.specs.Planned.{with_map}
use Rattle.ms_spend_laws.proofs.Reread.{SpendAlike, final_alike, utxo_alike, kind_alike, script_alike, hash_alike, word_alike}
use Rattle.ms_psbt_laws.specs.Agreeing.{is_other, AreAgreeing, VersionsAgree}
use Rattle.ms_psbt_laws.proofs.FinalIds.{AreAlike, alike_more, id_alike}

-- ---- lists

module _ (test : Pair → Bool) (passes : (pair : Pair) → test pair ≡ true → is_other pair ≡ true) where
  found_other : (fields : Map) → find test (filter is_other fields) ≡ find test fields
  found_other [] = refl
  found_other (pair ∷ fields) =
      let rest = found_other fields in
      elim (cases_Bool (test pair)) [
        | inl is ↦ rw (passes pair is, is) refl
        | inr fails ↦ elim (cases_Bool (is_other pair)) [ inl kept ↦ rw (kept, fails) rest | inr left ↦ rw (left, fails) rest ]
      ]

  kept_other : (fields : Map) → filter test (filter is_other fields) ≡ filter test fields
  kept_other [] = refl
  kept_other (pair ∷ fields) =
      let rest = kept_other fields in
      elim (cases_Bool (test pair)) [
        | inl is ↦ rw (passes pair is, is) (ap (λ (l : Map). pair ∷ l) rest)
        | inr fails ↦ elim (cases_Bool (is_other pair)) [ inl kept ↦ rw (kept, fails) rest | inr left ↦ rw (left, fails) rest ]
      ]

-- a type that doesn't lie between those of the fields of version 2
of_type : (type : ℕ) → not (is_between 0x0e 0x12 type) ≡ true → (pair : Pair) → has_type type pair ≡ true → is_other pair ≡ true
of_type type other pair is = ap (λ (n : ℕ). not (is_between 0x0e 0x12 n)) (eqb-true (type_of pair.key) type is) ∙ other

signed_is_other : (pair : Pair) → is_signed pair ≡ true → is_other pair ≡ true
signed_is_other pair is = of_type IN_PARTIAL_SIG refl pair (and_parts (has_type IN_PARTIAL_SIG pair) (is_key (data_of pair.key)) is).0

key_is_other : (pair : Pair) → has_key pair ≡ true → is_other pair ≡ true
key_is_other pair is = elim (cases_Bool (has_type IN_PARTIAL_SIG pair)) [
  | inl signed ↦ of_type IN_PARTIAL_SIG refl pair signed
  | inr unsigned ↦ of_type IN_BIP32_DERIVATION refl pair (and_parts (has_type IN_BIP32_DERIVATION pair) (is_key (data_of pair.key)) (rw unsigned at is)).0
]

-- the types of preimages end before those of version 2
ends_before : (type : ℕ) → nat_le type 0x0d ≡ true → not (is_between 0x0e 0x12 type) ≡ true
ends_before type low = ap (λ b. not (b && nat_le type 0x12)) (lt-leb 0x0e type (omega (arith, leb-true type 0x0d low)))

preimage_is_other : (pair : Pair) → is_preimage_pair pair ≡ true → is_other pair ≡ true
preimage_is_other pair is =
    let between = (and_parts (is_between IN_RIPEMD160 IN_HASH256 (type_of pair.key)) (length pair.value == 32) is).0 in
    ends_before (type_of pair.key) (and_parts (nat_le IN_RIPEMD160 (type_of pair.key)) (nat_le (type_of pair.key) IN_HASH256) between).1

-- ---- the fields of two maps with the same other pairs

module _ (fields later : Map) (same : filter is_other later ≡ filter is_other fields) where
  field_same : (type : ℕ) → not (is_between 0x0e 0x12 type) ≡ true → field type later ≡ field type fields
  field_same type other =
      ap (option_map (λ (pair : Pair). pair.value))
      (sym (found_other (has_type type) (of_type type other) later) ∙ ap (find (has_type type)) same ∙ found_other (has_type type) (of_type type other) fields)

  kept_same : (test : Pair → Bool) → ((pair : Pair) → test pair ≡ true → is_other pair ≡ true) → filter test later ≡ filter test fields
  kept_same test passes = sym (kept_other test passes later) ∙ ap (filter test) same ∙ kept_other test passes fields

  signatures_same : signatures_in later ≡ signatures_in fields
  signatures_same = ap (map (λ (pair : Pair). (data_of pair.key, pair.value))) (kept_same is_signed signed_is_other)

  keys_same : keys_in later ≡ keys_in fields
  keys_same = ap (map (λ (pair : Pair). data_of pair.key)) (kept_same has_key key_is_other)

  preimages_same : preimages_in later ≡ preimages_in fields
  preimages_same = ap (map (λ (pair : Pair). pair.value)) (kept_same is_preimage_pair preimage_is_other)

  asked_same : asked_type later ≡ asked_type fields
  asked_same = ap asked (field_same IN_SIGHASH_TYPE refl)

  spend_same : SpendAlike fields later
  spend_same = record {
    script_sig = field_same IN_FINAL_SCRIPTSIG refl;
    witness = field_same IN_FINAL_SCRIPTWITNESS refl;
    previous = field_same IN_NON_WITNESS_UTXO refl;
    claim = field_same IN_WITNESS_UTXO refl;
    redeem = field_same IN_REDEEM_SCRIPT refl;
    script = field_same IN_WITNESS_SCRIPT refl;
  }

  too_many_same : are_too_many later ≡ are_too_many fields
  too_many_same =
      ap (λ (pairs : Pairs). nat_lt MOST_HELD (length pairs) || nat_lt MOST_HELD (length (preimages_in later))) signatures_same
      ∙ ap (λ (preimages : List Bytes). nat_lt MOST_HELD (length (signatures_in fields)) || nat_lt MOST_HELD (length preimages)) preimages_same

-- ---- one input

-- what is said, by what is read of a map
abbrev held_by : Tree → (type : ℕ) → Pairs → (many : Bool) → Assets → State
held_by tree type pairs many assets =
    if is_sighash_wrong type pairs then state.WrongSighash else if many then state.TooMany else choice_state (strict tree assets)

abbrev open_by : State → Kind → (signatures lines : Bytes) → Bytes
open_by s kind signatures lines = if is_final s then unchecked_line else kind_lines s kind ++ signatures ++ lines

abbrev checks : Spend → Pairs → Bytes
checks spend pairs = flat_map (checked_line spend) pairs

module _ (input : Input) (later : Map) (same : filter is_other later ≡ filter is_other input.spend.fields) where
  abbrev own : Map
  own = input.spend.fields

  abbrev new : Spend
  new = (with_map input later).spend

  script_same : script_code new ≡ script_code input.spend
  script_same = script_alike input.spend later (spend_same own later same)

  kind_same : kind_of new ≡ kind_of input.spend
  kind_same = kind_alike input.spend later (spend_same own later same)

  pub reading_same : HasReading input → HasReading (with_map input later)
  reading_same read =
      subst (λ keys. ReadsAs keys (script_code new) input.tree) (sym (keys_same own later same))
      (subst (λ script. ReadsAs (keys_in own) script input.tree) (sym script_same) read)

  amount_same : amount_in new ≡ amount_in input.spend
  amount_same = ap amount_of (utxo_alike own later (spend_same own later same) input.spend.input.outpoint)

  hash_same : (number : ℕ) → hash_by number new ≡ hash_by number input.spend
  hash_same = hash_alike input.spend later (spend_same own later same)

  word_same : (pair : Bytes × Bytes) → word_of new pair ≡ word_of input.spend pair
  word_same = word_alike input.spend later (spend_same own later same)

  good_same : (pairs : Pairs) → filter (λ pair. is_good (word_of new pair)) pairs ≡ filter (λ pair. is_good (word_of input.spend pair)) pairs
  good_same pairs = λ i. filter (λ pair. is_good (word_same pair i)) pairs

  counted_same : counted_signatures new ≡ counted_signatures input.spend
  counted_same = go input.spend.verification
    where
      go : (v : Verification) → counted_by v new ≡ counted_by v input.spend
      go Verified = ap (filter (λ pair. is_good (word_of new pair))) (signatures_same own later same) ∙ good_same (signatures_in own)
      go Unverified = signatures_same own later same

  assets_same : assets_of new ≡ assets_of input.spend
  assets_same =
      ap (λ (pairs : Pairs). record { locks = locks_of input.spend; pairs = pairs; preimages = preimages_in later }) counted_same
      ∙ ap (λ (preimages : List Bytes). record { locks = locks_of input.spend; pairs = counted_signatures input.spend; preimages = preimages }) (preimages_same own later same)

  held_same : (tree : Tree) → held_state tree new ≡ held_state tree input.spend
  held_same tree =
      ap (λ (type : ℕ). held_by tree type (signatures_in later) (are_too_many later) (assets_of new)) (asked_same own later same)
      ∙ ap (λ (pairs : Pairs). held_by tree (asked_type own) pairs (are_too_many later) (assets_of new)) (signatures_same own later same)
      ∙ ap (λ b. held_by tree (asked_type own) (signatures_in own) b (assets_of new)) (too_many_same own later same)
      ∙ ap (held_by tree (asked_type own) (signatures_in own) (are_too_many own)) assets_same

  state_same : state_of (with_map input later) ≡ state_of input
  state_same = ap (λ script. state_by script input.tree new) script_same ∙ by_script (script_code input.spend)
    where
      by_tree : (found : Option Tree) → tree_state found new ≡ tree_state found input.spend
      by_tree None = refl
      by_tree (Some tree) = ap (unless_unfit (first_unfit tree)) (held_same tree)

      by_script : (script : Result Bytes State) → state_by script input.tree new ≡ state_by script input.tree input.spend
      by_script (Ok script) = by_tree input.tree
      by_script (Err state) = refl

  -- ---- its lines

  stack_same : stack_of (with_map input later) ≡ stack_of input
  stack_same = ap (λ (assets : Assets). unwrap_or (option_and_then (λ tree. strict tree assets) input.tree) []) assets_same

  last_same : (s : State) (tree : Tree) (stack : List Bytes) → last_lines s tree new stack ≡ last_lines s tree input.spend stack
  last_same state.Unsatisfied tree stack = ap (λ (assets : Assets). plan_lines assets (plan_with tree assets)) assets_same
  last_same other tree stack = refl

  tree_same : (s : State) (found : Option Tree) (stack : List Bytes) → tree_lines s found new stack ≡ tree_lines s found input.spend stack
  tree_same s None stack = refl
  tree_same s (Some tree) stack =
      ap (λ lines. (if is_read s then decode_report tree else []) ++ (if is_sane s then policy_line (printed_policy (policy_of tree)) else []) ++ lines) (last_same s tree stack)

  by_word_same : (v : Verification) (pair : Bytes × Bytes) → word_by v new pair ≡ word_by v input.spend pair
  by_word_same Verified pair = ap Some (word_same pair)
  by_word_same Unverified pair = refl

  told_same : (known : Bool) (pair : Bytes × Bytes) → told_word known new pair ≡ told_word known input.spend pair
  told_same known pair = ap (λ (o : Option Judgement). if known then o else None) (by_word_same input.spend.verification pair)

  signed_same : (s : State) → signature_lines s new ≡ signature_lines s input.spend
  signed_same s =
      ap (flat_map (λ pair. signature_line pair (told_word (is_sane s) new pair))) (signatures_same own later same)
      ∙ (λ i. flat_map (λ pair. signature_line pair (told_same (is_sane s) pair i)) (signatures_in own))

  open_same : open_lines (with_map input later) ≡ open_lines input
  open_same =
      ap (λ s. open_by s (kind_of new) (signature_lines s new) (tree_lines s input.tree new (stack_of (with_map input later)))) state_same
      ∙ ap (λ k. open_by (state_of input) k (signature_lines (state_of input) new) (tree_lines (state_of input) input.tree new (stack_of (with_map input later)))) kind_same
      ∙ ap (λ lines. open_by (state_of input) (kind_of input.spend) lines (tree_lines (state_of input) input.tree new (stack_of (with_map input later)))) (signed_same (state_of input))
      ∙ ap (open_by (state_of input) (kind_of input.spend) (signature_lines (state_of input) input.spend))
      (ap (tree_lines (state_of input) input.tree new) stack_same ∙ tree_same (state_of input) input.tree (stack_of input))

  pub report_same : input_report (with_map input later) ≡ input_report input
  report_same =
      ap (λ s. input_line input.spend.number s ++ outpoint_line input.spend.input ++ amount_line (amount_in new) ++ open_lines (with_map input later)) state_same
      ∙ ap (λ amount. input_line input.spend.number (state_of input) ++ outpoint_line input.spend.input ++ amount_line amount ++ open_lines (with_map input later)) amount_same
      ∙ ap (λ lines. input_line input.spend.number (state_of input) ++ outpoint_line input.spend.input ++ amount_line (amount_in input.spend) ++ lines) open_same

  check_same : (pairs : Pairs) → checks new pairs ≡ checks input.spend pairs
  check_same pairs = λ i. flat_map (λ pair. check_line pair (hash_same (last_byte pair.1) i) (by_word_same input.spend.verification pair i)) pairs

  lines_same : hash_lines new ≡ hash_lines input.spend
  lines_same =
      ap (λ (type : ℕ). sign_line type (hash_by type new) ++ checks new (signatures_in later)) (asked_same own later same)
      ∙ ap (λ o. sign_line (asked_type own) o ++ checks new (signatures_in later)) (hash_same (asked_type own))
      ∙ ap (λ (pairs : Pairs). sign_line (asked_type own) (hash_by (asked_type own) input.spend) ++ checks new pairs) (signatures_same own later same)
      ∙ ap (λ lines. sign_line (asked_type own) (hash_by (asked_type own) input.spend) ++ lines) (check_same (signatures_in own))

  pub hashes_same : input_hashes (with_map input later) ≡ input_hashes input
  hashes_same =
      ap (λ s. input_line input.spend.number s ++ (if is_sane s then hash_lines new else [])) state_same
      ∙ ap (λ lines. input_line input.spend.number (state_of input) ++ (if is_sane (state_of input) then lines else [])) lines_same

  -- ---- what `verify` says

  consensus_same : (byte : ℕ) (script : Bytes) → consensus_hash byte new script ≡ consensus_hash byte input.spend script
  consensus_same byte script =
      let transaction = input.spend.transaction in
      ap (λ amount. hash256
      (to_le_bytes w32 transaction.version
      ++ signed_prevouts (type_by byte) transaction
      ++ signed_sequences (type_by byte) transaction
      ++ outpoint_text input.spend.input.outpoint
      ++ sized script
      ++ to_le_bytes w64 (known_amount amount)
      ++ to_le_bytes w32 input.spend.input.sequence
      ++ signed_outputs (outputs_by byte) transaction input.spend.number
      ++ to_le_bytes w32 transaction.lock_time
      ++ to_le_bytes w32 byte))
      amount_same

  judged_same : (script key sig : Bytes) → judged_in new script key sig ≡ judged_in input.spend script key sig
  judged_same script key sig = ap (λ hash. judge key hash sig) (consensus_same (last_byte sig) script)

  given_same : (script : Bytes) → consensus_given new script ≡ consensus_given input.spend script
  given_same script = λ i. record { checker = λ key sig. is_taken (judged_same script key sig i); locks = locks_of input.spend }

  ran_same : (execution : Result Execution Flaw) → ran_verdict new execution ≡ ran_verdict input.spend execution
  ran_same (Ok execution) = ap (λ given. verdict_by execution.0 (run given execution.0 execution.1)) (given_same execution.0)
  ran_same (Err flaw) = refl

  output_same : (output : TransactionOutput) → output_verdict new output ≡ output_verdict input.spend output
  output_same output =
      ap (λ (o : Option Bytes). ran_verdict new (execution_of output.script (unwrap_or o []) (final_items new))) (field_same own later same IN_FINAL_SCRIPTSIG refl)
      ∙ ap (λ (o : Option Bytes). ran_verdict new (execution_of output.script (final_script_sig input.spend) (unwrap_or (witness_of (unwrap_or o (0x00 ∷ []))) [])))
      (field_same own later same IN_FINAL_SCRIPTWITNESS refl)
      ∙ ran_same (execution_of output.script (final_script_sig input.spend) (final_items input.spend))

  final_same : final_verdict new ≡ final_verdict input.spend
  final_same =
      ap (utxo_verdict new) (utxo_alike own later (spend_same own later same) input.spend.input.outpoint) ∙ by_utxo (spent_utxo input.spend)
    where
      by_utxo : (u : Utxo) → utxo_verdict new u ≡ utxo_verdict input.spend u
      by_utxo utxo.none = refl
      by_utxo utxo.wrong = refl
      by_utxo (utxo.proved output) = output_same output
      by_utxo (utxo.claimed output) = output_same output

  pub verdict_same : verdict_of (with_map input later) ≡ verdict_of input
  verdict_same =
      ap (λ s. if is_final s then final_verdict new else not_final s) state_same
      ∙ ap (λ v. if is_final (state_of input) then v else not_final (state_of input)) final_same

  passed_same : (verdict : Verdict) → passed_lines new verdict ≡ passed_lines input.spend verdict
  passed_same (not_final s) = refl
  passed_same (flawed flaw) = refl
  passed_same (valid script checks) = λ i. flat_map (λ pair. signature_line pair (Some (judged_same script pair.0 pair.1 i))) checks

  pub verify_same : input_verdict (with_map input later) ≡ input_verdict input
  verify_same =
      ap (verdict_lines new) verdict_same
      ∙ ap (λ lines. line (codes "input " ++ decimal input.spend.number ++ codes " " ++ verdict_text (verdict_of input)) ++ lines) (passed_same (verdict_of input))

-- ---- all inputs

-- the same inputs with other maps that have the same other pairs
abbrev AreTurned : (inputs others : List Input) → Type 0
AreTurned [] [] = ⊤
AreTurned [] (other ∷ others) = ⊥
AreTurned (input ∷ inputs) [] = ⊥
AreTurned (input ∷ inputs) (other ∷ others) =
    (other ≡ with_map input other.spend.fields) × (filter is_other other.spend.fields ≡ filter is_other input.spend.fields) × AreTurned inputs others

-- what is the same of each input with another such map
abbrev Stays : {A : Type 0} → (Input → A) → Type 0
Stays f = (input : Input) (later : Map) → filter is_other later ≡ filter is_other input.spend.fields → f (with_map input later) ≡ f input

each_stays : {A : Type 0} (f : Input → A) → Stays f → (inputs others : List Input) → AreTurned inputs others → map f others ≡ map f inputs
each_stays f stays [] [] turned = refl
each_stays f stays [] (other ∷ others) turned = absurd turned
each_stays f stays (input ∷ inputs) [] turned = absurd turned
each_stays {A} f stays (input ∷ inputs) (other ∷ others) turned =
    let one = ap f turned.0 ∙ stays input other.spend.fields turned.1 in
    ap (λ (x : A). x ∷ map f others) one ∙ ap (λ (xs : List A). f input ∷ xs) (each_stays f stays inputs others turned.2)

lines_stay : (f : Input → Bytes) → Stays f → (inputs others : List Input) → AreTurned inputs others → flat_map f others ≡ flat_map f inputs
lines_stay f stays [] [] turned = refl
lines_stay f stays [] (other ∷ others) turned = absurd turned
lines_stay f stays (input ∷ inputs) [] turned = absurd turned
lines_stay f stays (input ∷ inputs) (other ∷ others) turned =
    let one = ap f turned.0 ∙ stays input other.spend.fields turned.1 in
    ap (λ lines. lines ++ flat_map f others) one ∙ ap (λ lines. f input ++ lines) (lines_stay f stays inputs others turned.2)

status_stays : (inputs others : List Input) → AreTurned inputs others → list_all is_settled others ≡ list_all is_settled inputs
status_stays [] [] turned = refl
status_stays [] (other ∷ others) turned = absurd turned
status_stays (input ∷ inputs) [] turned = absurd turned
status_stays (input ∷ inputs) (other ∷ others) turned =
    let one = ap is_settled turned.0 ∙ ap (λ s. is_final s || is_ready s) (state_same input other.spend.fields turned.1) in
    ap (λ b. b && list_all is_settled others) one ∙ ap (λ b. is_settled input && b) (status_stays inputs others turned.2)

valid_stays : (inputs others : List Input) → AreTurned inputs others
    → list_all (λ (input : Input). is_valid (verdict_of input)) others ≡ list_all (λ (input : Input). is_valid (verdict_of input)) inputs
valid_stays [] [] turned = refl
valid_stays [] (other ∷ others) turned = absurd turned
valid_stays (input ∷ inputs) [] turned = absurd turned
valid_stays (input ∷ inputs) (other ∷ others) turned =
    let one = ap (λ (it : Input). is_valid (verdict_of it)) turned.0 ∙ ap is_valid (verdict_same input other.spend.fields turned.1) in
    ap (λ b. b && list_all (λ (it : Input). is_valid (verdict_of it)) others) one ∙ ap (λ b. is_valid (verdict_of input) && b) (valid_stays inputs others turned.2)

-- the number of the first input that isn't Final
abbrev number_in : Option Input → Option ℕ
number_in o = option_map (λ (input : Input). input.spend.number) o

open_stays : (inputs others : List Input) → AreTurned inputs others → number_in (first_open others) ≡ number_in (first_open inputs)
open_stays [] [] turned = refl
open_stays [] (other ∷ others) turned = absurd turned
open_stays (input ∷ inputs) [] turned = absurd turned
open_stays (input ∷ inputs) (other ∷ others) turned =
    let one = ap (λ (it : Input). state_of it) turned.0 ∙ state_same input other.spend.fields turned.1 in
    let number = ap (λ (it : Input). it.spend.number) turned.0 in
    ap (λ s. number_in (if not (is_final s) then Some other else first_open others)) one
    ∙ go (not (is_final (state_of input))) (ap Some number) (open_stays inputs others turned.2)
  where
    go : (b : Bool) → Some other.spend.number ≡ Some input.spend.number → number_in (first_open others) ≡ number_in (first_open inputs)
        → number_in (if b then Some other else first_open others) ≡ number_in (if b then Some input else first_open inputs)
    go true e h = e
    go false e h = h

-- ---- the inputs of the other PSBT

abbrev with_maps : List Input → List Map → List Input
with_maps [] maps = []
with_maps (input ∷ inputs) [] = []
with_maps (input ∷ inputs) (fields ∷ maps) = with_map input fields ∷ with_maps inputs maps

record Turned (verification : Verification) (transaction : Transaction) (number : ℕ) (ins : List TransactionInput) (inputs : List Input) (maps : List Map) : Type 0 where
  pub turned : AreTurned inputs (with_maps inputs maps)
  pub spends : map (λ (input : Input). input.spend) (with_maps inputs maps) ≡ spends_from verification transaction number ins maps
  pub read : AllByRecursion HasReading (with_maps inputs maps)

are_turned : (verification : Verification) (transaction : Transaction) (number : ℕ) (ins : List TransactionInput) (fields maps : List Map) (inputs : List Input)
    → map (filter is_other) fields ≡ map (filter is_other) maps → map (λ (input : Input). input.spend) inputs ≡ spends_from verification transaction number ins fields
    → AllByRecursion HasReading inputs → Turned verification transaction number ins inputs maps
are_turned verification transaction number [] fields maps [] same spends read = record { turned = tt; spends = refl; read = tt }
are_turned verification transaction number [] fields maps (input ∷ inputs) same spends read = absurd cc
are_turned verification transaction number (i ∷ ins) [] [] [] same spends read = record { turned = tt; spends = refl; read = tt }
are_turned verification transaction number (i ∷ ins) [] [] (input ∷ inputs) same spends read = absurd cc
are_turned verification transaction number (i ∷ ins) [] (m ∷ maps) inputs same spends read = absurd cc
are_turned verification transaction number (i ∷ ins) (f ∷ fields) [] inputs same spends read = absurd cc
are_turned verification transaction number (i ∷ ins) (f ∷ fields) (m ∷ maps) [] same spends read = absurd cc
are_turned verification transaction number (i ∷ ins) (f ∷ fields) (m ∷ maps) (input ∷ inputs) same spends read =
    let own : input.spend ≡ record { verification = verification; transaction = transaction; number = number; input = i; fields = f } = cc in
    let others : map (λ (input : Input). input.spend) inputs ≡ spends_from verification transaction (number + 1) ins fields = cc in
    let kept : filter is_other f ≡ filter is_other m = cc in
    let kept_others : map (filter is_other) fields ≡ map (filter is_other) maps = cc in
    let rest = are_turned verification transaction (number + 1) ins fields maps inputs kept_others others read.1 in
    let mine : filter is_other m ≡ filter is_other input.spend.fields = sym kept ∙ ap (λ (spend : Spend). filter is_other spend.fields) (sym own) in
    record {
      turned = (refl, mine, rest.turned);
      spends = ap (λ (spend : Spend). record spend { fields = m } ∷ map (λ (input : Input). input.spend) (with_maps inputs maps)) own
          ∙ ap (λ (spends : List Spend). record { verification = verification; transaction = transaction; number = number; input = i; fields = m } ∷ spends) rest.spends;
      read = (reading_same input m mine read.0, rest.read);
    }

-- ---- the network transaction

abbrev network_of : Transaction → (maps : List Map) → Bytes
network_of transaction maps = network_text (record { global = []; transaction = transaction; inputs = maps; outputs = [] })

inputs_stay : (ins : List TransactionInput) (fields maps : List Map) → map (filter is_other) fields ≡ map (filter is_other) maps → final_inputs ins maps ≡ final_inputs ins fields
inputs_stay [] fields maps same = refl
inputs_stay (i ∷ ins) [] [] same = refl
inputs_stay (i ∷ ins) [] (m ∷ maps) same = absurd cc
inputs_stay (i ∷ ins) (f ∷ fields) [] same = absurd cc
inputs_stay (i ∷ ins) (f ∷ fields) (m ∷ maps) same =
    let kept : filter is_other m ≡ filter is_other f = cc in
    let others : map (filter is_other) fields ≡ map (filter is_other) maps = cc in
    ap (λ (o : Option Bytes). record i { script_sig = unwrap_or o [] } ∷ final_inputs ins maps) (field_same f m kept IN_FINAL_SCRIPTSIG refl)
    ∙ ap (λ (is : List TransactionInput). final_input i f ∷ is) (inputs_stay ins fields maps others)

witnesses_stay : (fields maps : List Map) → map (filter is_other) fields ≡ map (filter is_other) maps → map final_witness maps ≡ map final_witness fields
witnesses_stay [] [] same = refl
witnesses_stay [] (m ∷ maps) same = absurd cc
witnesses_stay (f ∷ fields) [] same = absurd cc
witnesses_stay (f ∷ fields) (m ∷ maps) same =
    let kept : filter is_other m ≡ filter is_other f = cc in
    let others : map (filter is_other) fields ≡ map (filter is_other) maps = cc in
    ap (λ (o : Option Bytes). unwrap_or o (0x00 ∷ []) ∷ map final_witness maps) (field_same f m kept IN_FINAL_SCRIPTWITNESS refl)
    ∙ ap (λ (ws : List Bytes). final_witness f ∷ ws) (witnesses_stay fields maps others)

-- whether a final witness has an item
abbrev any_item : (maps : List Map) → Bool
any_item maps = list_any (λ fields. has_item (field IN_FINAL_SCRIPTWITNESS fields)) maps

any_stays : (fields maps : List Map) → map (filter is_other) fields ≡ map (filter is_other) maps → any_item maps ≡ any_item fields
any_stays [] [] same = refl
any_stays [] (m ∷ maps) same = absurd cc
any_stays (f ∷ fields) [] same = absurd cc
any_stays (f ∷ fields) (m ∷ maps) same =
    let kept : filter is_other m ≡ filter is_other f = cc in
    let others : map (filter is_other) fields ≡ map (filter is_other) maps = cc in
    ap (λ o. has_item o || any_item maps) (field_same f m kept IN_FINAL_SCRIPTWITNESS refl)
    ∙ ap (λ b. has_item (field IN_FINAL_SCRIPTWITNESS f) || b) (any_stays fields maps others)

abbrev text_by : (some : Bool) → Transaction → List TransactionInput → (witnesses : List Bytes) → Bytes
text_by some transaction ins witnesses =
    if some then witnessed_text (record transaction { inputs = ins }) witnesses else transaction_text (record transaction { inputs = ins })

network_stays : (transaction : Transaction) (fields maps : List Map) → map (filter is_other) fields ≡ map (filter is_other) maps
    → network_of transaction maps ≡ network_of transaction fields
network_stays transaction fields maps same =
    ap (λ (b : Bool). text_by b transaction (final_inputs transaction.inputs maps) (map final_witness maps)) (any_stays fields maps same)
    ∙ ap (λ (ins : List TransactionInput). text_by (any_item fields) transaction ins (map final_witness maps)) (inputs_stay transaction.inputs fields maps same)
    ∙ ap (λ (ws : List Bytes). text_by (any_item fields) transaction (final_inputs transaction.inputs fields) ws) (witnesses_stay fields maps same)

-- ---- the reply

extract_stays : (psbt later : Psbt) → AreAgreeing psbt later → (inputs others : List Input) → AreTurned inputs others → extract_reply later others ≡ extract_reply psbt inputs
extract_stays psbt later agree [] [] turned = refl
extract_stays psbt later agree [] (other ∷ others) turned = absurd turned
extract_stays psbt later agree (input ∷ inputs) [] turned = absurd turned
extract_stays psbt later agree (input ∷ inputs) (other ∷ others) turned =
    go (first_open (other ∷ others)) (first_open (input ∷ inputs)) (open_stays (input ∷ inputs) (other ∷ others) turned)
  where
    same : network_text later ≡ network_text psbt
    same = ap (λ (t : Transaction). network_of t later.inputs) (sym agree.transaction) ∙ network_stays psbt.transaction psbt.inputs later.inputs agree.others

    go : (o p : Option Input) → number_in o ≡ number_in p → extract_by o later ≡ extract_by p psbt
    go None None e = ap (λ text. reply status.Done (line (encode_lower text))) same
    go None (Some x) e = absurd cc
    go (Some x) None e = absurd cc
    go (Some x) (Some y) e = let number : x.spend.number ≡ y.spend.number = cc in ap (λ n. reply status.Open (not_final_line n)) number

fee_stays : (inputs others : List Input) → AreTurned inputs others → map (λ (input : Input). amount_in input.spend) others ≡ map (λ (input : Input). amount_in input.spend) inputs
fee_stays = each_stays (λ (input : Input). amount_in input.spend) amount_same

-- what is known of the final scriptSigs stays
abbrev known_by : (final : Bool) → (script_sig : Option Bytes) → Kind → (redeem : Option Bytes) → Option Bytes
known_by final script_sig kind redeem = if final then Some (unwrap_or script_sig []) else script_sig_by kind (unwrap_or redeem [])

known_stays : (input : Input) (later : Map) → filter is_other later ≡ filter is_other input.spend.fields
    → known_script_sig (with_map input later).spend ≡ known_script_sig input.spend
known_stays input later same =
    let alike = spend_same input.spend.fields later same in
    ap (λ b. known_by b (field IN_FINAL_SCRIPTSIG later) (kind_of (with_map input later).spend) (field IN_REDEEM_SCRIPT later)) (final_alike input.spend.fields later alike)
    ∙ ap (λ o. known_by (has_final input.spend.fields) o (kind_of (with_map input later).spend) (field IN_REDEEM_SCRIPT later)) alike.script_sig
    ∙ ap (λ k. known_by (has_final input.spend.fields) (field IN_FINAL_SCRIPTSIG input.spend.fields) k (field IN_REDEEM_SCRIPT later)) (kind_same input later same)
    ∙ ap (known_by (has_final input.spend.fields) (field IN_FINAL_SCRIPTSIG input.spend.fields) (kind_of input.spend)) alike.redeem

alike_stay : (inputs others : List Input) → AreTurned inputs others
    → AreAlike (map (λ (input : Input). input.spend) others) (map (λ (input : Input). input.spend) inputs)
alike_stay [] [] turned = record { inputs = refl; known = refl; some = refl }
alike_stay [] (other ∷ others) turned = absurd turned
alike_stay (input ∷ inputs) [] turned = absurd turned
alike_stay (input ∷ inputs) (other ∷ others) turned =
    let own : TransactionInput = input.spend.input in
    let placed : other.spend.input ≡ own = ap (λ (it : Input). it.spend.input) turned.0 in
    let known = ap (λ (it : Input). known_script_sig it.spend) turned.0 ∙ known_stays input other.spend.fields turned.1 in
    alike_more other.spend input.spend (map (λ (input : Input). input.spend) others) (map (λ (input : Input). input.spend) inputs) placed known
    (alike_stay inputs others turned.2)

abbrev inspected : Transaction → (id : Option Bytes) → (fee lines : Bytes) → Bytes
inspected transaction id fee lines = psbt_line transaction ++ final_id_line id ++ output_lines 0 transaction.outputs ++ fee ++ lines

inspect_stays : (transaction : Transaction) (inputs others : List Input) → AreTurned inputs others → inspect_report transaction others ≡ inspect_report transaction inputs
unfolding inspect_report
inspect_stays transaction inputs others turned =
    let spends : List Spend = map (λ (input : Input). input.spend) inputs in
    let later : List Spend = map (λ (input : Input). input.spend) others in
    ap (λ id. inspected transaction id (fee_line (map (λ (input : Input). amount_in input.spend) others) transaction.outputs) (flat_map input_report others))
    (id_alike transaction later spends (alike_stay inputs others turned))
    ∙ ap (λ amounts. inspected transaction (final_id transaction spends) (fee_line amounts transaction.outputs) (flat_map input_report others)) (fee_stays inputs others turned)
    ∙ ap (inspected transaction (final_id transaction spends) (fee_line (map (λ (input : Input). amount_in input.spend) inputs) transaction.outputs))
    (lines_stay input_report report_same inputs others turned)

hashes_stay : (inputs others : List Input) → AreTurned inputs others → hashes_report others ≡ hashes_report inputs
unfolding hashes_report
hashes_stay inputs others turned = lines_stay input_hashes hashes_same inputs others turned

verify_stays : (inputs others : List Input) → AreTurned inputs others → verify_report others ≡ verify_report inputs
unfolding verify_report
verify_stays inputs others turned = lines_stay input_verdict verify_same inputs others turned

command_stays : (it : Command) → ((verification : Verification) → it ≡ command.Finalize verification → ⊥) → (form other : Form) (psbt later : Psbt) → AreAgreeing psbt later
    → (inputs others : List Input) → AreTurned inputs others → command_reply it other later others ≡ command_reply it form psbt inputs
command_stays (command.Finalize verification) not form other psbt later agree inputs others turned = absurd (not verification refl)
command_stays (command.Inspect verification) not form other psbt later agree inputs others turned =
    ap (λ (b : Bool). reply (if b then status.Done else status.Open) (inspect_report later.transaction others)) (status_stays inputs others turned)
    ∙ ap (λ (t : Transaction). reply (settled_status inputs) (inspect_report t others)) (sym agree.transaction)
    ∙ ap (reply (settled_status inputs)) (inspect_stays psbt.transaction inputs others turned)
command_stays command.Extract not form other psbt later agree inputs others turned = extract_stays psbt later agree inputs others turned
command_stays (command.Hashes verification) not form other psbt later agree inputs others turned = ap (reply status.Done) (hashes_stay inputs others turned)
command_stays command.Verify not form other psbt later agree inputs others turned =
    ap (λ (b : Bool). reply (if b then status.Done else status.Open) (verify_report others)) (valid_stays inputs others turned)
    ∙ ap (reply (verify_status inputs)) (verify_stays inputs others turned)

pub versions_agree : VersionsAgree
versions_agree words source other psbt later status report read again agree not alone answer = record { replies = by_words (request_of words) not alone answer.replies }
  where
    by_psbt : (it : Command) → ((verification : Verification) → it ≡ command.Finalize verification → ⊥) → RepliesToPsbt it (form_of source) psbt (reply status report)
        → RepliesToPsbt it (form_of other) later (reply status report)
    by_psbt it not replies =
        let inputs = replies.0 in
        let are = replies.1 in
        let t = are_turned (verification_of it) psbt.transaction 0 psbt.transaction.inputs psbt.inputs later.inputs inputs agree.others are.spends (recursion_from_All HasReading inputs are.read) in
        let spends = t.spends ∙ ap (λ (t : Transaction). spends_from (verification_of it) t 0 t.inputs later.inputs) agree.transaction in (
          with_maps inputs later.inputs,
          record { spends = spends; read = All-from_recursion HasReading (with_maps inputs later.inputs) t.read },
          replies.2 ∙ sym (command_stays it not (form_of source) (form_of other) psbt later agree inputs (with_maps inputs later.inputs) t.turned),
        )

    by_words : (o : Option Request) → ((verification : Verification) → o ≡ Some (request.One (command.Finalize verification)) → ⊥)
        → (o ≡ Some request.Combine → ⊥) → RepliesToWords o source (reply status report) → RepliesToWords o other (reply status report)
    by_words None not alone replies = replies
    by_words (Some request.Combine) not alone replies = absurd (alone refl)
    by_words (Some (request.One it)) not alone replies =
        subst (λ result. RepliesToSource it (form_of other) result (reply status report)) (sym again)
        (by_psbt it (λ verification e. not verification (ap (λ c. Some (request.One c)) e)) (subst (λ result. RepliesToSource it (form_of source) result (reply status report)) read replies))
