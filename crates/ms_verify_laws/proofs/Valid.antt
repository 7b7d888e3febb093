-- What it says of an input that its final fields are valid.
use Rattle.std.proofs.Common.{◌≡◌, ℕ, zero, suc, ◌-◌, ◌==◌, ◌&&◌, ◌||◌, not, Bool, true, false, List, [], ◌∷◌, ◌++◌, length, take, slice_get, inl, inr, Option, Some, None, Result, Ok, Err, refl, sym, ap, ◌∙◌, if◌then◌else◌, arith}
use Rattle.std.specs.Str.{bytes_eq}
use Rattle.std.proofs.lemmas.Bool.{cases_Bool, and_parts, eqb-true, not-false}
use Rattle.std.proofs.lemmas.Slice.Eq.{bytes_eq-Decides}
use Rattle.def_script.specs.Bytes.{Bytes}
use Rattle.def_machine.specs.Stacks.{Pairs}
use Rattle.def_machine.specs.Program.{program_of}
use Rattle.def_machine.specs.Run.{Outcome, run, accepted, refused}
use Rattle.def_psbt.specs.Transaction.{TransactionOutput}
use Rattle.def_spend.specs.declared.State.{State}
use Rattle.def_spend.specs.Input.{Spend}
use Rattle.def_spend.specs.Kinds.{is_p2sh, p2sh_of, is_script_hash, is_key_hash, IsGuardedBy, spent_utxo}
use Rattle.def_spend.specs.Reading.{key_hash_script}
use Rattle.def_spend.specs.States.{state_of, is_final}
use Rattle.def_spend.specs.Utxo.{Utxo}
use Rattle.def_spend.specs.Utxo as utxo
use Rattle.def_verify.specs.declared.Flaw.{Flaw}
use Rattle.def_verify.specs.declared.Flaw.TheVariants as flaw
use Rattle.def_verify.specs.Final.{Execution, final_script_sig, final_items, script_execution, key_execution, program_execution, no_execution, execution_by, execution_of}
use Rattle.def_verify.specs.Verdict.{not_final, valid, consensus_given, verdict_by, ran_verdict, output_verdict, utxo_verdict, final_verdict}
use Rattle.ms_spend_laws.specs.Ready.{output_in}
use Rattle.ms_verify_laws.specs.Valid.{IsRunFor, ValidIsAccepted}

abbrev executed : Execution → Result Execution Flaw
executed execution = Ok execution

abbrev stopped : Flaw → Result Execution Flaw
stopped flaw = Err flaw

same_execution : (a b : Execution) → executed a ≡ executed b → a ≡ b
same_execution a b e = cc

-- ---- the run

record IsRun (spend : Spend) (r : Result Execution Flaw) (script : Bytes) (checks : Pairs) : Type 0 where
  pub stack : List Bytes
  pub executed : r ≡ Ok (script, stack)
  pub ops : ℕ
  pub peak : ℕ
  pub ran : run (consensus_given spend script) script stack ≡ accepted ops peak checks

script_told : (a b : Bytes) (c d : Pairs) → valid a c ≡ valid b d → a ≡ b
script_told a b c d e = cc

checks_told : (a b : Bytes) (c d : Pairs) → valid a c ≡ valid b d → c ≡ d
checks_told a b c d e = cc

run_told : (spend : Spend) (own : Bytes) (stack : List Bytes) (script : Bytes) (checks : Pairs) (o : Outcome) → run (consensus_given spend own) own stack ≡ o
    → verdict_by own o ≡ valid script checks → IsRun spend (Ok (own, stack)) script checks
run_told spend own stack script checks (refused fault place) is e = absurd cc
run_told spend own stack script checks (accepted ops peak found) is e =
    let same = script_told own script found checks e in
    record {
      stack = stack;
      executed = ap (λ (s : Bytes). Ok (s, stack)) same;
      ops = ops;
      peak = peak;
      ran = ap (λ (s : Bytes). run (consensus_given spend s) s stack) (sym same) ∙ is ∙ ap (accepted ops peak) (checks_told own script found checks e);
    }

is_run : (spend : Spend) (r : Result Execution Flaw) (script : Bytes) (checks : Pairs) → ran_verdict spend r ≡ valid script checks → IsRun spend r script checks
is_run spend (Err told) script checks e = absurd cc
is_run spend (Ok (own, stack)) script checks e = run_told spend own stack script checks (run (consensus_given spend own) own stack) refl e

-- ---- what is run

last_of : (items : List Bytes) (n : ℕ) (item : Bytes) → length items ≡ suc n → slice_get items n ≡ Some item → items ≡ take n items ++ item ∷ []
last_of [] n item long e = absurd (omega (arith, long))
last_of (x ∷ []) zero item long e = let same : x ≡ item = cc in ap (λ (y : Bytes). y ∷ []) same
last_of (x ∷ y ∷ items) zero item long e = absurd (omega (arith, long))
last_of (x ∷ items) (suc n) item long e = ap (λ (l : List Bytes). x ∷ l) (last_of items n item (omega (arith, long)) e)

split_last : (items : List Bytes) (item : Bytes) → slice_get items (length items - 1) ≡ Some item → items ≡ take (length items - 1) items ++ item ∷ []
split_last [] item e = absurd cc
split_last (x ∷ items) item e = last_of (x ∷ items) (length (x ∷ items) - 1) item (omega arith) e

script_runs : (program : Bytes) (items : List Bytes) (script : Bytes) (stack : List Bytes) (o : Option Bytes) → slice_get items (length items - 1) ≡ o
    → script_execution program o (take (length items - 1) items) ≡ Ok (script, stack) → IsRunFor program items script stack
script_runs program items script stack None is e = absurd cc
script_runs program items script stack (Some last) is e = elim (cases_Bool (bytes_eq program (program_of last))) [
  | inl same ↦
      let both = same_execution (last, take (length items - 1) items) (script, stack) (rw same at e) in
      let own : last ≡ script = ap (λ (x : Execution). x.0) both in
      let rest : take (length items - 1) items ≡ stack = ap (λ (x : Execution). x.1) both in
      inl (
        (bytes_eq-Decides program (program_of last)).0 same ∙ ap program_of own,
        split_last items last is ∙ ap (λ (l : List Bytes). l ++ last ∷ []) rest ∙ ap (λ (s : Bytes). stack ++ s ∷ []) own,
      )
  | inr other ↦ absurd (never (rw other at e))
]
  where
    never : stopped flaw.WrongScript ≡ executed (script, stack) → ⊥
    never e = cc

key_runs : (program : Bytes) (items : List Bytes) (script : Bytes) (stack : List Bytes) → is_key_hash program ≡ true → key_execution program items ≡ Ok (script, stack)
    → IsRunFor program items script stack
key_runs program items script stack key e = elim (cases_Bool (length items == 2)) [
  | inl two ↦
      let both = same_execution (key_hash_script program, items) (script, stack) (rw two at e) in
      let rest : items ≡ stack = ap (λ (x : Execution). x.1) both in
      inr (key, sym (ap (λ (x : Execution). x.0) both), rest, ap length (sym rest) ∙ eqb-true (length items) 2 two)
  | inr other ↦ absurd (never (rw other at e))
]
  where
    never : stopped flaw.ItemCount ≡ executed (script, stack) → ⊥
    never e = cc

abbrev by_hash : Bool → (program : Bytes) → (items : List Bytes) → Result Execution Flaw
by_hash script_hash program items =
    if script_hash then script_execution program (slice_get items (length items - 1)) (take (length items - 1) items) else key_execution program items

program_runs : (script_hash : Bool) (program : Bytes) (items : List Bytes) (script : Bytes) (stack : List Bytes) → (script_hash || is_key_hash program) ≡ true
    → by_hash script_hash program items ≡ Ok (script, stack) → IsRunFor program items script stack
program_runs true program items script stack known e = script_runs program items script stack (slice_get items (length items - 1)) refl e
program_runs false program items script stack known e = key_runs program items script stack known e

abbrev known_execution : (known beside : Bool) → (program : Bytes) → (items : List Bytes) → Result Execution Flaw
known_execution known beside program items =
    if not known then Err flaw.OtherOutput else if beside then Err flaw.ScriptSig else program_execution program items

known_runs : (known beside : Bool) (program : Bytes) (items : List Bytes) (script : Bytes) (stack : List Bytes) → (is_script_hash program || is_key_hash program) ≡ known
    → known_execution known beside program items ≡ Ok (script, stack) → (beside ≡ false) × IsRunFor program items script stack
known_runs false beside program items script stack is e = absurd cc
known_runs true true program items script stack is e = absurd cc
known_runs true false program items script stack is e = (refl, program_runs (is_script_hash program) program items script stack is e)

-- ---- the program

record IsGuardedRun (spent script_sig : Bytes) (items : List Bytes) (script : Bytes) (stack : List Bytes) : Type 0 where
  pub program : Bytes
  pub guarded : IsGuardedBy program spent script_sig
  pub runs : IsRunFor program items script stack

none_runs : (items : List Bytes) (script : Bytes) (stack : List Bytes) → no_execution items ≡ Ok (script, stack) → ⊥
none_runs [] script stack e = cc
none_runs (item ∷ items) script stack e = cc

nested_runs : (spent script_sig : Bytes) (items : List Bytes) (script : Bytes) (stack : List Bytes) → is_p2sh spent ≡ true
    → execution_of spent script_sig items ≡ Ok (script, stack) → IsGuardedRun spent script_sig items script stack
nested_runs spent [] items script stack nested e = absurd (none_runs items script stack (rw nested at e))
nested_runs spent (size ∷ redeem) items script stack nested e = go ((size == length redeem) && bytes_eq spent (p2sh_of redeem)) refl (rw nested at e)
  where
    go : (b : Bool) → ((size == length redeem) && bytes_eq spent (p2sh_of redeem)) ≡ b
        → execution_by (if b then Some redeem else None) false items ≡ Ok (script, stack) → IsGuardedRun spent (size ∷ redeem) items script stack
    go false is e = absurd (none_runs items script stack e)
    go true is e =
        let parts = and_parts (size == length redeem) (bytes_eq spent (p2sh_of redeem)) is in
        record {
          program = redeem;
          guarded = inr ((bytes_eq-Decides spent (p2sh_of redeem)).0 parts.1, ap (λ (n : ℕ). n ∷ redeem) (eqb-true size (length redeem) parts.0));
          runs = (known_runs (is_script_hash redeem || is_key_hash redeem) false redeem items script stack refl e).1;
        }

plain_runs : (spent script_sig : Bytes) (items : List Bytes) (script : Bytes) (stack : List Bytes) → is_p2sh spent ≡ false
    → execution_of spent script_sig items ≡ Ok (script, stack) → IsGuardedRun spent script_sig items script stack
plain_runs spent script_sig items script stack plain e =
    let known = known_runs (is_script_hash spent || is_key_hash spent) (not (bytes_eq script_sig [])) spent items script stack refl (rw plain at e) in
    record { program = spent; guarded = inl (refl, (bytes_eq-Decides script_sig []).0 (not-false _ known.0)); runs = known.1 }

guarded_runs : (spent script_sig : Bytes) (items : List Bytes) (script : Bytes) (stack : List Bytes) → execution_of spent script_sig items ≡ Ok (script, stack)
    → IsGuardedRun spent script_sig items script stack
guarded_runs spent script_sig items script stack e = elim (cases_Bool (is_p2sh spent)) [
  | inl nested ↦ nested_runs spent script_sig items script stack nested e
  | inr plain ↦ plain_runs spent script_sig items script stack plain e
]

-- ---- the spent output

utxo_told : (spend : Spend) (u : Utxo) (script : Bytes) (checks : Pairs) → utxo_verdict spend u ≡ valid script checks
    → (output : TransactionOutput) × (output_in u ≡ Some output) × (output_verdict spend output ≡ valid script checks)
utxo_told spend utxo.none script checks e = absurd cc
utxo_told spend utxo.wrong script checks e = absurd cc
utxo_told spend (utxo.proved output) script checks e = (output, refl, e)
utxo_told spend (utxo.claimed output) script checks e = (output, refl, e)

final_told : (b : Bool) (told : State) (spend : Spend) (script : Bytes) (checks : Pairs) → (if b then final_verdict spend else not_final told) ≡ valid script checks
    → (b ≡ true) × (final_verdict spend ≡ valid script checks)
final_told true told spend script checks e = (refl, e)
final_told false told spend script checks e = absurd cc

pub valid_is_accepted : ValidIsAccepted
valid_is_accepted input script checks e =
    let final = final_told (is_final (state_of input)) (state_of input) input.spend script checks e in
    let known = utxo_told input.spend (spent_utxo input.spend) script checks final.1 in
    let output : TransactionOutput = known.0 in
    let r = is_run input.spend (execution_of output.script (final_script_sig input.spend) (final_items input.spend)) script checks known.2 in
    let g = guarded_runs output.script (final_script_sig input.spend) (final_items input.spend) script r.stack r.executed in
    record {
      final = final.0;
      output = output;
      spent = known.1;
      program = g.program;
      guarded = g.guarded;
      stack = r.stack;
      runs = g.runs;
      ops = r.ops;
      peak = r.peak;
      run = r.ran;
    }
