-- What a check asks is what consensus takes of the spend.
use Rattle.std.proofs.Common.{◌≡◌, ℕ, List, sym, ◌∙◌, ap}
use Rattle.def_script.specs.Bytes.{Bytes}
use Rattle.def_machine.specs.declared.Locks.{Locks}
use Rattle.def_spend.specs.Fields.{last_byte}
use Rattle.def_spend.specs.Input.{Spend, locks_of}
use Rattle.def_curve.specs.Judgement.{judge}
use Rattle.def_verify.specs.Check.{is_taken, judged_in, consensus_check}
use Rattle.def_verify.specs.ConsensusHash.{consensus_hash}
use Rattle.def_machine.specs.Run.{Outcome, run}
use Rattle.def_verify.specs.Verdict.{consensus_given, verdict_by}
use Rattle.ms_interp.specs.Answering.{given_by}
use Rattle.ms_sighash.specs.Shared.{shared_of, hash_of_output, byte_hash}
use Rattle.ms_sighash.proofs.Signed.{byte_hash_is}
use Rattle.ms_input.specs.Checking.{Asked, judged_from, check_from}
use Rattle.ms_input.specs.Signing.{IsAsked}

pub hash_is : (byte : ℕ) (spend : Spend) (asked : Asked) → IsAsked spend asked
    → byte_hash byte asked.shared asked.input asked.single asked.script asked.amount ≡ consensus_hash byte spend asked.script
hash_is byte spend asked h =
    ap (λ s. byte_hash byte s asked.input asked.single asked.script asked.amount) h.shared
    ∙ ap (λ o. byte_hash byte (shared_of spend.transaction) asked.input o asked.script asked.amount) h.single
    ∙ ap (byte_hash byte (shared_of spend.transaction) asked.input (hash_of_output h.output) asked.script) h.amount
    ∙ byte_hash_is byte spend asked.input h.output asked.script h.signed

-- so is its judgement of a signature by a key
pub judged_is : (spend : Spend) (asked : Asked) (key sig : Bytes) → IsAsked spend asked → judged_from asked key sig ≡ judged_in spend asked.script key sig
judged_is spend asked key sig h = ap (λ hash. judge key hash sig) (hash_is (last_byte sig) spend asked h)

pair_is : (spend : Spend) (asked : Asked) → IsAsked spend asked → (key sig : Bytes) → check_from asked key sig ≡ consensus_check spend asked.script key sig
pair_is spend asked h key sig = ap is_taken (judged_is spend asked key sig h)

pub check_is : (spend : Spend) (asked : Asked) → IsAsked spend asked → check_from asked ≡ consensus_check spend asked.script
check_is spend asked h = λ i key sig. pair_is spend asked h key sig i

pub given_is : (spend : Spend) (asked : Asked) (locks : Locks) → IsAsked spend asked → locks ≡ locks_of spend
    → given_by (check_from asked) locks ≡ consensus_given spend asked.script
given_is spend asked locks h same =
    ap (λ c. given_by c locks) (check_is spend asked h) ∙ ap (given_by (consensus_check spend asked.script)) same

-- what comes of a run that was asked so is what comes of that which consensus takes
pub ran_is : (spend : Spend) (check asked : Asked) (locks : Locks) (script given : Bytes) (stack main : List Bytes) (outcome : Outcome)
    → asked ≡ record check { script = script } → IsAsked spend check → locks ≡ locks_of spend → given ≡ script → main ≡ stack
    → run (given_by (check_from asked) locks) given main ≡ outcome
    → verdict_by script outcome ≡ verdict_by script (run (consensus_given spend script) script stack)
ran_is spend check asked locks script given stack main outcome same h of_spend same_script same_stack ran =
    let told : IsAsked spend (record check { script = script }) =
    record { output = h.output; shared = h.shared; signed = h.signed; single = h.single; amount = h.amount } in
    ap (verdict_by script) (sym ran
    ∙ ap (λ (a : Asked). run (given_by (check_from a) locks) given main) same
    ∙ ap (λ g. run g given main) (given_is spend (record check { script = script }) locks told of_spend)
    ∙ ap (λ (s : Bytes). run (consensus_given spend script) s main) same_script
    ∙ ap (run (consensus_given spend script) script) same_stack)
