-- What is promised of the stack of a Ready input, and of an Unsatisfied one.
use Rattle.std.proofs.Common.{◌≡◌, ℕ, ◌≤◌, Bool, true, List, length, Option, Some, Ok, inl, inr, if◌then◌else◌, sym, ap, subst, ◌∙◌, arith}
use Rattle.std.proofs.lemmas.Bool.{false≢true}
use Rattle.std.proofs.lemmas.List.Elements.{All-weaker}
use Rattle.def_script.specs.Bytes.{Bytes}
use Rattle.def_script.specs.Signature.{MAX_SIGNATURE_SIZE}
use Rattle.def_script.specs.Witness.{items_text, witness_text, weight}
use Rattle.def_machine.specs.Stacks.{Checker}
use Rattle.def_machine.specs.Machine.{Given}
use Rattle.def_machine.specs.Program.{program_of}
use Rattle.def_tree.specs.Tree.{Tree}
use Rattle.def_emit.specs.Emit.{script_of}
use Rattle.def_limits.specs.declared.Limits.{Limits}
use Rattle.def_sane.specs.declared.Rules.TheVariants.{Consensus}
use Rattle.def_limits.specs.Limits.{AreLimits}
use Rattle.def_limits.specs.Scaffolding.Most.{limits_of}
use Rattle.def_sane.specs.Unfit.{IsValidUnder}
use Rattle.def_limits.proofs.Greatest.{limits_are_computed}
use Rattle.def_sane.proofs.Meanings.{sane_means_under}
use Rattle.def_satisfaction.specs.Satisfaction.{Sat, Holds}
use Rattle.def_choice.specs.NonMalleable.{NonMalleable, given_with}
use Rattle.def_choice.specs.Strict.{strict}
use Rattle.def_choice.proofs.Chosen.{strict_is_canonical, strict_is_tight}
use Rattle.def_promises.specs.Accepted.{IsAcceptedWithin, Unchangeable, HasNothingToAccept}
use Rattle.ms_acceptance_laws.proofs.Accepted.{canonical_is_accepted}
use Rattle.ms_row_laws.proofs.WithinLimits.{within_limits, valid_limits}
use Rattle.ms_strict_laws.proofs.TightIsUnchangeable.{strict_is_unchangeable, nothing_to_accept}
use Rattle.ms_strict_laws.proofs.UnchangeableIsTight.{strict_is_lightest}
use Rattle.ms_witness.specs.Reading.{FitsWitness}
use Rattle.ms_witness.specs.Replaying.{replay, ran}
use Rattle.ms_witness.proofs.Witnesses.{witness_is_replayed}
use Rattle.def_spend.specs.declared.State.TheVariants as state
use Rattle.def_decode.specs.Decoded.{IsDecoded}
use Rattle.def_psbt.specs.Types.{IN_WITNESS_SCRIPT}
use Rattle.def_spend.specs.Fields.{field, keys_in}
use Rattle.def_spend.specs.Hashes.{script_or_none, script_in}
use Rattle.def_spend.specs.Good.{assets_of}
use Rattle.def_spend.specs.Kinds.{IsGuardedBy, kind_of, ends_in_script}
use Rattle.def_spend.specs.Reading.{Input, key_hash_script}
use Rattle.def_spend.specs.States.{stack_of}
use Rattle.def_spend.specs.Finalized.{script_sig_of}
use Rattle.ms_given_laws.specs.Given.{EachIsSound}
use Rattle.ms_spend_laws.specs.Tried.{IsTried, OfEachIn}
use Rattle.ms_spend_laws.specs.Ready.{spent_output, ReadyIsCanonical, IsScriptWitness, IsKeyWitness, IsWitness, ReadyHasWitness, ReplaysAccepted, IsAcceptedByAll, ReadyIsAccepted, ReadyIsUnchangeable, ReadyIsTight, ReadyIsLightest}
use Rattle.ms_spend_laws.specs.Unsatisfied.{UnsatisfiedHasNothing}
use Rattle.ms_spend_laws.proofs.Inputs.{IsGiven, held}
use Rattle.ms_spend_laws.proofs.Counted.{counted_among}
use Rattle.ms_spend_laws.proofs.KeyHash.{key_hash_is_read_as_pkh, pkh_stack}
use Rattle.ms_spend_laws.proofs.States.{IsScriptFor, IsKeyHashFor, SpendTells, script_is, ready_some, unsatisfied_none, writes, sane_for_all, stack_is, of_each_in}

-- an input whose stack is chosen
pub record IsChosen (input : Input) (tree : Tree) (script : Bytes) : Type 0 where
  pub given : IsGiven input
  pub tried : IsTried input tree script
  pub chosen : strict tree (assets_of input.spend) ≡ Some (stack_of input)

-- what holds of these holds of each that is Ready
pub of_each_ready : EachIsSound → (Holds : Input → Tree → Type 0) → ((input : Input) (tree : Tree) (script : Bytes) → IsChosen input tree script → Holds input tree) → OfEachIn state.Ready Holds
of_each_ready law Holds holds = of_each_in law state.Ready tt Holds (λ input tree script given tried e.
    let some = ready_some (strict tree (assets_of input.spend)) e in
    let stack = stack_is input tree script some.0 tried some.1 in
    holds input tree script (record { given = given; tried = tried; chosen = some.1 ∙ ap Some (sym stack) }))

pub canonical : (input : Input) (tree : Tree) (script : Bytes) → IsChosen input tree script → Sat tree (assets_of input.spend) (stack_of input)
canonical input tree script c = strict_is_canonical tree (assets_of input.spend) (stack_of input) (writes input tree script c.tried) (held input c.given) c.chosen

pub ready_is_canonical : EachIsSound → ReadyIsCanonical
ready_is_canonical law = of_each_ready law _ canonical

-- ---- the witness

-- the witness, by whether it ends in a script
abbrev witness_of_kind : Bool → (stack : List Bytes) → (script : Bytes) → Bytes
witness_of_kind ends stack script = if ends then witness_text stack script else items_text stack

same_script : (input : Input) (tree : Tree) (script : Bytes) → IsTried input tree script → script ≡ script_of tree
same_script input tree script t = sym t.decoded.reading.same

-- of P2WSH it is the one that ends in the script
script_witness : (input : Input) (tree : Tree) (script : Bytes) → IsTried input tree script
    → IsScriptFor (spent_output input.spend) (field IN_WITNESS_SCRIPT input.spend.fields) (kind_of input.spend) (script_sig_of input.spend) script → IsScriptWitness input tree
script_witness input tree script t found =
    let same = same_script input tree script t in
    record {
      kind = found.kind;
      script = found.held ∙ ap Some same;
      output = found.output;
      spent = found.spent;
      guarded = subst (λ (s : Bytes). IsGuardedBy (program_of s) found.output.script (script_sig_of input.spend)) same found.guarded;
      witness = ap (λ b. witness_of_kind b (stack_of input) (script_in input.spend)) found.kind
          ∙ ap (λ r. witness_text (stack_of input) (script_or_none r)) t.spends ∙ ap (witness_text (stack_of input)) same;
    }

-- of P2WPKH the signature and the key
key_witness : (input : Input) (tree : Tree) (script : Bytes) → IsChosen input tree script
    → IsKeyHashFor (spent_output input.spend) (kind_of input.spend) (script_sig_of input.spend) script → IsKeyWitness input tree
key_witness input tree script c found =
    let decoded : IsDecoded (keys_in input.spend.fields) (key_hash_script found.program) tree =
    subst (λ (s : Bytes). IsDecoded (keys_in input.spend.fields) s tree) found.is_script c.tried.decoded in
    let read = key_hash_is_read_as_pkh (keys_in input.spend.fields) found.program tree found.key_hash decoded in
    let sat = subst (λ (t : Tree). Sat t (assets_of input.spend) (stack_of input)) read.miniscript (canonical input tree script c) in
    let is = pkh_stack read.key (assets_of input.spend) (stack_of input) sat in
    record {
      key = read.key;
      sig = is.sig;
      held = counted_among input.spend.verification input.spend (read.key, is.sig) is.held;
      counts = is.held;
      miniscript = read.miniscript;
      output = found.output;
      spent = found.spent;
      guarded = subst (λ (p : Bytes). IsGuardedBy p found.output.script (script_sig_of input.spend)) read.is_program found.guarded;
      witness = ap (λ b. witness_of_kind b (stack_of input) (script_in input.spend)) found.kind ∙ ap items_text is.is_stack;
    }

pub witness_is : (input : Input) (tree : Tree) (script : Bytes) → IsChosen input tree script → IsWitness input tree
witness_is input tree script c = go (script_is input.spend script c.tried.spends)
  where
    go : SpendTells input.spend (Ok script) → IsWitness input tree
    go (inl found) = inl (script_witness input tree script c.tried found)
    go (inr found) = inr (key_witness input tree script c found)

pub ready_has_witness : EachIsSound → ReadyHasWitness
ready_has_witness law = of_each_ready law _ witness_is

-- ---- it is accepted

valid : (input : Input) (tree : Tree) (script : Bytes) → IsTried input tree script → IsValidUnder Consensus tree
valid input tree script t = ((sane_means_under Consensus tree).0 (sane_for_all input tree script t)).0

pub fits_witness : (input : Input) (tree : Tree) (script : Bytes) → IsChosen input tree script → FitsWitness (stack_of input) (script_of tree)
fits_witness input tree script c =
    let limits = limits_of tree in
    let are_limits : AreLimits tree limits = limits_are_computed tree in
    let within = within_limits tree limits (assets_of input.spend) (stack_of input) (writes input tree script c.tried) are_limits (held input c.given) (canonical input tree script c) in
    let most = valid_limits tree limits (valid input tree script c.tried) are_limits in
    let size : limits.size ≡ length (script_of tree) = are_limits.size in
    record {
      few = omega (arith, within.0, most.2);
      items = All-weaker (λ item. length item ≤ MAX_SIGNATURE_SIZE) (λ item. length item ≤ 10000) (λ item short. omega (arith, short)) (stack_of input) within.2;
      last = omega (arith, size, most.0);
    }

pub within : (input : Input) (tree : Tree) (script : Bytes) → IsChosen input tree script → (limits : Limits) (checker : Checker) → AreLimits tree limits → Holds checker (assets_of input.spend)
    → IsAcceptedWithin tree limits (given_with (assets_of input.spend) checker) (stack_of input)
within input tree script c limits checker are holds =
    canonical_is_accepted tree limits (assets_of input.spend) checker (stack_of input) (writes input tree script c.tried) (valid input tree script c.tried) are
    (held input c.given) holds (canonical input tree script c)

pub replays : (input : Input) (tree : Tree) (script : Bytes) → IsChosen input tree script → ends_in_script (kind_of input.spend) ≡ true
    → (checker : Checker) → Holds checker (assets_of input.spend) → ReplaysAccepted input tree (given_with (assets_of input.spend) checker)
replays input tree script c ends checker holds = go (script_is input.spend script c.tried.spends)
  where
    given : Given
    given = given_with (assets_of input.spend) checker

    go : SpendTells input.spend (Ok script) → ReplaysAccepted input tree given
    go (inr found) = absurd (false≢true (sym found.kind ∙ ends))
    go (inl found) =
        let w = script_witness input tree script c.tried found in
        let a = within input tree script c (limits_of tree) checker (limits_are_computed tree) holds in (
          a.ops,
          a.peak,
          a.checks,
          ap (replay given (program_of (script_of tree))) w.witness
              ∙ witness_is_replayed given (stack_of input) (script_of tree) (fits_witness input tree script c) ∙ ap ran a.run,
        )

pub ready_is_accepted : EachIsSound → ReadyIsAccepted
ready_is_accepted law = of_each_ready law IsAcceptedByAll (λ input tree script c. record { replayed = replays input tree script c; within = within input tree script c })

-- ---- nobody can change it

pub unchangeable : (input : Input) (tree : Tree) (script : Bytes) → IsChosen input tree script → Unchangeable tree (assets_of input.spend) (stack_of input)
unchangeable input tree script c =
    strict_is_unchangeable tree (assets_of input.spend) (stack_of input) (writes input tree script c.tried) (sane_for_all input tree script c.tried) (held input c.given) c.chosen

pub ready_is_unchangeable : EachIsSound → ReadyIsUnchangeable
ready_is_unchangeable law = of_each_ready law _ unchangeable

pub ready_is_tight : EachIsSound → ReadyIsTight
ready_is_tight law = of_each_ready law _ (λ input tree script c.
    strict_is_tight tree (assets_of input.spend) (stack_of input) (writes input tree script c.tried) (held input c.given) c.chosen)

-- the weight of the one that was chosen
weighs : (chosen : Option (List Bytes)) (stack : List Bytes) (most : ℕ) → chosen ≡ Some stack
    → ((found : List Bytes) × (chosen ≡ Some found) × (weight found ≤ most)) → weight stack ≤ most
weighs chosen stack most is found =
    let same : found.0 ≡ stack = cc (sym found.1 ∙ is) in subst (λ (s : List Bytes). weight s ≤ most) same found.2

lightest : (input : Input) (tree : Tree) (script : Bytes) → IsChosen input tree script → (other : List Bytes) → Sat tree (assets_of input.spend) other
    → NonMalleable tree (assets_of input.spend) other → weight (stack_of input) ≤ weight other
lightest input tree script c other sat unchanged =
    weighs (strict tree (assets_of input.spend)) (stack_of input) (weight other) c.chosen
    (strict_is_lightest tree (assets_of input.spend) other (writes input tree script c.tried) (sane_for_all input tree script c.tried) (held input c.given) sat unchanged)

pub ready_is_lightest : EachIsSound → ReadyIsLightest
ready_is_lightest law = of_each_ready law _ lightest

-- ---- there is nothing to accept

pub unsatisfied_has_nothing : EachIsSound → UnsatisfiedHasNothing
unsatisfied_has_nothing law = of_each_in law state.Unsatisfied tt (λ input tree. HasNothingToAccept tree (assets_of input.spend)) (λ input tree script given tried e.
    nothing_to_accept tree (assets_of input.spend) (writes input tree script tried) (sane_for_all input tree script tried) (held input given)
    (unsatisfied_none (strict tree (assets_of input.spend)) e))
