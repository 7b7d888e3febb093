-- The witness of a canonical satisfaction fits, and its replay is an accepted run.
use Rattle.std.proofs.Common.{◌≡◌, ℕ, ◌≤◌, List, [], ◌∷◌, length, All, sym, ap, ◌∙◌, arith}
use Rattle.std.proofs.lemmas.List.Elements.{All-head, All-tail, All-nil, All-cons}
use Rattle.def_script.specs.Bytes.{Bytes}
use Rattle.def_script.specs.Signature.{MAX_SIGNATURE_SIZE}
use Rattle.def_script.specs.Witness.{witness_text}
use Rattle.def_machine.specs.declared.Locks.{Locks}
use Rattle.def_machine.specs.Stacks.{Pairs, Checker}
use Rattle.def_machine.specs.Run.{Outcome, run, accepted}
use Rattle.def_tree.specs.Tree.{Tree}
use Rattle.def_tree.specs.InRange.{IsInRange}
use Rattle.def_emit.specs.Emit.{script_of}
use Rattle.def_assets.specs.Assets.{Assets}
use Rattle.def_files.specs.Laws.{AreFewAssets}
use Rattle.def_limits.specs.declared.Limits.{Limits}
use Rattle.def_limits.specs.Limits.{AreLimits}
use Rattle.def_limits.specs.Scaffolding.Most.{limits_of}
use Rattle.def_sane.specs.declared.Rules.TheVariants.{Consensus}
use Rattle.def_sane.specs.Unfit.{IsValidUnder}
use Rattle.def_limits.proofs.Greatest.{limits_are_computed}
use Rattle.def_satisfaction.specs.Satisfaction.{Sat, Holds}
use Rattle.def_choice.specs.NonMalleable.{given_with}
use Rattle.def_machine.specs.Program.{program_of}
use Rattle.def_promises.specs.Accepted.{IsAcceptedWithin}
use Rattle.ms_acceptance_laws.proofs.Accepted.{canonical_is_accepted}
use Rattle.ms_row_laws.proofs.WithinLimits.{within_limits, valid_limits}
use Rattle.ms_interp.specs.Answering.{given_by}
use Rattle.ms_replay.specs.Answering.{IsAccepting}
use Rattle.ms_witness.specs.Reading.{FitsWitness}
use Rattle.ms_witness.specs.Replaying.{replay, ran}
use Rattle.ms_witness.proofs.Witnesses.{witness_is_replayed}

-- a canonical satisfaction of a valid miniscript
pub record Satisfies (tree : Tree) (assets : Assets) (stack : List Bytes) : Type 0 where
  pub in_range : IsInRange tree
  pub valid : IsValidUnder Consensus tree
  pub few : AreFewAssets assets
  pub sat : Sat tree assets stack

-- its run is accepted under every table that holds the assets' pairs
pub is_within : (tree : Tree) (assets : Assets) (stack : List Bytes) → Satisfies tree assets stack →
    (limits : Limits) (checker : Checker) → AreLimits tree limits → Holds checker assets → IsAcceptedWithin tree limits (given_with assets checker) stack
is_within tree assets stack s limits checker are_limits holds =
    canonical_is_accepted tree limits assets checker stack s.in_range.writable s.valid are_limits s.few.held holds s.sat

-- items of at most 73 bytes fit a witness
items_fit : (stack : List Bytes) → All (λ item. length item ≤ MAX_SIGNATURE_SIZE) stack → All (λ item. length item ≤ 10000) stack
items_fit [] h = All-nil (λ item. length item ≤ 10000)
items_fit (x ∷ stack) h =
    let i = All-head (λ item. length item ≤ MAX_SIGNATURE_SIZE) x stack h in
    All-cons (λ item. length item ≤ 10000) x stack (omega (arith, i)) (items_fit stack (All-tail (λ item. length item ≤ MAX_SIGNATURE_SIZE) x stack h))

pub fits_witness : (tree : Tree) (assets : Assets) (stack : List Bytes) → Satisfies tree assets stack → FitsWitness stack (script_of tree)
fits_witness tree assets stack s =
    let limits = limits_of tree in
    let are_limits : AreLimits tree limits = limits_are_computed tree in
    let within = within_limits tree limits assets stack s.in_range.writable are_limits s.few.held s.sat in
    let most = valid_limits tree limits s.valid are_limits in
    let size : limits.size ≡ length (script_of tree) = are_limits.size in
    record {
      few = omega (arith, within.0, most.2);
      items = items_fit stack within.2;
      last = omega (arith, size, most.0);
    }

-- its locks, the program of its Script, and its witness
pub record Written (tree : Tree) (assets : Assets) (stack : List Bytes) (locks : Locks) (program bytes : Bytes) : Type 0 where
  pub same_locks : locks ≡ assets.locks
  pub is_program : program ≡ program_of (script_of tree)
  pub is_witness : bytes ≡ witness_text stack (script_of tree)

-- the replay of its witness is the run of its Script
is_run : (tree : Tree) (assets : Assets) (stack : List Bytes) (locks : Locks) (program bytes : Bytes) (checker : Checker) →
    Satisfies tree assets stack → Written tree assets stack locks program bytes →
    replay (given_by checker locks) program bytes ≡ ran (run (given_with assets checker) (script_of tree) stack)
is_run tree assets stack locks program bytes checker s w =
    rw (w.same_locks, w.is_program, w.is_witness)
    (witness_is_replayed (given_with assets checker) stack (script_of tree) (fits_witness tree assets stack s))

-- which is accepted
pub is_accepting : (tree : Tree) (assets : Assets) (stack : List Bytes) (locks : Locks) (program bytes : Bytes) (checker : Checker) →
    Satisfies tree assets stack → Written tree assets stack locks program bytes → Holds checker assets →
    IsAccepting (replay (given_by checker locks) program bytes)
is_accepting tree assets stack locks program bytes checker s w holds =
    let within = is_within tree assets stack s (limits_of tree) checker (limits_are_computed tree) holds in
    record {
      ops = within.ops;
      peak = within.peak;
      checks = within.checks;
      is = is_run tree assets stack locks program bytes checker s w ∙ ap ran within.run;
    }

same_run : (a b : Outcome) → ran a ≡ ran b → a ≡ b
same_run a b e = cc

-- what the replay tells of the run
pub run_is : (tree : Tree) (assets : Assets) (stack : List Bytes) (locks : Locks) (program bytes : Bytes) (checker : Checker) (outcome : Outcome) →
    Satisfies tree assets stack → Written tree assets stack locks program bytes →
    replay (given_by checker locks) program bytes ≡ ran outcome → run (given_with assets checker) (script_of tree) stack ≡ outcome
run_is tree assets stack locks program bytes checker outcome s w e =
    same_run _ outcome (sym (is_run tree assets stack locks program bytes checker s w) ∙ e)

same_ops : (a b peak peak' : ℕ) (checks checks' : Pairs) → accepted a peak checks ≡ accepted b peak' checks' → a ≡ b
same_ops a b peak peak' checks checks' e = cc

-- the opcodes that it tells are within the limits
pub few_ops : (tree : Tree) (assets : Assets) (stack : List Bytes) (locks : Locks) (program bytes : Bytes) (checker : Checker) (ops peak : ℕ) (checks : Pairs) →
    Satisfies tree assets stack → Written tree assets stack locks program bytes → Holds checker assets →
    replay (given_by checker locks) program bytes ≡ ran (accepted ops peak checks) →
    (limits : Limits) → AreLimits tree limits → ops ≤ limits.ops
few_ops tree assets stack locks program bytes checker ops peak checks s w holds e limits are_limits =
    let within = is_within tree assets stack s limits checker are_limits holds in
    let run = run_is tree assets stack locks program bytes checker (accepted ops peak checks) s w e in
    let same : ops ≡ within.ops = same_ops ops within.ops peak within.peak checks within.checks (sym run ∙ within.run) in
    let few = within.few_ops in
    omega (arith, same, few)
