-- The final witness of an input fits, its replay is accepted, and nobody can change it.
use Rattle.std.proofs.Common.{◌≡◌, ◌≤◌, ◌^◌, List, Option, Some, None, sym, ap, subst, refl}
use Rattle.std.specs.Prelude.{IfSome}
use Rattle.def_script.specs.Bytes.{Bytes}
use Rattle.def_script.specs.Witness.{witness_text, weight}
use Rattle.def_tree.specs.Tree.{Tree}
use Rattle.def_tree.specs.InRange.{IsInRange}
use Rattle.def_emit.specs.Emit.{script_of}
use Rattle.def_assets.specs.Assets.{Assets}
use Rattle.def_files.specs.Laws.{AreFewAssets}
use Rattle.def_machine.specs.Program.{program_of}
use Rattle.def_sane.specs.declared.Rules.TheVariants.{Policy, Consensus}
use Rattle.def_sane.specs.Unfit.{IsSane, IsSaneUnder}
use Rattle.def_sane.proofs.Meanings.{sane_means_under, sane_under_consensus}
use Rattle.def_satisfaction.specs.Satisfaction.{Sat}
use Rattle.def_choice.specs.Strict.{strict}
use Rattle.def_choice.proofs.Chosen.{strict_is_canonical}
use Rattle.def_promises.specs.Accepted.{Unchangeable}
use Rattle.ms_row_laws.proofs.WithinLimits.{light_stack}
use Rattle.ms_strict_laws.proofs.TightIsUnchangeable.{strict_is_unchangeable}
use Rattle.ms_replay.proofs.Accepted.{Satisfies, fits_witness, is_accepting}
use Rattle.ms_witness.specs.Reading.{FitsWitness}
use Rattle.ms_input.specs.Witnesses.{IsReplayed}

-- the strict choice of a sane miniscript, and its Script
pub record IsChosen (tree : Tree) (script : Bytes) (assets : Assets) (stack : List Bytes) : Type 0 where
  pub in_range : IsInRange tree
  pub sane : IsSane tree
  pub same : script_of tree ≡ script
  pub few : AreFewAssets assets
  pub chosen : strict tree assets ≡ Some stack

by_consensus : (tree : Tree) → IsSane tree → IsSaneUnder Consensus tree
by_consensus tree sane = sane_under_consensus Policy tree sane

satisfies : (tree : Tree) (script : Bytes) (assets : Assets) (stack : List Bytes) → IsChosen tree script assets stack → Satisfies tree assets stack
satisfies tree script assets stack h = record {
  in_range = h.in_range;
  valid = ((sane_means_under Consensus tree).0 (by_consensus tree h.sane)).0;
  few = h.few;
  sat = strict_is_canonical tree assets stack h.in_range.writable h.few.held h.chosen;
}

pub fits : (tree : Tree) (script : Bytes) (assets : Assets) (stack : List Bytes) → IsChosen tree script assets stack → FitsWitness stack script
fits tree script assets stack h = subst (FitsWitness stack) h.same (fits_witness tree assets stack (satisfies tree script assets stack h))

pub is_replayed : (tree : Tree) (script : Bytes) (assets : Assets) (stack : List Bytes) → IsChosen tree script assets stack →
    IsReplayed assets script (witness_text stack script)
is_replayed tree script assets stack h checker holds =
    is_accepting tree assets stack assets.locks (program_of script) (witness_text stack script) checker (satisfies tree script assets stack h)
    (record {
      same_locks = refl;
      is_program = ap program_of (sym h.same);
      is_witness = ap (witness_text stack) (sym h.same);
    }) holds

pub is_unchangeable : (tree : Tree) (script : Bytes) (assets : Assets) (stack : List Bytes) → IsChosen tree script assets stack → Unchangeable tree assets stack
is_unchangeable tree script assets stack h =
    strict_is_unchangeable tree assets stack h.in_range.writable (by_consensus tree h.sane) h.few.held h.chosen

-- the strict choice is light
pub is_light : (tree : Tree) (assets : Assets) (found : Option (List Bytes)) → IsInRange tree → IsSane tree → AreFewAssets assets →
    ((stack : List Bytes) → found ≡ Some stack → Sat tree assets stack) → IfSome found (λ stack. weight stack ≤ 2 ^ 40)
is_light tree assets None in_range sane few sat = tt
is_light tree assets (Some stack) in_range sane few sat =
    light_stack tree assets stack in_range.writable (((sane_means_under Consensus tree).0 (by_consensus tree sane)).0) few.held (sat stack refl)
