-- Satisfactions without a signature: they are canonical with signatures too, and with the letter s there is none.
use Rattle.std.proofs.Common.{◌≡◌, true, refl, sym, ◌∙◌}
use Rattle.std.proofs.lemmas.Bool.{false≢true}
use Rattle.def_machine.specs.Stacks.{Stack}
use Rattle.def_tree.specs.Tree.{Tree}
use Rattle.def_types.specs.Typed.{IsTyped, properties_of}
use Rattle.def_assets.specs.Assets.{Assets, unsigned}
use Rattle.def_sane.specs.Keys.{keys}
use Rattle.def_satisfaction.specs.Satisfaction.{canonical}
use Rattle.def_satisfaction.proofs.Wider.{Within, IsWider, row_within}
use Rattle.def_choice.specs.Tight.{signed_row, free_row}
use Rattle.ms_row_laws.proofs.NeededSignatures.{needs, bare_is_bad, no_table}

free_is_wider : (assets : Assets) → IsWider (canonical (unsigned assets)) (canonical assets)
free_is_wider assets = record {
  signatures = λ key sig h. absurd (false≢true (sym (bare_is_bad key sig) ∙ h));
  older = λ n h. h;
  after = λ n h. h;
  preimages = λ kind value preimage h. h;
  keys = λ key other h. h;
  rows = λ h. h;
}

pub free_within : (assets : Assets) (tree : Tree) → Within (free_row assets tree).sat (signed_row assets tree).sat
free_within assets tree = let i = row_within _ _ (free_is_wider assets) tree in i.sat

pub signed_dsat : (assets : Assets) (tree : Tree) → Within (free_row assets tree).dsat (signed_row assets tree).dsat
signed_dsat assets tree = let i = row_within _ _ (free_is_wider assets) tree in i.dsat

pub signs : (assets : Assets) (tree : Tree) → IsTyped tree → (properties_of tree).s ≡ true → (w : Stack) → (free_row assets tree).sat w → ⊥
signs assets tree t s w h =
    let n = needs (canonical (unsigned assets)) tree t (no_table (canonical (unsigned assets)) (keys tree) refl) in
    n.sat s w h
