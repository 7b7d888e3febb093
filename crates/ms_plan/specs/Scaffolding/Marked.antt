-- Two assets whose signatures are marked in both ways.
use Rattle.std.specs.Prelude.{◌≡◌}
use Rattle.def_assets.specs.Assets.{Assets, AreAssets}
use Rattle.def_plan.specs.Lengths.{Lengths, AreLengths}
use Rattle.ms_plan.specs.declared.marks.Marks.{Marks}
use Rattle.ms_plan.specs.declared.marks.Marks.TheVariants as marks
use Rattle.ms_plan.specs.Scaffolding.Marks.{marked}

-- these assets with marked signatures alone
abbrev pub with_marks : Assets → Lengths → Marks → Assets
with_marks assets table m = record assets { pairs = marked m 0 table }

pub record AreMarked (assets : Assets) (table : Lengths) (first second : Assets) : Type 0 where
  pub held : AreAssets assets
  pub lengths : AreLengths table
  pub rising : first ≡ with_marks assets table marks.Rising
  pub falling : second ≡ with_marks assets table marks.Falling
