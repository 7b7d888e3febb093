use Rattle.std.proofs.Common.{◌≡◌, not, drop, ◌++◌}
use Rattle.std.specs.List.{position_from}
use Rattle.def_files.specs.AssetFile.{is_preimage}
use Rattle.ms_assets.proofs.asset_file.preimages_of.Given as goal

abbrev pub invariant-loop-i : goal.invariant-loop-i
invariant-loop-i l = record {
  refusal :
      position_from (λ preimage. not (is_preimage preimage)) l.i (drop l.i l.strings)
      ≡ position_from (λ preimage. not (is_preimage preimage)) 0 l.strings;
  preimages : l.preimages.items ++ drop l.i l.strings ≡ l.strings;
}
