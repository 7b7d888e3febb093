use Rattle.std.proofs.Common.{◌≡◌, not, drop}
use Rattle.std.specs.List.{position_from}
use Rattle.def_files.specs.AssetFile.{is_signature}
use Rattle.ms_assets.proofs.checking.check_signatures.Given as goal

abbrev pub invariant-loop-pair : goal.invariant-loop-pair
invariant-loop-pair l = record {
  place : l.place ≡ l.pair-index;
  refusal :
      position_from (λ pair. not (is_signature pair.1)) l.place (drop l.pair-index l.pairs)
      ≡ position_from (λ pair. not (is_signature pair.1)) 0 l.pairs;
}
