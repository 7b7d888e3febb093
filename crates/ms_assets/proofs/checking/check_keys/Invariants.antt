use Rattle.std.proofs.Common.{◌≡◌, not, drop}
use Rattle.std.specs.List.{position_from}
use Rattle.def_script.specs.Key.{is_key}
use Rattle.ms_assets.proofs.checking.check_keys.Given as goal

abbrev pub invariant-loop-pair : goal.invariant-loop-pair
invariant-loop-pair l = record {
  place : l.place ≡ l.pair-index;
  refusal :
      position_from (λ pair. not (is_key pair.0)) l.place (drop l.pair-index l.pairs)
      ≡ position_from (λ pair. not (is_key pair.0)) 0 l.pairs;
}
