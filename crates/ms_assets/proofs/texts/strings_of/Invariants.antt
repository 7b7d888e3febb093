use Rattle.std.proofs.Common.{◌≡◌, not, map, drop, ◌++◌}
use Rattle.std.specs.List.{position_from}
use Rattle.serde_json.specs.View.{view}
use Rattle.def_files.specs.Parts.{is_hex, bytes_of}
use Rattle.ms_assets.proofs.texts.strings_of.Given as goal

abbrev pub invariant-loop-element : goal.invariant-loop-element
invariant-loop-element l = record {
  place : l.place ≡ l.element-index;
  refusal :
      position_from (λ e. not (is_hex e)) l.place (map view (drop l.element-index l.elements))
      ≡ position_from (λ e. not (is_hex e)) 0 (map view l.elements);
  strings :
      l.strings ++ map bytes_of (map view (drop l.element-index l.elements))
      ≡ map bytes_of (map view l.elements);
}
