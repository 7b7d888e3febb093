use Rattle.std.proofs.Common.{◌≡◌, not, map, drop, ◌++◌}
use Rattle.std.specs.List.{position_from}
use Rattle.serde_json.specs.View.{view}
use Rattle.def_files.specs.Parts.{is_hex_pair, key_of, sig_of}
use Rattle.ms_assets.proofs.texts.read_pairs.Given as goal

abbrev pub invariant-loop-element : goal.invariant-loop-element
invariant-loop-element l = record {
  place : l.place ≡ l.element-index;
  refusal :
      position_from (λ e. not (is_hex_pair e)) l.place (map view (drop l.element-index l.elements))
      ≡ position_from (λ e. not (is_hex_pair e)) 0 (map view l.elements);
  pairs :
      l.pairs ++ map (λ e. (key_of e, sig_of e)) (map view (drop l.element-index l.elements))
      ≡ map (λ e. (key_of e, sig_of e)) (map view l.elements);
}
