-- Keys that were read so far, and the machine that wants the next one.
use Rattle.std.proofs.Common.{◌≡◌, ℕ, ◌+◌, ◌-◌, ◌≤◌, List, length}
use Rattle.std.specs.Prelude.{All}
use Rattle.def_tree.specs.Range.{IsKey}
use Rattle.def_text.specs.Scaffolding.Reader.{Frame, multi_comma, multi_key}
use Rattle.ms_text.specs.Scaffolding.Place.{IsPlace, machine_from}
use Rattle.ms_text.proofs.arguments.key_list.Given as goal

abbrev pub invariant-loop-keys : goal.invariant-loop-keys
invariant-loop-keys l = record {
  place : IsPlace l.text l.at;
  measure : length l.keys.items + l.fn.at + 1 ≤ l.at;
  writable : All IsKey l.keys.items;
  reads : (k : ℕ) (fs : List Frame) (os : List ℕ) → machine_from (multi_comma k, fs, os) l.text l.fn.at ≡ machine_from (multi_key k l.keys.items, fs, os) l.text l.at;
}

abbrev pub decreases-loop-keys : goal.decreases-loop-keys
decreases-loop-keys l = length l.text - l.at
