-- The letters that are left, from the first one on, and the tree that those behind them made.
use Rattle.std.proofs.Common.{◌≡◌, ◌-◌, ◌≤◌, List, Some, length, take}
use Rattle.def_text.specs.Letter.{Letter}
use Rattle.def_text.specs.Scaffolding.Reader.{Frame, letters_of, run_frames, ended, outcome}
use Rattle.def_text.specs.Token.{Token}
use Rattle.ms_tree.specs.Shape.{shape}
use Rattle.ms_text.specs.Scaffolding.Room.{IsLarger}
use Rattle.ms_text.proofs.reader.Reader.with_letters.Given as goal

abbrev pub invariant-loop-left : goal.invariant-loop-left
invariant-loop-left l = record {
  within : l.left ≤ length l.run;
  larger : IsLarger (length l.run - l.left) (shape l.x) (shape l.tree);
  reads : (ls : List Letter) (fs : List Frame) (ts : List Token) → letters_of l.run ≡ Some ls →
      outcome (ended (shape l.x), run_frames l.name ls fs, l.fn.offsets.items) ts ≡ outcome (ended (shape l.tree), run_frames l.name (take l.left ls) fs, l.offsets.items) ts;
}

abbrev pub decreases-loop-left : goal.decreases-loop-left
decreases-loop-left l = l.left
