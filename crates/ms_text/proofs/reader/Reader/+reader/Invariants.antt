-- What is left of the text, in four steps a byte.
use Rattle.std.proofs.Common.{◌≡◌, ◌∷◌, ◌+◌, ◌-◌, ◌*◌, ◌<◌, ◌≤◌, ℕ, List, length}
use Rattle.def_text.specs.Scaffolding.Reader.{Frame, expression, thresh_comma, thresh_child}
use Rattle.def_tree.specs.InRange.{measure_of, depth_of, MOST_DEPTH}
use Rattle.def_tree.specs.Range.{AreWritable}
use Rattle.ms_tree.specs.Shape.{shapes}
use Rattle.ms_text.specs.Scaffolding.Place.{IsPlace, machine_from}
use Rattle.ms_text.proofs.reader.Reader.+reader.Given as goal

abbrev pub decreases-expression : goal.decreases-expression
decreases-expression l = 4 * (length l.self.now.text.now - l.at) + 1

abbrev pub decreases-letters : goal.decreases-letters
decreases-letters l = 4 * (length l.self.now.text.now - l.end) + 2

abbrev pub decreases-child : goal.decreases-child
decreases-child l = 4 * (length l.self.now.text.now - l.at) + 1

abbrev pub decreases-fragment : goal.decreases-fragment
decreases-fragment l = 4 * (length l.self.now.text.now - l.at) + 3

abbrev pub decreases-and_or_form : goal.decreases-and_or_form
decreases-and_or_form l = 4 * (length l.self.now.text.now - l.at) + 2

abbrev pub decreases-pair_form : goal.decreases-pair_form
decreases-pair_form l = 4 * (length l.self.now.text.now - l.at) + 2

abbrev pub decreases-thresh_form : goal.decreases-thresh_form
decreases-thresh_form l = 4 * (length l.self.now.text.now - l.at) + 2

abbrev pub decreases-child_list : goal.decreases-child_list
decreases-child_list l = 4 * (length l.self.now.text.now - l.at) + 1

abbrev pub invariant-child_list-loop-trees : goal.invariant-child_list-loop-trees
invariant-child_list-loop-trees l = record {
  place : IsPlace l.self.text.now l.at;
  after : l.fn.at < l.at;
  measure : measure_of (shapes l.trees.items) + 2 * l.fn.at + 2 ≤ 2 * l.at;
  depth : depth_of (shapes l.trees.items) + l.depth ≤ MOST_DEPTH;
  writable : AreWritable (shapes l.trees.items);
  reads : (k name : ℕ) (fs : List Frame) → length fs + 1 ≡ l.depth →
      machine_from (thresh_comma k name, fs, l.fn.offsets.items) l.self.text.now l.fn.at
      ≡ machine_from (expression, thresh_child k (shapes l.trees.items) name ∷ fs, l.offsets.items) l.self.text.now l.at;
}

abbrev pub decreases-child_list-loop-trees : goal.decreases-child_list-loop-trees
decreases-child_list-loop-trees l = length l.self.text.now - l.at
