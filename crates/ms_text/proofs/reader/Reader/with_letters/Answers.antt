use Rattle.std.proofs.Common.{◌-◌, length, sym, ap, ◌∙◌, arith}
use Rattle.std.specs.Option.{option_map}
use Rattle.ms_tree.specs.Shape.{shape}
use Rattle.ms_text.specs.Scaffolding.Names.{letter_of}
use Rattle.ms_text.proofs.RunLemmas.{no_other_byte, run_starts, run_goes, one_larger}
use Rattle.ms_text.proofs.reader.Reader.with_letters.Goals as goal

pub loop-left-init : goal.loop-left-init
loop-left-init c = record {
  within = omega arith;
  larger = record { measure = omega arith; depth = omega arith; writable = c.requires.room.writable };
  reads = λ ls fs ts h. run_starts c.args.run.now c.args.name (shape c.args.x) (shape c.args.x) fs c.args.offsets.now.items ls ts h;
}

pub unreachable-requires : goal.unreachable-requires
unreachable-requires c = no_other_byte c.args.run.now (c.loop-left.left - 1) c.requires.run (omega arith) (ap (option_map letter_of) (sym c.in_default.is) ∙ c.letter_named.ensures)

pub loop-left-preserved : goal.loop-left-preserved
loop-left-preserved c = record {
  within = omega arith;
  larger = one_larger (length c.args.run.now - c.loop-left.left) (length c.args.run.now - (c.loop-left.left - 1)) (letter_of c.in-Some.letter) (shape c.args.x)
      (shape c.loop-left.tree) (shape c.in_ok-tree.tree) (omega arith)
      c.loop-left.invariant.larger c.in_ok-tree.ensures.tree;
  reads = λ ls fs ts h.
      c.loop-left.invariant.reads ls fs ts h
      ∙ run_goes c.args.run.now c.args.name (shape c.loop-left.tree) (shape c.in_ok-tree.tree) fs c.loop-left.offsets.items ls ts c.loop-left.left
      (c.loop-left.left - 1) (letter_of c.in-Some.letter) c.with_letter.new.offsets.items h
      (omega arith) (omega arith) (ap (option_map letter_of) (sym c.in-Some.is) ∙ c.letter_named.ensures) c.in_ok-tree.ensures.tree c.in_ok-tree.ensures.added;
}
