use Rattle.std.proofs.Common.{[], arith}
use Rattle.ms_chosen.specs.Scaffolding.Way.{tree_of}
use Rattle.ms_chosen.proofs.Tables.{some_entries, entries_below}
use Rattle.ms_chosen.proofs.way.Seen.below.Goals as goal

pub slice_bounds-result-count : goal.slice_bounds-result-count
slice_bounds-result-count c =
    let h = c.requires in omega (arith, some_entries h.0 h.1 [] (tree_of c.args.self.now) c.args.self.now.table.now h.2.entries)

pub returns : goal.returns
returns c = λ rule assets seen. entries_below rule assets (tree_of c.args.self.now) c.args.self.now.table.now seen.entries
