use Rattle.std.proofs.Common.{[], arith}
use Rattle.ms_chosen.specs.Scaffolding.Way.{tree_of}
use Rattle.ms_chosen.proofs.Tables.{some_entries, last_entry}
use Rattle.ms_chosen.proofs.way.Seen.weighed.Goals as goal

pub overflow_sub-result : goal.overflow_sub-result
overflow_sub-result c =
    let h = c.requires in omega (arith, some_entries h.0 h.1 [] (tree_of c.args.self.now) c.args.self.now.table.now h.2.entries)

pub bounds-self-self : goal.bounds-self-self
bounds-self-self c =
    let h = c.requires in omega (arith, some_entries h.0 h.1 [] (tree_of c.args.self.now) c.args.self.now.table.now h.2.entries)

pub returns-clause-weighed : goal.returns-clause-weighed
returns-clause-weighed c = λ rule assets seen. (last_entry rule assets [] (tree_of c.args.self.now) c.args.self.now.table.now _ seen.entries).weighed

pub returns-clause-light : goal.returns-clause-light
returns-clause-light c =
    let h = c.requires in (last_entry h.0 h.1 [] (tree_of c.args.self.now) c.args.self.now.table.now _ h.2.entries).light
