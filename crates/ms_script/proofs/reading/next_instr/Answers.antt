use Rattle.std.proofs.Common.{arith, sym}
use Rattle.ms_script.proofs.ReadingLemmas.{range_from, items-read, items-unread}
use Rattle.ms_script.proofs.reading.next_instr.Goals as goal

pub returns-in-Ok-clause-items : goal.returns-in-Ok-clause-items
returns-in-Ok-clause-items c =
    let script = c.args.script.now in
    let found = c.in-Some.ensures.lookup.3 in
    let first = found.1 0 in
    let read = rw (range_from, first) at c.in-Ok.ensures.item in
    (omega arith, omega (arith, c.in-Ok.ensures.within), items-read _ _ _ _ found.0 (sym read))

pub returns-in-Err-clause-items : goal.returns-in-Err-clause-items
returns-in-Err-clause-items c =
    let found = c.in-Some.ensures.lookup.3 in
    let first = found.1 0 in
    let read = rw (range_from, first) at c.in-Err.ensures.item in
    items-unread _ _ _ found.0 (sym read)
