use Rattle.std.proofs.Common.{sym, arith}
use Rattle.ms_input.proofs.Tables.{found_length}
use Rattle.ms_input.proofs.asking.lengths.entry_of.Goals as goal

pub overflow_cast-length : goal.overflow_cast-length
overflow_cast-length c =
    let few = (found_length c.args.assets.now c.args.key c.in-Some.sig.now c.are_assets.ensures.held (sym c.in-Some.ensures)).few in
    omega (arith, few)
