use Rattle.ms_arrays.proofs.Usable.{are_lengths}
use Rattle.ms_arrays.proofs.planning.file_of.Goals as goal

pub returns-clause-lengths : goal.returns-clause-lengths
returns-clause-lengths c =
    are_lengths c.in_ok-table.table (rw c.in_ok-table.ensures.table c.requires.few) (rw c.in_ok-table.ensures.table c.requires.passed) c.in_ok-table.ensures.keys
