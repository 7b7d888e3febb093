use Rattle.std.proofs.Common.{◌≤◌, length, rules}
use Rattle.ms_witness.proofs.Parts.{first_within}
use Rattle.ms_witness.proofs.reading.first_size.Goals as goal

pub slice_bounds-result-count : goal.slice_bounds-result-count
slice_bounds-result-count c = first_within c.args.bytes.now _ c.in_ok-size.ensures

pub slice_bounds-result-start : goal.slice_bounds-result-start
slice_bounds-result-start c =
    let within : c.in_ok-size.next ≤ length c.args.bytes.now = first_within c.args.bytes.now _ c.in_ok-size.ensures in
    search rules
