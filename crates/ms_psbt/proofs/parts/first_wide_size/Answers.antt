use Rattle.std.proofs.Common.{◌≤◌, length, rules, arith}
use Rattle.ms_psbt.proofs.Sizes.{place_within}
use Rattle.ms_psbt.proofs.parts.first_wide_size.Goals as goal

pub slice_bounds-result-count : goal.slice_bounds-result-count
slice_bounds-result-count c = (place_within c.args.bytes.now 0 (c.in-Ok.size, c.in-Ok.next) (omega arith) c.in-Ok.ensures).1

pub slice_bounds-result-start : goal.slice_bounds-result-start
slice_bounds-result-start c =
    let within : c.in-Ok.next ≤ length c.args.bytes.now = (place_within c.args.bytes.now 0 (c.in-Ok.size, c.in-Ok.next) (omega arith) c.in-Ok.ensures).1 in
    search rules
