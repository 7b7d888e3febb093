-- What a proof unfolds so that a trace computes.
use Rattle.std.specs.Fmt.{digits}
use Rattle.hex.specs.Hex.{encode_with}
use Rattle.def_machine.proofs.Computing.{machine}
use Rattle.def_trace.specs.Placed.{placed_after}
use Rattle.def_trace.specs.Changes.{changes}
use Rattle.def_trace.specs.Trace.{lines, trace}
use Rattle.def_trace.specs.Written.{line_text, written}
use Rattle.def_trace.specs.Listing.{listing}

unfoldable pub traces : Unit {0}
unfolding digits encode_with machine placed_after changes lines trace line_text written listing
traces = tt
