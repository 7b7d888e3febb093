-- What follows an expression that was made, where it fits.
use Rattle.std.specs.Prelude.{List, Option, Some, None}
use Rattle.def_tree.specs.Tree.{Tree}
use Rattle.ms_decode_laws.specs.Scaffolding.Frame.{Frame}
use Rattle.ms_decode_laws.specs.Scaffolding.Reader.{State, settle, settle_side}

abbrev pub settled : Option Tree → List Frame → Option State
settled None fs = None
settled (Some x) fs = settle x fs

abbrev pub sided : Option Tree → List Frame → Option State
sided None fs = None
sided (Some x) fs = settle_side x fs
