-- The report of `asm`.
use Rattle.std.specs.Prelude.{ℕ, List}
use Rattle.def_script.specs.Bytes.{Bytes}
use Rattle.def_tree.specs.Tree.{Tree}
use Rattle.def_emit.specs.Emit.{script_of}
use Rattle.def_trace.specs.Placed.{placed}
use Rattle.def_trace.specs.Listing.{listing}
use Rattle.def_trace.specs.Writers.{places_of}

-- a line for each instruction of the Script of a tree, whose nodes have these offsets, with the place of the node that wrote it
unfoldable pub asm_report : (offsets : List ℕ) → Tree → Bytes
asm_report offsets tree = listing (places_of offsets tree) (placed (script_of tree))
