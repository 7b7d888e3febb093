-- The report of `script`.
use Rattle.hex.specs.Hex.{encode_lower}
use Rattle.def_script.specs.Bytes.{Bytes}
use Rattle.def_tree.specs.Tree.{Tree}
use Rattle.def_emit.specs.Emit.{script_of}
use Rattle.def_answer.specs.Lines.{line}

unfoldable pub script_report : Tree → Bytes
script_report tree = line (encode_lower (script_of tree))
