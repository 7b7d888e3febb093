-- The report of `decode`.
use Rattle.std.specs.Prelude.{◌++◌, codes}
use Rattle.def_script.specs.Bytes.{Bytes}
use Rattle.def_tree.specs.Tree.{Tree}
use Rattle.def_text.specs.Print.{printed}
use Rattle.def_answer.specs.Lines.{line}

unfoldable pub decode_report : Tree → Bytes
decode_report tree = line (codes "text " ++ printed tree)

abbrev pub no_reading_line : Bytes
no_reading_line = line (codes "no reading")
