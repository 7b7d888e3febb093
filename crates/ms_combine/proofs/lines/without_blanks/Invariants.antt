use Rattle.std.proofs.Common.{◌≡◌, take}
use Rattle.def_psbt.specs.Source.{without_blanks}
use Rattle.ms_combine.proofs.lines.without_blanks.Given as goal

abbrev pub invariant-bytes : goal.invariant-bytes
invariant-bytes l = l.text.items ≡ without_blanks (take l.byte-index l.line)
