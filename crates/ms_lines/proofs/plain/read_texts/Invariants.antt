use Rattle.std.proofs.Common.{length, map}
use Rattle.std.specs.String.{string_bytes}
use Rattle.ms_lines.proofs.PlainLemmas.{TextsSoFar}
use Rattle.ms_lines.proofs.plain.read_texts.Given as goal

abbrev pub invariant-items : goal.invariant-items
invariant-items l = TextsSoFar l.initial.reader l.reader (map string_bytes l.words.items)

abbrev pub decreases-items : goal.decreases-items
decreases-items l = length l.reader
