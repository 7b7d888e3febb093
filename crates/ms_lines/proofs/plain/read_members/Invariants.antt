use Rattle.std.proofs.Common.{length, map}
use Rattle.std.specs.Prelude.{option_map}
use Rattle.std.specs.String.{string_bytes}
use denote.Text.{Utf8}
use denote.Shadow.{shadow}
use Rattle.ms_lines.specs.Seen.{ids_seen}
use Rattle.ms_lines.proofs.PlainLemmas.{MembersSoFar}
use Rattle.ms_lines.proofs.plain.read_members.Given as goal

abbrev pub invariant-members : goal.invariant-members
invariant-members l =
    shadow (Utf8 l.source)
    × MembersSoFar l.initial.reader l.reader (ids_seen l.id) (option_map (λ words. map string_bytes words.items) l.words) l.source

abbrev pub decreases-members : goal.decreases-members
decreases-members l = length l.reader
