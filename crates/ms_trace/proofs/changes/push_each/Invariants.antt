use Rattle.std.proofs.Common.{◌≡◌, ◌++◌, drop}
use Rattle.std.specs.List.{flat_map}
use Rattle.std.specs.String.{string_bytes}
use Rattle.ms_trace.specs.Scaffolding.Brief.{named_digits}
use Rattle.ms_trace.proofs.changes.push_each.Given as goal

-- the elements so far and those that are left
abbrev pub invariant-loop-element : goal.invariant-loop-element
invariant-loop-element l =
    string_bytes l.report ++ flat_map (named_digits l.word) (drop l.element-index l.elements) ≡ string_bytes l.initial.report ++ flat_map (named_digits l.word) l.elements
