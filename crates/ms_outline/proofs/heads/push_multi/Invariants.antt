-- A key for each that is left.
use Rattle.std.proofs.Common.{◌≡◌, ◌++◌, drop}
use Rattle.std.specs.Prelude.{flat_map}
use Rattle.std.specs.String.{string_bytes}
use Rattle.def_answer.specs.Outline.{key_text}
use Rattle.ms_outline.proofs.heads.push_multi.Given as goal

abbrev pub invariant-loop-key : goal.invariant-loop-key
invariant-loop-key l = string_bytes l.report ++ flat_map key_text (drop l.key-index l.keys) ≡ string_bytes l.initial.report ++ flat_map key_text l.keys
