-- A push for each key that is left.
use Rattle.std.proofs.Common.{◌≡◌, drop, map}
use Rattle.def_script.specs.Instruction.{push}
use Rattle.def_trace.specs.Writers.{by}
use Rattle.ms_writers.specs.Scaffolding.Wrote.{wrote_all}
use Rattle.ms_writers.proofs.writing.add_multi.Given as goal

abbrev pub invariant-loop-key : goal.invariant-loop-key
invariant-loop-key l =
    wrote_all l.written (map (λ key. by l.node (push key)) (drop l._key-index l.keys))
    ≡ wrote_all l.initial.written (map (λ key. by l.node (push key)) l.keys)
