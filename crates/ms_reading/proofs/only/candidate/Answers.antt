use Rattle.std.proofs.Common.{subst}
use Rattle.ms_tree.specs.Shape.{shape}
use Rattle.ms_reading.specs.Scaffolding.Decoding.{IsCandidate, MayBe}
use Rattle.ms_reading.specs.Scaffolding.Parts.{made}
use Rattle.ms_reading.proofs.Tried.{only}
use Rattle.ms_reading.proofs.only.candidate.Goals as goal

pub returns-in-Some-clause-only : goal.returns-in-Some-clause-only
returns-in-Some-clause-only c =
    let found : IsCandidate c.args.keys.now c.args.script.now (shape c.in-Some.part.tree) = subst (λ o. MayBe c.args.keys.now c.args.script.now (made o)) c.in-Some.is c.in_ok-part.ensures in
    only c.args.keys.now c.args.script.now (shape c.in-Some.part.tree) found c.in-Some.part.in_range.writable
