use Rattle.std.proofs.Common.{◌≡◌, ◌||◌, ◌∙◌}
use Rattle.def_sane.specs.Locks.{conflict}
use Rattle.ms_mixing.proofs.Unions.{one_more}
use Rattle.ms_mixing.proofs.kinds.Together.and.Goals as goal
use Rattle.ms_mixing.proofs.kinds.Together.and.Goals.{then-self, else-self}

pub returns : goal.returns
returns c =
    let is_mixed : c.if-self.result ≡ (c.args.self.is_mixed || conflict c.args.self.kinds c.args.child) =
    elim c.if-self.branch [ then-self w ↦ rw w.if-self.true (w.result-is ∙ w.if-self.true) | else-self w ↦ rw w.if-self.false (w.result-is ∙ w.conflicts.ensures) ] in
    λ each is. one_more c.args.self each c.args.child c.union.result c.if-self.result is c.union.ensures is_mixed
