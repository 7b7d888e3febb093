use Rattle.std.proofs.Common.{subst}
use Rattle.def_tree.specs.Range.{IsKey}
use Rattle.ms_plan.proofs.estimate.Estimate.ask.Goals as goal

pub call-requires : goal.call-requires
call-requires g c =
    let sound = rw (← c.self.view_is) at c.requires in
    (sound.1 c.args.key (subst IsKey c.as_bytes-bytes.ensures.bytes c.as_bytes-bytes.ensures.key)).0

pub returns : goal.returns
returns g c =
    let sound = rw (← c.self.view_is) at c.requires in
    rw (← c.self.view_is) ((sound.1 c.args.key (subst IsKey c.as_bytes-bytes.ensures.bytes c.as_bytes-bytes.ensures.key)).1 c.call.result c.call.ensures)
