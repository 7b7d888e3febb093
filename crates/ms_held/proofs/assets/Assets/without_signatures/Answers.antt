use Rattle.ms_held.proofs.FewHeld.{unsigned_few}
use Rattle.ms_held.proofs.assets.Assets.without_signatures.Goals as goal

pub with_signatures-requires : goal.with_signatures-requires
with_signatures-requires c = rw (c.new.ensures) (unsigned_few c.args.self.now c.are_assets.ensures)
