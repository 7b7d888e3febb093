use Rattle.ms_assets.proofs.FewHeld.{file_few}
use Rattle.ms_assets.proofs.asset_file.read_assets.Goals as goal

pub of_parts-requires : goal.of_parts-requires
of_parts-requires c = file_few _ _ _ c.in_ok-file.ensures c.in_ok-parts.ensures
