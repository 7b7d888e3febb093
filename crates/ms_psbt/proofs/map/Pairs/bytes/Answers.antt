use Rattle.std.proofs.Common.{◌∙◌, ap}
use Rattle.def_psbt.specs.Map.{map_text}
use Rattle.ms_psbt.proofs.Pairing.{text_is}
use Rattle.ms_psbt.proofs.map.Pairs.bytes.Goals as goal

pub returns : goal.returns
returns c = text_is c.self.inside.rest.now c.self.invariant ∙ ap map_text c.self.view_is
