-- The bytes of a point have the form of a key.
use Rattle.ms_field.specs.Limbs.{value}
use Rattle.ms_outputs.proofs.Finding.{key_is}
use Rattle.ms_outputs.proofs.keys.key_of.Goals as goal

pub returns : goal.returns
returns c =
    key_is c.from_bytes.result (value c.args.point.x) (value c.args.point.y) c.compressed.result c.compressed.ensures
    (c.from_bytes.ensures.found.1) c.from_bytes.ensures.value
