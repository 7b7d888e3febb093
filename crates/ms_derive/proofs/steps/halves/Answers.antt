-- The message: the key, and the number behind it.
use Rattle.std.proofs.Common.{refl}
use Rattle.ms_derive.proofs.steps.halves.Goals as goal

pub returns : goal.returns
returns c =
    rw (
      c.hmac_sha512.ensures,
      c.copy_from_slice.ensures.after,
      c.copy_from_slice-2.ensures.after,
      c.compressed.ensures,
      c.to_be_bytes.ensures,
    )
    refl
