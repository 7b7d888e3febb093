-- The text of what a Script is decoded to is read back.
use Rattle.std.proofs.Common.{arith}
use Rattle.def_text.proofs.PrintedSpells.{printed_is_spelled}
use Rattle.def_text.specs.Print.{printed}
use Rattle.def_sane.proofs.Meanings.{valid_means}
use Rattle.ms_decode_laws.specs.Printed.{DecodedIsReadBack}
use Rattle.ms_decode_laws.proofs.Decoding.{depth_within}
use Rattle.ms_decode_laws.proofs.PrintedSize.{printed_is_short}
use Rattle.ms_decode_laws.proofs.ShallowText.{shallow_is_read}

pub decoded_is_read_back : DecodedIsReadBack
decoded_is_read_back keys script tree h =
    let v = (valid_means tree).0 h.reading.valid in
    let few = v.3 in
    let deep = depth_within tree v.0 h.nested (omega (arith, few)) in
    let spelled = printed_is_spelled tree h.reading.writable in
    (spelled.0, shallow_is_read (printed tree) tree spelled.0 (printed_is_short tree h.reading.writable v.2) (omega (arith, deep)) spelled.1)
