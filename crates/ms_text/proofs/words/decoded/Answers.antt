use Rattle.std.proofs.Common.{refl}
use Rattle.std.proofs.lemmas.List.{length-replicate}
use Rattle.hex.specs.Hex.{decode_sized}
use Rattle.ms_text.proofs.WordLemmas.{decoded_ok, decoded_err}
use Rattle.ms_text.proofs.words.decoded.Goals as goal

pub returns-in-Ok : goal.returns-in-Ok
returns-in-Ok g c =
    decoded_ok g.row.N c.args.word.now (decode_sized c.args.word.now g.row.N) c.decode_to_slice.result c.decode_to_slice.new.out refl
    (rw length-replicate at c.decode_to_slice.ensures.value) c.in-Ok.is

pub returns-in-Err : goal.returns-in-Err
returns-in-Err g c =
    decoded_err g.row.N c.args.word.now (decode_sized c.args.word.now g.row.N) c.decode_to_slice.result c.decode_to_slice.new.out c.in-Err.field-0 refl
    (rw length-replicate at c.decode_to_slice.ensures.value) c.in-Err.is
