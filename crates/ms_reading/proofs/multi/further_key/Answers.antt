use Rattle.std.proofs.Common.{◌≡◌, reverse, ap, arith}
use Rattle.std.proofs.lemmas.List.{length-reverse}
use Rattle.ms_decode_laws.specs.Scaffolding.Reader.{settle, keys_step}
use Rattle.ms_reading.specs.Scaffolding.Parts.{tree_of}
use Rattle.ms_reading.specs.Scaffolding.States.{frames_of, instruction_of}
use Rattle.ms_reading.proofs.Signed.{keys_done}
use Rattle.ms_reading.proofs.multi.further_key.Goals as goal

pub returns : goal.returns
returns c =
    let past = c.if-signers-gt0.false in
    let few = c.args.signers.few in
    let e : keys_step c.args.signers.left (reverse c.args.signers.keys.items) (frames_of c.args.frames.now.items) (instruction_of c.args.code)
    ≡ settle (tree_of c.in_ok-part.part) (frames_of c.args.frames.now.items) =
    keys_done c.args.signers.left c.in-Some-numeral.k.value (reverse c.args.signers.keys.items) (frames_of c.args.frames.now.items) c.in-Push.bytes.now
    (instruction_of c.args.code) (tree_of c.in_ok-part.part)
    (omega (arith, past)) (ap instruction_of c.in-Push.is) c.in-Some-numeral.ensures c.in_ok-part.ensures (omega (arith, few, length-reverse c.args.signers.keys.items)) in
    rw e c.settle.ensures
