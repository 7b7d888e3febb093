-- The last byte.
use Rattle.std.proofs.Common.{◌≡◌, length, get_or, arith}
use Rattle.ms_address.proofs.Outputs.{last_is}
use Rattle.ms_address.proofs.address.is_hash_output.Goals as goal

pub returns : goal.returns
returns c =
    let script = c.args.script.now in
    let long : length script ≡ 23 = omega arith in
    let first : get_or script 0 0 ≡ 0xa9 = omega arith in
    let second : get_or script 1 0 ≡ 0x14 = omega arith in
    last_is script long first second
