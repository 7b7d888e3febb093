use Rattle.std.proofs.Common.{◌≡◌, ◌-◌, ◌<◌, length, take, drop, arith, sym, subst, ◌∙◌}
use Rattle.std.proofs.lemmas.List.{length-drop, take_all}
use Rattle.ms_psbt.proofs.repeats.outpoint_at.Goals as goal

pub returns-then-rest-lt36 : goal.returns-then-rest-lt36
returns-then-rest-lt36 c =
    let rest = drop c.args.place c.args.bytes.now in
    let long : length rest ≡ length c.args.bytes.now - c.args.place = length-drop c.args.place c.args.bytes.now in
    let full : take (length c.args.bytes.now - c.args.place) rest ≡ rest = take_all (length c.args.bytes.now - c.args.place) rest (omega arith) in
    let short : length rest < 36 = subst (λ xs. length xs < 36) full c.if-rest-lt36.true in
    full ∙ sym (take_all 36 rest (omega arith))
