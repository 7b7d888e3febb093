use Rattle.std.proofs.Common.{◌≡◌, ◌+◌, ◌-◌, rules, arith}
use Rattle.ms_script.proofs.reading.read_push.Goals as goal

pub returns-clause-item : goal.returns-clause-item
returns-clause-item c =
    let e : c.args.field + c.args.count - c.args.field ≡ c.args.count = omega arith in
    rw e (search rules)
