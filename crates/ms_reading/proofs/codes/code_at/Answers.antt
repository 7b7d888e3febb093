use Rattle.std.proofs.Common.{[], drop, Some, Ok, subst}
use Rattle.def_script.specs.Item as item
use Rattle.def_script.specs.Items.{items}
use Rattle.ms_script.specs.Reads.{item_of as read_item, IsItems}
use Rattle.ms_reading.proofs.Reading.{fault_is_none, headed_none}
use Rattle.ms_reading.proofs.codes.code_at.Goals as goal

pub returns-in_default : goal.returns-in_default
returns-in_default c =
    let read : IsItems c.args.script.now c.args.from (Ok (Some (c.in-Ok-Some.instr, c.in-Ok-Some.next))) =
    subst (λ r. IsItems c.args.script.now c.args.from (Ok r)) c.in-Ok-Some.field-0-is c.in-Ok-Some.ensures.items in
    headed_none (read_item c.in-Ok-Some.instr) (items (drop c.in-Ok-Some.next c.args.script.now)) (items (drop c.args.from c.args.script.now)) read.2 c.in_default.ensures

pub returns-in-Err : goal.returns-in-Err
returns-in-Err c =
    headed_none (item.fault c.in-Err.field-0) [] (items (drop c.args.from c.args.script.now)) c.in-Err.ensures.items (fault_is_none c.in-Err.field-0)
