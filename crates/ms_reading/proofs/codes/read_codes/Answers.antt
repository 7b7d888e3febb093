use Rattle.std.proofs.Common.{◌≡◌, [], ◌++◌, List, drop, length, map, append-nil, ap, sym, ◌∙◌, arith}
use Rattle.std.proofs.Math.Seq.{drop-length}
use Rattle.def_script.specs.Item.{Item}
use Rattle.def_script.specs.Items.{items}
use Rattle.def_script.specs.Laws.{item_of}
use Rattle.ms_reading.specs.Scaffolding.States.{instruction_of}
use Rattle.ms_reading.proofs.Reading.{none_behind, items_none}
use Rattle.ms_reading.proofs.codes.read_codes.Goals as goal

pub returns-in_default : goal.returns-in_default
returns-in_default c = λ is e.
    none_behind (map instruction_of c.loop-from.codes.items) (items (drop c.loop-from.from c.args.script.now)) c.in_default.ensures is (sym c.loop-from.invariant.1 ∙ e)

pub returns : goal.returns
returns c =
    let past = c.loop-from-test.false in
    let within = c.loop-from.invariant.0 in
    let at : c.loop-from.from ≡ length c.args.script.now = omega (arith, past, within) in
    let none : drop c.loop-from.from c.args.script.now ≡ [] = ap (λ n. drop n c.args.script.now) at ∙ drop-length c.args.script.now in
    c.loop-from.invariant.1 ∙ ap (λ l. map item_of (map instruction_of c.loop-from.codes.items) ++ items l) none
    ∙ ap (λ (l : List Item). map item_of (map instruction_of c.loop-from.codes.items) ++ l) items_none ∙ append-nil _
