use Rattle.std.proofs.Common.{Some, sym, subst, ap, ◌+◌, ◌-◌, ◌∙◌, arith}
use Rattle.ms_psbt.specs.Scaffolding.Repeats.{places_of, LeastOf}
use Rattle.ms_psbt.proofs.Repeating.{marked_same, marked_other}
use Rattle.ms_psbt.proofs.repeats.least_with.Goals as goal

pub have_same_key-requires : goal.have_same_key-requires
have_same_key-requires c = λ same.
    let marks = c.requires.marks in
    marks.1 (c.args.i - 1) _ (omega (arith, c.requires.low, c.requires.high)) ∙ ap marks.0 same ∙ sym (marks.1 c.args.i _ c.requires.high)

pub returns-then-have_same_key : goal.returns-then-have_same_key
returns-then-have_same_key c = λ h.
    subst (λ least. LeastOf c.args.keys c.args.bytes.now (places_of c.args.order.now) (c.args.i + 1) (Some least)) (sym c.least_of.ensures)
    (marked_same c.args.keys c.args.bytes.now c.args.order.now c.args.i c.requires.low c.requires.high _ c.args.least (sym c.have_same_key.ensures ∙ c.if-have_same_key.true) h)

pub returns-else-have_same_key : goal.returns-else-have_same_key
returns-else-have_same_key c = λ h.
    marked_other c.args.keys c.args.bytes.now c.args.order.now c.args.i c.requires.low c.requires.high _ c.args.least (sym c.have_same_key.ensures ∙ c.if-have_same_key.false) h
