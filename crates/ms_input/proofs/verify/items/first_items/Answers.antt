use Rattle.std.proofs.Common.{◌≡◌, ◌+◌, ◌-◌, ◌∷◌, [], ◌++◌, sym, ap, subst, ◌∙◌}
use Rattle.def_psbt.specs.Part.{first_many, first_string}
use Rattle.ms_input.specs.Verdicts.{items_in}
use Rattle.ms_input.proofs.Reading.{after, goes_on, ends, is_done, grown}
use Rattle.ms_input.proofs.verify.items.first_items.Goals as goal

pub returns-in_default : goal.returns-in_default
returns-in_default c =
    ends (items_in c.items.items.items) c.args.count c.items.counter c.items.rest.now (first_many first_string c.args.count c.args.bytes.now)
    c.items-test.true c.in_default.ensures c.items.invariant

pub items-preserved : goal.items-preserved
items-preserved c =
    let total = first_many first_string c.args.count c.args.bytes.now in
    let more : items_in c.push.new.self.items ≡ items_in c.items.items.items ++ c.in-Some.item.now ∷ [] =
    ap items_in c.in_ok-push.ensures.items ∙ grown c.items.items.items c.in-Some.item in
    subst (λ front. after front (first_many first_string (c.args.count - (c.items.counter + 1)) c.in-Some.after.now) ≡ total) (sym more)
    (goes_on (items_in c.items.items.items) c.args.count c.items.counter c.items.rest.now c.in-Some.item.now c.in-Some.after.now total
    c.items-test.true c.in-Some.ensures c.items.invariant)

pub returns : goal.returns
returns c =
    is_done (items_in c.items.items.items) c.args.count c.items.counter c.items.rest.now (first_many first_string c.args.count c.args.bytes.now)
    c.items-test.false c.items.invariant
