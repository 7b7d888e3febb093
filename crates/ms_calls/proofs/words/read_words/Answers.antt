use Rattle.std.proofs.Common.{rules, ◌≡◌, List, [], ◌∷◌, ◌++◌, ◌+◌, sym, subst, arith}
use Rattle.std.proofs.lemmas.Grind.{common_steps}
use Rattle.def_script.specs.Bytes.{Bytes}
use Rattle.ms_calls.proofs.WordLemmas.{AreRead, none_left, next_read}
use Rattle.ms_calls.proofs.words.read_words.Goals as goal

pub returns-in_default-clause-none : goal.returns-in_default-clause-none
returns-in_default-clause-none c =
    let none = none_left c.args.count c.loop.counter c.args.bytes.now c.loop.words.items c.loop.rest.now c.loop-test.true c.loop.invariant c.in_default.ensures.first in
    search rules

pub loop-preserved : goal.loop-preserved
loop-preserved c =
    let next = next_read c.args.count c.loop.counter c.args.bytes.now c.loop.words.items c.in-Some.text.now c.loop.rest.now c.in-Some.after.now
    c.loop-test.true c.loop.invariant c.in-Some.ensures.first c.in-Some.ensures.utf8 c.in-Some.ensures.no_nul in
    let pushed : c.push.new.self.items ≡ c.loop.words.items ++ c.in-Some.text.now ∷ [] =
    grind (arith, common_steps, c.push.ensures.items, c.is_err.ensures.value, c.if-is_err.false, c.new.ensures, c.in-Ok.ensures.ok) in
    subst (λ (words : List Bytes). AreRead c.args.count (c.loop.counter + 1) c.args.bytes.now words c.in-Some.after.now) (sym pushed) next
