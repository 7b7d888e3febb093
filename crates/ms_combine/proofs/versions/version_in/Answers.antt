use Rattle.std.proofs.Common.{drop, sym, ap, ◌∙◌, arith}
use Rattle.std.proofs.lemmas.Bool.{eq-eqb, ne_eqb}
use Rattle.ms_combine.proofs.Onward.{pair_rest}
use Rattle.ms_combine.proofs.Telling.{leaving_starts, cell, leaving_ends}
use Rattle.def_psbt.specs.Map.{type_of}
use Rattle.ms_combine.proofs.versions.version_in.Goals as goal

pub pairs-init : goal.pairs-init
pairs-init c = λ global e sound. leaving_starts c.tail-left.result.now global (c.tail-left.ensures ∙ ap (drop 5) e) sound

pub returns-then-key_type-eq-GLOBAL_VERSION : goal.returns-then-key_type-eq-GLOBAL_VERSION
returns-then-key_type-eq-GLOBAL_VERSION c = λ global e sound.
    let here = cell c.pairs.left.now global c.in-Some.key.now c.in-Some.value.now c.in-Some.rest.now c.in-Some.ensures (c.pairs.invariant global e sound) in
    let type = c.key_type.ensures in
    let same = c.if-key_type-eq-GLOBAL_VERSION.true in
    let is = eq-eqb (type_of c.in-Some.key.now) 0xfb (omega (arith, type, same)) in
    c.number_in.ensures (here.long is) ∙ here.found is

pub pairs-smaller : goal.pairs-smaller
pairs-smaller c = let less = pair_rest c.pairs.left.now _ c.in-Some.ensures in omega (arith, less)

pub pairs-preserved : goal.pairs-preserved
pairs-preserved c = λ global e sound.
    let here = cell c.pairs.left.now global c.in-Some.key.now c.in-Some.value.now c.in-Some.rest.now c.in-Some.ensures (c.pairs.invariant global e sound) in
    let type = c.key_type.ensures in
    let other = c.if-key_type-eq-GLOBAL_VERSION.false in
    here.behind (ne_eqb (type_of c.in-Some.key.now) 0xfb (λ same. omega (arith, type, other, same)))

pub returns : goal.returns
returns c = λ global e sound. sym (leaving_ends c.pairs.left.now global c.in_default.ensures (c.pairs.invariant global e sound))
