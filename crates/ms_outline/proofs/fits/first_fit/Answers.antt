use Rattle.std.proofs.Common.{◌<◌, ◌∙◌, ap, sym, subst, length, All, arith}
use Rattle.def_tree.specs.Children.{children}
use Rattle.ms_tree.specs.Shape.{shape}
use Rattle.ms_outline.specs.Scaffolding.Found.{types_of, numbers_of, found}
use Rattle.ms_outline.proofs.Families.{types_length, numbers_length, numbers_below, children_size}
use Rattle.ms_outline.proofs.fits.first_fit.Goals as goal

pub fit_among-requires-clause-places : goal.fit_among-requires-clause-places
fit_among-requires-clause-places c =
    let t = shape c.args.tree.now in
    subst (λ ns. All (λ n. n < length c.args.offsets.now) ns) (sym (c.as_slice-2.ensures.value ∙ c.in_ok-family.ensures.numbers))
    (numbers_below (length c.args.offsets.now) _ (children t) (omega (arith, c.requires.place))
    (omega (arith, children_size t, c.requires.size, c.requires.place, c.nodes-before.ensures)))

pub fit_among-requires-clause-types : goal.fit_among-requires-clause-types
fit_among-requires-clause-types c =
    ap length (c.as_slice.ensures.value ∙ c.in_ok-family.ensures.types) ∙ types_length (children (shape c.args.tree.now))

pub fit_among-requires-clause-numbers : goal.fit_among-requires-clause-numbers
fit_among-requires-clause-numbers c =
    ap length (c.as_slice-2.ensures.value ∙ c.in_ok-family.ensures.numbers) ∙ numbers_length _ (children (shape c.args.tree.now))

pub returns-clause-first : goal.returns-clause-first
returns-clause-first c =
    let t = shape c.args.tree.now in
    c.fit_among.ensures.first
    ∙ ap (λ ts. found c.args.offsets.now c.args.own t ts 0 c.as_slice-2.result.now) (c.as_slice.ensures.value ∙ c.in_ok-family.ensures.types)
    ∙ ap (λ ns. found c.args.offsets.now c.args.own t (types_of (children t)) 0 ns) (c.as_slice-2.ensures.value ∙ c.in_ok-family.ensures.numbers)
    ∙ ap (λ n. found c.args.offsets.now c.args.own t (types_of (children t)) 0 (numbers_of n (children t)))
    (omega (arith, c.nodes-before.ensures, c.requires.size, children_size t))
