use Rattle.std.proofs.Common.{◌++◌, ◌+◌, ◌-◌, ◌∙◌, slice_get, ap, sym}
use Rattle.std.proofs.lemmas.List.{append-nil}
use Rattle.std.specs.String.{string_bytes}
use Rattle.def_tree.specs.Children.{children}
use Rattle.def_tree.specs.Nodes.{all_nodes}
use Rattle.def_tree.specs.Size.{nodes}
use Rattle.ms_tree.specs.Shape.{shape}
use Rattle.ms_outline.specs.Scaffolding.Found.{types_of, numbers_of, found}
use Rattle.ms_outline.proofs.Standing.{on_ok}
use Rattle.ms_outline.proofs.Fitted.{nothing_fits, one_fits, text_is}
use Rattle.ms_outline.proofs.fits.push_fit.Goals as goal

pub first_fit-requires-clause-size : goal.first_fit-requires-clause-size
first_fit-requires-clause-size c = c.node_at-tree.ensures.size

pub returns-in-Some : goal.returns-in-Some
returns-in-Some c =
    let t = shape c.node_at-tree.result.now in
    on_ok c.push_line.result _ _
    (λ e. e ∙ ap (λ l. string_bytes c.args.report.now ++ l)
    (text_is c.args.text.now.offsets.items c.in-Some.fit _ _ c.letter_name.ensures c.offset.ensures
    ∙ sym (one_fits c.args.text.now.offsets.items c.args.node t _
    (ap (λ u. slice_get (all_nodes (shape u)) c.args.node) (sym c.tree.ensures) ∙ c.node_at-tree.ensures.is) _
    (c.in_ok-fit.ensures.first ∙ ap (λ os. found os c.args.node t (types_of (children t)) 0 (numbers_of (c.args.node + 1 - nodes t) (children t))) c.as_slice.ensures.value)
    c.in-Some.fit c.in-Some.is)))
    c.push_line.ensures

pub returns-in-None : goal.returns-in-None
returns-in-None c =
    let t = shape c.node_at-tree.result.now in
    sym (ap (λ l. string_bytes c.args.report.now ++ l) (nothing_fits c.args.text.now.offsets.items c.args.node t _
    (ap (λ u. slice_get (all_nodes (shape u)) c.args.node) (sym c.tree.ensures) ∙ c.node_at-tree.ensures.is) _
    (c.in_ok-fit.ensures.first ∙ ap (λ os. found os c.args.node t (types_of (children t)) 0 (numbers_of (c.args.node + 1 - nodes t) (children t))) c.as_slice.ensures.value)
    c.in-None.is)
    ∙ append-nil (string_bytes c.args.report.now))
