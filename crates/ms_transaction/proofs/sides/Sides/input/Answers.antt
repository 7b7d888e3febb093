use Rattle.std.proofs.Common.{◌<◌, ◌∙◌, List, length, Some, ap, sym, subst, arith}
use Rattle.std.specs.List.{All}
use Rattle.std.specs.Prelude.{slice_get}
use Rattle.def_psbt.specs.Transaction.{TransactionInput, TransactionOutput}
use Rattle.ms_transaction.specs.Parts.{inputs_in}
use Rattle.ms_transaction.specs.Unsigned.{IsUnsigned}
use Rattle.ms_transaction.proofs.Inputs.{input_cut, cut_is_empty, cut_is}
use Rattle.ms_transaction.proofs.sides.Sides.input.Goals as goal

pub overflow_mul-number : goal.overflow_mul-number
overflow_mul-number c =
    let at = input_cut c.self.inside.inputs.now c.args.number c.self.invariant.inputs
    (subst (λ (s : List TransactionInput × List TransactionOutput). c.args.number < length s.0) (sym c.self.view_is) c.requires.number)
    (subst (λ (s : List TransactionInput × List TransactionOutput). All IsUnsigned s.0) (sym c.self.view_is) c.requires.unsigned) in
    let inside = at.inside in
    omega arith

pub part-requires : goal.part-requires
part-requires c =
    (input_cut c.self.inside.inputs.now c.args.number c.self.invariant.inputs
    (subst (λ (s : List TransactionInput × List TransactionOutput). c.args.number < length s.0) (sym c.self.view_is) c.requires.number)
    (subst (λ (s : List TransactionInput × List TransactionOutput). All IsUnsigned s.0) (sym c.self.view_is) c.requires.unsigned)).inside

pub new-requires : goal.new-requires
new-requires c =
    cut_is_empty c.self.inside.inputs.now c.part.result.now (inputs_in c.self.inside.inputs.now) c.args.number
    (input_cut c.self.inside.inputs.now c.args.number c.self.invariant.inputs
    (subst (λ (s : List TransactionInput × List TransactionOutput). c.args.number < length s.0) (sym c.self.view_is) c.requires.number)
    (subst (λ (s : List TransactionInput × List TransactionOutput). All IsUnsigned s.0) (sym c.self.view_is) c.requires.unsigned))
    c.part.ensures

pub returns : goal.returns
returns c =
    ap (λ (s : List TransactionInput × List TransactionOutput). slice_get s.0 c.args.number) (sym c.self.view_is)
    ∙ cut_is c.self.inside.inputs.now c.part.result.now (inputs_in c.self.inside.inputs.now) c.args.number
    (input_cut c.self.inside.inputs.now c.args.number c.self.invariant.inputs
    (subst (λ (s : List TransactionInput × List TransactionOutput). c.args.number < length s.0) (sym c.self.view_is) c.requires.number)
    (subst (λ (s : List TransactionInput × List TransactionOutput). All IsUnsigned s.0) (sym c.self.view_is) c.requires.unsigned))
    c.part.ensures ∙ ap Some (sym c.new.ensures)
