use Rattle.std.proofs.Common.{◌∙◌, ap}
use Rattle.ms_input.specs.Adding.{added}
use Rattle.ms_input.proofs.Added.{adds_told, on_ok}
use Rattle.ms_input.proofs.fields.Fields.add.Goals as goal

pub returns : goal.returns
returns c key same_type same_data =
    let kind = ap (λ k. added k c.args.self.now c.args.data.now c.args.value.now) c.kind_of.ensures in
    on_ok c.add_as.result
    (λ e. adds_told c.args.self.now c.add_as.new.self c.args.type_number c.args.data.now key c.args.value.now same_type same_data (e ∙ kind))
    c.add_as.ensures
