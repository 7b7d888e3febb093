use Rattle.std.proofs.Common.{min, sym, ◌∙◌, ap}
use Rattle.std.proofs.lemmas.List.{length-take}
use Rattle.ms_sighash.proofs.shared.outpoint_in.Goals as goal

pub slice_bounds-result-end : goal.slice_bounds-result-end
slice_bounds-result-end c = sym (length-take 36 c.args.input.now ∙ ap (min 36) c.requires)
