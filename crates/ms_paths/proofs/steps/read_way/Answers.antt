-- A second `<..>`.
use Rattle.std.proofs.Common.{ℕ, ap, ◌∙◌, Err}
use Rattle.def_descriptor.specs.declared.DescriptorFault.TheVariants as fault
use Rattle.ms_paths.specs.Places.{tokens_at}
use Rattle.ms_paths.proofs.Places.{place_is}
use Rattle.ms_paths.proofs.Ways.{way_second}
use Rattle.ms_paths.proofs.steps.read_way.Goals as goal

pub returns-then-had : goal.returns-then-had
returns-then-had c = λ n.
    way_second c.args.fixed c.args.had (tokens_at c.args.text.now c.args.at) c.in_default.ensures.mark c.in-Some-behind_mark.ensures.mark.0 c.if-had.true
    ∙ ap (λ (z : ℕ). Err (fault.Multipath z)) (place_is c.args.text.now c.args.at)
