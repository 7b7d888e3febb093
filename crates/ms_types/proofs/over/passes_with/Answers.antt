use Rattle.ms_tree.specs.Shape.{shape}
use Rattle.ms_types.proofs.Wrongs.{wrap_answer}
use Rattle.ms_types.proofs.over.passes_with.Goals as goal

pub returns-in-Wrap : goal.returns-in-Wrap
returns-in-Wrap c =
    wrap_answer (shape c.args.tree.now) c.in-Wrap.wrapper _ c.args.children.now c.args.place c.args.child c.of_wrap.result c.is_some.result
    c.in-Wrap.ensures.shows c.requires.count c.requires.place c.of_wrap.ensures c.is_some.ensures
