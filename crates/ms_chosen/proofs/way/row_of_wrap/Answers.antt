use Rattle.ms_rows.proofs.Inside.{inside_wrap}
use Rattle.ms_chosen.specs.Scaffolding.Way.{IsSeen}
use Rattle.ms_chosen.proofs.SeenRows.{wrap_is}
use Rattle.ms_chosen.proofs.way.row_of_wrap.Goals as goal

pub returns : goal.returns
returns c = record {
  row = wrap_is c.args.wrapper c.args.x c.wrap.result c.wrap.ensures;
  seen = λ rule assets x. let in_row = inside_wrap (IsSeen rule assets) c.args.wrapper _ _ c.wrap.ensures x in (in_row.sat, in_row.dsat);
}
