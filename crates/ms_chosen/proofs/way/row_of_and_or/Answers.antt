use Rattle.ms_rows.proofs.Inside.{inside_and_or}
use Rattle.ms_chosen.specs.Scaffolding.Way.{IsSeen}
use Rattle.ms_chosen.proofs.SeenRows.{and_or_is}
use Rattle.ms_chosen.proofs.way.row_of_and_or.Goals as goal

pub returns : goal.returns
returns c = record {
  row = and_or_is c.args.x c.args.y c.args.z c.and_or.result c.and_or.ensures;
  seen = λ rule assets x y z. let in_row = inside_and_or (IsSeen rule assets) _ _ _ _ c.and_or.ensures x y z in (in_row.sat, in_row.dsat);
}
