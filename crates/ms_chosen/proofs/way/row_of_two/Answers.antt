use Rattle.ms_rows.proofs.Inside.{inside_two}
use Rattle.ms_chosen.specs.Scaffolding.Way.{IsSeen}
use Rattle.ms_chosen.proofs.SeenRows.{two_is}
use Rattle.ms_chosen.proofs.way.row_of_two.Goals as goal

pub returns : goal.returns
returns c = record {
  row = two_is c.args.kind c.args.x c.args.z c.two.result c.two.ensures;
  seen = λ rule assets x z. let in_row = inside_two (IsSeen rule assets) c.args.kind _ _ _ c.two.ensures x z in (in_row.sat, in_row.dsat);
}
