use Rattle.ms_way_laws.proofs.Making.{knowns_are_numbered, take_merged, by_places_alone}
use Rattle.ms_way_laws.proofs.laws.making.Goals as goal

pub returns : goal.returns
returns c = record { knowns = knowns_are_numbered; places = by_places_alone; merged = take_merged }
