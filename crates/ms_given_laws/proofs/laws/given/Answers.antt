use Rattle.ms_given_laws.proofs.laws.given.Goals as goal
use Rattle.ms_given_laws.proofs.Wholes.{each_is_sound, each_has_keys, each_has_assets}

pub returns : goal.returns
returns c = record {
  sound = each_is_sound c.psbts.ensures.one_spelling;
  keys = each_has_keys c.psbts.ensures.one_spelling;
  assets = each_has_assets c.psbts.ensures.one_spelling;
}
