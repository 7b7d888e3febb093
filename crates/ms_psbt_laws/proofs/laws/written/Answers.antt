use Rattle.ms_psbt_laws.proofs.laws.written.Goals as goal
use Rattle.ms_psbt_laws.proofs.Wholes.{written_is_read}
use Rattle.ms_psbt_laws.proofs.Again.{ready_is_made_final, report_is_source, answered_again}

pub returns : goal.returns
returns c = record {
  bytes = written_is_read c.given.ensures.sound c.psbts.ensures.read_back;
  source = report_is_source c.given.ensures.sound c.psbts.ensures.read_back;
  again = answered_again c.given.ensures.sound c.psbts.ensures.read_back;
  ready = ready_is_made_final c.given.ensures.sound;
}
