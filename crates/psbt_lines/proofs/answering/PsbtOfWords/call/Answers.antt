use Rattle.psbt_lines.proofs.answering.PsbtOfWords.call.Goals as goal

pub returns-clause-promises : goal.returns-clause-promises
returns-clause-promises g c = record {
  end = c.msat_psbt.ensures.end;
  usage = c.msat_psbt.ensures.usage;
  answered = c.msat_psbt.ensures.answered;
  read_fault = c.msat_psbt.ensures.read_fault;
  write_fault = c.msat_psbt.ensures.write_fault;
  front = c.msat_psbt.ensures.front;
  read = c.msat_psbt.ensures.read;
  unread = c.msat_psbt.ensures.unread;
  finalized = c.msat_psbt.ensures.finalized;
  inspected = c.msat_psbt.ensures.inspected;
  extracted = c.msat_psbt.ensures.extracted;
  hashes = c.msat_psbt.ensures.hashes;
  verified = c.msat_psbt.ensures.verified;
  refused = c.msat_psbt.ensures.refused;
  combined = c.msat_psbt.ensures.combined;
  witnesses = c.msat_psbt.ensures.witnesses;
  lacking = c.msat_psbt.ensures.lacking;
  nothing_lost = c.msat_psbt.ensures.nothing_lost;
  alike = c.msat_psbt.ensures.alike;
  compared = c.msat_psbt.ensures.compared;
  transaction = c.msat_psbt.ensures.transaction;
  parts = c.msat_psbt.ensures.parts;
}
