-- What the code is asked to derive, as the definitions have it.
use Rattle.ms_descriptor_replies.specs.declared.asked.Derivation.{Derivation}
use Rattle.def_descriptor_answer.specs.Words.{Derivation as TheDerivation}

abbrev pub derivation_at : Derivation → TheDerivation
derivation_at asked = record {
  network = asked.network;
  branch = asked.branch;
  text = asked.text.now;
  index = asked.index;
  count = asked.count;
}
