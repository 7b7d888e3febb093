use Rattle.ms_calls.proofs.ItemLemmas.{AreJoined}
use Rattle.ms_calls.proofs.items.Items.new.Given as goal

abbrev pub invariant-loop-i : goal.invariant-loop-i
invariant-loop-i l = AreJoined l.stack l.i l.bytes.items l.lengths.items
