use Rattle.std.proofs.Common.{◌≡◌, ◌-◌, ◌≤◌, [], length, drop}
use Rattle.def_machine.specs.MultiSig.{tries as the_tries}
use Rattle.ms_interp.proofs.multi_sig.tries.Given as goal

abbrev pub invariant-loop-next_sig : goal.invariant-loop-next_sig
invariant-loop-next_sig g l = record {
  keys_within : l.next_key ≤ length l.keys;
  sigs_within : l.next_sig ≤ length l.signatures;
  same : the_tries (g.C.SignatureChecker.checker l.sigs) (drop l.next_key l.keys) (drop l.next_sig l.signatures) l.found ≡ the_tries (g.C.SignatureChecker.checker l.sigs) l.keys l.signatures [];
}

abbrev pub decreases-loop-next_sig : goal.decreases-loop-next_sig
decreases-loop-next_sig g l = length l.keys - l.next_key
