-- The bytes so far belong to the token.
use Rattle.std.proofs.Common.{◌≡◌, ◌+◌, ◌-◌, ◌<◌, ◌≤◌, length, drop}
use Rattle.def_descriptor.proofs.Tokens.{first_length}
use Rattle.ms_paths.proofs.tokens.token_end.Given as goal

abbrev pub invariant-loop-end : goal.invariant-loop-end
invariant-loop-end l = record {
  above : l.at < l.end;
  within : l.end ≤ length l.text;
  length : l.at + first_length (drop l.at l.text) + 1 ≡ l.end + first_length (drop (l.end - 1) l.text);
}

abbrev pub decreases-loop-end : goal.decreases-loop-end
decreases-loop-end l = length l.text - l.end
