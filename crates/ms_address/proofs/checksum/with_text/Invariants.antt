-- What is left, behind the remainder of what was read, is the whole text.
use Rattle.std.proofs.Common.{◌≡◌, length}
use Rattle.ms_address.specs.After.{after}
use Rattle.ms_address.proofs.checksum.with_text.Given as goal

abbrev pub invariant-threes : goal.invariant-threes
invariant-threes l = after l.remainder l.rest ≡ after 1 l.text

abbrev pub decreases-threes : goal.decreases-threes
decreases-threes l = length l.rest
