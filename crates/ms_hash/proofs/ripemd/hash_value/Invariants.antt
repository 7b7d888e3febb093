use Rattle.std.proofs.Common.{◌≡◌}
use Rattle.def_hash.specs.Ripemd.{padded_message, hash_after}
use Rattle.ms_hash.proofs.ripemd.hash_value.Given as goal

-- the hash value after the blocks so far
abbrev pub invariant-blocks-2 : goal.invariant-blocks-2
invariant-blocks-2 l = l.h ≡ hash_after (padded_message l.message) l.block
