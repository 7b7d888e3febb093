use Rattle.std.proofs.Common.{◌≡◌, drop}
use Rattle.std.specs.Prelude.{find}
use Rattle.std.specs.Str.{bytes_eq}
use Rattle.def_hash.specs.Hash.{digest_of}
use Rattle.ms_hash.specs.Value.{kind_of, bytes_of}
use Rattle.ms_held.proofs.assets.first_hashing_to.Given as goal

abbrev pub invariant-loop-preimage : goal.invariant-loop-preimage
invariant-loop-preimage l =
    find (λ preimage. bytes_eq (digest_of (kind_of l.value) preimage) (bytes_of l.value)) (drop l.preimage-index l.preimages)
    ≡ find (λ preimage. bytes_eq (digest_of (kind_of l.value) preimage) (bytes_of l.value)) l.preimages
