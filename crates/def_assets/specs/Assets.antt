-- What a wallet holds for a spend: the values of the locks, signatures and preimages.
use Rattle.std.specs.Prelude.{◌≡◌, ◌^◌, ◌<◌, ◌≤◌, ◌&&◌, nat_lt, Bool, if◌then◌else◌, List, [], ◌∷◌, length, map, filter, find, Option, Some, None, All}
use Rattle.std.specs.List.{IsDistinct}
use Rattle.std.specs.Str.{bytes_eq}
use Rattle.def_hash.specs.declared.HashKind.{HashKind}
use Rattle.def_hash.specs.Hash.{digest_of}
use Rattle.def_script.specs.Bytes.{Bytes, IsBytes}
use Rattle.def_script.specs.Signature.{MAX_SIGNATURE_SIZE}
use Rattle.def_machine.specs.declared.Locks.{Locks}
use Rattle.def_machine.specs.Stacks.{Pairs}
use Rattle.def_tree.specs.Range.{IsKey}
use Rattle.def_tree.specs.Tree.{Key}

pub record Assets : Type 0 where
  pub locks : Locks
  -- signatures with their keys
  pub pairs : Pairs
  pub preimages : List Bytes

-- the signatures that stand with a key in a table, in their order
abbrev pub sigs_with : Pairs → Key → List Bytes
sigs_with pairs key = map (λ pair. pair.1) (filter (λ pair. bytes_eq pair.0 key) pairs)

-- the former signature, unless the latter is shorter
abbrev pub shorter : (former : Bytes) → (latter : Option Bytes) → Bytes
shorter former None = former
shorter former (Some latter) = if nat_lt (length latter) (length former) then latter else former

-- of some signatures the first of the shortest
abbrev pub shortest : List Bytes → Option Bytes
shortest [] = None
shortest (sig ∷ sigs) = Some (shorter sig (shortest sigs))

-- the signature of a key: the shortest that is held with it, and of several shortest the first
abbrev pub sig_of : Assets → Key → Option Bytes
sig_of assets key = shortest (sigs_with assets.pairs key)

-- the known preimage of a hash value: the first listed one that hashes to it
abbrev pub known : Assets → HashKind → Bytes → Option Bytes
known assets kind value = find (λ preimage. bytes_eq (digest_of kind preimage) value) assets.preimages

-- the same assets without their signatures
abbrev pub unsigned : Assets → Assets
unsigned assets = record assets { pairs = [] }

-- a signature has 1 to 73 bytes
pub record IsSignature (sig : Bytes) : Type 0 where
  pub some : 1 ≤ length sig
  pub few : length sig ≤ MAX_SIGNATURE_SIZE
  pub bytes : IsBytes sig

-- a preimage has 32 bytes
pub record IsPreimage (preimage : Bytes) : Type 0 where
  pub length : length preimage ≡ 32
  pub bytes : IsBytes preimage

-- whether two pairs have one key, and whether they have one signature too
abbrev pub same_key : (these those : Bytes × Bytes) → Bool
same_key these those = bytes_eq these.0 those.0

abbrev pub same_pair : (these those : Bytes × Bytes) → Bool
same_pair these those = same_key these those && bytes_eq these.1 those.1

-- what assets may hold: pairs of a key and a signature, no pair twice, and preimages, all of their lengths; the numbers
-- of the locks have 32 bits
pub record AreAssets (assets : Assets) : Type 0 where
  pub keys : All (λ pair. IsKey pair.0) assets.pairs
  pub signatures : All (λ pair. IsSignature pair.1) assets.pairs
  pub distinct : IsDistinct same_pair assets.pairs
  pub preimages : All IsPreimage assets.preimages
  pub version : assets.locks.version < 2 ^ 32
  pub sequence : assets.locks.sequence < 2 ^ 32
  pub locktime : assets.locks.locktime < 2 ^ 32
