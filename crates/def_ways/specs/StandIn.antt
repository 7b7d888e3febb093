-- Stand-ins: a tree with hash values whose preimages are known, in the place of its own. No digit of a hash value counts
-- for a type, a size or a weight.
use Rattle.std.specs.Prelude.{◌≡◌, ℕ, List, filter_map, replicate, IsTrue, Option, Some, None}
use Rattle.def_hash.specs.declared.HashKind.{HashKind}
use Rattle.def_hash.specs.Hash.{digest_of}
use Rattle.def_script.specs.Bytes.{Bytes}
use Rattle.def_script.specs.Witness.{weight}
use Rattle.def_tree.specs.Tree.{Tree, Trees, hash, and_or, two, thresh, wrap, none, more}
use Rattle.def_assets.specs.Assets.{Assets, IsPreimage}
use Rattle.def_choice.specs.Strict.{strict}
use Rattle.def_ways.specs.Secret.{Secret, key, preimage, secrets}
use Rattle.def_ways.specs.Offer.{Offer, numbers_of, has}

-- a preimage for each hash value
abbrev pub Preimages : Type 0
Preimages = HashKind → Bytes → Bytes

-- the tree with the hash values of these preimages
abbrev mutual
  pub standing : Preimages → Tree → Tree
  standing p (hash kind value) = hash kind (digest_of kind (p kind value))
  standing p (and_or x y z) = and_or (standing p x) (standing p y) (standing p z)
  standing p (two kind x y) = two kind (standing p x) (standing p y)
  standing p (thresh k xs) = thresh k (standing_each p xs)
  standing p (wrap wrapper x) = wrap wrapper (standing p x)
  standing p tree = tree

  pub standing_each : Preimages → Trees → Trees
  standing_each p none = none
  standing_each p (more x xs) = more (standing p x) (standing_each p xs)

-- each hash value has a preimage of its own, which is that of no other one
pub record AreStandIns (tree : Tree) (p : Preimages) : Type 0 where
  pub preimages : (kind : HashKind) (value : Bytes) → IsTrue (has (secrets tree) (preimage kind value)) → IsPreimage (p kind value)
  pub own :
      (kind : HashKind) (value : Bytes) (other : HashKind) (bytes : Bytes) →
      IsTrue (has (secrets tree) (preimage kind value)) → IsTrue (has (secrets tree) (preimage other bytes)) →
      digest_of kind (p kind value) ≡ digest_of kind (p other bytes) → preimage kind value ≡ preimage other bytes

-- a signature of 72 bytes
abbrev pub SIGNATURE : Bytes
SIGNATURE = replicate 72 0x30

abbrev pub pair_of : Secret → Option (Bytes × Bytes)
pair_of (key k) = Some (k, SIGNATURE)
pair_of (preimage kind value) = None

abbrev pub preimage_of : Preimages → Secret → Option Bytes
preimage_of p (key k) = None
preimage_of p (preimage kind value) = Some (p kind value)

-- the assets of an offer: a signature of each key, a preimage of each hash value, and its numbers
abbrev pub assets_of : Preimages → Offer → Assets
assets_of p offer = record {
  locks = numbers_of offer;
  pairs = filter_map pair_of offer.secrets;
  preimages = filter_map (preimage_of p) offer.secrets;
}

-- what is written for the offer weighs so much
pub record Weighs (tree : Tree) (p : Preimages) (offer : Offer) (w : ℕ) : Type 0 where
  pub stack : List Bytes
  pub written : strict (standing p tree) (assets_of p offer) ≡ Some stack
  pub weight : weight stack ≡ w
