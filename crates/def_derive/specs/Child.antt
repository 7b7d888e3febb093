-- The children of extended public keys (BIP 32, "Public parent key → public child key": CKDpub).
use Rattle.std.specs.Prelude.{ℕ, ◌+◌, ◌^◌, nat_lt, if◌then◌else◌, List, [], ◌∷◌, ◌++◌, take, drop, Option, Some, None}
use Rattle.std.specs.Int.{bytes_high_first}
use Rattle.std.specs.Option.{option_and_then, option_map}
use Rattle.def_hash.specs.Hash.{hash160}
use Rattle.def_script.specs.Bytes.{Bytes}
use Rattle.def_curve.specs.Curve.{n}
use Rattle.def_curve.specs.Point.{Point, infinity, affine, ◌⊕◌, times, generator}
use Rattle.def_curve.specs.Key.{number_of, point_of}
use Rattle.def_curve.specs.Encoding.{compressed}
use Rattle.def_derive.specs.Hmac.{hmac_sha512}
use Rattle.def_derive.specs.Extended.{Extended}

-- a point and its chain code
pub record Node : Type 0 where
  pub point : Point
  pub chain_code : Bytes

abbrev pub finite : (chain_code : Bytes) → Point → Option Node
finite chain_code infinity = None
finite chain_code (affine x y) = Some (record { point = affine x y; chain_code = chain_code })

-- the child whose left half is a number: that times the generator, plus the parent's point. None where it isn't below n, or the sum is infinity
unfoldable pub child_by : (left : ℕ) (right : Bytes) (parent : Point) → Option Node
child_by left right parent =
    let node = finite right (times left generator ⊕ parent) in
    if nat_lt left n then node else None

-- both halves: the HMAC-SHA512, by the chain code, of the key and the number
abbrev pub halves : (number : ℕ) → Node → Bytes
halves number parent = hmac_sha512 parent.chain_code (compressed parent.point ++ bytes_high_first 4 number)

-- the child with a number: hardened ones, from 2 ^ 31 on, don't follow from a public key
unfoldable pub child : (number : ℕ) → Node → Option Node
child number parent =
    let digest = halves number parent in
    let node = child_by (number_of (take 32 digest)) (drop 32 digest) parent.point in
    if nat_lt number (2 ^ 31) then node else None

-- the node that a path of numbers leads to
unfoldable pub descendant : (numbers : List ℕ) → Node → Option Node
descendant [] node = Some node
descendant (number ∷ numbers) node = option_and_then (descendant numbers) (child number node)

-- a key's node, and the extended key of a child of it
abbrev pub node_of : Extended → Option Node
node_of key = option_map (λ point. record { point = point; chain_code = key.chain_code }) (point_of key.key)

abbrev pub below : (number : ℕ) → Extended → Node → Extended
below number parent node = record {
  version = parent.version;
  depth = parent.depth + 1;
  parent = take 4 (hash160 parent.key);
  number = number;
  chain_code = node.chain_code;
  key = compressed node.point;
}

-- the extended key of a child: at depth 255 there is none
unfoldable pub extended_child : (number : ℕ) → Extended → Option Extended
extended_child number key =
    let found = option_map (below number key) (option_and_then (child number) (node_of key)) in
    if nat_lt key.depth 255 then found else None
