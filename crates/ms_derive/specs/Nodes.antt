-- Which nodes and extended keys of the definitions those of the code stand for.
use Rattle.std.specs.Prelude.{ℕ}
use Rattle.def_derive.specs.Child.{Node as TheNode}
use Rattle.def_derive.specs.Extended.{Extended as TheExtended}
use Rattle.ms_point.specs.Standing.{point_at}
use Rattle.ms_derive.specs.declared.steps.Node.{Node}
use Rattle.ms_derive.specs.declared.extended.Extended.{Extended}
use Rattle.ms_derive.specs.declared.extended.Version.{Version}
use Rattle.ms_derive.specs.declared.extended.Version.TheVariants.{Xpub, Tpub}

-- the point with its coordinates, and its chain code
abbrev pub node_at : Node → TheNode
node_at node = record { point = point_at node.point; chain_code = node.chain_code }

-- the four bytes of a version as a number (BIP 32, "Serialization format")
abbrev pub version_number : Version → ℕ
version_number Xpub = 0x0488b21e
version_number Tpub = 0x043587cf

-- all parts of the key as they are
abbrev pub extended_at : Extended → TheExtended
extended_at key = record {
  version = version_number key.version;
  depth = key.depth;
  parent = key.parent;
  number = key.number;
  chain_code = key.chain_code;
  key = key.key;
}
