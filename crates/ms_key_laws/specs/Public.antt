-- What a key expression may name.
use Rattle.std.specs.Prelude.{◌≡◌, IsTrue, All, Ok, Some}
use Rattle.def_script.specs.Bytes.{Bytes}
use Rattle.def_script.specs.Key.{is_key}
use Rattle.def_curve.specs.Point.{Point}
use Rattle.def_curve.specs.Key.{point_of}
use Rattle.def_derive.specs.Extended.{is_version}
use Rattle.def_descriptor.specs.Expression.{Named, point, extended, Expression}
use Rattle.def_descriptor.specs.Answer.{Descriptor, Answers}
use Rattle.def_descriptor.specs.Gives.{expressions_of}

-- bytes are the key of a point
abbrev pub HasPoint : Bytes → Type 0
HasPoint key = (own : Point) × (point_of key ≡ Some own)

-- a compressed key, or an extended one of the version of public ones, `xpub` or `tpub`, with a compressed key: of a point, both
abbrev pub IsPublic : Named → Type 0
IsPublic (point key) = IsTrue (is_key key) × HasPoint key
IsPublic (extended key ways) = IsTrue (is_version key.version) × IsTrue (is_key key.key) × HasPoint key.key

-- each key expression of a descriptor names such a key, and so nothing secret
abbrev pub KeysArePublic : Type 0
KeysArePublic = (text : Bytes) (own : Descriptor) → Answers text (Ok own) → All (λ (e : Expression). IsPublic e.named) (expressions_of own.body)
