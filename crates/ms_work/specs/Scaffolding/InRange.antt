-- That a tree is in range has one proof at most, so that it can be kept beside the tree.
use Rattle.std.specs.Prelude.{List, All}
use Rattle.std.proofs.Props.{props}
use Rattle.def_hash.specs.declared.HashKind.{HashKind}
use Rattle.def_script.specs.Bytes.{Bytes}
use Rattle.def_tree.specs.Tree.{Tree, Trees, Key, just_0, just_1, pk_k, pk_h, older, after, hash, and_or, two, thresh, multi, wrap, none, more}
use Rattle.def_tree.specs.Range.{IsKey, IsDigest, IsWritable, AreWritable}
use Rattle.def_tree.specs.InRange.{IsInRange}

IsKey-prop : (key : Key) → IsProp (IsKey key)
IsKey-prop key = hlevel props

IsDigest-prop : (kind : HashKind) (value : Bytes) → IsProp (IsDigest kind value)
IsDigest-prop kind value = hlevel props

mutual
  IsWritable-prop : (t : Tree) → IsProp (IsWritable t)
  IsWritable-prop just_0 = hlevel props
  IsWritable-prop just_1 = hlevel props
  IsWritable-prop (pk_k key) = IsKey-prop key
  IsWritable-prop (pk_h key) = IsKey-prop key
  IsWritable-prop (older n) = hlevel props
  IsWritable-prop (after n) = hlevel props
  IsWritable-prop (hash kind value) = IsDigest-prop kind value
  IsWritable-prop (and_or x y z) = hlevel (props, IsWritable-prop x, IsWritable-prop y, IsWritable-prop z)
  IsWritable-prop (two kind x y) = hlevel (props, IsWritable-prop x, IsWritable-prop y)
  IsWritable-prop (thresh k xs) = hlevel (props, AreWritable-prop xs)
  IsWritable-prop (multi k keys) = hlevel (props, IsKey-prop)
  IsWritable-prop (wrap wrapper x) = IsWritable-prop x

  pub AreWritable-prop : (ts : Trees) → IsProp (AreWritable ts)
  AreWritable-prop none = hlevel props
  AreWritable-prop (more x xs) = hlevel (props, IsWritable-prop x, AreWritable-prop xs)

pub IsInRange-prop : (t : Tree) → IsProp (IsInRange t)
IsInRange-prop t = hlevel (props, IsWritable-prop t)

pub AreKeys-prop : (keys : List Key) → IsProp (All IsKey keys)
AreKeys-prop keys = hlevel (props, IsKey-prop)
