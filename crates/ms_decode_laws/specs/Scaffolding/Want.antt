-- What a reader of a Script, which goes from its last instruction to its first, comes to next.
use Rattle.std.specs.Prelude.{ℕ, List}
use Rattle.def_script.specs.Bytes.{Bytes}
use Rattle.def_tree.specs.Tree.{Key, Tree, Trees}

pub data Want : Type 0 where
  -- an expression that is no `and_v` and has no W type; one with a W type
  single : Want
  side : Want
  -- what stands before this part of a chain of `and_v`
  after : (x : Tree) → Want
  -- the number of `older` and of `after`
  relative : Want
  absolute : Want
  -- what EQUAL compares with: a hash value or the number of a threshold; and what stands before these bytes
  target : Want
  given : (bytes : Bytes) → Want
  -- what stands before HASH160 and these bytes: DUP of `pk_h` or what ends SIZE
  hash160_of : (bytes : Bytes) → Want
  -- EQUALVERIFY, the number 32 and SIZE, for a hash; SIZE too for `j`
  compared : (x : Tree) → Want
  sized : (x : Tree) → Want
  measured : (x : Tree) → Want
  -- a further child or the first one of a threshold, before these children
  next : (k : ℕ) → (ys : Trees) → Want
  -- the number of keys of `multi`; so many keys and then the number of signatures, before these keys
  count : Want
  keys : (more : ℕ) → (ks : List Key) → Want
  -- what stands before IF and before NOTIF, with this one up to ENDIF
  if_seen : (x : Tree) → Want
  not_if_seen : (x : Tree) → Want
