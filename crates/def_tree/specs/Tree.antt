-- A miniscript expression as a tree (BIP 379, translation table), with no sugar. Fragments have
-- Bitcoin Core's names.
use Rattle.std.specs.Prelude.{ℕ, List}
use Rattle.def_script.specs.Bytes.{Bytes}
use Rattle.def_hash.specs.declared.HashKind.{HashKind}
use Rattle.def_tree.specs.declared.Wrapper.{Wrapper}
use Rattle.def_tree.specs.declared.Two.{Two}

-- a compressed public key: 33 bytes
abbrev pub Key : Type 0
Key = Bytes

mutual
  pub data Tree : Type 0 where
    -- `0` and `1`
    just_0 : Tree
    just_1 : Tree
    -- `pk_k(key)` and `pk_h(key)`
    pk_k : (key : Key) → Tree
    pk_h : (key : Key) → Tree
    -- `older(n)` and `after(n)`
    older : (n : ℕ) → Tree
    after : (n : ℕ) → Tree
    -- `sha256(value)`, `hash256(value)`, `ripemd160(value)` or `hash160(value)`
    hash : (kind : HashKind) → (value : Bytes) → Tree
    -- `andor(x,y,z)`
    and_or : (x y z : Tree) → Tree
    -- `and_v(x,y)`, `and_b(x,y)`, `or_b(x,y)`, `or_c(x,y)`, `or_d(x,y)` or `or_i(x,y)`
    two : (kind : Two) → (x y : Tree) → Tree
    -- `thresh(k,x1,..,xn)`
    thresh : (k : ℕ) → (children : Trees) → Tree
    -- `multi(k,key1,..,keyn)`
    multi : (k : ℕ) → (keys : List Key) → Tree
    -- `a:x`, `s:x`, `c:x`, `d:x`, `v:x`, `j:x` or `n:x`
    wrap : (wrapper : Wrapper) → (x : Tree) → Tree

  -- a list of trees, which the language wants as a type of its own beside `Tree`
  pub data Trees : Type 0 where
    none : Trees
    more : (x : Tree) → (xs : Trees) → Trees
