-- Trees that the reader reads: nested to the right, within its bounds, and with numbers and keys that it finds.
use Rattle.std.proofs.Common.{◌≡◌, ℕ, ◌==◌, ◌&&◌, nat_le, true, List, [], ◌∷◌, length, Option, Some}
use Rattle.def_hash.specs.declared.HashKind.{HashKind}
use Rattle.def_hash.specs.Hash.{digest_length, hash160}
use Rattle.def_script.specs.Bytes.{Bytes}
use Rattle.def_script.specs.Numbers.{natural_bytes}
use Rattle.def_tree.specs.declared.Two.TheVariants as kind
use Rattle.def_tree.specs.declared.Wrapper.TheVariants as wrapper
use Rattle.def_tree.specs.Tree as tree
use Rattle.def_tree.specs.Tree.{Tree, Trees, Key, none, more}
use Rattle.ms_decode_laws.specs.Scaffolding.Reader.{natural_of, fits}
use Rattle.def_script.specs.Key.{is_key}

-- keys that the reader takes for keys
pub data AreKeys : List Key → Type 0 where
  no_key : AreKeys []
  a_key : (key : Key) → (ks : List Key) → is_key key ≡ true → AreKeys ks → AreKeys (key ∷ ks)

-- an expression that is no `and_v` and no W; any that is no W; a W; the further children of a threshold
mutual
  pub data One (find : Bytes → Option Key) : Tree → Type 0 where
    zero_one : One find tree.just_0
    one_one : One find tree.just_1
    pk_k_one : (key : Key) → is_key key ≡ true → One find (tree.pk_k key)
    pk_h_one : (key : Key) → find (hash160 key) ≡ Some key → One find (tree.pk_h key)
    older_one : (n : ℕ) → natural_of (natural_bytes n) ≡ Some n → One find (tree.older n)
    after_one : (n : ℕ) → natural_of (natural_bytes n) ≡ Some n → One find (tree.after n)
    hash_one : (kind : HashKind) → (value : Bytes) → (length value == digest_length kind) ≡ true → One find (tree.hash kind value)
    and_or_one : (x y z : Tree) → One find x → Row find y → Row find z → fits (tree.and_or x y z) ≡ true → One find (tree.and_or x y z)
    and_b_one : (x y : Tree) → One find x → Side find y → fits (tree.two kind.AndB x y) ≡ true → One find (tree.two kind.AndB x y)
    or_b_one : (x y : Tree) → One find x → Side find y → fits (tree.two kind.OrB x y) ≡ true → One find (tree.two kind.OrB x y)
    or_c_one : (x y : Tree) → One find x → Row find y → fits (tree.two kind.OrC x y) ≡ true → One find (tree.two kind.OrC x y)
    or_d_one : (x y : Tree) → One find x → Row find y → fits (tree.two kind.OrD x y) ≡ true → One find (tree.two kind.OrD x y)
    or_i_one : (x y : Tree) → Row find x → Row find y → fits (tree.two kind.OrI x y) ≡ true → One find (tree.two kind.OrI x y)
    thresh_one : (k : ℕ) → (x : Tree) → (xs : Trees) → natural_of (natural_bytes k) ≡ Some k → One find x → Sides find xs → fits (tree.thresh k (more x xs))
        ≡ true → One find (tree.thresh k (more x xs))
    multi_one : (k : ℕ) → (ks : List Key) → natural_of (natural_bytes k) ≡ Some k → natural_of (natural_bytes (length ks)) ≡ Some (length ks)
        → (nat_le 1 (length ks) && nat_le (length ks) 20) ≡ true → AreKeys ks → fits (tree.multi k ks) ≡ true → One find (tree.multi k ks)
    c_one : (x : Tree) → One find x → fits (tree.wrap wrapper.C x) ≡ true → One find (tree.wrap wrapper.C x)
    d_one : (x : Tree) → Row find x → fits (tree.wrap wrapper.D x) ≡ true → One find (tree.wrap wrapper.D x)
    v_one : (x : Tree) → One find x → fits (tree.wrap wrapper.V x) ≡ true → One find (tree.wrap wrapper.V x)
    j_one : (x : Tree) → Row find x → fits (tree.wrap wrapper.J x) ≡ true → One find (tree.wrap wrapper.J x)
    n_one : (x : Tree) → One find x → fits (tree.wrap wrapper.N x) ≡ true → One find (tree.wrap wrapper.N x)

  pub data Row (find : Bytes → Option Key) : Tree → Type 0 where
    last_row : (x : Tree) → One find x → Row find x
    and_v_row : (x y : Tree) → One find x → Row find y → fits (tree.two kind.AndV x y) ≡ true → Row find (tree.two kind.AndV x y)

  pub data Side (find : Bytes → Option Key) : Tree → Type 0 where
    a_side : (x : Tree) → Row find x → fits (tree.wrap wrapper.A x) ≡ true → Side find (tree.wrap wrapper.A x)
    s_side : (x : Tree) → Row find x → fits (tree.wrap wrapper.S x) ≡ true → Side find (tree.wrap wrapper.S x)

  pub data Sides (find : Bytes → Option Key) : Trees → Type 0 where
    no_side : Sides find none
    more_sides : (x : Tree) → (xs : Trees) → Side find x → Sides find xs → Sides find (more x xs)
