-- Miniscripts that are nested to the right. Several miniscripts have one Script where an `and_v` stands in another
-- fragment, as `c:and_v(X,Y)` and `and_v(X,c:Y)` (Bitcoin Core: `DecodeScript`, which reads the latter).
use Rattle.std.specs.Prelude.{◌≡◌, Bool, true, false, ⊤}
use Rattle.def_tree.specs.declared.Two.TheVariants as kind
use Rattle.def_tree.specs.declared.Wrapper.TheVariants as wrapper
use Rattle.def_tree.specs.Tree.{Tree, Trees, Key, just_0, just_1, pk_k, pk_h, older, after, hash, and_or, two, thresh, multi, wrap, none, more}

abbrev pub is_and_v : Tree → Bool
is_and_v (two kind.AndV x y) = true
is_and_v other = false

-- no `c`, `n` or `v` stands on an `and_v`, and no `and_v` is the first child of an `and_v` or an `and_b`
abbrev mutual
  pub RightNested : Tree → Type 0
  RightNested just_0 = ⊤
  RightNested just_1 = ⊤
  RightNested (pk_k key) = ⊤
  RightNested (pk_h key) = ⊤
  RightNested (older n) = ⊤
  RightNested (after n) = ⊤
  RightNested (hash kind value) = ⊤
  RightNested (and_or x y z) = RightNested x × RightNested y × RightNested z
  RightNested (two kind.AndV x y) = (is_and_v x ≡ false) × RightNested x × RightNested y
  RightNested (two kind.AndB x y) = (is_and_v x ≡ false) × RightNested x × RightNested y
  RightNested (two kind.OrB x z) = RightNested x × RightNested z
  RightNested (two kind.OrC x z) = RightNested x × RightNested z
  RightNested (two kind.OrD x z) = RightNested x × RightNested z
  RightNested (two kind.OrI x z) = RightNested x × RightNested z
  RightNested (thresh k xs) = AreRightNested xs
  RightNested (multi k keys) = ⊤
  RightNested (wrap wrapper.A x) = RightNested x
  RightNested (wrap wrapper.S x) = RightNested x
  RightNested (wrap wrapper.C x) = (is_and_v x ≡ false) × RightNested x
  RightNested (wrap wrapper.D x) = RightNested x
  RightNested (wrap wrapper.V x) = (is_and_v x ≡ false) × RightNested x
  RightNested (wrap wrapper.J x) = RightNested x
  RightNested (wrap wrapper.N x) = (is_and_v x ≡ false) × RightNested x

  pub AreRightNested : Trees → Type 0
  AreRightNested none = ⊤
  AreRightNested (more x xs) = RightNested x × AreRightNested xs

-- every key of a `pk_h` is so
abbrev mutual
  pub EachHashed : (Key → Type 0) → Tree → Type 0
  EachHashed P just_0 = ⊤
  EachHashed P just_1 = ⊤
  EachHashed P (pk_k key) = ⊤
  EachHashed P (pk_h key) = P key
  EachHashed P (older n) = ⊤
  EachHashed P (after n) = ⊤
  EachHashed P (hash kind value) = ⊤
  EachHashed P (and_or x y z) = EachHashed P x × EachHashed P y × EachHashed P z
  EachHashed P (two kind x y) = EachHashed P x × EachHashed P y
  EachHashed P (thresh k xs) = EachHashedOf P xs
  EachHashed P (multi k keys) = ⊤
  EachHashed P (wrap wrapper x) = EachHashed P x

  pub EachHashedOf : (Key → Type 0) → Trees → Type 0
  EachHashedOf P none = ⊤
  EachHashedOf P (more x xs) = EachHashed P x × EachHashedOf P xs
