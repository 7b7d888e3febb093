-- Correctness types (BIP 379, type system, correctness). `or_d_row` and its like are the table's rows:
-- what a fragment requires, and the type that it has. A row calls a child's type by the child's letter,
-- and 'z.d' is the property d of the child Z.
use Rattle.std.specs.Prelude.{ℕ, ◌^◌, Bool, true, false, ◌&&◌, ◌||◌, nat_lt, nat_le, List, [], ◌∷◌, length, Result}
use Rattle.std.specs.List.{list_all}
use Rattle.def_tree.specs.declared.Two.{Two}
use Rattle.def_tree.specs.declared.Two.TheVariants as two_kind
use Rattle.def_tree.specs.declared.Wrapper.{Wrapper}
use Rattle.def_tree.specs.declared.Wrapper.TheVariants as wrapper
use Rattle.def_script.specs.Limits.{MAX_PUBKEYS_PER_MULTISIG}
use Rattle.def_tree.specs.Tree.{Tree, Key}
use Rattle.def_types.specs.declared.Base.{Base}
use Rattle.def_types.specs.declared.Base.TheVariants.{B, V, K, W}
use Rattle.def_types.specs.declared.CorrectnessType.{CorrectnessType}
use Rattle.def_types.specs.declared.rule.RuleAt.{RuleAt}
use Rattle.def_types.specs.declared.rule.Rule.TheVariants as rule
use Rattle.def_types.specs.Row.{Row, Rows, need}
use Rattle.def_types.specs.System.{typed_from}

abbrev pub is_b : Base → Bool
is_b B = true
is_b V = false
is_b K = false
is_b W = false

abbrev pub is_v : Base → Bool
is_v B = false
is_v V = true
is_v K = false
is_v W = false

abbrev pub is_k : Base → Bool
is_k B = false
is_k V = false
is_k K = true
is_k W = false

abbrev pub is_w : Base → Bool
is_w B = false
is_w V = false
is_w K = false
is_w W = true

-- the same of B, K and V
abbrev pub are_same : Base → Base → Bool
are_same x y = (is_b x && is_b y) || (is_k x && is_k y) || (is_v x && is_v y)

unfoldable pub just_0_row : Row CorrectnessType
just_0_row = record {
  needs = [];
  gives = record { base = B; z = true; o = false; n = false; d = true; u = true };
}

unfoldable pub just_1_row : Row CorrectnessType
just_1_row = record {
  needs = [];
  gives = record { base = B; z = true; o = false; n = false; d = false; u = true };
}

unfoldable pub pk_k_row : Row CorrectnessType
pk_k_row = record {
  needs = [];
  gives = record { base = K; z = false; o = true; n = true; d = true; u = true };
}

unfoldable pub pk_h_row : Row CorrectnessType
pk_h_row = record {
  needs = [];
  gives = record { base = K; z = false; o = false; n = true; d = true; u = true };
}

-- n is 1 to 2^31 - 1
unfoldable pub older_row : (n : ℕ) → Row CorrectnessType
older_row n = record {
  needs = need rule.OlderRange (nat_le 1 n && nat_lt n (2 ^ 31)) ∷ [];
  gives = record { base = B; z = true; o = false; n = false; d = false; u = false };
}

unfoldable pub after_row : (n : ℕ) → Row CorrectnessType
after_row n = record {
  needs = need rule.AfterRange (nat_le 1 n && nat_lt n (2 ^ 31)) ∷ [];
  gives = record { base = B; z = true; o = false; n = false; d = false; u = false };
}

unfoldable pub hash_row : Row CorrectnessType
hash_row = record {
  needs = [];
  gives = record { base = B; z = false; o = true; n = true; d = true; u = true };
}

unfoldable pub and_or_row : (x y z : CorrectnessType) → Row CorrectnessType
and_or_row x y z = record {
  needs =
      need rule.AndOrX (is_b x.base && x.d && x.u) ∷
      need rule.AndOrYZ (are_same y.base z.base) ∷ [];
  gives = record {
    base = y.base;
    z = x.z && y.z && z.z;
    o = (x.z && y.o && z.o) || (x.o && y.z && z.z);
    n = false;
    d = z.d;
    u = y.u && z.u;
  };
}

unfoldable pub and_v_row : (x y : CorrectnessType) → Row CorrectnessType
and_v_row x y = record {
  needs =
      need rule.AndVX (is_v x.base) ∷
      need rule.AndVY (is_b y.base || is_k y.base || is_v y.base) ∷ [];
  gives = record {
    base = y.base;
    z = x.z && y.z;
    o = (x.z && y.o) || (y.z && x.o);
    n = x.n || (x.z && y.n);
    d = false;
    u = y.u;
  };
}

unfoldable pub and_b_row : (x y : CorrectnessType) → Row CorrectnessType
and_b_row x y = record {
  needs =
      need rule.AndBX (is_b x.base) ∷
      need rule.AndBY (is_w y.base) ∷ [];
  gives = record {
    base = B;
    z = x.z && y.z;
    o = (x.z && y.o) || (y.z && x.o);
    n = x.n || (x.z && y.n);
    d = x.d && y.d;
    u = true;
  };
}

unfoldable pub or_b_row : (x z : CorrectnessType) → Row CorrectnessType
or_b_row x z = record {
  needs =
      need rule.OrBX (is_b x.base && x.d) ∷
      need rule.OrBZ (is_w z.base && z.d) ∷ [];
  gives = record {
    base = B;
    z = x.z && z.z;
    o = (x.z && z.o) || (z.z && x.o);
    n = false;
    d = true;
    u = true;
  };
}

unfoldable pub or_c_row : (x z : CorrectnessType) → Row CorrectnessType
or_c_row x z = record {
  needs =
      need rule.OrCX (is_b x.base && x.d && x.u) ∷
      need rule.OrCZ (is_v z.base) ∷ [];
  gives = record {
    base = V;
    z = x.z && z.z;
    o = x.o && z.z;
    n = false;
    d = false;
    u = false;
  };
}

unfoldable pub or_d_row : (x z : CorrectnessType) → Row CorrectnessType
or_d_row x z = record {
  needs =
      need rule.OrDX (is_b x.base && x.d && x.u) ∷
      need rule.OrDZ (is_b z.base) ∷ [];
  gives = record {
    base = B;
    z = x.z && z.z;
    o = x.o && z.z;
    n = false;
    d = z.d;
    u = z.u;
  };
}

unfoldable pub or_i_row : (x z : CorrectnessType) → Row CorrectnessType
or_i_row x z = record {
  needs = need rule.OrIXZ (are_same x.base z.base) ∷ [];
  gives = record {
    base = x.base;
    z = false;
    o = x.z && z.z;
    n = false;
    d = x.d || z.d;
    u = x.u && z.u;
  };
}

-- the fragments with two children, in the order of the table
unfoldable pub two_row : Two → (x y : CorrectnessType) → Row CorrectnessType
two_row two_kind.AndV x y = and_v_row x y
two_row two_kind.AndB x y = and_b_row x y
two_row two_kind.OrB x z = or_b_row x z
two_row two_kind.OrC x z = or_c_row x z
two_row two_kind.OrD x z = or_d_row x z
two_row two_kind.OrI x z = or_i_row x z

-- the first child is B d u
abbrev pub first_fits : List CorrectnessType → Bool
first_fits [] = false
first_fits (x ∷ xs) = is_b x.base && x.d && x.u

-- the others are W d u
abbrev pub others_fit : List CorrectnessType → Bool
others_fit [] = true
others_fit (x ∷ xs) = list_all (λ y. is_w y.base && y.d && y.u) xs

abbrev pub all_z : List CorrectnessType → Bool
all_z = list_all (λ x. x.z)

-- all are z but one, which is o
abbrev pub all_z_but_one : List CorrectnessType → Bool
all_z_but_one [] = false
all_z_but_one (x ∷ xs) = (x.o && all_z xs) || (x.z && all_z_but_one xs)

-- k is 1 to the number of children
unfoldable pub thresh_row : (k : ℕ) → (children : List CorrectnessType) → Row CorrectnessType
thresh_row k xs = record {
  needs =
      need rule.ThreshRange (nat_le 1 k && nat_le k (length xs)) ∷
      need rule.ThreshFirst (first_fits xs) ∷
      need rule.ThreshOther (others_fit xs) ∷ [];
  gives = record { base = B; z = all_z xs; o = all_z_but_one xs; n = false; d = true; u = true };
}

-- k is 1 to the number of keys, of which there are at most MAX_PUBKEYS_PER_MULTISIG
unfoldable pub multi_row : (k : ℕ) → (keys : List Key) → Row CorrectnessType
multi_row k keys = record {
  needs =
      need rule.MultiRange (nat_le 1 k && nat_le k (length keys) && nat_le (length keys) MAX_PUBKEYS_PER_MULTISIG) ∷ [];
  gives = record { base = B; z = false; o = false; n = true; d = true; u = true };
}

unfoldable pub wrap_a_row : (x : CorrectnessType) → Row CorrectnessType
wrap_a_row x = record {
  needs = need rule.WrapA (is_b x.base) ∷ [];
  gives = record { base = W; z = false; o = false; n = false; d = x.d; u = x.u };
}

unfoldable pub wrap_s_row : (x : CorrectnessType) → Row CorrectnessType
wrap_s_row x = record {
  needs = need rule.WrapS (is_b x.base && x.o) ∷ [];
  gives = record { base = W; z = false; o = false; n = false; d = x.d; u = x.u };
}

unfoldable pub wrap_c_row : (x : CorrectnessType) → Row CorrectnessType
wrap_c_row x = record {
  needs = need rule.WrapC (is_k x.base) ∷ [];
  gives = record { base = B; z = false; o = x.o; n = x.n; d = x.d; u = true };
}

unfoldable pub wrap_d_row : (x : CorrectnessType) → Row CorrectnessType
wrap_d_row x = record {
  needs = need rule.WrapD (is_v x.base && x.z) ∷ [];
  gives = record { base = B; z = false; o = true; n = true; d = true; u = false };
}

unfoldable pub wrap_v_row : (x : CorrectnessType) → Row CorrectnessType
wrap_v_row x = record {
  needs = need rule.WrapV (is_b x.base) ∷ [];
  gives = record { base = V; z = x.z; o = x.o; n = x.n; d = false; u = false };
}

unfoldable pub wrap_j_row : (x : CorrectnessType) → Row CorrectnessType
wrap_j_row x = record {
  needs = need rule.WrapJ (is_b x.base && x.n) ∷ [];
  gives = record { base = B; z = false; o = x.o; n = true; d = true; u = x.u };
}

unfoldable pub wrap_n_row : (x : CorrectnessType) → Row CorrectnessType
wrap_n_row x = record {
  needs = need rule.WrapN (is_b x.base) ∷ [];
  gives = record { base = B; z = x.z; o = x.o; n = x.n; d = x.d; u = true };
}

-- the wrappers, in the order of the table
unfoldable pub wrap_row : Wrapper → (x : CorrectnessType) → Row CorrectnessType
wrap_row wrapper.A x = wrap_a_row x
wrap_row wrapper.S x = wrap_s_row x
wrap_row wrapper.C x = wrap_c_row x
wrap_row wrapper.D x = wrap_d_row x
wrap_row wrapper.V x = wrap_v_row x
wrap_row wrapper.J x = wrap_j_row x
wrap_row wrapper.N x = wrap_n_row x

-- the rows of the table
abbrev pub correctness : Rows CorrectnessType
correctness = record {
  just_0 = just_0_row;
  just_1 = just_1_row;
  pk_k = pk_k_row;
  pk_h = pk_h_row;
  older = older_row;
  after = after_row;
  hash = hash_row;
  and_or = and_or_row;
  two = two_row;
  thresh = thresh_row;
  multi = multi_row;
  wrap = wrap_row;
}

-- the type, or the first requirement that is false
abbrev pub correctness_of : Tree → Result CorrectnessType RuleAt
correctness_of tree = typed_from correctness 0 tree
