-- Malleability properties (BIP 379, type system, malleability). The rows and their letters are read as in `Correctness`;
-- what a fragment requires is asked of every node.
use Rattle.std.specs.Prelude.{ℕ, ◌+◌, true, false, ◌&&◌, ◌||◌, nat_lt, nat_le, List, [], ◌∷◌, Result, if◌then◌else◌}
use Rattle.std.specs.List.{list_all}
use Rattle.def_tree.specs.declared.Two.{Two}
use Rattle.def_tree.specs.declared.Two.TheVariants as two_kind
use Rattle.def_tree.specs.declared.Wrapper.{Wrapper}
use Rattle.def_tree.specs.declared.Wrapper.TheVariants as wrapper
use Rattle.def_tree.specs.Tree.{Tree}
use Rattle.def_types.specs.declared.MalleabilityProperties.{MalleabilityProperties}
use Rattle.def_types.specs.declared.rule.RuleAt.{RuleAt}
use Rattle.def_types.specs.declared.rule.Rule.TheVariants as rule
use Rattle.def_types.specs.Row.{Row, Rows, need}
use Rattle.def_types.specs.System.{typed_from}

unfoldable pub just_0_row : Row MalleabilityProperties
just_0_row = record { needs = []; gives = record { s = true; f = false; e = true } }

unfoldable pub just_1_row : Row MalleabilityProperties
just_1_row = record { needs = []; gives = record { s = false; f = true; e = false } }

-- `pk_k`, `pk_h` and `multi`
unfoldable pub key_row : Row MalleabilityProperties
key_row = record { needs = []; gives = record { s = true; f = false; e = true } }

-- `older` and `after`
unfoldable pub lock_row : Row MalleabilityProperties
lock_row = record { needs = []; gives = record { s = false; f = true; e = false } }

unfoldable pub hash_row : Row MalleabilityProperties
hash_row = record { needs = []; gives = record { s = false; f = false; e = false } }

unfoldable pub and_or_row : (x y z : MalleabilityProperties) → Row MalleabilityProperties
and_or_row x y z = record {
  needs =
      need rule.AndOrE x.e ∷
      need rule.AndOrS (x.s || y.s || z.s) ∷ [];
  gives = record {
    s = z.s && (x.s || y.s);
    f = z.f && (x.s || y.f);
    e = z.e && (x.s || y.f);
  };
}

unfoldable pub and_v_row : (x y : MalleabilityProperties) → Row MalleabilityProperties
and_v_row x y = record {
  needs = [];
  gives = record { s = x.s || y.s; f = x.s || y.f; e = false };
}

unfoldable pub and_b_row : (x y : MalleabilityProperties) → Row MalleabilityProperties
and_b_row x y = record {
  needs = [];
  gives = record {
    s = x.s || y.s;
    f = (x.f && y.f) || (x.s && x.f) || (y.s && y.f);
    e = x.e && y.e && x.s && y.s;
  };
}

unfoldable pub or_b_row : (x z : MalleabilityProperties) → Row MalleabilityProperties
or_b_row x z = record {
  needs =
      need rule.OrBE (x.e && z.e) ∷
      need rule.OrBS (x.s || z.s) ∷ [];
  gives = record { s = x.s && z.s; f = false; e = true };
}

unfoldable pub or_c_row : (x z : MalleabilityProperties) → Row MalleabilityProperties
or_c_row x z = record {
  needs =
      need rule.OrCE x.e ∷
      need rule.OrCS (x.s || z.s) ∷ [];
  gives = record { s = x.s && z.s; f = true; e = false };
}

unfoldable pub or_d_row : (x z : MalleabilityProperties) → Row MalleabilityProperties
or_d_row x z = record {
  needs =
      need rule.OrDE x.e ∷
      need rule.OrDS (x.s || z.s) ∷ [];
  gives = record { s = x.s && z.s; f = z.f; e = z.e };
}

unfoldable pub or_i_row : (x z : MalleabilityProperties) → Row MalleabilityProperties
or_i_row x z = record {
  needs = need rule.OrIS (x.s || z.s) ∷ [];
  gives = record {
    s = x.s && z.s;
    f = x.f && z.f;
    e = (x.e && z.f) || (z.e && x.f);
  };
}

-- the fragments with two children, in the order of the table
unfoldable pub two_row : Two → (x y : MalleabilityProperties) → Row MalleabilityProperties
two_row two_kind.AndV x y = and_v_row x y
two_row two_kind.AndB x y = and_b_row x y
two_row two_kind.OrB x z = or_b_row x z
two_row two_kind.OrC x z = or_c_row x z
two_row two_kind.OrD x z = or_d_row x z
two_row two_kind.OrI x z = or_i_row x z

-- how many of the children are not s
abbrev pub count_not_s : List MalleabilityProperties → ℕ
count_not_s [] = 0
count_not_s (x ∷ xs) = (if x.s then 0 else 1) + count_not_s xs

unfoldable pub thresh_row : (k : ℕ) → (children : List MalleabilityProperties) → Row MalleabilityProperties
thresh_row k xs = record {
  needs =
      need rule.ThreshE (list_all (λ x. x.e) xs) ∷
      need rule.ThreshS (nat_le (count_not_s xs) k) ∷ [];
  gives = record {
    s = nat_lt (count_not_s xs) k;
    f = false;
    e = list_all (λ x. x.s) xs;
  };
}

unfoldable pub wrap_c_row : (x : MalleabilityProperties) → Row MalleabilityProperties
wrap_c_row x = record { needs = []; gives = record { s = true; f = x.f; e = x.e } }

unfoldable pub wrap_d_row : (x : MalleabilityProperties) → Row MalleabilityProperties
wrap_d_row x = record { needs = []; gives = record { s = x.s; f = false; e = true } }

unfoldable pub wrap_v_row : (x : MalleabilityProperties) → Row MalleabilityProperties
wrap_v_row x = record { needs = []; gives = record { s = x.s; f = true; e = false } }

unfoldable pub wrap_j_row : (x : MalleabilityProperties) → Row MalleabilityProperties
wrap_j_row x = record { needs = []; gives = record { s = x.s; f = false; e = x.f } }

-- the wrappers; `a`, `s` and `n` are as their child
unfoldable pub wrap_row : Wrapper → (x : MalleabilityProperties) → Row MalleabilityProperties
wrap_row wrapper.A x = record { needs = []; gives = x }
wrap_row wrapper.S x = record { needs = []; gives = x }
wrap_row wrapper.C x = wrap_c_row x
wrap_row wrapper.D x = wrap_d_row x
wrap_row wrapper.V x = wrap_v_row x
wrap_row wrapper.J x = wrap_j_row x
wrap_row wrapper.N x = record { needs = []; gives = x }

-- the rows of the table
abbrev pub malleability : Rows MalleabilityProperties
malleability = record {
  just_0 = just_0_row;
  just_1 = just_1_row;
  pk_k = key_row;
  pk_h = key_row;
  older = λ n. lock_row;
  after = λ n. lock_row;
  hash = hash_row;
  and_or = and_or_row;
  two = two_row;
  thresh = thresh_row;
  multi = λ k keys. key_row;
  wrap = wrap_row;
}

-- the properties, or the first requirement that is false
abbrev pub malleability_of : Tree → Result MalleabilityProperties RuleAt
malleability_of tree = typed_from malleability 0 tree
