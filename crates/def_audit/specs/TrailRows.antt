-- The satisfaction table (BIP 379, satisfaction) with the steps of each row, and which rows aren't canonical. The rows
-- of the fragments without children are those of satisfactions; the others stand here as there.
use Rattle.std.specs.Prelude.{◌≡◌, ◌≢◌, ℕ, suc, ◌+◌, Bool, true, false, ◌∷◌}
use Rattle.def_script.specs.Bytes.{Bytes}
use Rattle.def_machine.specs.Stacks.{Stack}
use Rattle.def_machine.specs.Machine.{Given}
use Rattle.def_tree.specs.declared.Two.TheVariants as kind
use Rattle.def_tree.specs.declared.Wrapper.TheVariants as wrapper
use Rattle.def_tree.specs.Size.{nodes, nodes_of}
use Rattle.def_tree.specs.Tree.{Tree, Trees, just_0, just_1, pk_k, pk_h, older, after, hash, and_or, two, thresh, multi, wrap, none, more}
use Rattle.def_table.specs.Table.{just_0_row, just_1_row}
use Rattle.def_satisfaction.specs.StackSet.{StackSet, Nothing, Is}
use Rattle.def_satisfaction.specs.Setting.{Setting, any}
use Rattle.def_satisfaction.specs.Satisfaction.{full}
use Rattle.def_satisfaction.specs.Rows.{Row, EMPTY, ONE, ZEROS, HasTop, stacks, pk_k_row, pk_h_row, older_row, after_row, hash_row, multi_row}
use Rattle.def_audit.specs.TrailSet.{TrailSet, Never, Bare, Both, Either, Where, Canonical, Extra}

pub record TrailRow : Type 1 where
  pub dsat : TrailSet
  pub sat : TrailSet

-- the top item is this one
abbrev pub IsTop : Bytes → Stack → Type 0
IsTop item stack = (rest : Stack) × (stack ≡ item ∷ rest)

-- a set of which only the stacks with this item on top are by a canonical row
abbrev pub WithTop : (item : Bytes) → (node : ℕ) → (sat : Bool) → StackSet → TrailSet
WithTop item node sat P =
    Either (Canonical node sat (Where (IsTop item) (Bare P))) (Extra node sat (Where (λ stack. ¬ IsTop item stack) (Bare P)))

-- a fragment without children, by its canonical rows alone
abbrev pub bare_row : (node : ℕ) → Row → TrailRow
bare_row node r = record { dsat = Canonical node false (Bare r.dsat); sat = Canonical node true (Bare r.sat) }

-- `pk_h(key)`: another key with the same hash isn't canonical
abbrev pub pk_h_trails : (node : ℕ) → (key : Bytes) → Row → TrailRow
pk_h_trails node key r = record { dsat = WithTop key node false r.dsat; sat = WithTop key node true r.sat }

-- `sha256(value)`, `hash256(value)`, `ripemd160(value)` and `hash160(value)`: it is dissatisfied by 32 zero bytes
abbrev pub hash_trails : (node : ℕ) → Row → TrailRow
hash_trails node r = record { dsat = WithTop ZEROS node false r.dsat; sat = Canonical node true (Bare r.sat) }

-- `andor(X,Y,Z)`
abbrev pub and_or_trails : (node : ℕ) → (x y z : TrailRow) → TrailRow
and_or_trails node x y z = record {
  dsat = Either (Canonical node false (Both z.dsat x.dsat)) (Extra node false (Both y.dsat x.sat));
  sat = Canonical node true (Either (Both y.sat x.sat) (Both z.sat x.dsat));
}

-- `and_v(X,Y)`
abbrev pub and_v_trails : (node : ℕ) → (x y : TrailRow) → TrailRow
and_v_trails node x y = record {
  dsat = Extra node false (Both y.dsat x.sat);
  sat = Canonical node true (Both y.sat x.sat);
}

-- `and_b(X,Y)`
abbrev pub and_b_trails : (node : ℕ) → (x y : TrailRow) → TrailRow
and_b_trails node x y = record {
  dsat = Either (Canonical node false (Both y.dsat x.dsat)) (Extra node false (Either (Both y.sat x.dsat) (Both y.dsat x.sat)));
  sat = Canonical node true (Both y.sat x.sat);
}

-- `or_b(X,Z)`
abbrev pub or_b_trails : (node : ℕ) → (x z : TrailRow) → TrailRow
or_b_trails node x z = record {
  dsat = Canonical node false (Both z.dsat x.dsat);
  sat = Either (Canonical node true (Either (Both z.dsat x.sat) (Both z.sat x.dsat))) (Extra node true (Both z.sat x.sat));
}

-- `or_c(X,Z)`
abbrev pub or_c_trails : (node : ℕ) → (x z : TrailRow) → TrailRow
or_c_trails node x z = record { dsat = Never; sat = Canonical node true (Either x.sat (Both z.sat x.dsat)) }

-- `or_d(X,Z)`
abbrev pub or_d_trails : (node : ℕ) → (x z : TrailRow) → TrailRow
or_d_trails node x z = record {
  dsat = Canonical node false (Both z.dsat x.dsat);
  sat = Canonical node true (Either x.sat (Both z.sat x.dsat));
}

-- `or_i(X,Z)`
abbrev pub or_i_trails : (node : ℕ) → (x z : TrailRow) → TrailRow
or_i_trails node x z = record {
  dsat = Canonical node false (Either (Both x.dsat (Bare (Is ONE))) (Both z.dsat (Bare (Is EMPTY))));
  sat = Canonical node true (Either (Both x.sat (Bare (Is ONE))) (Both z.sat (Bare (Is EMPTY))));
}

-- the stacks of several children, the first one's on top: n of them satisfied, and the others dissatisfied
abbrev pub TrailsOfNone : (n : ℕ) → TrailSet
TrailsOfNone n = Where (λ stack. n ≡ 0) (Bare Nothing)

abbrev pub TrailsOf : (first : TrailRow) → (others : ℕ → TrailSet) → (n : ℕ) → TrailSet
TrailsOf x others n =
    Either (λ stack steps. (m : ℕ) × (n ≡ suc m) × Both (others m) x.sat stack steps) (Both (others n) x.dsat)

-- `thresh(k,X1,..,Xn)`, from the stacks of its children
abbrev pub thresh_trails : (node : ℕ) → (k : ℕ) → (parts : ℕ → TrailSet) → TrailRow
thresh_trails node k parts = record {
  dsat =
      Either (Canonical node false (parts 0))
      (Extra node false (λ stack steps. (n : ℕ) × (n ≢ 0) × (n ≢ k) × parts n stack steps));
  sat = Canonical node true (parts k);
}

-- `d:X`
abbrev pub wrap_d_trails : (node : ℕ) → (x : TrailRow) → TrailRow
wrap_d_trails node x = record {
  dsat = Canonical node false (Bare (Is EMPTY));
  sat = Canonical node true (Both x.sat (Bare (Is ONE)));
}

-- `v:X`
abbrev pub wrap_v_trails : (node : ℕ) → (x : TrailRow) → TrailRow
wrap_v_trails node x = record { dsat = Never; sat = Canonical node true x.sat }

-- `j:X`
abbrev pub wrap_j_trails : (node : ℕ) → (x : TrailRow) → TrailRow
wrap_j_trails node x = record {
  dsat = Either (Canonical node false (Bare (Is EMPTY))) (Extra node false (Where HasTop x.dsat));
  sat = Canonical node true x.sat;
}

-- `a:X`, `s:X`, `c:X` and `n:X`
abbrev pub wrap_trails : (node : ℕ) → (x : TrailRow) → TrailRow
wrap_trails node x = record { dsat = Canonical node false x.dsat; sat = Canonical node true x.sat }

-- the row of each fragment, whose nodes have the numbers from `first` on
module _ (given : Given) where
  abbrev setting : Setting
  setting = full given any

  abbrev mutual
    pub trails : (first : ℕ) → Tree → TrailRow
    trails first just_0 = bare_row first (just_0_row (stacks setting))
    trails first just_1 = bare_row first (just_1_row (stacks setting))
    trails first (pk_k key) = bare_row first (pk_k_row setting key)
    trails first (pk_h key) = pk_h_trails first key (pk_h_row setting key)
    trails first (older n) = bare_row first (older_row setting n)
    trails first (after n) = bare_row first (after_row setting n)
    trails first (hash kind value) = hash_trails first (hash_row setting kind value)
    trails first (and_or x y z) =
        and_or_trails (first + nodes x + nodes y + nodes z) (trails first x) (trails (first + nodes x) y)
        (trails (first + nodes x + nodes y) z)
    trails first (two kind.AndV x y) = and_v_trails (first + nodes x + nodes y) (trails first x) (trails (first + nodes x) y)
    trails first (two kind.AndB x y) = and_b_trails (first + nodes x + nodes y) (trails first x) (trails (first + nodes x) y)
    trails first (two kind.OrB x z) = or_b_trails (first + nodes x + nodes z) (trails first x) (trails (first + nodes x) z)
    trails first (two kind.OrC x z) = or_c_trails (first + nodes x + nodes z) (trails first x) (trails (first + nodes x) z)
    trails first (two kind.OrD x z) = or_d_trails (first + nodes x + nodes z) (trails first x) (trails (first + nodes x) z)
    trails first (two kind.OrI x z) = or_i_trails (first + nodes x + nodes z) (trails first x) (trails (first + nodes x) z)
    trails first (thresh k xs) = thresh_trails (first + nodes_of xs) k (trails_of first xs)
    trails first (multi k keys) = bare_row first (multi_row setting k keys)
    trails first (wrap wrapper.A x) = wrap_trails (first + nodes x) (trails first x)
    trails first (wrap wrapper.S x) = wrap_trails (first + nodes x) (trails first x)
    trails first (wrap wrapper.C x) = wrap_trails (first + nodes x) (trails first x)
    trails first (wrap wrapper.D x) = wrap_d_trails (first + nodes x) (trails first x)
    trails first (wrap wrapper.V x) = wrap_v_trails (first + nodes x) (trails first x)
    trails first (wrap wrapper.J x) = wrap_j_trails (first + nodes x) (trails first x)
    trails first (wrap wrapper.N x) = wrap_trails (first + nodes x) (trails first x)

    pub trails_of : (first : ℕ) → Trees → (n : ℕ) → TrailSet
    trails_of first none = TrailsOfNone
    trails_of first (more x xs) = TrailsOf (trails first x) (trails_of (first + nodes x) xs)
