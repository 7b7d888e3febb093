-- Which canonical satisfactions leave nothing to a stranger who has no signatures. Inside, the top of a stack
-- stands first.
use Rattle.std.specs.Prelude.{◌⊎◌, ℕ, List, reverse}
use Rattle.def_script.specs.Bytes.{Bytes}
use Rattle.def_machine.specs.Stacks.{Stack}
use Rattle.def_tree.specs.declared.Two.TheVariants as kind
use Rattle.def_tree.specs.declared.Wrapper.TheVariants as wrapper
use Rattle.def_tree.specs.Tree.{Tree, Trees, just_0, just_1, pk_k, pk_h, older, after, hash, and_or, two, thresh, multi, wrap, none, more}
use Rattle.def_assets.specs.Assets.{Assets, unsigned}
use Rattle.def_satisfaction.specs.StackSet.{StackSet, Is, If, Both, Either}
use Rattle.def_satisfaction.specs.Rows.{Row, EMPTY, ONE, PartsOf, PartsOfNone, row}
use Rattle.def_satisfaction.specs.Satisfaction.{Sat, canonical}

-- some satisfaction needs no signature
abbrev pub Unsigned : Tree → Assets → Type 0
Unsigned tree assets = (stack : List Bytes) × Sat tree (unsigned assets) stack

-- the canonical stacks of a tree, and the free ones, which need no signature
abbrev pub signed_row : Assets → Tree → Row
signed_row assets tree = row (canonical assets) tree

abbrev pub free_row : Assets → Tree → Row
free_row assets tree = row (canonical (unsigned assets)) tree

-- there is a stack of the set
abbrev pub HasOne : StackSet → Type 0
HasOne P = (stack : Stack) × P stack

-- of two options, each with its free stacks: where one of them has a free stack, the option that is taken is
-- such a one, and the stack is free for it
abbrev pub FreeFirst : (free_1 free_2 : StackSet) → (option_1 option_2 : StackSet) → StackSet
FreeFirst free_1 free_2 option_1 option_2 stack =
    (option_1 stack × (HasOne (Either free_1 free_2) → free_1 stack)) ⊎
    (option_2 stack × (HasOne (Either free_1 free_2) → free_2 stack))

-- a child of a threshold: where it has a free satisfaction, it is satisfied, and by a free stack
abbrev pub required : (free : StackSet) → (child : Row) → Row
required free child = record {
  dsat = If (¬ HasOne free) child.dsat;
  sat = λ stack. child.sat stack × (HasOne free → free stack);
}

abbrev mutual
  pub TightSat : Assets → Tree → StackSet
  TightSat assets just_0 = (signed_row assets just_0).sat
  TightSat assets just_1 = (signed_row assets just_1).sat
  TightSat assets (pk_k key) = (signed_row assets (pk_k key)).sat
  TightSat assets (pk_h key) = (signed_row assets (pk_h key)).sat
  TightSat assets (older n) = (signed_row assets (older n)).sat
  TightSat assets (after n) = (signed_row assets (after n)).sat
  TightSat assets (hash kind value) = (signed_row assets (hash kind value)).sat
  TightSat assets (and_or x y z) =
      FreeFirst
      (Both (free_row assets y).sat (free_row assets x).sat) (Both (free_row assets z).sat (free_row assets x).dsat)
      (Both (TightSat assets y) (TightSat assets x)) (Both (TightSat assets z) (signed_row assets x).dsat)
  TightSat assets (two kind.AndV x y) = Both (TightSat assets y) (TightSat assets x)
  TightSat assets (two kind.AndB x y) = Both (TightSat assets y) (TightSat assets x)
  TightSat assets (two kind.OrB x z) =
      FreeFirst
      (Both (free_row assets z).dsat (free_row assets x).sat) (Both (free_row assets z).sat (free_row assets x).dsat)
      (Both (signed_row assets z).dsat (TightSat assets x)) (Both (TightSat assets z) (signed_row assets x).dsat)
  TightSat assets (two kind.OrC x z) =
      FreeFirst
      (free_row assets x).sat (Both (free_row assets z).sat (free_row assets x).dsat)
      (TightSat assets x) (Both (TightSat assets z) (signed_row assets x).dsat)
  TightSat assets (two kind.OrD x z) =
      FreeFirst
      (free_row assets x).sat (Both (free_row assets z).sat (free_row assets x).dsat)
      (TightSat assets x) (Both (TightSat assets z) (signed_row assets x).dsat)
  TightSat assets (two kind.OrI x z) =
      FreeFirst
      (Both (free_row assets x).sat (Is ONE)) (Both (free_row assets z).sat (Is EMPTY))
      (Both (TightSat assets x) (Is ONE)) (Both (TightSat assets z) (Is EMPTY))
  TightSat assets (thresh k xs) = TightParts assets xs k
  TightSat assets (multi k keys) = (signed_row assets (multi k keys)).sat
  TightSat assets (wrap wrapper.A x) = TightSat assets x
  TightSat assets (wrap wrapper.S x) = TightSat assets x
  TightSat assets (wrap wrapper.C x) = TightSat assets x
  TightSat assets (wrap wrapper.D x) = Both (TightSat assets x) (Is ONE)
  TightSat assets (wrap wrapper.V x) = TightSat assets x
  TightSat assets (wrap wrapper.J x) = TightSat assets x
  TightSat assets (wrap wrapper.N x) = TightSat assets x

  pub TightParts : Assets → Trees → (n : ℕ) → StackSet
  TightParts assets none = PartsOfNone
  TightParts assets (more x xs) =
      PartsOf
      (required (free_row assets x).sat (record { dsat = (signed_row assets x).dsat; sat = TightSat assets x }))
      (TightParts assets xs)

-- a canonical satisfaction that is tight at every node that it satisfies; its top stands last
abbrev pub Tight : Tree → Assets → (stack : List Bytes) → Type 0
Tight tree assets stack = TightSat assets tree (reverse stack)
