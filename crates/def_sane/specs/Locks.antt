-- Mixed timelocks (BIP 379, timelock mixing): expressions that ask at once for a lock by time and for
-- one by height of the same sort, which no transaction meets.
use Rattle.std.specs.Prelude.{◌≡◌, ℕ, Bool, false, IsTrue, ◌&&◌, ◌||◌, not, ◌==◌, nat_le, List, [], ◌∷◌, Option, Some, slice_get}
use Rattle.std.specs.Int.{bit_at}
use Rattle.std.specs.List.{list_any, position_from}
use Rattle.def_tree.specs.declared.Two.TheVariants as kind
use Rattle.def_tree.specs.Tree.{Tree, Trees, just_0, just_1, pk_k, pk_h, older, after, hash, and_or, two, thresh, multi, wrap, none, more}
use Rattle.def_tree.specs.Nodes.{all_nodes}

-- a set of the four kinds of locks
pub record Kinds : Type 0 where
  pub relative_time : Bool
  pub relative_height : Bool
  pub absolute_time : Bool
  pub absolute_height : Bool

abbrev pub no_kinds : Kinds
no_kinds = record { relative_time = false; relative_height = false; absolute_time = false; absolute_height = false }

-- the kinds of both
abbrev pub union : Kinds → Kinds → Kinds
union a b = record {
  relative_time = a.relative_time || b.relative_time;
  relative_height = a.relative_height || b.relative_height;
  absolute_time = a.absolute_time || b.absolute_time;
  absolute_height = a.absolute_height || b.absolute_height;
}

-- an operand of `older` is a time where bit 22 is set (BIP 112), one of `after` from 500000000 on (BIP 65)
abbrev pub is_relative_time : ℕ → Bool
is_relative_time n = bit_at n 22 == 1

abbrev pub is_absolute_time : ℕ → Bool
is_absolute_time n = nat_le 500000000 n

-- the kinds of the locks in a tree
abbrev mutual
  pub kinds : Tree → Kinds
  kinds just_0 = no_kinds
  kinds just_1 = no_kinds
  kinds (pk_k key) = no_kinds
  kinds (pk_h key) = no_kinds
  kinds (older n) = record no_kinds { relative_time = is_relative_time n; relative_height = not (is_relative_time n) }
  kinds (after n) = record no_kinds { absolute_time = is_absolute_time n; absolute_height = not (is_absolute_time n) }
  kinds (hash kind value) = no_kinds
  kinds (and_or x y z) = union (kinds x) (union (kinds y) (kinds z))
  kinds (two kind x y) = union (kinds x) (kinds y)
  kinds (thresh k xs) = kinds_of_all xs
  kinds (multi k keys) = no_kinds
  kinds (wrap wrapper x) = kinds x

  pub kinds_of_all : Trees → Kinds
  kinds_of_all none = no_kinds
  kinds_of_all (more x xs) = union (kinds x) (kinds_of_all xs)

-- one holds a time and the other a height, both relative or both absolute
abbrev pub conflict : Kinds → Kinds → Bool
conflict a b =
    (a.relative_time && b.relative_height) ||
    (a.relative_height && b.relative_time) ||
    (a.absolute_time && b.absolute_height) ||
    (a.absolute_height && b.absolute_time)

-- the kinds of each child
abbrev pub kinds_of_each : Trees → List Kinds
kinds_of_each none = []
kinds_of_each (more x xs) = kinds x ∷ kinds_of_each xs

-- some two of them conflict
abbrev pub some_conflict : List Kinds → Bool
some_conflict [] = false
some_conflict (x ∷ xs) = list_any (conflict x) xs || some_conflict xs

-- the root of this tree mixes: two of its children that may have to be satisfied together conflict
abbrev pub mixes : Tree → Bool
mixes just_0 = false
mixes just_1 = false
mixes (pk_k key) = false
mixes (pk_h key) = false
mixes (older n) = false
mixes (after n) = false
mixes (hash kind value) = false
mixes (and_or x y z) = conflict (kinds x) (kinds y)
mixes (two kind.AndV x y) = conflict (kinds x) (kinds y)
mixes (two kind.AndB x y) = conflict (kinds x) (kinds y)
mixes (two kind.OrB x y) = false
mixes (two kind.OrC x y) = false
mixes (two kind.OrD x y) = false
mixes (two kind.OrI x y) = false
mixes (thresh k xs) = nat_le 2 k && some_conflict (kinds_of_each xs)
mixes (multi k keys) = false
mixes (wrap wrapper x) = false

-- the node of this number mixes
abbrev pub Mixes : Tree → (node : ℕ) → Type 0
Mixes tree node = (x : Tree) × (slice_get (all_nodes tree) node ≡ Some x) × IsTrue (mixes x)

-- the first node that mixes
abbrev pub mix : Tree → Option ℕ
mix tree = position_from mixes 0 (all_nodes tree)
