-- The rows of a type system: what a fragment requires of its children's types, in the order in which it
-- is tested, and the type that it has where all of that holds.
use Rattle.std.specs.Prelude.{ℕ, Bool, ⊤, IsTrue, List, [], ◌∷◌, Result, Ok, Err, if◌then◌else◌}
use Rattle.def_tree.specs.declared.Two.{Two}
use Rattle.def_tree.specs.declared.Wrapper.{Wrapper}
use Rattle.def_tree.specs.Tree.{Key}
use Rattle.def_types.specs.declared.rule.Rule.{Rule}
use Rattle.def_types.specs.declared.rule.RuleAt.{RuleAt}

-- a requirement: the name of its rule, and whether it holds
pub record Need : Type 0 where
  pub rule : Rule
  pub holds : Bool

abbrev pub need : Rule → Bool → Need
need rule holds = record { rule = rule; holds = holds }

-- each of the requirements holds
abbrev pub AllHold : List Need → Type 0
AllHold [] = ⊤
AllHold (n ∷ needs) = IsTrue n.holds × AllHold needs

-- a row: its requirements, and what it gives
pub record Row (A : Type 0) : Type 0 where
  pub needs : List Need
  pub gives : A

-- the value, or the first requirement that is false, with the node
abbrev pub unless_broken : {A : Type 0} → (node : ℕ) → List Need → A → Result A RuleAt
unless_broken node [] value = Ok value
unless_broken node (n ∷ needs) value =
    if n.holds then unless_broken node needs value else Err (record { node = node; rule = n.rule })

-- what a row answers at a node
abbrev pub answer : {A : Type 0} → (node : ℕ) → Row A → Result A RuleAt
answer node row = unless_broken node row.needs row.gives

-- goes on with the value, or hands the error on
abbrev pub if_ok : {A B E : Type 0} → Result A E → (A → Result B E) → Result B E
if_ok (Ok value) next = next value
if_ok (Err error) next = Err error

-- a type system: the row of each fragment and wrapper, of its arguments and its children's types
pub record Rows (A : Type 0) : Type 0 where
  pub just_0 : Row A
  pub just_1 : Row A
  pub pk_k : Row A
  pub pk_h : Row A
  pub older : (n : ℕ) → Row A
  pub after : (n : ℕ) → Row A
  pub hash : Row A
  pub and_or : (x y z : A) → Row A
  pub two : Two → (x y : A) → Row A
  pub thresh : (k : ℕ) → (children : List A) → Row A
  pub multi : (k : ℕ) → (keys : List Key) → Row A
  pub wrap : Wrapper → (x : A) → Row A
