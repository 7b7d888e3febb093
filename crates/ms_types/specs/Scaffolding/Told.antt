-- What is told of the nodes of a tree, one after the other: the type of each that has one.
use Rattle.std.specs.Prelude.{◌≡◌, ℕ, ⊤, List, [], ◌∷◌, ◌++◌, length, Option, Some, None, Result, Ok, Err}
use Rattle.def_tree.specs.Tree.{Tree, Trees, just_0, just_1, pk_k, pk_h, older, after, hash, and_or, two, thresh, multi, wrap, none, more}
use Rattle.def_types.specs.declared.rule.Rule.{Rule}
use Rattle.def_types.specs.Row.{Row, Rows}
use Rattle.ms_types.specs.Checked.{checked}

-- the value, where there is one
abbrev pub passed : {A : Type 0} → Result A Rule → Option A
passed (Ok value) = Some value
passed (Err rule) = None

-- goes on with the value, where there is one
abbrev pub then_told : {A B : Type 0} → Option A → (A → Option B) → Option B
then_told None next = None
then_told (Some value) next = next value

-- what the row of a root gives, where its requirements hold
abbrev pub row_told : {A : Type 0} → Row A → Option A
row_told row = passed (checked row)

-- the types of children, and of others behind them
abbrev pub joined : {A : Type 0} → Option (List A) → Option (List A) → Option (List A)
joined None others = None
joined (Some types) None = None
joined (Some types) (Some others) = Some (types ++ others)

abbrev pub one_told : {A : Type 0} → Option A → Option (List A)
one_told None = None
one_told (Some ty) = Some (ty ∷ [])

abbrev mutual
  pub tree_told : {A : Type 0} → Rows A → Tree → Option A
  tree_told rows just_0 = row_told rows.just_0
  tree_told rows just_1 = row_told rows.just_1
  tree_told rows (pk_k key) = row_told rows.pk_k
  tree_told rows (pk_h key) = row_told rows.pk_h
  tree_told rows (older n) = row_told (rows.older n)
  tree_told rows (after n) = row_told (rows.after n)
  tree_told rows (hash kind value) = row_told rows.hash
  tree_told rows (and_or x y z) =
      then_told (tree_told rows x) (λ a. then_told (tree_told rows y) (λ b. then_told (tree_told rows z) (λ c. row_told (rows.and_or a b c))))
  tree_told rows (two kind x y) = then_told (tree_told rows x) (λ a. then_told (tree_told rows y) (λ b. row_told (rows.two kind a b)))
  tree_told rows (thresh k xs) = then_told (trees_told rows xs) (λ types. row_told (rows.thresh k types))
  tree_told rows (multi k keys) = row_told (rows.multi k keys)
  tree_told rows (wrap wrapper x) = then_told (tree_told rows x) (λ a. row_told (rows.wrap wrapper a))

  pub trees_told : {A : Type 0} → Rows A → Trees → Option (List A)
  trees_told rows none = Some []
  trees_told rows (more x xs) = joined (one_told (tree_told rows x)) (trees_told rows xs)

-- what is kept of children, where all have a type
abbrev pub seen_told : {A C : Type 0} → (seen : List A → C) → Option (List A) → Option C
seen_told seen None = None
seen_told seen (Some types) = Some (seen types)

-- where all have one there are so many
abbrev pub Counts : {A : Type 0} → Option (List A) → (count : ℕ) → Type 0
Counts None count = ⊤
Counts (Some types) count = length types ≡ count
