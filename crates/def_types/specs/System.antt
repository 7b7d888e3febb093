-- What a type system says of a tree, whichever its rows are: the type that the rows give, the requirements
-- at each node, and the first of them that is false.
use Rattle.std.specs.Prelude.{◌≡◌, ℕ, ◌+◌, ◌<◌, ⊤, false, List, [], ◌∷◌, Some, slice_get, take, Result, Ok}
use Rattle.def_tree.specs.Tree.{Tree, Trees, just_0, just_1, pk_k, pk_h, older, after, hash, and_or, two, thresh, multi, wrap, none, more}
use Rattle.def_tree.specs.Size.{nodes, nodes_of}
use Rattle.def_tree.specs.Nodes.{all_nodes}
use Rattle.def_types.specs.declared.rule.RuleAt.{RuleAt}
use Rattle.def_types.specs.Row.{need, AllHold, Row, Rows, answer, if_ok}

-- the type that the rows give a tree, whether or not what they require holds
abbrev mutual
  pub gives : {A : Type 0} → Rows A → Tree → A
  gives rows just_0 = rows.just_0.gives
  gives rows just_1 = rows.just_1.gives
  gives rows (pk_k key) = rows.pk_k.gives
  gives rows (pk_h key) = rows.pk_h.gives
  gives rows (older n) = (rows.older n).gives
  gives rows (after n) = (rows.after n).gives
  gives rows (hash kind value) = rows.hash.gives
  gives rows (and_or x y z) = (rows.and_or (gives rows x) (gives rows y) (gives rows z)).gives
  gives rows (two kind x y) = (rows.two kind (gives rows x) (gives rows y)).gives
  gives rows (thresh k xs) = (rows.thresh k (gives_each rows xs)).gives
  gives rows (multi k keys) = (rows.multi k keys).gives
  gives rows (wrap wrapper x) = (rows.wrap wrapper (gives rows x)).gives

  pub gives_each : {A : Type 0} → Rows A → Trees → List A
  gives_each rows none = []
  gives_each rows (more x xs) = gives rows x ∷ gives_each rows xs

-- the row of a tree's root, of the types that the rows give its children
abbrev pub row_of : {A : Type 0} → Rows A → Tree → Row A
row_of rows just_0 = rows.just_0
row_of rows just_1 = rows.just_1
row_of rows (pk_k key) = rows.pk_k
row_of rows (pk_h key) = rows.pk_h
row_of rows (older n) = rows.older n
row_of rows (after n) = rows.after n
row_of rows (hash kind value) = rows.hash
row_of rows (and_or x y z) = rows.and_or (gives rows x) (gives rows y) (gives rows z)
row_of rows (two kind x y) = rows.two kind (gives rows x) (gives rows y)
row_of rows (thresh k xs) = rows.thresh k (gives_each rows xs)
row_of rows (multi k keys) = rows.multi k keys
row_of rows (wrap wrapper x) = rows.wrap wrapper (gives rows x)

-- every requirement of every node holds
abbrev pub EveryHolds : {A : Type 0} → Rows A → Tree → Type 0
EveryHolds rows tree =
    (number : ℕ) (node : Tree) → slice_get (all_nodes tree) number ≡ Some node → AllHold (row_of rows node).needs

-- a requirement that is false is the first one of a tree: by the number of its node, and then in the order of
-- that node's row
pub record IsFirstFalse {A : Type 0} (rows : Rows A) (tree : Tree) (at : RuleAt) : Type 0 where
  -- the node of that number, and the place of the requirement in its row
  pub node : Tree
  pub place : ℕ
  pub is_node : slice_get (all_nodes tree) at.node ≡ Some node
  pub is_false : slice_get (row_of rows node).needs place ≡ Some (need at.rule false)
  -- the requirements before it in the row hold, and all requirements of the nodes before
  pub before : AllHold (take place (row_of rows node).needs)
  pub earlier :
      (number : ℕ) (other : Tree) → number < at.node → slice_get (all_nodes tree) number ≡ Some other →
      AllHold (row_of rows other).needs

-- every requirement holds, at the root and in each child
abbrev mutual
  pub IsMet : {A : Type 0} → Rows A → Tree → Type 0
  IsMet rows just_0 = AllHold rows.just_0.needs
  IsMet rows just_1 = AllHold rows.just_1.needs
  IsMet rows (pk_k key) = AllHold rows.pk_k.needs
  IsMet rows (pk_h key) = AllHold rows.pk_h.needs
  IsMet rows (older n) = AllHold (rows.older n).needs
  IsMet rows (after n) = AllHold (rows.after n).needs
  IsMet rows (hash kind value) = AllHold rows.hash.needs
  IsMet rows (and_or x y z) =
      IsMet rows x × IsMet rows y × IsMet rows z ×
      AllHold (rows.and_or (gives rows x) (gives rows y) (gives rows z)).needs
  IsMet rows (two kind x y) = IsMet rows x × IsMet rows y × AllHold (rows.two kind (gives rows x) (gives rows y)).needs
  IsMet rows (thresh k xs) = AreMet rows xs × AllHold (rows.thresh k (gives_each rows xs)).needs
  IsMet rows (multi k keys) = AllHold (rows.multi k keys).needs
  IsMet rows (wrap wrapper x) = IsMet rows x × AllHold (rows.wrap wrapper (gives rows x)).needs

  pub AreMet : {A : Type 0} → Rows A → Trees → Type 0
  AreMet rows none = ⊤
  AreMet rows (more x xs) = IsMet rows x × AreMet rows xs

-- the type, or the first requirement that is false: by node, children first and left to right, and then in
-- the order of the row. The nodes of the tree are numbered from `first` on
abbrev mutual
  pub typed_from : {A : Type 0} → Rows A → (first : ℕ) → Tree → Result A RuleAt
  typed_from rows first just_0 = answer first rows.just_0
  typed_from rows first just_1 = answer first rows.just_1
  typed_from rows first (pk_k key) = answer first rows.pk_k
  typed_from rows first (pk_h key) = answer first rows.pk_h
  typed_from rows first (older n) = answer first (rows.older n)
  typed_from rows first (after n) = answer first (rows.after n)
  typed_from rows first (hash kind value) = answer first rows.hash
  typed_from rows first (and_or x y z) =
      if_ok (typed_from rows first x) (λ x_type.
      if_ok (typed_from rows (first + nodes x) y) (λ y_type.
      if_ok (typed_from rows (first + nodes x + nodes y) z) (λ z_type.
      answer (first + nodes x + nodes y + nodes z) (rows.and_or x_type y_type z_type))))
  typed_from rows first (two kind x y) =
      if_ok (typed_from rows first x) (λ x_type.
      if_ok (typed_from rows (first + nodes x) y) (λ y_type.
      answer (first + nodes x + nodes y) (rows.two kind x_type y_type)))
  typed_from rows first (thresh k xs) =
      if_ok (typed_each rows first xs) (λ types. answer (first + nodes_of xs) (rows.thresh k types))
  typed_from rows first (multi k keys) = answer first (rows.multi k keys)
  typed_from rows first (wrap wrapper x) =
      if_ok (typed_from rows first x) (λ x_type. answer (first + nodes x) (rows.wrap wrapper x_type))

  pub typed_each : {A : Type 0} → Rows A → (first : ℕ) → Trees → Result (List A) RuleAt
  typed_each rows first none = Ok []
  typed_each rows first (more x xs) =
      if_ok (typed_from rows first x) (λ x_type.
      if_ok (typed_each rows (first + nodes x) xs) (λ types.
      Ok (x_type ∷ types)))
