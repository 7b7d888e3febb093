-- What is told of the nodes of a tree is what the type system answers for each.
use Rattle.std.proofs.Common.{◌≡◌, ℕ, ◌+◌, ◌<◌, ◌≤◌, [], ◌∷◌, ◌++◌, List, length, length-append, map, drop, get_or, Some, None, Ok, Err, IfOk, refl, ap, sym, ◌∙◌, append_assoc, drop-cons, add-one}
use Rattle.std.specs.Prelude.{Option, Result}
use Rattle.std.proofs.lemmas.List.{map-append, append-nil, drop_all}
use Rattle.def_tree.specs.declared.Two.{Two}
use Rattle.def_tree.specs.declared.Wrapper.{Wrapper}
use Rattle.def_tree.specs.Tree.{Tree, Trees, Key, just_0, just_1, pk_k, pk_h, older, after, hash, and_or, two, thresh, multi, wrap, none, more}
use Rattle.def_tree.specs.Size.{nodes, nodes_of}
use Rattle.def_tree.specs.Nodes.{all_nodes, nodes_of_all}
use Rattle.def_types.specs.declared.rule.Rule.{Rule}
use Rattle.def_types.specs.declared.rule.RuleAt.{RuleAt}
use Rattle.def_types.specs.Row.{Row, Rows, answer, if_ok}
use Rattle.def_types.specs.System.{typed_from, typed_each}
use Rattle.ms_tree.specs.declared.tree.Leaf.{Leaf}
use Rattle.ms_tree.specs.declared.tree.Leaf.TheVariants as leaf
use Rattle.ms_tree.specs.declared.tree.Tree as code_tree
use Rattle.ms_tree.specs.Shape.{leaf_shape, shape, shapes}
use Rattle.ms_types.specs.Checked.{checked, at_node}
use Rattle.ms_types.specs.Rows.{leaf_row}
use Rattle.ms_types.specs.Told.{told}
use Rattle.ms_types.specs.Scaffolding.Told.{passed, then_told, row_told, joined, one_told, tree_told, trees_told, Counts}
use Rattle.ms_types.proofs.OfRows.{answer_is}

step : {A B : Type 0} (r : Result A RuleAt) (o : Option A) (f : A → Result B RuleAt) (g : A → Option B) → told r ≡ o → ((a : A) → told (f a) ≡ g a)
    → told (if_ok r f) ≡ then_told o g
step (Ok a) o f g e h = rw (sym e) (h a)
step (Err at) o f g e h = rw (sym e) refl

at_node_told : {A : Type 0} (node : ℕ) (r : Result A Rule) → told (at_node node r) ≡ passed r
at_node_told node (Ok value) = refl
at_node_told node (Err rule) = refl

answer_told : {A : Type 0} (node : ℕ) (row : Row A) → told (answer node row) ≡ row_told row
answer_told node row = ap told (sym (answer_is node row)) ∙ at_node_told node (checked row)

then_joined : {A : Type 0} (a : A) (o : Option (List A)) → then_told o (λ types. Some (a ∷ types)) ≡ joined (Some (a ∷ [])) o
then_joined a None = refl
then_joined a (Some types) = refl

then_more : {A : Type 0} (o : Option A) (p : Option (List A)) → then_told o (λ a. then_told p (λ types. Some (a ∷ types))) ≡ joined (one_told o) p
then_more None p = refl
then_more (Some a) p = then_joined a p

-- ---- children one after the other

joined_assoc : {A : Type 0} (a b c : Option (List A)) → joined (joined a b) c ≡ joined a (joined b c)
joined_assoc None b c = refl
joined_assoc (Some a) None c = refl
joined_assoc (Some a) (Some b) None = refl
joined_assoc (Some a) (Some b) (Some c) = ap (λ (types : List _). Some types) (append_assoc a b c)

pub joined_first : {A : Type 0} (o : Option (List A)) → joined (Some []) o ≡ o
joined_first None = refl
joined_first (Some types) = refl

pub joined_last : {A : Type 0} (o : Option (List A)) → joined o (Some []) ≡ o
joined_last None = refl
joined_last (Some types) = ap (λ (list : List _). Some list) (append-nil types)

pub one_counted : {A : Type 0} (types : Option (List A)) (o : Option A) (i : ℕ) → Counts types i → Counts (joined types (one_told o)) (i + 1)
one_counted None o i h = tt
one_counted (Some types) None i h = tt
one_counted (Some types) (Some ty) i h = rw (length-append types (ty ∷ []), h) refl

-- ---- what a step that took memory comes to, where memory wasn't wanting

pub on_ok : {V E : Type 0} (r : Result V E) (P Q : V → Type 0) → ((v : V) → P v → Q v) → IfOk r P → IfOk r Q
on_ok (Ok v) P Q then holds = then v holds
on_ok (Err e) P Q then holds = holds

module _ {A : Type 0} (rows : Rows A) where
  mutual
    pub tree_told_is : (first : ℕ) (t : Tree) → told (typed_from rows first t) ≡ tree_told rows t
    tree_told_is first just_0 = answer_told first rows.just_0
    tree_told_is first just_1 = answer_told first rows.just_1
    tree_told_is first (pk_k key) = answer_told first rows.pk_k
    tree_told_is first (pk_h key) = answer_told first rows.pk_h
    tree_told_is first (older n) = answer_told first (rows.older n)
    tree_told_is first (after n) = answer_told first (rows.after n)
    tree_told_is first (hash kind value) = answer_told first rows.hash
    tree_told_is first (and_or x y z) =
        step (typed_from rows first x) (tree_told rows x) _ _ (tree_told_is first x)
        (λ a. step (typed_from rows (first + nodes x) y) (tree_told rows y) _ _ (tree_told_is (first + nodes x) y)
        (λ b. step (typed_from rows (first + nodes x + nodes y) z) (tree_told rows z) _ _ (tree_told_is (first + nodes x + nodes y) z)
        (λ c. answer_told (first + nodes x + nodes y + nodes z) (rows.and_or a b c))))
    tree_told_is first (two kind x y) =
        step (typed_from rows first x) (tree_told rows x) _ _ (tree_told_is first x)
        (λ a. step (typed_from rows (first + nodes x) y) (tree_told rows y) _ _ (tree_told_is (first + nodes x) y)
        (λ b. answer_told (first + nodes x + nodes y) (rows.two kind a b)))
    tree_told_is first (thresh k xs) =
        step (typed_each rows first xs) (trees_told rows xs) _ _ (trees_told_is first xs) (λ types. answer_told (first + nodes_of xs) (rows.thresh k types))
    tree_told_is first (multi k keys) = answer_told first (rows.multi k keys)
    tree_told_is first (wrap wrapper x) =
        step (typed_from rows first x) (tree_told rows x) _ _ (tree_told_is first x) (λ a. answer_told (first + nodes x) (rows.wrap wrapper a))

    trees_told_is : (first : ℕ) (xs : Trees) → told (typed_each rows first xs) ≡ trees_told rows xs
    trees_told_is first none = refl
    trees_told_is first (more x xs) =
        step (typed_from rows first x) (tree_told rows x) _ (λ a. then_told (trees_told rows xs) (λ types. Some (a ∷ types))) (tree_told_is first x)
        (λ a. step (typed_each rows (first + nodes x) xs) (trees_told rows xs) _ (λ types. Some (a ∷ types)) (trees_told_is (first + nodes x) xs) (λ types. refl))
        ∙ then_more (tree_told rows x) (trees_told rows xs)

  -- so of each of a list
  pub all_told : (ts : List Tree) → map (tree_told rows) ts ≡ map (λ t. told (typed_from rows 0 t)) ts
  all_told [] = refl
  all_told (t ∷ ts) = rw (tree_told_is 0 t) (ap (λ os. tree_told rows t ∷ os) (all_told ts))

  pub leaf_told : (l : Leaf) → row_told (leaf_row rows l) ≡ tree_told rows (leaf_shape l)
  leaf_told leaf.Zero = refl
  leaf_told leaf.One = refl
  leaf_told (leaf.PkK key) = refl
  leaf_told (leaf.PkH key) = refl
  leaf_told (leaf.Older n) = refl
  leaf_told (leaf.After n) = refl
  leaf_told (leaf.Hash value) = refl

  pub leaf_nodes : (l : Leaf) → map (tree_told rows) (all_nodes (leaf_shape l)) ≡ row_told (leaf_row rows l) ∷ []
  leaf_nodes leaf.Zero = refl
  leaf_nodes leaf.One = refl
  leaf_nodes (leaf.PkK key) = refl
  leaf_nodes (leaf.PkH key) = refl
  leaf_nodes (leaf.Older n) = refl
  leaf_nodes (leaf.After n) = refl
  leaf_nodes (leaf.Hash value) = refl

  -- ---- the nodes of a tree, behind those before it

  pub leaf_done : (old new : List (Option A)) (l : Leaf) (t : Tree) (o : Option A) (r : Result A Rule) → t ≡ leaf_shape l → r ≡ checked (leaf_row rows l) → o ≡ passed r
      → new ≡ old ++ o ∷ [] → new ≡ old ++ map (tree_told rows) (all_nodes t)
  leaf_done old new l t o r is r-is o-is new-is = rw (new-is, o-is, r-is, is, leaf_nodes l) refl

  pub leaf_type : (l : Leaf) (t : Tree) (o : Option A) (r : Result A Rule) → t ≡ leaf_shape l → r ≡ checked (leaf_row rows l) → o ≡ passed r → o ≡ tree_told rows t
  leaf_type l t o r is r-is o-is = rw (o-is, r-is, is) (leaf_told l)

  pub and_or_done : (old first second third new : List (Option A)) (t x y z : Tree) (o : Option A) → t ≡ and_or x y z
      → first ≡ old ++ map (tree_told rows) (all_nodes x) → second ≡ first ++ map (tree_told rows) (all_nodes y)
      → third ≡ second ++ map (tree_told rows) (all_nodes z) → o ≡ tree_told rows t → new ≡ third ++ o ∷ [] → new ≡ old ++ map (tree_told rows) (all_nodes t)
  and_or_done old first second third new t x y z o is e0 e1 e2 o-is new-is = rw (new-is, e2, e1, e0, o-is, is) (simp (map-append, append_assoc))

  pub and_or_type : (t x y z : Tree) (a b c o : Option A) → t ≡ and_or x y z → a ≡ tree_told rows x → b ≡ tree_told rows y → c ≡ tree_told rows z
      → o ≡ then_told a (λ u. then_told b (λ v. then_told c (λ w. row_told (rows.and_or u v w)))) → o ≡ tree_told rows t
  and_or_type t x y z a b c o is a-is b-is c-is o-is = rw (o-is, a-is, b-is, c-is, is) refl

  pub two_done : (old first second new : List (Option A)) (t x y : Tree) (kind : Two) (o : Option A) → t ≡ two kind x y
      → first ≡ old ++ map (tree_told rows) (all_nodes x) → second ≡ first ++ map (tree_told rows) (all_nodes y)
      → o ≡ tree_told rows t → new ≡ second ++ o ∷ [] → new ≡ old ++ map (tree_told rows) (all_nodes t)
  two_done old first second new t x y kind o is e0 e1 o-is new-is = rw (new-is, e1, e0, o-is, is) (simp (map-append, append_assoc))

  pub two_type : (t x y : Tree) (kind : Two) (a b o : Option A) → t ≡ two kind x y → a ≡ tree_told rows x → b ≡ tree_told rows y
      → o ≡ then_told a (λ u. then_told b (λ v. row_told (rows.two kind u v))) → o ≡ tree_told rows t
  two_type t x y kind a b o is a-is b-is o-is = rw (o-is, a-is, b-is, is) refl

  pub thresh_done : (old first new : List (Option A)) (t : Tree) (xs : Trees) (k : ℕ) (o : Option A) → t ≡ thresh k xs
      → first ≡ old ++ map (tree_told rows) (nodes_of_all xs) → o ≡ tree_told rows t → new ≡ first ++ o ∷ [] → new ≡ old ++ map (tree_told rows) (all_nodes t)
  thresh_done old first new t xs k o is e0 o-is new-is = rw (new-is, e0, o-is, is) (simp (map-append, append_assoc))

  pub thresh_type : (t : Tree) (xs : Trees) (k : ℕ) (o : Option A) → t ≡ thresh k xs → o ≡ then_told (trees_told rows xs) (λ types. row_told (rows.thresh k types))
      → o ≡ tree_told rows t
  thresh_type t xs k o is o-is = rw (o-is, is) refl

  pub multi_done : (old new : List (Option A)) (t : Tree) (k : ℕ) (keys : List Key) (o : Option A) (r : Result A Rule) → t ≡ multi k keys → r ≡ checked (rows.multi k keys)
      → o ≡ passed r → new ≡ old ++ o ∷ [] → new ≡ old ++ map (tree_told rows) (all_nodes t)
  multi_done old new t k keys o r is r-is o-is new-is = rw (new-is, o-is, r-is, is) refl

  pub multi_type : (t : Tree) (k : ℕ) (keys : List Key) (o : Option A) (r : Result A Rule) → t ≡ multi k keys → r ≡ checked (rows.multi k keys) → o ≡ passed r
      → o ≡ tree_told rows t
  multi_type t k keys o r is r-is o-is = rw (o-is, r-is, is) refl

  pub wrap_done : (old first new : List (Option A)) (t x : Tree) (wrapper : Wrapper) (o : Option A) → t ≡ wrap wrapper x
      → first ≡ old ++ map (tree_told rows) (all_nodes x) → o ≡ tree_told rows t → new ≡ first ++ o ∷ [] → new ≡ old ++ map (tree_told rows) (all_nodes t)
  wrap_done old first new t x wrapper o is e0 o-is new-is = rw (new-is, e0, o-is, is) (simp (map-append, append_assoc))

  pub wrap_type : (t x : Tree) (wrapper : Wrapper) (a o : Option A) → t ≡ wrap wrapper x → a ≡ tree_told rows x
      → o ≡ then_told a (λ u. row_told (rows.wrap wrapper u)) → o ≡ tree_told rows t
  wrap_type t x wrapper a o is a-is o-is = rw (o-is, a-is, is) refl

  -- ---- the child of a threshold that a loop is at, and those behind it

  rest-cons : (xs : List code_tree.Tree) (i : ℕ) (d : code_tree.Tree) → i < length xs → drop i xs ≡ get_or xs i d ∷ drop (i + 1) xs
  rest-cons xs i d there = rw add-one (drop-cons xs i d there)

  pub child_told : (types : Option (List A)) (o : Option A) (xs : List code_tree.Tree) (i : ℕ) (x : code_tree.Tree) → i < length xs → x ≡ get_or xs i x
      → o ≡ tree_told rows (shape x)
      → joined (joined types (one_told o)) (trees_told rows (shapes (drop (i + 1) xs))) ≡ joined types (trees_told rows (shapes (drop i xs)))
  child_told types o xs i x below at is =
      rw (rest-cons xs i x below, ← at, is) (joined_assoc types (one_told (tree_told rows (shape x))) (trees_told rows (shapes (drop (i + 1) xs))))

  pub child_done : (old new : List (Option A)) (xs : List code_tree.Tree) (i : ℕ) (x : code_tree.Tree) → i < length xs → x ≡ get_or xs i x
      → new ≡ old ++ map (tree_told rows) (all_nodes (shape x))
      → new ++ map (tree_told rows) (nodes_of_all (shapes (drop (i + 1) xs))) ≡ old ++ map (tree_told rows) (nodes_of_all (shapes (drop i xs)))
  child_done old new xs i x below at is = rw (rest-cons xs i x below, ← at, is) (simp (map-append, append_assoc))

  -- behind the last one
  pub told_end : (types : Option (List A)) (xs : List code_tree.Tree) (i : ℕ) → length xs ≤ i
      → joined types (trees_told rows (shapes (drop i xs))) ≡ trees_told rows (shapes xs) → types ≡ trees_told rows (shapes xs)
  told_end types xs i past e =
      let h : joined types (trees_told rows (shapes [])) ≡ trees_told rows (shapes xs) = rw (drop_all i xs past) at e in sym (joined_last types) ∙ h

  pub added_end : (now old : List (Option A)) (xs : List code_tree.Tree) (i : ℕ) → length xs ≤ i
      → now ++ map (tree_told rows) (nodes_of_all (shapes (drop i xs))) ≡ old ++ map (tree_told rows) (nodes_of_all (shapes xs))
      → now ≡ old ++ map (tree_told rows) (nodes_of_all (shapes xs))
  added_end now old xs i past e =
      let h : now ++ [] ≡ old ++ map (tree_told rows) (nodes_of_all (shapes xs)) = rw (drop_all i xs past) at e in sym (append-nil now) ∙ h
