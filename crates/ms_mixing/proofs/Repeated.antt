-- The first node that repeats a key, as the keys stand side by side.
use Rattle.std.proofs.Common.{◌≡◌, ◌<◌, ℕ, zero, suc, ◌+◌, Bool, true, false, ◌||◌, List, [], ◌∷◌, ◌++◌, map, length, drop, get_or, All, Option, Some, None, IfSome, refl, sym, ◌∙◌, ap, append_assoc, arith, if◌then◌else◌}
use Rattle.std.specs.Prelude.{⊤}
use Rattle.std.specs.List.{list_any}
use Rattle.std.specs.Str.{bytes_eq}
use Rattle.std.proofs.lemmas.List.{append-nil, map-append}
use Rattle.std.proofs.lemmas.List.Elements.{All-nil, All-cons, All-head, All-tail, All-append}
use Rattle.def_tree.specs.Tree.{Tree, Trees, Key, just_0, just_1, pk_k, pk_h, older, after, hash, and_or, two, thresh, multi, wrap, none, more}
use Rattle.def_tree.specs.Size.{nodes, nodes_of}
use Rattle.def_tree.specs.InRange.{measure, measure_of}
use Rattle.def_tree.specs.Range.{IsKey, IsWritable, AreWritable}
use Rattle.def_tree.specs.Nodes.{all_nodes, nodes_of_all}
use Rattle.def_sane.specs.Keys.{own_keys, repeats, repeated_from, repeated_key}
use Rattle.def_tree.proofs.NodeLists.{nodes_are_all, trees_are_all}
use Rattle.ms_tree.specs.declared.tree.Tree as trees
use Rattle.ms_tree.specs.Shape.{shape, shapes}
use Rattle.ms_mixing.specs.Scaffolding.Repeats.{held, held_in, held_by, entry, is_same, repeats_first}
use Rattle.ms_mixing.proofs.Entries.{same_keys}

abbrev Held : Type 0
Held = ℕ × Key

-- the keys of nodes that are numbered from `first` on
abbrev held_nodes : (first : ℕ) → List Tree → List Held
held_nodes first [] = []
held_nodes first (t ∷ ts) = held_by first (own_keys t) ++ held_nodes (first + 1) ts

held_nodes-append : (first middle : ℕ) (xs ys : List Tree) → middle ≡ first + length xs → held_nodes first (xs ++ ys) ≡ held_nodes first xs ++ held_nodes middle ys
held_nodes-append first middle [] ys at = let same : middle ≡ first = omega (arith, at) in rw same refl
held_nodes-append first middle (x ∷ xs) ys at =
    ap (λ l. held_by first (own_keys x) ++ l) (held_nodes-append (first + 1) middle xs ys (omega (arith, at)))
    ∙ sym (append_assoc (held_by first (own_keys x)) (held_nodes (first + 1) xs) (held_nodes middle ys))

-- a tree, and nodes behind it
then_nodes : (x : Tree) (node : ℕ) (ts : List Tree) (rest : List Held) → held_nodes node (all_nodes x) ≡ held node x → held_nodes (node + nodes x) ts ≡ rest
    → held_nodes node (all_nodes x ++ ts) ≡ held node x ++ rest
then_nodes x node ts rest is behind =
    held_nodes-append node (node + nodes x) (all_nodes x) ts (ap (λ count. node + count) (sym (nodes_are_all x)))
    ∙ ap (λ l. l ++ held_nodes (node + nodes x) ts) is
    ∙ ap (λ l. held node x ++ l) behind

mutual
  held_is : (node : ℕ) (t : Tree) → held_nodes node (all_nodes t) ≡ held node t
  held_is node just_0 = refl
  held_is node just_1 = refl
  held_is node (pk_k key) = refl
  held_is node (pk_h key) = refl
  held_is node (older m) = refl
  held_is node (after m) = refl
  held_is node (hash kind value) = refl
  held_is node (and_or x y z) =
      let grouped : all_nodes x ++ (all_nodes y ++ (all_nodes z ++ and_or x y z ∷ [])) ≡ all_nodes x ++ all_nodes y ++ all_nodes z ++ and_or x y z ∷ [] = simp append_assoc in
      ap (held_nodes node) (sym grouped)
      ∙ then_nodes x node _ _ (held_is node x)
      (then_nodes y (node + nodes x) _ _ (held_is (node + nodes x) y)
      (then_nodes z (node + nodes x + nodes y) _ _ (held_is (node + nodes x + nodes y) z) refl
      ∙ append-nil (held (node + nodes x + nodes y) z)))
      ∙ sym (append_assoc (held node x) (held (node + nodes x) y) (held (node + nodes x + nodes y) z))
  held_is node (two kind x y) =
      ap (held_nodes node) (append_assoc (all_nodes x) (all_nodes y) (two kind x y ∷ []))
      ∙ then_nodes x node _ _ (held_is node x)
      (then_nodes y (node + nodes x) _ _ (held_is (node + nodes x) y) refl ∙ append-nil (held (node + nodes x) y))
  held_is node (thresh k xs) =
      held_nodes-append node (node + nodes_of xs) (nodes_of_all xs) (thresh k xs ∷ []) (ap (λ count. node + count) (sym (trees_are_all xs)))
      ∙ append-nil (held_nodes node (nodes_of_all xs))
      ∙ held_in_is node xs
  held_is node (multi k own) = append-nil (held_by node own)
  held_is node (wrap wrapper x) = then_nodes x node (wrap wrapper x ∷ []) [] (held_is node x) refl ∙ append-nil (held node x)

  held_in_is : (node : ℕ) (xs : Trees) → held_nodes node (nodes_of_all xs) ≡ held_in node xs
  held_in_is node none = refl
  held_in_is node (more x xs) = then_nodes x node (nodes_of_all xs) _ (held_is node x) (held_in_is (node + nodes x) xs)

-- all of them are keys
abbrev AreKeys : List Held → Type 0
AreKeys = All (λ held. IsKey held.1)

own_are_keys : (node : ℕ) (own : List Key) → All IsKey own → AreKeys (held_by node own)
own_are_keys node [] all = All-nil _
own_are_keys node (key ∷ own) all =
    All-cons (λ (held : Held). IsKey held.1) (node, key) (held_by node own) (All-head IsKey key own all) (own_are_keys node own (All-tail IsKey key own all))

-- the nodes hold keys only
abbrev HoldKeys : List Tree → Type 0
HoldKeys [] = ⊤
HoldKeys (t ∷ ts) = All IsKey (own_keys t) × HoldKeys ts

hold-append : (xs ys : List Tree) → HoldKeys xs → HoldKeys ys → HoldKeys (xs ++ ys)
hold-append [] ys x y = y
hold-append (t ∷ xs) ys x y = (x.0, hold-append xs ys x.1 y)

mutual
  nodes_hold : (t : Tree) → IsWritable t → HoldKeys (all_nodes t)
  nodes_hold just_0 w = (All-nil _, tt)
  nodes_hold just_1 w = (All-nil _, tt)
  nodes_hold (pk_k key) w = (All-cons IsKey key [] w (All-nil _), tt)
  nodes_hold (pk_h key) w = (All-cons IsKey key [] w (All-nil _), tt)
  nodes_hold (older m) w = (All-nil _, tt)
  nodes_hold (after m) w = (All-nil _, tt)
  nodes_hold (hash kind value) w = (All-nil _, tt)
  nodes_hold (and_or x y z) w =
      hold-append _ _ (hold-append _ _ (hold-append _ _ (nodes_hold x w.0) (nodes_hold y w.1)) (nodes_hold z w.2)) (All-nil _, tt)
  nodes_hold (two kind x y) w = hold-append _ _ (hold-append _ _ (nodes_hold x w.0) (nodes_hold y w.1)) (All-nil _, tt)
  nodes_hold (thresh k xs) w = hold-append _ _ (trees_hold xs w.2) (All-nil _, tt)
  nodes_hold (multi k own) w = (w.2, tt)
  nodes_hold (wrap wrapper x) w = hold-append _ _ (nodes_hold x w) (All-nil _, tt)

  trees_hold : (xs : Trees) → AreWritable xs → HoldKeys (nodes_of_all xs)
  trees_hold none w = tt
  trees_hold (more x xs) w = hold-append _ _ (nodes_hold x w.0) (trees_hold xs w.1)

abbrev keys_of : List Held → List Key
keys_of = map (λ held. held.1)

keys_held : (node : ℕ) (own : List Key) → keys_of (held_by node own) ≡ own
keys_held node [] = refl
keys_held node (key ∷ own) = ap (λ l. key ∷ l) (keys_held node own)

-- a key that stands before does so as an entry
any_same : (node : ℕ) (key : Key) (before : List Held) → IsKey key → AreKeys before → list_any (is_same (entry (node, key))) (map entry before) ≡ list_any (bytes_eq key) (keys_of before)
any_same node key [] is all = refl
any_same node key (b ∷ before) is all =
    rw (same_keys node key b.0 b.1 is (All-head (λ (held : Held). IsKey held.1) b before all))
    (ap (λ any. bytes_eq key b.1 || any) (any_same node key before is (All-tail (λ (held : Held). IsKey held.1) b before all)))

-- the keys of one node, and others behind it
own_first : (node : ℕ) (own : List Key) (before rest : List Held) → AreKeys before → All IsKey own
    → repeats_first (map entry before) (map entry (held_by node own ++ rest))
    ≡ (if repeats (keys_of before) own then Some node else repeats_first (map entry (before ++ held_by node own)) (map entry rest))
own_first node [] before rest known keys = ap (λ l. repeats_first (map entry l) (map entry rest)) (sym (append-nil before))
own_first node (key ∷ own) before rest known keys =
    let is = All-head IsKey key own keys in
    let more_known = All-append (λ (held : Held). IsKey held.1) before ((node, key) ∷ []) known (All-cons (λ (held : Held). IsKey held.1) (node, key) [] is (All-nil _)) in
    let later = own_first node own (before ++ (node, key) ∷ []) rest more_known (All-tail IsKey key own keys) in
    let entries = map-append entry before ((node, key) ∷ []) in
    let keys_before = map-append (λ (held : Held). held.1) before ((node, key) ∷ []) in
    let grouped = append_assoc before ((node, key) ∷ []) (held_by node own) in
    rw (any_same node key before is known)
    (go (list_any (bytes_eq key) (keys_of before)) (repeats (keys_of before ++ key ∷ []) own) _ _ (rw (entries, keys_before, grouped) at later))
  where
    go : (b c : Bool) (o p : Option ℕ) → o ≡ (if c then Some node else p) → (if b then Some node else o) ≡ (if b || c then Some node else p)
    go true c o p is = refl
    go false c o p is = is

-- those of nodes
nodes_first : (first : ℕ) (ts : List Tree) (before : List Held) → AreKeys before → HoldKeys ts
    → repeats_first (map entry before) (map entry (held_nodes first ts)) ≡ repeated_from first (keys_of before) ts
nodes_first first [] before known hold = refl
nodes_first first (t ∷ ts) before known hold =
    let own = own_keys t in
    let more_known = All-append (λ (held : Held). IsKey held.1) before (held_by first own) known (own_are_keys first own hold.0) in
    own_first first own before (held_nodes (first + 1) ts) known hold.0
    ∙ ap (λ o. if repeats (keys_of before) own then Some first else o)
    (nodes_first (first + 1) ts (before ++ held_by first own) more_known hold.1
    ∙ ap (λ l. repeated_from (first + 1) l ts) (map-append (λ (held : Held). held.1) before (held_by first own) ∙ ap (λ l. keys_of before ++ l) (keys_held first own)))

-- so what the entries say is what the definition does
pub first_is : (t : Tree) → IsWritable t → repeats_first [] (map entry (held 0 t)) ≡ repeated_key t
first_is t w = rw (← held_is 0 t) (nodes_first 0 (all_nodes t) [] (All-nil _) (nodes_hold t w))

-- which is a node of the tree
repeat_below : (ts : List Tree) (first : ℕ) (before : List Key) (node : ℕ) → repeated_from first before ts ≡ Some node → node < first + length ts
repeat_below [] first before node is = cc
repeat_below (t ∷ ts) first before node is = go (repeats before (own_keys t)) (repeat_below ts (first + 1) (before ++ own_keys t) node) is
  where
    go : (b : Bool) → (repeated_from (first + 1) (before ++ own_keys t) ts ≡ Some node → node < first + 1 + length ts)
        → (if b then Some first else repeated_from (first + 1) (before ++ own_keys t) ts) ≡ Some node → node < first + suc (length ts)
    go true rest is = let same : first ≡ node = cc in omega arith
    go false rest is = let below = rest is in omega arith

pub repeated_below : (t : Tree) (o : Option ℕ) → o ≡ repeated_key t → IfSome o (λ node. node < nodes t)
repeated_below t None is = tt
repeated_below t (Some node) is = omega (arith, repeat_below (all_nodes t) 0 [] node (sym is), nodes_are_all t)

-- the measure of a part that a loop is at, and of those behind it
pub measure_left : (xs : List trees.Tree) (i : ℕ) (x : trees.Tree) → i < length xs → x ≡ get_or xs i x → measure (shape x) + measure_of (shapes (drop (suc i) xs)) ≡ measure_of (shapes (drop i xs))
measure_left [] i x below at = absurd (omega (arith, below))
measure_left (y ∷ xs) zero x below at = ap (λ z. measure (shape z) + measure_of (shapes xs)) at
measure_left (y ∷ xs) (suc i) x below at = measure_left xs i x (omega (arith, below)) at
