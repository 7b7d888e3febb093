-- Trees in a row, and the nodes of all of them.
use Rattle.std.proofs.Common.{◌≡◌, ℕ, ◌+◌, ◌-◌, ◌<◌, ◌≤◌, List, [], ◌∷◌, ◌++◌, length, map, get_or, take, drop, Bool, true, false, Option, None, if◌then◌else◌, sym, ◌∙◌, ap, subst, arith, append_assoc}
use Rattle.std.proofs.lemmas.List.{append-nil, map_more, drop_more}
use Rattle.def_script.specs.Bytes.{Bytes}
use Rattle.def_machine.specs.Stacks.{Stack}
use Rattle.def_tree.specs.Tree as model
use Rattle.def_assets.specs.Assets.{Assets}
use Rattle.def_tree.specs.Nodes.{all_nodes, nodes_of_all}
use Rattle.def_choice.specs.Cheapest.{all_dissatisfied}
use Rattle.def_choice.specs.Dissatisfaction.{dissatisfaction}
use Rattle.ms_tree.specs.declared.tree.Tree.{Tree}
use Rattle.ms_tree.specs.Shape.{shape, shapes, trees_of}
use Rattle.def_choice.specs.declared.choice.Choice.{Choice as Rule}
use Rattle.ms_chosen.specs.declared.table.Weighed.{Weighed}
use Rattle.ms_chosen.specs.declared.table.Entry.{Entry}
use Rattle.ms_chosen.specs.Scaffolding.Pushed.{IsPushed}
use Rattle.ms_chosen.specs.Scaffolding.Table.{IsWeighed, AreEntries}
use Rattle.ms_chosen.proofs.Pushed.{pushed_both}

nodes_push : (ts : List model.Tree) (t : model.Tree) → nodes_of_all (trees_of (ts ++ t ∷ [])) ≡ nodes_of_all (trees_of ts) ++ all_nodes t
nodes_push [] t = append-nil (all_nodes t)
nodes_push (s ∷ ts) t = ap (λ us. all_nodes s ++ us) (nodes_push ts t) ∙ sym (append_assoc (all_nodes s) (nodes_of_all (trees_of ts)) (all_nodes t))

-- a further tree of a row
pub shape_more : (xs : List Tree) (i : ℕ) (x : Tree) → i < length xs → x ≡ get_or xs i x → map shape (take (i + 1) xs) ≡ map shape (take i xs) ++ shape x ∷ []
shape_more xs i x below at = map_more shape xs i x below ∙ ap (λ y. map shape (take i xs) ++ shape y ∷ []) (sym at)

pub nodes_more : (xs : List Tree) (i : ℕ) (x : Tree) → i < length xs → x ≡ get_or xs i x → nodes_of_all (shapes (take (i + 1) xs)) ≡ nodes_of_all (shapes (take i xs)) ++ all_nodes (shape x)
nodes_more xs i x below at = ap (λ ts. nodes_of_all (trees_of ts)) (shape_more xs i x below at) ∙ nodes_push (map shape (take i xs)) (shape x)

-- the last of those up to a place
pub nodes_last : (xs : List Tree) (p : ℕ) (x : Tree) → 0 < p → p ≤ length xs → x ≡ get_or xs (p - 1) x → nodes_of_all (shapes (take p xs))
    ≡ nodes_of_all (shapes (take (p - 1) xs)) ++ all_nodes (shape x)
nodes_last xs p x some within at =
    let next : p ≡ (p - 1) + 1 = omega (arith, some) in
    ap (λ n. nodes_of_all (shapes (take n xs))) next ∙ nodes_more xs (p - 1) x (omega (arith, some, within)) at

-- so the entries up to a place end with those of the last tree
pub last_entries : (rule : Rule) (assets : Assets) (xs : List Tree) (p : ℕ) (x : Tree) (table : List Entry) → 0 < p → p ≤ length xs → x ≡ get_or xs (p - 1) x
    → AreEntries rule assets (nodes_of_all (shapes (take p xs))) table → AreEntries rule assets (nodes_of_all (shapes (take (p - 1) xs)) ++ all_nodes (shape x)) table
last_entries rule assets xs p x table some within at h = subst (λ ts. AreEntries rule assets ts table) (nodes_last xs p x some within at) h

-- what was weighed of a tree that is the same
pub same_weighed : (rule : Rule) (assets : Assets) (t u : model.Tree) (w : Weighed) → t ≡ u → IsWeighed rule assets t w → IsWeighed rule assets u w
same_weighed rule assets t u w is h = subst (λ s. IsWeighed rule assets s w) is h

-- the dissatisfactions of the trees from a place on
pub dissatisfied_less : (xs : List Tree) (p : ℕ) (x : Tree) (before now after : List Bytes) → 0 < p → p ≤ length xs → x ≡ get_or xs (p - 1) x
    → IsPushed (all_dissatisfied (shapes (drop p xs))) before now → IsPushed (dissatisfaction (shape x)) now after → IsPushed (all_dissatisfied (shapes (drop (p - 1) xs))) before after
dissatisfied_less xs p x before now after some within at h k =
    let next : (p - 1) + 1 ≡ p = omega (arith, some) in
    let opened : drop (p - 1) xs ≡ x ∷ drop p xs =
    drop_more xs (p - 1) x (omega (arith, some, within)) ∙ (λ i. sym at i ∷ drop (next i) xs)
    in
    subst (λ ys. IsPushed (all_dissatisfied (shapes ys)) before after) (sym opened)
    (pushed_both (all_dissatisfied (shapes (drop p xs))) (dissatisfaction (shape x)) before now after h k)

-- a child that isn't dissatisfied is passed over
pub pushed_unless : (b : Bool) (o : Option Stack) (before after : List Bytes) → IsPushed o before after → IsPushed (if b then None else o) before after
pushed_unless true o before after h = tt
pushed_unless false o before after h = h
