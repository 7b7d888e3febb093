-- The first node that mixes, and the kinds of a tree, from those of its children.
use Rattle.std.proofs.Common.{◌≡◌, ◌<◌, ℕ, suc, ◌+◌, Bool, true, false, ◌&&◌, cond, nat_le, List, [], ◌∷◌, ◌++◌, length, Option, Some, None, Result, Ok, Err, IfSome, refl, sym, ◌∙◌, ap, arith, if◌then◌else◌}
use Rattle.std.specs.Option.{option_or}
use Rattle.std.specs.Result.{result_err}
use Rattle.std.specs.List.{position_from}
use Rattle.std.proofs.lemmas.List.{length-append}
use Rattle.def_tree.specs.declared.Two.{Two}
use Rattle.def_tree.specs.declared.Two.TheVariants as two_kind
use Rattle.def_tree.specs.declared.Wrapper.{Wrapper}
use Rattle.def_tree.specs.Tree.{Tree, Trees, just_0, just_1, pk_k, pk_h, older, after, hash, and_or, two, thresh, multi, wrap, none, more}
use Rattle.def_tree.specs.Size.{nodes, nodes_of}
use Rattle.def_types.specs.Row.{if_ok}
use Rattle.def_tree.specs.Nodes.{all_nodes, nodes_of_all}
use Rattle.def_sane.specs.Locks.{Kinds, union, conflict, kinds, kinds_of_all, kinds_of_each, some_conflict, mixes, mix}
use Rattle.def_tree.proofs.NodeLists.{nodes_are_all, trees_are_all}
use Rattle.def_sane.proofs.FirstMix.{position_from-append}
use Rattle.ms_mixing.specs.Scaffolding.Mixing.{kinds_from, kinds_from_each, of_node, asks_both, union_all}

-- the value, unless a node mixes
abbrev unless_mixed : {A : Type 0} → Option ℕ → A → Result A ℕ
unless_mixed None value = Ok value
unless_mixed (Some node) value = Err node

-- the first of a list that mixes
abbrev first_mix : (first : ℕ) → List Tree → Option ℕ
first_mix = position_from mixes

-- the first node that mixes, or the kinds of a tree and of each of some trees
abbrev mixed_or_kinds : (first : ℕ) → Tree → Result Kinds ℕ
mixed_or_kinds first tree = unless_mixed (first_mix first (all_nodes tree)) (kinds tree)

abbrev mixed_or_each : (first : ℕ) → Trees → Result (List Kinds) ℕ
mixed_or_each first trees = unless_mixed (first_mix first (nodes_of_all trees)) (kinds_of_each trees)

-- a node behind others
last_node : (t : Tree) (end : ℕ) → unless_mixed (first_mix end (t ∷ [])) (kinds t) ≡ of_node end (mixes t) (kinds t)
last_node t end = go (mixes t)
  where
    go : (b : Bool) → unless_mixed (cond b (Some end) None) (kinds t) ≡ (if b then Err end else Ok (kinds t))
    go true = refl
    go false = refl

-- one tree behind another
first_mix-append : (xs ys : List Tree) (first middle : ℕ) → middle ≡ first + length xs → first_mix first (xs ++ ys) ≡ option_or (first_mix first xs) (first_mix middle ys)
first_mix-append xs ys first middle at = rw at (position_from-append mixes first xs ys)

mixes-two : (kind : Two) (x y : Tree) → mixes (two kind x y) ≡ (asks_both kind && conflict (kinds x) (kinds y))
mixes-two two_kind.AndV x y = refl
mixes-two two_kind.AndB x y = refl
mixes-two two_kind.OrB x y = refl
mixes-two two_kind.OrC x y = refl
mixes-two two_kind.OrD x y = refl
mixes-two two_kind.OrI x y = refl

mixed_or_kinds-wrap : (first : ℕ) (wrapper : Wrapper) (x : Tree) → mixed_or_kinds first (wrap wrapper x) ≡ if_ok (mixed_or_kinds first x) (λ a. of_node (first + nodes x) false a)
mixed_or_kinds-wrap first wrapper x =
    rw (first_mix-append (all_nodes x) (wrap wrapper x ∷ []) first (first + nodes x) (ap (λ n. first + n) (sym (nodes_are_all x))))
    (go (first_mix first (all_nodes x)))
  where
    go : (o : Option ℕ) → unless_mixed (option_or o (first_mix (first + nodes x) (wrap wrapper x ∷ []))) (kinds x) ≡ if_ok (unless_mixed o (kinds x)) (λ a. of_node (first + nodes x) false a)
    go None = refl
    go (Some node) = refl

mixed_or_kinds-two : (first : ℕ) (kind : Two) (x y : Tree) → mixed_or_kinds first (two kind x y)
    ≡ if_ok (mixed_or_kinds first x) (λ a. if_ok (mixed_or_kinds (first + nodes x) y) (λ b. of_node (first + nodes x + nodes y) (asks_both kind && conflict a b) (union a b)))
mixed_or_kinds-two first kind x y =
    rw (first_mix-append (all_nodes x ++ all_nodes y) (two kind x y ∷ []) first (first + nodes x + nodes y)
    (omega (arith, length-append (all_nodes x) (all_nodes y), nodes_are_all x, nodes_are_all y)))
    (rw (first_mix-append (all_nodes x) (all_nodes y) first (first + nodes x) (ap (λ n. first + n) (sym (nodes_are_all x))))
    (go (first_mix first (all_nodes x)) (first_mix (first + nodes x) (all_nodes y))))
  where
    go : (o p : Option ℕ) → unless_mixed (option_or (option_or o p) (first_mix (first + nodes x + nodes y) (two kind x y ∷ []))) (union (kinds x) (kinds y))
        ≡ if_ok (unless_mixed o (kinds x)) (λ a. if_ok (unless_mixed p (kinds y)) (λ b. of_node (first + nodes x + nodes y) (asks_both kind && conflict a b) (union a b)))
    go None None = rw (← mixes-two kind x y) (last_node (two kind x y) (first + nodes x + nodes y))
    go None (Some node) = refl
    go (Some node) p = refl

mixed_or_kinds-and_or : (first : ℕ) (x y z : Tree) → mixed_or_kinds first (and_or x y z)
    ≡ if_ok (mixed_or_kinds first x) (λ a. if_ok (mixed_or_kinds (first + nodes x) y)
    (λ b. if_ok (mixed_or_kinds (first + nodes x + nodes y) z) (λ c. of_node (first + nodes x + nodes y + nodes z) (conflict a b) (union a (union b c)))))
mixed_or_kinds-and_or first x y z =
    rw (first_mix-append (all_nodes x ++ all_nodes y ++ all_nodes z) (and_or x y z ∷ []) first (first + nodes x + nodes y + nodes z)
    (omega (
      arith,
      length-append (all_nodes x ++ all_nodes y) (all_nodes z),
      length-append (all_nodes x) (all_nodes y),
      nodes_are_all x,
      nodes_are_all y,
      nodes_are_all z,
    )))
    (rw (first_mix-append (all_nodes x ++ all_nodes y) (all_nodes z) first (first + nodes x + nodes y) (omega (arith, length-append (all_nodes x) (all_nodes y), nodes_are_all x, nodes_are_all y)))
    (rw (first_mix-append (all_nodes x) (all_nodes y) first (first + nodes x) (ap (λ n. first + n) (sym (nodes_are_all x))))
    (go (first_mix first (all_nodes x)) (first_mix (first + nodes x) (all_nodes y)) (first_mix (first + nodes x + nodes y) (all_nodes z)))))
  where
    go : (o p q : Option ℕ) → unless_mixed (option_or (option_or (option_or o p) q) (first_mix (first + nodes x + nodes y + nodes z) (and_or x y z ∷ []))) (union (kinds x) (union (kinds y) (kinds z)))
        ≡ if_ok (unless_mixed o (kinds x)) (λ a. if_ok (unless_mixed p (kinds y))
        (λ b. if_ok (unless_mixed q (kinds z)) (λ c. of_node (first + nodes x + nodes y + nodes z) (conflict a b) (union a (union b c)))))
    go None None None = last_node (and_or x y z) (first + nodes x + nodes y + nodes z)
    go None None (Some node) = refl
    go None (Some node) q = refl
    go (Some node) p q = refl

-- the kinds of a threshold are those of its children
all_kinds : (xs : Trees) → kinds_of_all xs ≡ union_all (kinds_of_each xs)
all_kinds none = refl
all_kinds (more x xs) = ap (union (kinds x)) (all_kinds xs)

mixed_or_kinds-thresh : (first k : ℕ) (xs : Trees) → mixed_or_kinds first (thresh k xs)
    ≡ if_ok (mixed_or_each first xs) (λ each. of_node (first + nodes_of xs) (nat_le 2 k && some_conflict each) (union_all each))
mixed_or_kinds-thresh first k xs =
    rw (first_mix-append (nodes_of_all xs) (thresh k xs ∷ []) first (first + nodes_of xs) (ap (λ n. first + n) (sym (trees_are_all xs))))
    (go (first_mix first (nodes_of_all xs)))
  where
    go : (o : Option ℕ) → unless_mixed (option_or o (first_mix (first + nodes_of xs) (thresh k xs ∷ []))) (kinds_of_all xs)
        ≡ if_ok (unless_mixed o (kinds_of_each xs)) (λ each. of_node (first + nodes_of xs) (nat_le 2 k && some_conflict each) (union_all each))
    go None = rw (← all_kinds xs) (last_node (thresh k xs) (first + nodes_of xs))
    go (Some node) = refl

mixed_or_each-more : (first : ℕ) (x : Tree) (xs : Trees) → mixed_or_each first (more x xs)
    ≡ if_ok (mixed_or_kinds first x) (λ a. if_ok (mixed_or_each (first + nodes x) xs) (λ each. Ok (a ∷ each)))
mixed_or_each-more first x xs =
    rw (first_mix-append (all_nodes x) (nodes_of_all xs) first (first + nodes x) (ap (λ n. first + n) (sym (nodes_are_all x))))
    (go (first_mix first (all_nodes x)) (first_mix (first + nodes x) (nodes_of_all xs)))
  where
    go : (o p : Option ℕ) → unless_mixed (option_or o p) (kinds x ∷ kinds_of_each xs) ≡ if_ok (unless_mixed o (kinds x)) (λ a. if_ok (unless_mixed p (kinds_of_each xs)) (λ each. Ok (a ∷ each)))
    go None None = refl
    go None (Some node) = refl
    go (Some node) p = refl

mutual
  kinds_from_is : (t : Tree) (first : ℕ) → kinds_from first t ≡ mixed_or_kinds first t
  kinds_from_is just_0 first = refl
  kinds_from_is just_1 first = refl
  kinds_from_is (pk_k key) first = refl
  kinds_from_is (pk_h key) first = refl
  kinds_from_is (older n) first = refl
  kinds_from_is (after n) first = refl
  kinds_from_is (hash kind value) first = refl
  kinds_from_is (and_or x y z) first =
      rw (kinds_from_is x first)
      (rw (kinds_from_is y (first + nodes x))
      (rw (kinds_from_is z (first + nodes x + nodes y))
      (sym (mixed_or_kinds-and_or first x y z))))
  kinds_from_is (two kind x y) first =
      rw (kinds_from_is x first) (rw (kinds_from_is y (first + nodes x)) (sym (mixed_or_kinds-two first kind x y)))
  kinds_from_is (thresh k xs) first = rw (kinds_from_each_is xs first) (sym (mixed_or_kinds-thresh first k xs))
  kinds_from_is (multi k keys) first = refl
  kinds_from_is (wrap wrapper x) first = rw (kinds_from_is x first) (sym (mixed_or_kinds-wrap first wrapper x))

  kinds_from_each_is : (xs : Trees) (first : ℕ) → kinds_from_each first xs ≡ mixed_or_each first xs
  kinds_from_each_is none first = refl
  kinds_from_each_is (more x xs) first =
      rw (kinds_from_is x first) (rw (kinds_from_each_is xs (first + nodes x)) (sym (mixed_or_each-more first x xs)))

refusal-mixed : {A : Type 0} (o : Option ℕ) (value : A) → result_err (unless_mixed o value) ≡ o
refusal-mixed None value = refl
refusal-mixed (Some node) value = refl

-- so a refusal is the first node that mixes
pub refusal_is_mix : (t : Tree) → result_err (kinds_from 0 t) ≡ mix t
refusal_is_mix t = ap result_err (kinds_from_is t 0) ∙ refusal-mixed (mix t) (kinds t)

-- which is a node of the tree
position_below : (first : ℕ) (xs : List Tree) (node : ℕ) → first_mix first xs ≡ Some node → node < first + length xs
position_below first [] node is = cc
position_below first (x ∷ xs) node is = go (mixes x) (position_below (first + 1) xs node) is
  where
    go : (b : Bool) → (first_mix (first + 1) xs ≡ Some node → node < first + 1 + length xs) → cond b (Some first) (first_mix (first + 1) xs) ≡ Some node → node < first + suc (length xs)
    go true rest is = let same : first ≡ node = cc in omega arith
    go false rest is = let below = rest is in omega arith

pub mix_below : (t : Tree) (o : Option ℕ) → o ≡ mix t → IfSome o (λ node. node < nodes t)
mix_below t None is = tt
mix_below t (Some node) is = omega (arith, position_below 0 (all_nodes t) node (sym is), nodes_are_all t)
