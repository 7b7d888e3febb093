-- The node of a number lies below one of the children.
use Rattle.std.proofs.Common.{◌≡◌, ℕ, zero, suc, ◌+◌, ◌-◌, ◌<◌, ◌≤◌, List, [], ◌∷◌, ◌++◌, length, drop, get_or, slice_get, refl, sym, ◌∙◌, ap, arith, append_assoc, length-append, Some, All}
use Rattle.def_tree.specs.declared.Two.{Two}
use Rattle.def_tree.specs.declared.Wrapper.{Wrapper}
use Rattle.def_tree.specs.InRange.{IsInRange}
use Rattle.def_tree.specs.Nodes.{all_nodes, nodes_of_all}
use Rattle.def_tree.specs.Size.{nodes}
use Rattle.def_tree.specs.Tree.{Tree, Trees, and_or, two, thresh, wrap}
use Rattle.def_tree.proofs.NodeLists.{nodes_are_all, trees_are_all, root_is_last}
use Rattle.def_tree.specs.Children.{children}
use Rattle.ms_tree.specs.declared.tree.Tree as code_tree
use Rattle.ms_tree.specs.Shape.{shape, shapes}
use Rattle.ms_tree.proofs.Parts.{nodes_at, in_range_at}
use Rattle.ms_outline.specs.Scaffolding.Below.{IsBelow, IsAmong}
use Rattle.ms_outline.proofs.Standing.{rest}

pub get_front : {A : Type 0} (xs ys : List A) (i : ℕ) → i < length xs → slice_get (xs ++ ys) i ≡ slice_get xs i
get_front [] ys i below = absurd (omega (arith, below))
get_front (x ∷ xs) ys zero below = refl
get_front (x ∷ xs) ys (suc i) below = get_front xs ys i (omega (arith, below))

pub get_behind : {A : Type 0} (xs ys : List A) (i j : ℕ) → i ≡ length xs + j → slice_get (xs ++ ys) i ≡ slice_get ys j
get_behind [] ys i j at = ap (slice_get ys) (omega (arith, at))
get_behind (x ∷ xs) ys zero j at = absurd (omega (arith, at))
get_behind (x ∷ xs) ys (suc i) j at = get_behind xs ys i j (omega (arith, at))

-- a node behind others, in a list whose first part has as many as this tree
behind_is : (xs ys : List Tree) (n i j : ℕ) → length xs ≡ n → n ≤ i → j ≡ i - n → slice_get (xs ++ ys) i ≡ slice_get ys j
behind_is xs ys n i j size past at = get_behind xs ys i j (omega (arith, size, past, at))

pub in_x : (t x y z : Tree) (i : ℕ) → t ≡ and_or x y z → IsInRange x → i < nodes x → IsBelow t i x i
in_x t x y z i is range there = record {
  range = range;
  smaller = omega (arith, ap nodes is);
  there = there;
  lower = omega arith;
  same =
      ap (λ u. slice_get (all_nodes u) i) is
      ∙ rw (append_assoc (all_nodes x ++ all_nodes y) (all_nodes z) (and_or x y z ∷ []), append_assoc (all_nodes x) (all_nodes y) (all_nodes z ++ and_or x y z ∷ []))
      (get_front (all_nodes x) (all_nodes y ++ (all_nodes z ++ and_or x y z ∷ [])) i (omega (arith, nodes_are_all x, there)));
}

pub in_y : (t x y z : Tree) (i j : ℕ) → t ≡ and_or x y z → IsInRange y → nodes x ≤ i → j ≡ i - nodes x → j < nodes y → IsBelow t i y j
in_y t x y z i j is range past at there = record {
  range = range;
  smaller = omega (arith, ap nodes is);
  there = there;
  lower = omega (arith, at);
  same =
      ap (λ u. slice_get (all_nodes u) i) is
      ∙ rw (append_assoc (all_nodes x ++ all_nodes y) (all_nodes z) (and_or x y z ∷ []), append_assoc (all_nodes x) (all_nodes y) (all_nodes z ++ and_or x y z ∷ []))
      (behind_is (all_nodes x) (all_nodes y ++ (all_nodes z ++ and_or x y z ∷ [])) (nodes x) i j (nodes_are_all x) past at
      ∙ get_front (all_nodes y) (all_nodes z ++ and_or x y z ∷ []) j (omega (arith, nodes_are_all y, there)));
}

pub in_z : (t x y z : Tree) (i j : ℕ) → t ≡ and_or x y z → IsInRange z → nodes x + nodes y ≤ i → j ≡ i - (nodes x + nodes y) → i + 1 < nodes t → IsBelow t i z j
in_z t x y z i j is range past at below =
    let there : j < nodes z = omega (arith, ap nodes is, below, at, past) in
    record {
      range = range;
      smaller = omega (arith, ap nodes is);
      there = there;
      lower = omega (arith, at);
      same =
          ap (λ u. slice_get (all_nodes u) i) is
          ∙ rw (append_assoc (all_nodes x ++ all_nodes y) (all_nodes z) (and_or x y z ∷ []), append_assoc (all_nodes x) (all_nodes y) (all_nodes z ++ and_or x y z ∷ []))
          (behind_is (all_nodes x) (all_nodes y ++ (all_nodes z ++ and_or x y z ∷ [])) (nodes x) i (i - nodes x) (nodes_are_all x) (omega (arith, past)) refl
          ∙ behind_is (all_nodes y) (all_nodes z ++ and_or x y z ∷ []) (nodes y) (i - nodes x) j (nodes_are_all y) (omega (arith, past)) (omega (arith, at, past))
          ∙ get_front (all_nodes z) (and_or x y z ∷ []) j (omega (arith, nodes_are_all z, there)));
    }

pub in_first : (t x y : Tree) (kind : Two) (i : ℕ) → t ≡ two kind x y → IsInRange x → i < nodes x → IsBelow t i x i
in_first t x y kind i is range there = record {
  range = range;
  smaller = omega (arith, ap nodes is);
  there = there;
  lower = omega arith;
  same =
      ap (λ u. slice_get (all_nodes u) i) is
      ∙ rw (append_assoc (all_nodes x) (all_nodes y) (two kind x y ∷ []))
      (get_front (all_nodes x) (all_nodes y ++ two kind x y ∷ []) i (omega (arith, nodes_are_all x, there)));
}

pub in_second : (t x y : Tree) (kind : Two) (i j : ℕ) → t ≡ two kind x y → IsInRange y → nodes x ≤ i → j ≡ i - nodes x → i + 1 < nodes t → IsBelow t i y j
in_second t x y kind i j is range past at below =
    let there : j < nodes y = omega (arith, ap nodes is, below, at, past) in
    record {
      range = range;
      smaller = omega (arith, ap nodes is);
      there = there;
      lower = omega (arith, at);
      same =
          ap (λ u. slice_get (all_nodes u) i) is
          ∙ rw (append_assoc (all_nodes x) (all_nodes y) (two kind x y ∷ []))
          (behind_is (all_nodes x) (all_nodes y ++ two kind x y ∷ []) (nodes x) i j (nodes_are_all x) past at
          ∙ get_front (all_nodes y) (two kind x y ∷ []) j (omega (arith, nodes_are_all y, there)));
    }

pub in_wrapped : (t x : Tree) (wrapper : Wrapper) (i : ℕ) → t ≡ wrap wrapper x → IsInRange x → i + 1 < nodes t → IsBelow t i x i
in_wrapped t x wrapper i is range below =
    let there : i < nodes x = omega (arith, ap nodes is, below) in
    record {
      range = range;
      smaller = omega (arith, ap nodes is);
      there = there;
      lower = omega arith;
      same = ap (λ u. slice_get (all_nodes u) i) is ∙ get_front (all_nodes x) (wrap wrapper x ∷ []) i (omega (arith, nodes_are_all x, there));
    }

pub in_threshold : (t : Tree) (xs : Trees) (k : ℕ) (i : ℕ) (child : Tree) (left : ℕ) → t ≡ thresh k xs → i + 1 < nodes t → IsAmong xs i child left → IsBelow t i child left
in_threshold t xs k i child left is below h = record {
  range = h.range;
  smaller = omega (arith, ap nodes is, h.smaller);
  there = h.there;
  lower = h.lower;
  same =
      ap (λ u. slice_get (all_nodes u) i) is ∙ get_front (nodes_of_all xs) (thresh k xs ∷ []) i (omega (arith, ap nodes is, trees_are_all xs, below)) ∙ h.same;
}

-- ---- of trees side by side: this one, or one of those behind it

pub in_this : (xs : List code_tree.Tree) (number i left : ℕ) (x : code_tree.Tree) → i < length xs → x ≡ get_or xs i x → All (λ y. IsInRange (shape y)) xs
    → left < nodes (shape x) → left ≤ number → slice_get (nodes_of_all (shapes xs)) number ≡ slice_get (nodes_of_all (shapes (drop i xs))) left
    → IsAmong (shapes xs) number (shape x) left
in_this xs number i left x below at range there lower same = record {
  range = in_range_at xs i x below at range;
  smaller = nodes_at xs i x below at;
  there = there;
  lower = lower;
  same =
      same ∙ ap (λ ys. slice_get (nodes_of_all (shapes ys)) left) (rest [] [] xs i x below at)
      ∙ get_front (all_nodes (shape x)) (nodes_of_all (shapes (drop (i + 1) xs))) left (omega (arith, nodes_are_all (shape x), there));
}

pub in_others : (xs : List code_tree.Tree) (i left : ℕ) (x : code_tree.Tree) → i < length xs → x ≡ get_or xs i x → nodes (shape x) ≤ left
    → slice_get (nodes_of_all (shapes (drop i xs))) left ≡ slice_get (nodes_of_all (shapes (drop (i + 1) xs))) (left - nodes (shape x))
in_others xs i left x below at past =
    ap (λ ys. slice_get (nodes_of_all (shapes ys)) left) (rest [] [] xs i x below at)
    ∙ behind_is (all_nodes (shape x)) (nodes_of_all (shapes (drop (i + 1) xs))) (nodes (shape x)) left (left - nodes (shape x)) (nodes_are_all (shape x)) past refl

pub root_there : (t : Tree) (i : ℕ) → i + 1 ≡ nodes t → slice_get (all_nodes t) i ≡ Some t
root_there t i last =
    let size : length (nodes_of_all (children t)) + 1 ≡ nodes t =
    sym (length-append (nodes_of_all (children t)) (t ∷ [])) ∙ ap length (sym (root_is_last t)) ∙ nodes_are_all t in
    ap (λ xs. slice_get xs i) (root_is_last t) ∙ get_behind (nodes_of_all (children t)) (t ∷ []) i 0 (omega (arith, last, size))
