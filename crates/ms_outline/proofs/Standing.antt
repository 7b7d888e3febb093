-- What is told of nodes that lie side by side in the list of all nodes.
use Rattle.std.proofs.Common.{◌≡◌, ℕ, ◌+◌, ◌-◌, ◌<◌, ◌≤◌, List, [], ◌∷◌, ◌++◌, length, map, drop, get_or, drop-cons, add-one, slice_get, Some, Ok, Err, OnOk, refl, sym, ◌∙◌, ap, subst, arith, append_assoc, length-append}
use Rattle.std.proofs.lemmas.List.{map-append, length-map, append-nil}
use Rattle.std.specs.Prelude.{Option, Result, if◌then◌else◌, is_ok}
use Rattle.def_tree.specs.declared.Two.{Two}
use Rattle.def_tree.specs.declared.Wrapper.{Wrapper}
use Rattle.def_tree.specs.Tree.{Tree, Trees, and_or, two, thresh, wrap}
use Rattle.def_tree.specs.Children.{children}
use Rattle.def_tree.specs.Nodes.{all_nodes, nodes_of_all}
use Rattle.def_tree.specs.Size.{nodes, nodes_of}
use Rattle.def_tree.specs.InRange.{depth, depth_of}
use Rattle.ms_tree.proofs.Parts.{depth-child}
use Rattle.def_script.specs.Bytes.{Bytes}
use Rattle.def_outline.specs.Outline.{Node, node, outline, outlines}
use Rattle.std.proofs.lemmas.Grind.{flat_map-append}
use Rattle.std.specs.List.{flat_map}
use Rattle.def_tree.proofs.NodeLists.{nodes_are_all, root_is_last}
use Rattle.def_types.specs.declared.CorrectnessType.{CorrectnessType}
use Rattle.def_types.specs.declared.MalleabilityProperties.{MalleabilityProperties}
use Rattle.def_types.specs.Correctness.{correctness_of}
use Rattle.def_types.specs.Malleable.{malleability_of}
use Rattle.def_types.specs.declared.rule.RuleAt.{RuleAt}
use Rattle.def_answer.specs.Outline.{part_type}
use Rattle.ms_tree.specs.declared.tree.Tree as code_tree
use Rattle.ms_tree.specs.Shape.{shape, shapes}
use Rattle.ms_types.specs.Told.{told}
use Rattle.ms_outline.specs.Scaffolding.Typed.{StandsAt, AreTypesOf, StandTold, told_type}

at_place : {A : Type 0} (before : List A) (x : A) (behind : List A) → slice_get (before ++ x ∷ behind) (length before) ≡ Some x
at_place [] x behind = refl
at_place (y ∷ before) x behind = at_place before x behind

module _ {A : Type 0} (items : List A) (f : Tree → A) where
  front_stands : (first : ℕ) (ts us : List Tree) → StandsAt items first f (ts ++ us) → StandsAt items first f ts
  front_stands first ts us s = record {
    before = s.before;
    behind = map f us ++ s.behind;
    is = s.is ∙ simp (map-append, append_assoc);
    place = s.place;
  }

  behind_stands : (first next : ℕ) (ts us : List Tree) → next ≡ first + length ts → StandsAt items first f (ts ++ us) → StandsAt items next f us
  behind_stands first next ts us at s = record {
    before = s.before ++ map f ts;
    behind = s.behind;
    is = s.is ∙ simp (map-append, append_assoc);
    place = simp (length-append, length-map) (omega (arith, s.place, at));
  }

  own_stands : (first own : ℕ) (ts : List Tree) (t : Tree) → own ≡ first + length ts → StandsAt items first f (ts ++ t ∷ []) → slice_get items own ≡ Some (f t)
  own_stands first own ts t at s =
      let is : items ≡ (s.before ++ map f ts) ++ f t ∷ s.behind = s.is ∙ simp (map-append, append_assoc) in
      let place : length (s.before ++ map f ts) ≡ own = simp (length-append, length-map) (omega (arith, s.place, at)) in
      rw is (subst (λ n. slice_get ((s.before ++ map f ts) ++ f t ∷ s.behind) n ≡ Some (f t)) place (at_place (s.before ++ map f ts) (f t) s.behind))

  -- all of a list
  pub all_stand : (ts : List Tree) → items ≡ map f ts → StandsAt items 0 f ts
  all_stand ts is = record {
    before = [];
    behind = [];
    is = is ∙ sym (append-nil (map f ts));
    place = refl;
  }

-- so of both systems
module _ (cs : List (Option CorrectnessType)) (ms : List (Option MalleabilityProperties)) where
  pub front : (first : ℕ) (ts us : List Tree) → AreTypesOf cs ms first (ts ++ us) → AreTypesOf cs ms first ts
  front first ts us (c, m) = (front_stands cs _ first ts us c, front_stands ms _ first ts us m)

  pub behind : (first next : ℕ) (ts us : List Tree) → next ≡ first + length ts → AreTypesOf cs ms first (ts ++ us) → AreTypesOf cs ms next us
  behind first next ts us at (c, m) = (behind_stands cs _ first next ts us at c, behind_stands ms _ first next ts us at m)

  -- the root stands behind the others
  pub own : (first number : ℕ) (t : Tree) → number ≡ first + (nodes t - 1) → AreTypesOf cs ms first (all_nodes t) → StandTold cs ms number t
  own first number t at (c, m) =
      let few : length (nodes_of_all (children t)) + 1 ≡ nodes t =
      sym (length-append (nodes_of_all (children t)) (t ∷ [])) ∙ ap length (sym (root_is_last t)) ∙ nodes_are_all t in
      let place : number ≡ first + length (nodes_of_all (children t)) = omega (arith, at, few) in (
        own_stands cs (λ u. told (correctness_of u)) first number (nodes_of_all (children t)) t place
            (subst (StandsAt cs first (λ u. told (correctness_of u))) (root_is_last t) c),
        own_stands ms (λ u. told (malleability_of u)) first number (nodes_of_all (children t)) t place
            (subst (StandsAt ms first (λ u. told (malleability_of u))) (root_is_last t) m),
      )

  -- the parts of a node
  of_shape : (first : ℕ) (t u : Tree) → t ≡ u → AreTypesOf cs ms first (all_nodes t) → AreTypesOf cs ms first (all_nodes u)
  of_shape first t u is = subst (λ v. AreTypesOf cs ms first (all_nodes v)) is

  and_or_xyz : (first : ℕ) (t x y z : Tree) → t ≡ and_or x y z → AreTypesOf cs ms first (all_nodes t) → AreTypesOf cs ms first (all_nodes x ++ all_nodes y ++ all_nodes z)
  and_or_xyz first t x y z is h = front first (all_nodes x ++ all_nodes y ++ all_nodes z) (and_or x y z ∷ []) (of_shape first t _ is h)

  and_or_xy : (first : ℕ) (t x y z : Tree) → t ≡ and_or x y z → AreTypesOf cs ms first (all_nodes t) → AreTypesOf cs ms first (all_nodes x ++ all_nodes y)
  and_or_xy first t x y z is h = front first (all_nodes x ++ all_nodes y) (all_nodes z) (and_or_xyz first t x y z is h)

  pub and_or_x : (first : ℕ) (t x y z : Tree) → t ≡ and_or x y z → AreTypesOf cs ms first (all_nodes t) → AreTypesOf cs ms first (all_nodes x)
  and_or_x first t x y z is h = front first (all_nodes x) (all_nodes y) (and_or_xy first t x y z is h)

  pub and_or_y : (first second : ℕ) (t x y z : Tree) → t ≡ and_or x y z → second ≡ first + nodes x → AreTypesOf cs ms first (all_nodes t)
      → AreTypesOf cs ms second (all_nodes y)
  and_or_y first second t x y z is at h =
      behind first second (all_nodes x) (all_nodes y) (at ∙ ap (λ n. first + n) (sym (nodes_are_all x))) (and_or_xy first t x y z is h)

  pub and_or_z : (first third : ℕ) (t x y z : Tree) → t ≡ and_or x y z → third ≡ first + nodes x + nodes y → AreTypesOf cs ms first (all_nodes t)
      → AreTypesOf cs ms third (all_nodes z)
  and_or_z first third t x y z is at h =
      behind first third (all_nodes x ++ all_nodes y) (all_nodes z)
      (omega (arith, at, length-append (all_nodes x) (all_nodes y), nodes_are_all x, nodes_are_all y)) (and_or_xyz first t x y z is h)

  two_xy : (first : ℕ) (t x y : Tree) (kind : Two) → t ≡ two kind x y → AreTypesOf cs ms first (all_nodes t) → AreTypesOf cs ms first (all_nodes x ++ all_nodes y)
  two_xy first t x y kind is h = front first (all_nodes x ++ all_nodes y) (two kind x y ∷ []) (of_shape first t _ is h)

  pub two_x : (first : ℕ) (t x y : Tree) (kind : Two) → t ≡ two kind x y → AreTypesOf cs ms first (all_nodes t) → AreTypesOf cs ms first (all_nodes x)
  two_x first t x y kind is h = front first (all_nodes x) (all_nodes y) (two_xy first t x y kind is h)

  pub two_y : (first second : ℕ) (t x y : Tree) (kind : Two) → t ≡ two kind x y → second ≡ first + nodes x → AreTypesOf cs ms first (all_nodes t)
      → AreTypesOf cs ms second (all_nodes y)
  two_y first second t x y kind is at h =
      behind first second (all_nodes x) (all_nodes y) (at ∙ ap (λ n. first + n) (sym (nodes_are_all x))) (two_xy first t x y kind is h)

  pub thresh_xs : (first : ℕ) (t : Tree) (xs : Trees) (k : ℕ) → t ≡ thresh k xs → AreTypesOf cs ms first (all_nodes t) → AreTypesOf cs ms first (nodes_of_all xs)
  thresh_xs first t xs k is h = front first (nodes_of_all xs) (thresh k xs ∷ []) (of_shape first t _ is h)

  pub wrap_x : (first : ℕ) (t x : Tree) (wrapper : Wrapper) → t ≡ wrap wrapper x → AreTypesOf cs ms first (all_nodes t) → AreTypesOf cs ms first (all_nodes x)
  wrap_x first t x wrapper is h = front first (all_nodes x) (wrap wrapper x ∷ []) (of_shape first t _ is h)

  -- the tree that a loop is at, and those behind it
  pub rest : (xs : List code_tree.Tree) (i : ℕ) (x : code_tree.Tree) → i < length xs → x ≡ get_or xs i x → drop i xs ≡ x ∷ drop (i + 1) xs
  rest xs i x below at = rw add-one (drop-cons xs i x below) ∙ ap (λ y. y ∷ drop (i + 1) xs) (sym at)

  pub this_one : (next : ℕ) (xs : List code_tree.Tree) (i : ℕ) (x : code_tree.Tree) → i < length xs → x ≡ get_or xs i x
      → AreTypesOf cs ms next (nodes_of_all (shapes (drop i xs))) → AreTypesOf cs ms next (all_nodes (shape x))
  this_one next xs i x below at h =
      front next (all_nodes (shape x)) (nodes_of_all (shapes (drop (i + 1) xs)))
      (subst (λ ys. AreTypesOf cs ms next (nodes_of_all (shapes ys))) (rest xs i x below at) h)

  pub next_ones : (next after : ℕ) (xs : List code_tree.Tree) (i : ℕ) (x : code_tree.Tree) → i < length xs → x ≡ get_or xs i x → after ≡ next + nodes (shape x)
      → AreTypesOf cs ms next (nodes_of_all (shapes (drop i xs))) → AreTypesOf cs ms after (nodes_of_all (shapes (drop (i + 1) xs)))
  next_ones next after xs i x below at goes h =
      behind next after (all_nodes (shape x)) (nodes_of_all (shapes (drop (i + 1) xs))) (goes ∙ ap (λ n. next + n) (sym (nodes_are_all (shape x))))
      (subst (λ ys. AreTypesOf cs ms next (nodes_of_all (shapes ys))) (rest xs i x below at) h)

-- a part's type, by what is told of it
pub told_is : (c : Result CorrectnessType RuleAt) (m : Result MalleabilityProperties RuleAt) → told_type (told c) (told m) ≡ part_type c m
told_is (Err at) m = refl
told_is (Ok ty) (Err at) = refl
told_is (Ok ty) (Ok properties) = refl

-- ---- the lines of what is left

module _ (line : Node → Bytes) where
  pub and_or_lines : (first depth : ℕ) (x y z : Tree) → flat_map line (outline first depth (and_or x y z))
      ≡ line (node (first + nodes x + nodes y + nodes z) depth (and_or x y z)) ++ (flat_map line (outline first (depth + 1) x)
      ++ (flat_map line (outline (first + nodes x) (depth + 1) y) ++ flat_map line (outline (first + nodes x + nodes y) (depth + 1) z)))
  and_or_lines first depth x y z = simp (flat_map-append, append_assoc)

  pub and_or_written : (old own x y new : Bytes) (first second third number depth : ℕ) (t a b c : Tree) → t ≡ and_or a b c → second ≡ first + nodes a
      → third ≡ second + nodes b → number ≡ first + (nodes t - 1) → own ≡ old ++ line (node number depth t)
      → x ≡ own ++ flat_map line (outline first (depth + 1) a) → y ≡ x ++ flat_map line (outline second (depth + 1) b)
      → new ≡ y ++ flat_map line (outline third (depth + 1) c) → new ≡ old ++ flat_map line (outline first depth t)
  and_or_written old own x y new first second third number depth t a b c is s th nu e0 e1 e2 e3 =
      let at : number ≡ first + nodes a + nodes b + nodes c = omega (arith, nu, ap nodes is) in
      rw (e3, e2, e1, e0, at, th, s, is) (simp append_assoc (ap (λ l. old ++ l) (sym (and_or_lines first depth a b c))))

  pub rest_lines : (next depth : ℕ) (xs : List code_tree.Tree) (i : ℕ) (x : code_tree.Tree) → i < length xs → x ≡ get_or xs i x
      → flat_map line (outlines next depth (shapes (drop i xs)))
      ≡ flat_map line (outline next depth (shape x)) ++ flat_map line (outlines (next + nodes (shape x)) depth (shapes (drop (i + 1) xs)))
  rest_lines next depth xs i x below at = rw (rest [] [] xs i x below at) (flat_map-append line (outline next depth (shape x)) _)

  pub loop_written : (now new : Bytes) (next after depth : ℕ) (xs : List code_tree.Tree) (i : ℕ) (x : code_tree.Tree) → i < length xs → x ≡ get_or xs i x
      → after ≡ next + nodes (shape x) → new ≡ now ++ flat_map line (outline next depth (shape x))
      → new ++ flat_map line (outlines after depth (shapes (drop (i + 1) xs))) ≡ now ++ flat_map line (outlines next depth (shapes (drop i xs)))
  loop_written now new next after depth xs i x below at goes is =
      rw (is, goes) (append_assoc now (flat_map line (outline next depth (shape x))) (flat_map line (outlines (next + nodes (shape x)) depth (shapes (drop (i + 1) xs)))))
      ∙ ap (λ l. now ++ l) (sym (rest_lines next depth xs i x below at))

  pub left_nodes : (xs : List code_tree.Tree) (i : ℕ) (x : code_tree.Tree) → i < length xs → x ≡ get_or xs i x
      → nodes_of (shapes (drop i xs)) ≡ nodes (shape x) + nodes_of (shapes (drop (i + 1) xs))
  left_nodes xs i x below at = ap (λ ys. nodes_of (shapes ys)) (rest [] [] xs i x below at)

pub on_ok : {V E : Type 0} (r : Result V E) (P Q : Type 0) → (P → Q) → OnOk r P → OnOk r Q
on_ok (Ok v) P Q goes holds = goes holds
on_ok (Err e) P Q goes holds = holds

pub if_written : {V E : Type 0} (r : Result V E) (new a b : Bytes) → new ≡ (if is_ok r then a else b) → OnOk r (new ≡ a)
if_written (Ok v) new a b e = e
if_written (Err e) new a b h = tt

-- no tree is deeper than the deepest
pub depth_at : (xs : List code_tree.Tree) (i : ℕ) (x : code_tree.Tree) → i < length xs → x ≡ get_or xs i x → depth (shape x) ≤ depth_of (shapes xs)
depth_at xs i x below at = let P : code_tree.Tree → Type 0 = λ y. depth (shape y) ≤ depth_of (shapes xs) in subst P (sym at) (depth-child xs i x below)
