-- Each key that a descriptor gives is that of a point.
use Rattle.std.proofs.Common.{◌≡◌, ℕ, Bool, true, false, List, [], ◌∷◌, map, take, drop, refl, subst, Option, Some, None, Result, Ok, Err, option_and_then}
use Rattle.std.specs.Prelude.{All, ⊤, nat_lt, if◌then◌else◌, ◌^◌}
use Rattle.std.specs.Option.{option_map}
use Rattle.std.proofs.lemmas.List.Elements.{All-nil, All-cons, All-head, All-tail}
use Rattle.def_script.specs.Bytes.{Bytes}
use Rattle.def_tree.specs.Tree.{Key}
use Rattle.def_curve.specs.Curve.{n}
use Rattle.def_curve.specs.Point.{Point, infinity, affine, is_on_curve, ◌⊕◌, times, generator}
use Rattle.def_curve.specs.Key.{number_of, point_of}
use Rattle.def_curve.specs.Encoding.{compressed}
use Rattle.def_derive.specs.Child.{Node, finite, child_by, halves, child, descendant}
use Rattle.def_descriptor.specs.Expression.{Named, point, extended, Expression}
use Rattle.def_descriptor.specs.Answer.{Descriptor, Answers}
use Rattle.def_descriptor.specs.Gives.{number_at, key_at, with_key, keys_at, expressions_of}
use Rattle.ms_curve_laws.proofs.Closure.{sum-curve, multiple-curve}
use Rattle.ms_curve_laws.specs.Laws.{KeyHasItsPoint, NoKeyOfInfinity, PointHasItsKey}
use Rattle.ms_key_laws.specs.Public.{HasPoint, IsPublic}
use Rattle.ms_key_laws.proofs.Read.{descriptor_public}

-- a point of the curve with coordinates
abbrev IsPoint : Point → Type 0
IsPoint infinity = ⊥
IsPoint (affine x y) = is_on_curve (affine x y) ≡ true

abbrev IsPointNode : Option Node → Type 0
IsPointNode None = ⊤
IsPointNode (Some node) = IsPoint node.point

on_curve : (own : Point) → IsPoint own → is_on_curve own ≡ true
on_curve infinity h = absurd h
on_curve (affine x y) h = h

node_if : (b : Bool) (o : Option Node) → IsPointNode o → IsPointNode (if b then o else None)
node_if true o h = h
node_if false o h = tt

finite_is : (chain_code : Bytes) (own : Point) → is_on_curve own ≡ true → IsPointNode (finite chain_code own)
finite_is chain_code infinity h = tt
finite_is chain_code (affine x y) h = h

by_halves : (left : ℕ) (right : Bytes) (parent : Point) → is_on_curve parent ≡ true → IsPointNode (child_by left right parent)
unfolding child_by
by_halves left right parent h =
    node_if (nat_lt left n) (finite right (times left generator ⊕ parent))
    (finite_is right (times left generator ⊕ parent) (sum-curve (times left generator) parent (multiple-curve 256 left generator refl) h))

child_is : (number : ℕ) (parent : Node) → IsPoint parent.point → IsPointNode (child number parent)
unfolding child
child_is number parent h =
    let digest = halves number parent in
    node_if (nat_lt number (2 ^ 31)) (child_by (number_of (take 32 digest)) (drop 32 digest) parent.point)
    (by_halves (number_of (take 32 digest)) (drop 32 digest) parent.point (on_curve parent.point h))

behind : (next : Node → Option Node) (o : Option Node) → ((node : Node) → IsPoint node.point → IsPointNode (next node)) → IsPointNode o
    → IsPointNode (option_and_then next o)
behind next None h k = tt
behind next (Some node) h k = h node k

descendant_is : (numbers : List ℕ) (node : Node) → IsPoint node.point → IsPointNode (descendant numbers node)
unfolding descendant
descendant_is [] node h = h
descendant_is (number ∷ numbers) node h = behind (descendant numbers) (child number node) (descendant_is numbers) (child_is number node h)

abbrev IsSomeKey : Option Key → Type 0
IsSomeKey None = ⊤
IsSomeKey (Some key) = HasPoint key

-- ---- the key of an expression

module _ (of_its_point : KeyHasItsPoint) (none_of_infinity : NoKeyOfInfinity) (of_its_key : PointHasItsKey) where
  of_key : (key : Bytes) (own : Point) → point_of key ≡ Some own → IsPoint own
  of_key key infinity e = none_of_infinity key e
  of_key [] (affine x y) e = absurd (cc)
  of_key (first ∷ rest) (affine x y) e = ((of_its_point first rest x y).0 e).on_curve

  of_point : (own : Point) → IsPoint own → HasPoint (compressed own)
  of_point infinity h = absurd h
  of_point (affine x y) h = (affine x y, of_its_key x y h)

  of_node : (o : Option Node) → IsPointNode o → IsSomeKey (option_map (λ node. compressed node.point) o)
  of_node None h = tt
  of_node (Some node) h = of_point node.point h

  first_node : (numbers : List ℕ) (chain_code : Bytes) (o : Option Point) → ((own : Point) → o ≡ Some own → IsPoint own)
      → IsPointNode (option_and_then (descendant numbers) (option_map (λ own. record { point = own; chain_code = chain_code }) o))
  first_node numbers chain_code None h = tt
  first_node numbers chain_code (Some own) h = descendant_is numbers (record { point = own; chain_code = chain_code }) (h own refl)

  key_is : (branch i : ℕ) (named : Named) → IsPublic named → IsSomeKey (key_at branch i named)
  key_is branch i (point key) h = h.1
  key_is branch i (extended key ways) h = of_node _ (first_node (map (number_at branch i) ways) key.chain_code (point_of key.key) (of_key key.key))

  -- ---- the keys of expressions

  one_more : (at : ℕ) (o : Option Key) (r : Result (List Key) ℕ) (keys : List Key) → IsSomeKey o → ((found : List Key) → r ≡ Ok found → All HasPoint found)
      → with_key at o r ≡ Ok keys → All HasPoint keys
  one_more at None r keys h others e = absurd (cc)
  one_more at (Some key) (Err later) keys h others e = absurd (cc)
  one_more at (Some key) (Ok found) keys h others e =
      let same : key ∷ found ≡ keys = cc in subst (All HasPoint) same (All-cons HasPoint key found h (others found refl))

  keys_are : (branch i : ℕ) (all : List Expression) (keys : List Key) → All (λ (e : Expression). IsPublic e.named) all → keys_at branch i all ≡ Ok keys → All HasPoint keys
  keys_are branch i [] keys h e = let same : [] ≡ keys = cc in subst (All HasPoint) same (All-nil HasPoint)
  keys_are branch i (expression ∷ rest) keys h e =
      one_more expression.at (key_at branch i expression.named) (keys_at branch i rest) keys
      (key_is branch i expression.named (All-head (λ (e : Expression). IsPublic e.named) expression rest h))
      (λ found. keys_are branch i rest found (All-tail (λ (e : Expression). IsPublic e.named) expression rest h)) e

  pub keys_have_points : (text : Bytes) (own : Descriptor) (branch i : ℕ) (keys : List Key) → Answers text (Ok own) → keys_at branch i (expressions_of own.body) ≡ Ok keys
      → All HasPoint keys
  keys_have_points text own branch i keys h e = keys_are branch i (expressions_of own.body) keys (descriptor_public text own h) e
