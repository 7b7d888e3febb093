-- How many items a tree takes and how high it is, by its opcodes.
use Rattle.std.proofs.Common.{◌≡◌, ℕ, zero, suc, ◌+◌, ◌≤◌, Option, Some, None, refl, sym, ap, subst, arith}
use Rattle.std.specs.Prelude.{⊤}
use Rattle.def_tree.specs.declared.Two.TheVariants as kind
use Rattle.def_tree.specs.declared.Wrapper.TheVariants as wrapper
use Rattle.def_tree.specs.Tree.{Tree, Trees, just_0, just_1, older, after, and_or, two, thresh, multi, wrap, none, more}
use Rattle.def_types.specs.declared.Base.{Base}
use Rattle.def_types.specs.declared.Base.TheVariants.{B, V, K, W}
use Rattle.def_types.specs.Typed.{type_of, IsTyped, AreTyped}
use Rattle.def_types.proofs.Rows.{correctness_rows}
use Rattle.def_types.proofs.Facts.{typed-and_or, typed-and_v, typed-and_b, typed-or_b, typed-or_c, typed-or_d, typed-or_i, typed-thresh_none, typed-multi, typed-wrap_a, typed-wrap_s, typed-wrap_c, typed-wrap_d, typed-wrap_v, typed-wrap_j, typed-wrap_n, OthersFit}
use Rattle.def_emit.specs.Emit.{emit, emit_sum, emit_added}
use Rattle.def_limits.specs.declared.Limits.{Limits}
use Rattle.def_limits.specs.Formal.{Takes, one, empty}
use Rattle.def_limits.proofs.Greatest.{as_computed as limits_as_computed}
use Rattle.def_script.specs.Instruction.{opcode_count}
use Rattle.def_limits.specs.Scaffolding.Most as most
use Rattle.def_limits.specs.Scaffolding.Most.{most_sat, most_dsat, most_parts, number_of}
use Rattle.def_height.specs.declared.Highest.{Highest}
use Rattle.def_height.specs.Scaffolding.Highest.{only, both, either, at_least, highest_sat, highest_dsat, highest_parts, height_of_option}
use Rattle.def_height.specs.Laws.{ItemsAreWithinOps, HeightIsWithin, HeightIsLow}
use Rattle.def_height.proofs.Heights.{AreFit, fit_children}
use Rattle.def_height.proofs.Found.{as_computed}
use Rattle.def_height.proofs.Opcodes.{ops, opcodes_verified, ops_multi, ops_and_or, ops_and_v, ops_and_b, ops_or_b, ops_or_c, ops_or_d, ops_or_i, ops_thresh, ops_sum, ops_added, ops_a, ops_c, ops_d, ops_j, ops_n}

-- as many items, at most so many elements more at once, and at most so many items more than keys
record IsBounded (rise more : ℕ) (m : Highest) (t : Takes) : Type 0 where
  pub same : m.items ≡ t.items
  pub high : m.height ≤ m.items + rise
  pub few : t.items ≤ more + t.keys

-- of both or of neither
abbrev Bounded : (high few : ℕ) → Option Highest → Option Takes → Type 0
Bounded high few None None = ⊤
Bounded high few None (Some t) = ⊥
Bounded high few (Some m) None = ⊥
Bounded high few (Some m) (Some t) = IsBounded high few m t

weaker : (h h' f f' : ℕ) (o : Option Highest) (p : Option Takes) → h ≤ h' → f ≤ f' → Bounded h f o p → Bounded h' f' o p
weaker h h' f f' (Some m) (Some t) i j b = record { same = b.same; high = omega (arith, b.high, i); few = omega (arith, b.few, j) }
weaker h h' f f' o p i j b = search

-- one and then the other
bounded_both : (l h h' f f' high few : ℕ) (o o' : Option Highest) (p p' : Option Takes) → h ≤ high → l + h' ≤ high → f + f' ≤ few → Bounded h f o p
    → Bounded h' f' o' p' → Bounded high few (both l o o') (most.both p' p)
bounded_both l h h' f f' high few (Some m) (Some m') (Some t) (Some t') i j k a b = record {
  same = omega (arith, a.same, b.same);
  high = omega (arith, a.high, b.high, i, j);
  few = omega (arith, a.few, b.few, k);
}
bounded_both l h h' f f' high few o o' p p' i j k a b = grind arith

bounded_either : (high few : ℕ) (o o' : Option Highest) (p p' : Option Takes) → Bounded high few o p → Bounded high few o' p' → Bounded high few (either o o') (most.either p p')
bounded_either high few (Some m) (Some m') (Some t) (Some t') a b = record {
  same = omega (arith, a.same, b.same);
  high = omega (arith, a.high, b.high);
  few = omega (arith, a.few, b.few);
}
bounded_either high few o o' p p' a b = grind arith

-- with a moment at which there are a few elements
bounded_at_least : (n high few : ℕ) (o : Option Highest) (p : Option Takes) → n ≤ high → Bounded high few o p → Bounded high few (at_least n o) p
bounded_at_least n high few (Some m) (Some t) le b = record { same = b.same; high = omega (arith, b.high, le); few = b.few }
bounded_at_least n high few o p le b = search

-- behind steps that take no item
bounded_begun : (h h' f f' : ℕ) (o : Option Highest) (p : Option Takes) → h ≤ h' → 1 ≤ h' → f ≤ f' → Bounded h f o p → Bounded h' f' (both 0 (only 0 1) o) p
bounded_begun h h' f f' (Some m) (Some t) i j k b = record { same = omega (arith, b.same); high = omega (arith, b.high, i, j); few = omega (arith, b.few, k) }
bounded_begun h h' f f' o p i j k b = search

-- behind an item
bounded_taken : (l height h h' f f' : ℕ) (t : Takes) (o : Option Highest) (p : Option Takes) → t.items ≡ 1 → height ≤ 1 + h' → l + h ≤ h' → 1 + f ≤ f'
    → Bounded h f o p → Bounded h' f' (both l (only 1 height) o) (most.both p (Some t))
bounded_taken l height h h' f f' t (Some m) (Some u) one i j k b = record { same = omega (arith, b.same, one); high = omega (arith, b.high, i, j); few = omega (arith, b.few, one, k) }
bounded_taken l height h h' f f' t o p one i j k b = grind arith

-- a key that a CHECKSIG is still wanted for takes one item more
abbrev more_of : Base → ℕ
more_of B = 0
more_of V = 0
more_of K = 1
more_of W = 0

abbrev more_at : Tree → ℕ
more_at t = more_of (type_of t).base

none_more : (t : Tree) (b : Base) → (type_of t).base ≡ b → more_at t ≡ more_of b
none_more t b is = ap more_of is

mutual
  unfolding correctness_rows

  sat_bounded : (t : Tree) → IsTyped t → Bounded (ops t + 21) (ops t + more_at t) (highest_sat t) (most_sat t)
  sat_bounded just_0 h = tt
  sat_bounded (and_or x y z) h =
      let f = typed-and_or x y z h in
      let at = none_more x B f.3 in let same : more_at y ≡ more_at z = ap more_of f.6 in
      bounded_either _ _ _ _ _ _
      (bounded_both 0 _ _ _ _ _ _ _ _ _ _ (omega (arith, ops_and_or x y z)) (omega (arith, ops_and_or x y z)) (omega (arith, ops_and_or x y z, at)) (sat_bounded x f.0) (sat_bounded y f.1))
      (bounded_both 0 _ _ _ _ _ _ _ _ _ _ (omega (arith, ops_and_or x y z)) (omega (arith, ops_and_or x y z)) (omega (arith, ops_and_or x y z, at, same)) (dsat_bounded x f.0) (sat_bounded z f.2))
  sat_bounded (two kind.AndV x y) h =
      let f = typed-and_v x y h in let at = none_more x V f.2 in
      bounded_both 0 _ _ _ _ _ _ _ _ _ _ (omega (arith, ops_and_v x y)) (omega (arith, ops_and_v x y)) (omega (arith, ops_and_v x y, at)) (sat_bounded x f.0) (sat_bounded y f.1)
  sat_bounded (two kind.AndB x y) h =
      let f = typed-and_b x y h in let at = none_more x B f.2 in let at_y = none_more y W f.3 in
      bounded_both 1 _ _ _ _ _ _ _ _ _ _ (omega (arith, ops_and_b x y)) (omega (arith, ops_and_b x y)) (omega (arith, ops_and_b x y, at, at_y)) (sat_bounded x f.0) (sat_bounded y f.1)
  sat_bounded (two kind.OrB x z) h =
      let f = typed-or_b x z h in let at = none_more x B f.2 in let at_z = none_more z W f.4 in
      bounded_either _ _ _ _ _ _
      (bounded_both 1 _ _ _ _ _ _ _ _ _ _ (omega (arith, ops_or_b x z)) (omega (arith, ops_or_b x z)) (omega (arith, ops_or_b x z, at, at_z)) (sat_bounded x f.0) (dsat_bounded z f.1))
      (bounded_both 1 _ _ _ _ _ _ _ _ _ _ (omega (arith, ops_or_b x z)) (omega (arith, ops_or_b x z)) (omega (arith, ops_or_b x z, at, at_z)) (dsat_bounded x f.0) (sat_bounded z f.1))
  sat_bounded (two kind.OrC x z) h =
      let f = typed-or_c x z h in let at = none_more x B f.2 in let at_z = none_more z V f.5 in
      bounded_either _ _ _ _ _ _
      (weaker _ _ _ _ _ _ (omega (arith, ops_or_c x z)) (omega (arith, ops_or_c x z, at)) (sat_bounded x f.0))
      (bounded_both 0 _ _ _ _ _ _ _ _ _ _ (omega (arith, ops_or_c x z)) (omega (arith, ops_or_c x z)) (omega (arith, ops_or_c x z, at, at_z)) (dsat_bounded x f.0) (sat_bounded z f.1))
  sat_bounded (two kind.OrD x z) h =
      let f = typed-or_d x z h in let at = none_more x B f.2 in let at_z = none_more z B f.5 in
      bounded_either _ _ _ _ _ _
      (bounded_at_least 2 _ _ _ _ (omega arith) (weaker _ _ _ _ _ _ (omega (arith, ops_or_d x z)) (omega (arith, ops_or_d x z, at)) (sat_bounded x f.0)))
      (bounded_both 0 _ _ _ _ _ _ _ _ _ _ (omega (arith, ops_or_d x z)) (omega (arith, ops_or_d x z)) (omega (arith, ops_or_d x z, at, at_z)) (dsat_bounded x f.0) (sat_bounded z f.1))
  sat_bounded (two kind.OrI x z) h =
      let f = typed-or_i x z h in let same : more_at x ≡ more_at z = ap more_of f.2 in
      bounded_either _ _ _ _ _ _
      (bounded_taken 0 1 _ _ _ _ one _ _ refl (omega arith) (omega (arith, ops_or_i x z)) (omega (arith, ops_or_i x z)) (sat_bounded x f.0))
      (bounded_taken 0 1 _ _ _ _ empty _ _ refl (omega arith) (omega (arith, ops_or_i x z)) (omega (arith, ops_or_i x z, same)) (sat_bounded z f.1))
  sat_bounded (thresh k none) h = absurd (typed-thresh_none k h)
  sat_bounded (thresh k (more x xs)) h =
      weaker _ _ _ _ _ _ (omega (arith, ops_thresh k (more x xs))) (omega (arith, ops_thresh k (more x xs)))
      (bounded_at_least 2 (opcode_count (emit_sum (more x xs)) + 21) _ _ _ (omega arith) (first_bounded (more x xs) k (fit_children k x xs h)))
  sat_bounded (multi k keys) h =
      let f = typed-multi k keys h in
      record { same = omega arith; high = omega (arith, ops_multi k keys, f.2); few = omega (arith, ops_multi k keys, f.1) }
  sat_bounded (wrap wrapper.A x) h =
      let f = typed-wrap_a x h in let at = none_more x B f.1 in weaker _ _ _ _ _ _ (omega (arith, ops_a x)) (omega (arith, ops_a x, at)) (sat_bounded x f.0)
  sat_bounded (wrap wrapper.S x) h =
      let f = typed-wrap_s x h in let at = none_more x B f.1 in weaker _ _ _ _ _ _ (omega arith) (omega (arith, at)) (sat_bounded x f.0)
  sat_bounded (wrap wrapper.C x) h =
      let f = typed-wrap_c x h in let at = none_more x K f.1 in weaker _ _ _ _ _ _ (omega (arith, ops_c x)) (omega (arith, ops_c x, at)) (sat_bounded x f.0)
  sat_bounded (wrap wrapper.D x) h =
      let f = typed-wrap_d x h in let at = none_more x V f.1 in
      bounded_taken 1 2 _ _ _ _ one _ _ refl (omega arith) (omega (arith, ops_d x)) (omega (arith, ops_d x, at)) (sat_bounded x f.0)
  sat_bounded (wrap wrapper.V x) h =
      let f = typed-wrap_v x h in let at = none_more x B f.1 in
      weaker _ _ _ _ _ _ (omega (arith, opcodes_verified (emit x))) (omega (arith, opcodes_verified (emit x), at)) (sat_bounded x f.0)
  sat_bounded (wrap wrapper.J x) h =
      let f = typed-wrap_j x h in let at = none_more x B f.1 in
      bounded_begun _ _ _ _ _ _ (omega (arith, ops_j x)) (omega arith) (omega (arith, ops_j x, at)) (sat_bounded x f.0)
  sat_bounded (wrap wrapper.N x) h =
      let f = typed-wrap_n x h in let at = none_more x B f.1 in weaker _ _ _ _ _ _ (omega (arith, ops_n x)) (omega (arith, ops_n x, at)) (sat_bounded x f.0)
  sat_bounded tree h = record { same = refl; high = omega arith; few = omega arith }

  dsat_bounded : (t : Tree) → IsTyped t → Bounded (ops t + 21) (ops t + more_at t) (highest_dsat t) (most_dsat t)
  dsat_bounded just_1 h = tt
  dsat_bounded (older n) h = tt
  dsat_bounded (after n) h = tt
  dsat_bounded (and_or x y z) h =
      let f = typed-and_or x y z h in
      let at = none_more x B f.3 in let same : more_at y ≡ more_at z = ap more_of f.6 in
      bounded_both 0 _ _ _ _ _ _ _ _ _ _ (omega (arith, ops_and_or x y z)) (omega (arith, ops_and_or x y z)) (omega (arith, ops_and_or x y z, at, same)) (dsat_bounded x f.0) (dsat_bounded z f.2)
  dsat_bounded (two kind.AndB x y) h =
      let f = typed-and_b x y h in let at = none_more x B f.2 in let at_y = none_more y W f.3 in
      bounded_both 1 _ _ _ _ _ _ _ _ _ _ (omega (arith, ops_and_b x y)) (omega (arith, ops_and_b x y)) (omega (arith, ops_and_b x y, at, at_y)) (dsat_bounded x f.0) (dsat_bounded y f.1)
  dsat_bounded (two kind.OrB x z) h =
      let f = typed-or_b x z h in let at = none_more x B f.2 in let at_z = none_more z W f.4 in
      bounded_both 1 _ _ _ _ _ _ _ _ _ _ (omega (arith, ops_or_b x z)) (omega (arith, ops_or_b x z)) (omega (arith, ops_or_b x z, at, at_z)) (dsat_bounded x f.0) (dsat_bounded z f.1)
  dsat_bounded (two kind.OrD x z) h =
      let f = typed-or_d x z h in let at = none_more x B f.2 in let at_z = none_more z B f.5 in
      bounded_both 0 _ _ _ _ _ _ _ _ _ _ (omega (arith, ops_or_d x z)) (omega (arith, ops_or_d x z)) (omega (arith, ops_or_d x z, at, at_z)) (dsat_bounded x f.0) (dsat_bounded z f.1)
  dsat_bounded (two kind.OrI x z) h =
      let f = typed-or_i x z h in let same : more_at x ≡ more_at z = ap more_of f.2 in
      bounded_either _ _ _ _ _ _
      (bounded_taken 0 1 _ _ _ _ one _ _ refl (omega arith) (omega (arith, ops_or_i x z)) (omega (arith, ops_or_i x z)) (dsat_bounded x f.0))
      (bounded_taken 0 1 _ _ _ _ empty _ _ refl (omega arith) (omega (arith, ops_or_i x z)) (omega (arith, ops_or_i x z, same)) (dsat_bounded z f.1))
  dsat_bounded (two which x y) h = tt
  dsat_bounded (thresh k none) h = absurd (typed-thresh_none k h)
  dsat_bounded (thresh k (more x xs)) h =
      weaker _ _ _ _ _ _ (omega (arith, ops_thresh k (more x xs))) (omega (arith, ops_thresh k (more x xs)))
      (bounded_at_least 2 (opcode_count (emit_sum (more x xs)) + 21) _ _ _ (omega arith) (first_bounded (more x xs) 0 (fit_children k x xs h)))
  dsat_bounded (multi k keys) h =
      let f = typed-multi k keys h in
      record { same = omega arith; high = omega (arith, ops_multi k keys, f.2); few = omega (arith, ops_multi k keys, f.1) }
  dsat_bounded (wrap wrapper.A x) h =
      let f = typed-wrap_a x h in let at = none_more x B f.1 in weaker _ _ _ _ _ _ (omega (arith, ops_a x)) (omega (arith, ops_a x, at)) (dsat_bounded x f.0)
  dsat_bounded (wrap wrapper.S x) h =
      let f = typed-wrap_s x h in let at = none_more x B f.1 in weaker _ _ _ _ _ _ (omega arith) (omega (arith, at)) (dsat_bounded x f.0)
  dsat_bounded (wrap wrapper.C x) h =
      let f = typed-wrap_c x h in let at = none_more x K f.1 in weaker _ _ _ _ _ _ (omega (arith, ops_c x)) (omega (arith, ops_c x, at)) (dsat_bounded x f.0)
  dsat_bounded (wrap wrapper.D x) h = record { same = refl; high = omega arith; few = omega (arith, ops_d x) }
  dsat_bounded (wrap wrapper.V x) h = tt
  dsat_bounded (wrap wrapper.J x) h = record { same = refl; high = omega arith; few = omega (arith, ops_j x) }
  dsat_bounded (wrap wrapper.N x) h =
      let f = typed-wrap_n x h in let at = none_more x B f.1 in weaker _ _ _ _ _ _ (omega (arith, ops_n x)) (omega (arith, ops_n x, at)) (dsat_bounded x f.0)
  dsat_bounded tree h = record { same = refl; high = omega arith; few = omega arith }

  first_bounded : (xs : Trees) (k : ℕ) → AreFit xs → Bounded (opcode_count (emit_sum xs) + 21) (opcode_count (emit_sum xs)) (highest_parts 1 xs k) (most_parts xs k)
  first_bounded none k fit = absurd fit
  first_bounded (more x xs) zero fit =
      let at = none_more x B fit.0 in
      bounded_both 1 _ _ _ _ _ _ _ _ _ _ (omega (arith, ops_sum x xs)) (omega (arith, ops_sum x xs)) (omega (arith, ops_sum x xs, at)) (dsat_bounded x fit.1) (others_bounded xs zero fit.2 fit.3)
  first_bounded (more x xs) (suc k) fit =
      let at = none_more x B fit.0 in
      bounded_either _ _ _ _ _ _
      (bounded_both 1 _ _ _ _ _ _ _ _ _ _ (omega (arith, ops_sum x xs)) (omega (arith, ops_sum x xs)) (omega (arith, ops_sum x xs, at)) (sat_bounded x fit.1) (others_bounded xs k fit.2 fit.3))
      (bounded_both 1 _ _ _ _ _ _ _ _ _ _ (omega (arith, ops_sum x xs)) (omega (arith, ops_sum x xs)) (omega (arith, ops_sum x xs, at)) (dsat_bounded x fit.1) (others_bounded xs (suc k) fit.2 fit.3))

  others_bounded : (xs : Trees) (k : ℕ) → AreTyped xs → OthersFit xs → Bounded (opcode_count (emit_added xs) + 20) (opcode_count (emit_added xs)) (highest_parts 0 xs k) (most_parts xs k)
  others_bounded none zero hs fit = record { same = refl; high = omega arith; few = omega arith }
  others_bounded none (suc k) hs fit = tt
  others_bounded (more x xs) zero hs fit =
      let at = none_more x W fit.0 in
      bounded_both 0 _ _ _ _ _ _ _ _ _ _ (omega (arith, ops_added x xs)) (omega (arith, ops_added x xs)) (omega (arith, ops_added x xs, at)) (dsat_bounded x hs.0) (others_bounded xs zero hs.1 fit.3)
  others_bounded (more x xs) (suc k) hs fit =
      let at = none_more x W fit.0 in
      bounded_either _ _ _ _ _ _
      (bounded_both 0 _ _ _ _ _ _ _ _ _ _ (omega (arith, ops_added x xs)) (omega (arith, ops_added x xs)) (omega (arith, ops_added x xs, at)) (sat_bounded x hs.0) (others_bounded xs k hs.1 fit.3))
      (bounded_both 0 _ _ _ _ _ _ _ _ _ _ (omega (arith, ops_added x xs)) (omega (arith, ops_added x xs)) (omega (arith, ops_added x xs, at))
      (dsat_bounded x hs.0) (others_bounded xs (suc k) hs.1 fit.3))

-- of a tree
few_items : (high few : ℕ) (o : Option Highest) (p : Option Takes) → Bounded high few o p → number_of (λ t. t.items) p ≤ few + number_of (λ t. t.keys) p
few_items high few None None b = omega arith
few_items high few (Some m) (Some t) b = b.few
few_items high few o p b = absurd b

low_height : (high few : ℕ) (o : Option Highest) (p : Option Takes) → Bounded high few o p → height_of_option o ≤ number_of (λ t. t.items) p + high
low_height high few None None b = omega arith
low_height high few (Some m) (Some t) b = omega (arith, b.high, b.same)
low_height high few o p b = absurd b

pub items_are_within_ops : ItemsAreWithinOps
items_are_within_ops tree typed base limits are =
    subst (λ (l : Limits). l.items ≤ l.ops) (sym (limits_as_computed tree limits are))
    (omega (arith, few_items _ _ _ _ (sat_bounded tree typed), none_more tree B base))

pub height_is_within : HeightIsWithin
height_is_within tree typed limits are h is =
    subst (λ (l : Limits). h ≤ l.items + l.ops + 24) (sym (limits_as_computed tree limits are))
    (omega (arith, as_computed tree h typed is, low_height _ _ _ _ (sat_bounded tree typed)))

pub height_is_low : HeightIsLow
height_is_low tree typed base limits are few h is =
    omega (arith, few, items_are_within_ops tree typed base limits are, height_is_within tree typed limits are h is)
