-- What is computed are the greatest numbers of a tree that has a correctness type.
use Rattle.std.proofs.Common.{◌≡◌, ℕ, zero, suc, ◌+◌, [], ◌∷◌, ◌++◌, replicate, Option, length, refl, sym, ◌∙◌, ap, subst, arith}
use Rattle.def_tree.specs.declared.Two.TheVariants as kind
use Rattle.def_tree.specs.declared.Wrapper.TheVariants as wrapper
use Rattle.def_tree.specs.Tree.{Tree, Trees, just_0, just_1, pk_k, pk_h, hash, and_or, two, thresh, multi, wrap, none, more}
use Rattle.def_types.specs.declared.Base.{Base}
use Rattle.def_types.specs.declared.Base.TheVariants.{B, V, K, W}
use Rattle.def_types.specs.Typed.{type_of, IsTyped, AreTyped}
use Rattle.def_types.proofs.Rows.{correctness_rows}
use Rattle.def_types.proofs.Facts.{typed-and_or, typed-and_v, typed-and_b, typed-or_b, typed-or_c, typed-or_d, typed-or_i, typed-thresh, typed-thresh_none, typed-wrap_a, typed-wrap_s, typed-wrap_c, typed-wrap_d, typed-wrap_v, typed-wrap_j, typed-wrap_n, OthersFit}
use Rattle.def_height.specs.Course.{up, down, Course, rise}
use Rattle.def_height.specs.Formal.{Way, Is, FormalSat, FormalDsat, FormalParts}
use Rattle.def_height.specs.declared.Highest.{Highest}
use Rattle.def_height.specs.Scaffolding.Highest.{only, highest_sat, highest_dsat, highest_parts}
use Rattle.def_height.proofs.Courses.{ups, downs, IsHighest, is_highest, never_highest, then_highest, begun_highest, either_highest, at_least_highest, followed_highest, led_highest}

-- how many elements a fragment of a type leaves of those that it found, its items counted
abbrev pub left_of : Base → ℕ
left_of B = 1
left_of V = 0
left_of K = 2
left_of W = 1

abbrev pub left : Tree → ℕ
left t = left_of (type_of t).base

-- the course of a `multi`
ups_multi : (n : ℕ) (rest : Course) → ups (replicate n (up 1) ++ rest) ≡ n + ups rest
ups_multi zero rest = omega arith
ups_multi (suc n) rest = omega (arith, ups_multi n rest)

downs_multi : (n : ℕ) (rest : Course) → downs (replicate n (up 1) ++ rest) ≡ downs rest
downs_multi zero rest = refl
downs_multi (suc n) rest = downs_multi n rest

pub rise_multi : (n : ℕ) (rest : Course) → rise (replicate n (up 1) ++ rest) ≡ n + rise rest
rise_multi zero rest = omega arith
rise_multi (suc n) rest = omega (arith, rise_multi n rest)

keys_highest : (k n : ℕ) → IsHighest 1 (Is (k + 1) (replicate (n + 2) (up 1) ++ down (n + k + 2) ∷ [])) (only (k + 1) (n + k + 3))
keys_highest k n =
    let end : Course = down (n + k + 2) ∷ [] in
    is_highest 1 (k + 1) (replicate (n + 2) (up 1) ++ end) (n + k + 3) (omega (arith, ups_multi (n + 2) end, downs_multi (n + 2) end)) (omega (arith, rise_multi (n + 2) end))

at : (b : Base) (n : ℕ) (t : Tree) (P : Way → Type 0) (o : Option Highest) → (type_of t).base ≡ b → left_of b ≡ n → IsHighest (left t) P o → IsHighest n P o
at b n t P o is leaves h = let Q : ℕ → Type 0 = λ m. IsHighest m P o in subst Q (ap left_of is ∙ leaves) h

same_left : (x y : Tree) (P : Way → Type 0) (o : Option Highest) → (type_of x).base ≡ (type_of y).base → IsHighest (left y) P o → IsHighest (left x) P o
same_left x y P o is h = let Q : ℕ → Type 0 = λ m. IsHighest m P o in subst Q (sym (ap left_of is)) h

-- the children of a threshold that has a type: the first is B, and the others are W
abbrev pub AreFit : Trees → Type 0
AreFit none = ⊥
AreFit (more x xs) = ((type_of x).base ≡ B) × IsTyped x × AreTyped xs × OthersFit xs

pub fit_children : (k : ℕ) (x : Tree) (xs : Trees) → IsTyped (thresh k (more x xs)) → AreFit (more x xs)
fit_children k x xs h = let f = typed-thresh k x xs h in (f.4, f.0, f.1, f.7)

mutual
  unfolding correctness_rows

  pub sat_highest : (t : Tree) → IsTyped t → IsHighest (left t) (FormalSat t) (highest_sat t)
  sat_highest just_0 h = never_highest 1
  sat_highest just_1 h = is_highest 1 0 (up 1 ∷ []) 1 refl refl
  sat_highest (pk_k key) h = is_highest 2 1 (up 1 ∷ []) 2 refl refl
  sat_highest (pk_h key) h = is_highest 2 2 (up 1 ∷ up 0 ∷ up 1 ∷ down 2 ∷ []) 4 refl refl
  sat_highest (hash kind value) h = is_highest 1 1 (up 1 ∷ up 1 ∷ down 2 ∷ up 0 ∷ up 1 ∷ down 1 ∷ []) 3 refl refl
  sat_highest (and_or x y z) h =
      let f = typed-and_or x y z h in
      either_highest (left y) _ _ _ _
      (then_highest 0 (left y) (left y) _ _ _ _ (omega arith) (followed_highest 1 0 _ (down 1 ∷ []) _ refl refl (at B 1 x _ _ f.3 refl (sat_highest x f.0))) (sat_highest y f.1))
      (then_highest 0 (left y) (left y) _ _ _ _ (omega arith) (followed_highest 1 0 _ (down 1 ∷ []) _ refl refl (at B 1 x _ _ f.3 refl (dsat_highest x f.0)))
      (same_left y z _ _ f.6 (sat_highest z f.2)))
  sat_highest (two kind.AndV x y) h =
      let f = typed-and_v x y h in
      then_highest 0 (left y) (left y) _ _ _ _ (omega arith) (at V 0 x _ _ f.2 refl (sat_highest x f.0)) (sat_highest y f.1)
  sat_highest (two kind.AndB x y) h =
      let f = typed-and_b x y h in
      followed_highest 2 1 _ (down 1 ∷ []) _ refl refl (then_highest 1 1 2 _ _ _ _ refl (at B 1 x _ _ f.2 refl (sat_highest x f.0)) (at W 1 y _ _ f.3 refl (sat_highest y f.1)))
  sat_highest (two kind.OrB x z) h =
      let f = typed-or_b x z h in
      either_highest 1 _ _ _ _
      (followed_highest 2 1 _ (down 1 ∷ []) _ refl refl (then_highest 1 1 2 _ _ _ _ refl (at B 1 x _ _ f.2 refl (sat_highest x f.0)) (at W 1 z _ _ f.4 refl (dsat_highest z f.1))))
      (followed_highest 2 1 _ (down 1 ∷ []) _ refl refl (then_highest 1 1 2 _ _ _ _ refl (at B 1 x _ _ f.2 refl (dsat_highest x f.0)) (at W 1 z _ _ f.4 refl (sat_highest z f.1))))
  sat_highest (two kind.OrC x z) h =
      let f = typed-or_c x z h in
      either_highest 0 _ _ _ _
      (followed_highest 1 0 _ (down 1 ∷ []) _ refl refl (at B 1 x _ _ f.2 refl (sat_highest x f.0)))
      (then_highest 0 0 0 _ _ _ _ refl (followed_highest 1 0 _ (down 1 ∷ []) _ refl refl (at B 1 x _ _ f.2 refl (dsat_highest x f.0))) (at V 0 z _ _ f.5 refl (sat_highest z f.1)))
  sat_highest (two kind.OrD x z) h =
      let f = typed-or_d x z h in
      either_highest 1 _ _ _ _
      (at_least_highest 1 1 _ (up 1 ∷ down 1 ∷ []) _ refl (at B 1 x _ _ f.2 refl (sat_highest x f.0)))
      (then_highest 0 1 1 _ _ _ _ refl (followed_highest 1 0 _ (up 0 ∷ down 1 ∷ []) _ refl refl (at B 1 x _ _ f.2 refl (dsat_highest x f.0))) (at B 1 z _ _ f.5 refl (sat_highest z f.1)))
  sat_highest (two kind.OrI x z) h =
      let f = typed-or_i x z h in
      either_highest (left x) _ _ _ _
      (begun_highest 0 (left x) (left x) 1 (down 1 ∷ []) 1 _ _ (omega arith) refl refl (sat_highest x f.0))
      (begun_highest 0 (left x) (left x) 1 (down 1 ∷ []) 1 _ _ (omega arith) refl refl (same_left x z _ _ f.2 (sat_highest z f.1)))
  sat_highest (thresh k none) h = absurd (typed-thresh_none k h)
  sat_highest (thresh k (more x xs)) h =
      at_least_highest 1 1 _ (up 1 ∷ down 1 ∷ []) _ refl (first_highest (more x xs) k (fit_children k x xs h))
  sat_highest (multi k keys) h = keys_highest k (length keys)
  sat_highest (wrap wrapper.A x) h =
      let f = typed-wrap_a x h in
      led_highest 1 _ _ (followed_highest 1 1 _ (up 0 ∷ []) _ refl refl (at B 1 x _ _ f.1 refl (sat_highest x f.0)))
  sat_highest (wrap wrapper.S x) h =
      let f = typed-wrap_s x h in
      led_highest 1 _ _ (at B 1 x _ _ f.1 refl (sat_highest x f.0))
  sat_highest (wrap wrapper.C x) h =
      let f = typed-wrap_c x h in
      followed_highest 2 1 _ (down 1 ∷ []) _ refl refl (at K 2 x _ _ f.1 refl (sat_highest x f.0))
  sat_highest (wrap wrapper.D x) h =
      let f = typed-wrap_d x h in
      begun_highest 1 0 1 1 (up 1 ∷ down 1 ∷ []) 2 _ _ refl refl refl (at V 0 x _ _ f.1 refl (sat_highest x f.0))
  sat_highest (wrap wrapper.V x) h =
      let f = typed-wrap_v x h in
      followed_highest 1 0 _ (down 1 ∷ []) _ refl refl (at B 1 x _ _ f.1 refl (sat_highest x f.0))
  sat_highest (wrap wrapper.J x) h =
      let f = typed-wrap_j x h in
      begun_highest 0 1 1 0 (up 1 ∷ up 0 ∷ down 1 ∷ []) 1 _ _ refl refl refl (at B 1 x _ _ f.1 refl (sat_highest x f.0))
  sat_highest (wrap wrapper.N x) h =
      let f = typed-wrap_n x h in
      followed_highest 1 1 _ (up 0 ∷ []) _ refl refl (at B 1 x _ _ f.1 refl (sat_highest x f.0))
  sat_highest tree h = is_highest 1 0 (up 1 ∷ up 0 ∷ []) 1 refl refl

  pub dsat_highest : (t : Tree) → IsTyped t → IsHighest (left t) (FormalDsat t) (highest_dsat t)
  dsat_highest just_0 h = is_highest 1 0 (up 1 ∷ []) 1 refl refl
  dsat_highest (pk_k key) h = is_highest 2 1 (up 1 ∷ []) 2 refl refl
  dsat_highest (pk_h key) h = is_highest 2 2 (up 1 ∷ up 0 ∷ up 1 ∷ down 2 ∷ []) 4 refl refl
  dsat_highest (hash kind value) h = is_highest 1 1 (up 1 ∷ up 1 ∷ down 2 ∷ up 0 ∷ up 1 ∷ down 1 ∷ []) 3 refl refl
  dsat_highest (and_or x y z) h =
      let f = typed-and_or x y z h in
      then_highest 0 (left y) (left y) _ _ _ _ (omega arith) (followed_highest 1 0 _ (down 1 ∷ []) _ refl refl (at B 1 x _ _ f.3 refl (dsat_highest x f.0)))
      (same_left y z _ _ f.6 (dsat_highest z f.2))
  dsat_highest (two kind.AndV x y) h = never_highest (left y)
  dsat_highest (two kind.AndB x y) h =
      let f = typed-and_b x y h in
      followed_highest 2 1 _ (down 1 ∷ []) _ refl refl (then_highest 1 1 2 _ _ _ _ refl (at B 1 x _ _ f.2 refl (dsat_highest x f.0)) (at W 1 y _ _ f.3 refl (dsat_highest y f.1)))
  dsat_highest (two kind.OrB x z) h =
      let f = typed-or_b x z h in
      followed_highest 2 1 _ (down 1 ∷ []) _ refl refl (then_highest 1 1 2 _ _ _ _ refl (at B 1 x _ _ f.2 refl (dsat_highest x f.0)) (at W 1 z _ _ f.4 refl (dsat_highest z f.1)))
  dsat_highest (two kind.OrC x z) h = never_highest 0
  dsat_highest (two kind.OrD x z) h =
      let f = typed-or_d x z h in
      then_highest 0 1 1 _ _ _ _ refl (followed_highest 1 0 _ (up 0 ∷ down 1 ∷ []) _ refl refl (at B 1 x _ _ f.2 refl (dsat_highest x f.0))) (at B 1 z _ _ f.5 refl (dsat_highest z f.1))
  dsat_highest (two kind.OrI x z) h =
      let f = typed-or_i x z h in
      either_highest (left x) _ _ _ _
      (begun_highest 0 (left x) (left x) 1 (down 1 ∷ []) 1 _ _ (omega arith) refl refl (dsat_highest x f.0))
      (begun_highest 0 (left x) (left x) 1 (down 1 ∷ []) 1 _ _ (omega arith) refl refl (same_left x z _ _ f.2 (dsat_highest z f.1)))
  dsat_highest (thresh k none) h = absurd (typed-thresh_none k h)
  dsat_highest (thresh k (more x xs)) h =
      at_least_highest 1 1 _ (up 1 ∷ down 1 ∷ []) _ refl (first_highest (more x xs) 0 (fit_children k x xs h))
  dsat_highest (multi k keys) h = keys_highest k (length keys)
  dsat_highest (wrap wrapper.A x) h =
      let f = typed-wrap_a x h in
      led_highest 1 _ _ (followed_highest 1 1 _ (up 0 ∷ []) _ refl refl (at B 1 x _ _ f.1 refl (dsat_highest x f.0)))
  dsat_highest (wrap wrapper.S x) h =
      let f = typed-wrap_s x h in
      led_highest 1 _ _ (at B 1 x _ _ f.1 refl (dsat_highest x f.0))
  dsat_highest (wrap wrapper.C x) h =
      let f = typed-wrap_c x h in
      followed_highest 2 1 _ (down 1 ∷ []) _ refl refl (at K 2 x _ _ f.1 refl (dsat_highest x f.0))
  dsat_highest (wrap wrapper.D x) h = is_highest 1 1 (up 1 ∷ down 1 ∷ []) 2 refl refl
  dsat_highest (wrap wrapper.V x) h = never_highest 0
  dsat_highest (wrap wrapper.J x) h = is_highest 1 1 (up 1 ∷ up 0 ∷ down 1 ∷ []) 2 refl refl
  dsat_highest (wrap wrapper.N x) h =
      let f = typed-wrap_n x h in
      followed_highest 1 1 _ (up 0 ∷ []) _ refl refl (at B 1 x _ _ f.1 refl (dsat_highest x f.0))
  dsat_highest tree h = never_highest 1

  pub first_highest : (xs : Trees) (k : ℕ) → AreFit xs → IsHighest 1 (FormalParts [] xs k) (highest_parts 1 xs k)
  first_highest none k fit = absurd fit
  first_highest (more x xs) zero fit =
      then_highest 1 0 1 _ _ _ _ refl (followed_highest 1 1 _ [] _ refl refl (at B 1 x _ _ fit.0 refl (dsat_highest x fit.1))) (others_highest xs zero fit.2 fit.3)
  first_highest (more x xs) (suc k) fit =
      either_highest 1 _ _ _ _
      (then_highest 1 0 1 _ _ _ _ refl (followed_highest 1 1 _ [] _ refl refl (at B 1 x _ _ fit.0 refl (sat_highest x fit.1))) (others_highest xs k fit.2 fit.3))
      (then_highest 1 0 1 _ _ _ _ refl (followed_highest 1 1 _ [] _ refl refl (at B 1 x _ _ fit.0 refl (dsat_highest x fit.1))) (others_highest xs (suc k) fit.2 fit.3))

  others_highest : (xs : Trees) (k : ℕ) → AreTyped xs → OthersFit xs → IsHighest 0 (FormalParts (down 1 ∷ []) xs k) (highest_parts 0 xs k)
  others_highest none zero hs fit = is_highest 0 0 [] 0 refl refl
  others_highest none (suc k) hs fit = never_highest 0
  others_highest (more x xs) zero hs fit =
      then_highest 0 0 0 _ _ _ _ refl (followed_highest 1 0 _ (down 1 ∷ []) _ refl refl (at W 1 x _ _ fit.0 refl (dsat_highest x hs.0))) (others_highest xs zero hs.1 fit.3)
  others_highest (more x xs) (suc k) hs fit =
      either_highest 0 _ _ _ _
      (then_highest 0 0 0 _ _ _ _ refl (followed_highest 1 0 _ (down 1 ∷ []) _ refl refl (at W 1 x _ _ fit.0 refl (sat_highest x hs.0))) (others_highest xs k hs.1 fit.3))
      (then_highest 0 0 0 _ _ _ _ refl (followed_highest 1 0 _ (down 1 ∷ []) _ refl refl (at W 1 x _ _ fit.0 refl (dsat_highest x hs.0))) (others_highest xs (suc k) hs.1 fit.3))
