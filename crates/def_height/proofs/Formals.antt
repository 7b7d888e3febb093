-- The formal satisfactions with their courses are those that the limits speak of, item by item.
use Rattle.std.proofs.Common.{◌≡◌, ℕ, zero, suc, ◌+◌, [], ◌∷◌, length, refl, sym, ap, ◌∙◌, inl, inr, arith}
use Rattle.def_tree.specs.declared.Two.TheVariants as kind
use Rattle.def_tree.specs.declared.Wrapper.TheVariants as wrapper
use Rattle.def_tree.specs.Tree.{Tree, Trees, just_0, pk_k, pk_h, hash, and_or, two, thresh, multi, wrap, none, more}
use Rattle.def_limits.specs.Formal as formal
use Rattle.def_script.specs.Signature.{MAX_SIGNATURE_SIZE}
use Rattle.def_limits.specs.Formal.{Takes, nothing, item, same_items, tried, plus, PREIMAGE, empty, one}
use Rattle.def_height.specs.Course.{down, Course}
use Rattle.def_height.specs.Formal.{Way, then, Never, Is, Either, Then, Followed, FormalSat, FormalDsat, FormalParts}
use Rattle.def_height.specs.Laws.{CoursesAreOfFormals, FormalsHaveCourses}

-- the ways of P and what Q takes are of the same numbers of items
record AreAlike (P : Way → Type 0) (Q : Takes → Type 0) : Type 0 where
  pub takes : (w : Way) → P w → (t : Takes) × Q t × (t.items ≡ w.items)
  pub ways : (t : Takes) → Q t → (w : Way) × P w × (w.items ≡ t.items)

alike_is : (items : ℕ) (course : Course) (a : Takes) → a.items ≡ items → AreAlike (Is items course) (formal.Is a)
alike_is items course a same = record {
  takes = λ w is. (a, refl, same ∙ sym (ap (λ (x : Way). x.items) is));
  ways = λ t is. (record { items = items; course = course }, refl, sym same ∙ sym (ap (λ (x : Takes). x.items) is));
}

alike_never : AreAlike Never formal.Never
alike_never = record { takes = λ w h. absurd h; ways = λ t h. absurd h }

alike_then : {P Q : Way → Type 0} {R S : Takes → Type 0} → AreAlike P R → AreAlike Q S → AreAlike (Then P Q) (formal.Both S R)
alike_then x y = record {
  takes = λ w is.
      let r = x.takes is.0 is.2 in let s = y.takes is.1 is.3 in
      let e : w.items ≡ is.0.items + is.1.items = ap (λ (z : Way). z.items) is.4 in
      (plus s.0 r.0, (s.0, r.0, s.1, r.1, refl), omega (arith, e, r.2, s.2));
  ways = λ t is.
      let p = x.ways is.1 is.3 in let q = y.ways is.0 is.2 in
      let e : t.items ≡ is.0.items + is.1.items = ap (λ (z : Takes). z.items) is.4 in
      (then p.0 q.0, (p.0, q.0, p.1, q.1, refl), omega (arith, e, p.2, q.2));
}

alike_either : {P Q : Way → Type 0} {R S : Takes → Type 0} → AreAlike P R → AreAlike Q S → AreAlike (Either P Q) (formal.Either R S)
alike_either x y = record {
  takes = λ w h. elim h [ inl p ↦ (let r = x.takes w p in (r.0, inl r.1, r.2)) | inr q ↦ (let s = y.takes w q in (s.0, inr s.1, s.2)) ];
  ways = λ t h. elim h [ inl r ↦ (let p = x.ways t r in (p.0, inl p.1, p.2)) | inr s ↦ (let q = y.ways t s in (q.0, inr q.1, q.2)) ];
}

-- steps behind or before a way
alike_followed : {P : Way → Type 0} {R : Takes → Type 0} → (course : Course) → AreAlike P R → AreAlike (Followed P course) R
alike_followed course x = record {
  takes = λ w is.
      let r = x.takes is.0 is.2 in
      let e : w.items ≡ is.0.items + is.1.items = ap (λ (z : Way). z.items) is.4 in
      let f : is.1.items ≡ 0 = ap (λ (z : Way). z.items) is.3 in
      (r.0, r.1, omega (arith, e, f, r.2));
  ways = λ t h.
      let p = x.ways t h in
      (then p.0 (record { items = 0; course = course }), (p.0, record { items = 0; course = course }, p.1, refl, refl), omega (arith, p.2));
}

alike_led : {P : Way → Type 0} {R : Takes → Type 0} → (course : Course) → AreAlike P R → AreAlike (Then (Is 0 course) P) R
alike_led course x = record {
  takes = λ w is.
      let r = x.takes is.1 is.3 in
      let e : w.items ≡ is.0.items + is.1.items = ap (λ (z : Way). z.items) is.4 in
      let f : is.0.items ≡ 0 = ap (λ (z : Way). z.items) is.2 in
      (r.0, r.1, omega (arith, e, f, r.2));
  ways = λ t h.
      let p = x.ways t h in
      (then (record { items = 0; course = course }) p.0, (record { items = 0; course = course }, p.0, refl, p.1, refl), omega (arith, p.2));
}

mutual
  sat_alike : (t : Tree) → AreAlike (FormalSat t) (formal.FormalSat t)
  sat_alike just_0 = alike_never
  sat_alike (pk_k key) = alike_is _ _ (item MAX_SIGNATURE_SIZE) refl
  sat_alike (pk_h key) = alike_is _ _ (plus (item MAX_SIGNATURE_SIZE) (item (length key))) refl
  sat_alike (hash kind value) = alike_is _ _ (item PREIMAGE) refl
  sat_alike (and_or x y z) = alike_either (alike_then (alike_followed _ (sat_alike x)) (sat_alike y)) (alike_then (alike_followed _ (dsat_alike x)) (sat_alike z))
  sat_alike (two kind.AndV x y) = alike_then (sat_alike x) (sat_alike y)
  sat_alike (two kind.AndB x y) = alike_followed _ (alike_then (sat_alike x) (sat_alike y))
  sat_alike (two kind.OrB x z) = alike_either (alike_followed _ (alike_then (sat_alike x) (dsat_alike z))) (alike_followed _ (alike_then (dsat_alike x) (sat_alike z)))
  sat_alike (two kind.OrI x z) = alike_either (alike_then (alike_is _ _ one refl) (sat_alike x)) (alike_then (alike_is _ _ empty refl) (sat_alike z))
  sat_alike (two which x z) = alike_either (alike_followed _ (sat_alike x)) (alike_then (alike_followed _ (dsat_alike x)) (sat_alike z))
  sat_alike (thresh k xs) = alike_followed _ (parts_alike [] xs k)
  sat_alike (multi k keys) = alike_is _ _ (plus (plus empty (same_items k MAX_SIGNATURE_SIZE)) (tried (length keys))) (omega arith)
  sat_alike (wrap wrapper.A x) = alike_led _ (alike_followed _ (sat_alike x))
  sat_alike (wrap wrapper.S x) = alike_led _ (sat_alike x)
  sat_alike (wrap wrapper.D x) = alike_then (alike_is _ _ one refl) (sat_alike x)
  sat_alike (wrap wrapper.J x) = alike_led _ (sat_alike x)
  sat_alike (wrap letter x) = alike_followed _ (sat_alike x)
  sat_alike tree = alike_is _ _ nothing refl

  dsat_alike : (t : Tree) → AreAlike (FormalDsat t) (formal.FormalDsat t)
  dsat_alike just_0 = alike_is _ _ nothing refl
  dsat_alike (pk_k key) = alike_is _ _ empty refl
  dsat_alike (pk_h key) = alike_is _ _ (plus empty (item (length key))) refl
  dsat_alike (hash kind value) = alike_is _ _ (item PREIMAGE) refl
  dsat_alike (and_or x y z) = alike_then (alike_followed _ (dsat_alike x)) (dsat_alike z)
  dsat_alike (two kind.AndB x y) = alike_followed _ (alike_then (dsat_alike x) (dsat_alike y))
  dsat_alike (two kind.OrB x z) = alike_followed _ (alike_then (dsat_alike x) (dsat_alike z))
  dsat_alike (two kind.OrD x z) = alike_then (alike_followed _ (dsat_alike x)) (dsat_alike z)
  dsat_alike (two kind.OrI x z) = alike_either (alike_then (alike_is _ _ one refl) (dsat_alike x)) (alike_then (alike_is _ _ empty refl) (dsat_alike z))
  dsat_alike (thresh k xs) = alike_followed _ (parts_alike [] xs 0)
  dsat_alike (multi k keys) = alike_is _ _ (plus (same_items (k + 1) 0) (tried (length keys))) (omega arith)
  dsat_alike (wrap wrapper.A x) = alike_led _ (alike_followed _ (dsat_alike x))
  dsat_alike (wrap wrapper.S x) = alike_led _ (dsat_alike x)
  dsat_alike (wrap wrapper.D x) = alike_is _ _ empty refl
  dsat_alike (wrap wrapper.V x) = alike_never
  dsat_alike (wrap wrapper.J x) = alike_is _ _ empty refl
  dsat_alike (wrap letter x) = alike_followed _ (dsat_alike x)
  dsat_alike tree = alike_never

  parts_alike : (first : Course) (xs : Trees) (k : ℕ) → AreAlike (FormalParts first xs k) (formal.FormalParts xs k)
  parts_alike first none zero = alike_is _ _ nothing refl
  parts_alike first none (suc k) = alike_never
  parts_alike first (more x xs) zero = alike_then (alike_followed first (dsat_alike x)) (parts_alike (down 1 ∷ []) xs zero)
  parts_alike first (more x xs) (suc k) =
      alike_either
      (alike_then (alike_followed first (sat_alike x)) (parts_alike (down 1 ∷ []) xs k))
      (alike_then (alike_followed first (dsat_alike x)) (parts_alike (down 1 ∷ []) xs (suc k)))

pub courses_are_of_formals : CoursesAreOfFormals
courses_are_of_formals tree = (sat_alike tree).takes

pub formals_have_courses : FormalsHaveCourses
formals_have_courses tree = (sat_alike tree).ways
