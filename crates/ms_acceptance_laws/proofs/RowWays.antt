-- The way that a row of the satisfaction table takes: the formal satisfaction that a stack is by it.
use Rattle.std.proofs.Common.{◌≡◌, ℕ, zero, suc, ◌+◌, ◌≤◌, IsTrue, List, [], ◌∷◌, ◌++◌, length, reverse, replicate, All, refl, sym, ◌∙◌, ap, subst, inl, inr, ◌⊎◌, arith}
use Rattle.std.proofs.lemmas.List.{length-reverse}
use Rattle.std.proofs.lemmas.List.Elements.{All-head, All-tail}
use Rattle.def_script.specs.Bytes.{Bytes}
use Rattle.def_machine.specs.Stacks.{Stack, member}
use Rattle.def_tree.specs.declared.Two.TheVariants as kind
use Rattle.def_tree.specs.declared.Wrapper.{Wrapper}
use Rattle.def_tree.specs.declared.Wrapper.TheVariants as wrapper
use Rattle.def_tree.specs.Tree.{Tree, Trees, Key, just_0, just_1, pk_k, pk_h, older, after, hash, and_or, two, thresh, multi, wrap, none, more}
use Rattle.def_tree.specs.Range.{IsWritable, AreWritable}
use Rattle.def_types.specs.Typed.{IsTyped, AreTyped}
use Rattle.def_types.proofs.Facts.{typed-multi}
use Rattle.def_assets.specs.Assets.{Assets}
use Rattle.def_satisfaction.specs.StackSet.{Both, Is as Item}
use Rattle.def_satisfaction.specs.Setting.{Setting}
use Rattle.def_satisfaction.specs.Satisfaction.{canonical}
use Rattle.def_satisfaction.specs.Rows.{EMPTY, ONE, ZEROS, AreSignatures, row, parts}
use Rattle.def_height.specs.Course.{up, down, Course}
use Rattle.def_height.specs.Formal.{Way, then, Is, Then, Followed, FormalSat, FormalDsat, FormalParts}
use Rattle.def_promises.specs.Courses.{Signs, HasAll, HaveAll}
use Rattle.ms_row_laws.proofs.KeyLists.{all_reversed}

-- so many items, and these steps
abbrev pub is : (items : ℕ) → Course → Way
is items course = record { items = items; course = course }

-- further steps behind a way
abbrev pub followed : Way → Course → Way
followed a steps = then a (is 0 steps)

-- the way of a row without children
abbrev pub leaf_way : Tree → Way
leaf_way (pk_k key) = is 1 (up 1 ∷ [])
leaf_way (pk_h key) = is 2 (up 1 ∷ up 0 ∷ up 1 ∷ down 2 ∷ [])
leaf_way (older n) = is 0 (up 1 ∷ up 0 ∷ [])
leaf_way (after n) = is 0 (up 1 ∷ up 0 ∷ [])
leaf_way (hash kind value) = is 1 (up 1 ∷ up 1 ∷ down 2 ∷ up 0 ∷ up 1 ∷ down 1 ∷ [])
leaf_way (multi k keys) = is (k + 1) (replicate (length keys + 2) (up 1) ++ down (length keys + k + 2) ∷ [])
leaf_way (wrap wrapper.D x) = is 1 (up 1 ∷ down 1 ∷ [])
leaf_way (wrap wrapper.J x) = is 1 (up 1 ∷ up 0 ∷ down 1 ∷ [])
leaf_way tree = is 0 (up 1 ∷ [])

-- that of a wrapper, from that of its child
abbrev pub wrap_way : Wrapper → Way → Way
wrap_way wrapper.A v = then (is 0 (up 0 ∷ [])) (followed v (up 0 ∷ []))
wrap_way wrapper.S v = then (is 0 (up 0 ∷ [])) v
wrap_way wrapper.D v = then (is 1 (up 1 ∷ down 1 ∷ [])) v
wrap_way wrapper.J v = then (is 0 (up 1 ∷ up 0 ∷ down 1 ∷ [])) v
wrap_way wrapper.N v = followed v (up 0 ∷ [])
wrap_way letter v = followed v (down 1 ∷ [])

-- the way of a stack by this row, where the row is canonical
abbrev mutual
  pub sat_way : (s : Setting) (tree : Tree) (w : Stack) → (row s tree).sat w → Way
  sat_way s (and_or x y z) w (inl r) = then (followed (sat_way s x r.1 r.3) (down 1 ∷ [])) (sat_way s y r.0 r.2)
  sat_way s (and_or x y z) w (inr r) = then (followed (dsat_way s x r.1 r.3) (down 1 ∷ [])) (sat_way s z r.0 r.2)
  sat_way s (two kind.AndV x y) w r = then (sat_way s x r.1 r.3) (sat_way s y r.0 r.2)
  sat_way s (two kind.AndB x y) w r = followed (then (sat_way s x r.1 r.3) (sat_way s y r.0 r.2)) (down 1 ∷ [])
  sat_way s (two kind.OrB x z) w (inl r) = followed (then (sat_way s x r.1 r.3) (dsat_way s z r.0 r.2)) (down 1 ∷ [])
  sat_way s (two kind.OrB x z) w (inr (inl r)) = followed (then (dsat_way s x r.1 r.3) (sat_way s z r.0 r.2)) (down 1 ∷ [])
  sat_way s (two kind.OrC x z) w (inl r) = followed (sat_way s x w r) (down 1 ∷ [])
  sat_way s (two kind.OrC x z) w (inr r) = then (followed (dsat_way s x r.1 r.3) (down 1 ∷ [])) (sat_way s z r.0 r.2)
  sat_way s (two kind.OrD x z) w (inl r) = followed (sat_way s x w r) (up 1 ∷ down 1 ∷ [])
  sat_way s (two kind.OrD x z) w (inr r) = then (followed (dsat_way s x r.1 r.3) (up 0 ∷ down 1 ∷ [])) (sat_way s z r.0 r.2)
  sat_way s (two kind.OrI x z) w (inl r) = then (is 1 (down 1 ∷ [])) (sat_way s x r.0 r.2)
  sat_way s (two kind.OrI x z) w (inr r) = then (is 1 (down 1 ∷ [])) (sat_way s z r.0 r.2)
  sat_way s (thresh k xs) w r = followed (parts_way s [] xs k w r) (up 1 ∷ down 1 ∷ [])
  sat_way s (wrap wrapper.D x) w r = wrap_way wrapper.D (sat_way s x r.0 r.2)
  sat_way s (wrap letter x) w r = wrap_way letter (sat_way s x w r)
  sat_way s tree w r = leaf_way tree

  pub dsat_way : (s : Setting) (tree : Tree) (w : Stack) → (row s tree).dsat w → Way
  dsat_way s (and_or x y z) w (inl r) = then (followed (dsat_way s x r.1 r.3) (down 1 ∷ [])) (dsat_way s z r.0 r.2)
  dsat_way s (two kind.AndB x y) w (inl r) = followed (then (dsat_way s x r.1 r.3) (dsat_way s y r.0 r.2)) (down 1 ∷ [])
  dsat_way s (two kind.OrB x z) w r = followed (then (dsat_way s x r.1 r.3) (dsat_way s z r.0 r.2)) (down 1 ∷ [])
  dsat_way s (two kind.OrD x z) w r = then (followed (dsat_way s x r.1 r.3) (up 0 ∷ down 1 ∷ [])) (dsat_way s z r.0 r.2)
  dsat_way s (two kind.OrI x z) w (inl r) = then (is 1 (down 1 ∷ [])) (dsat_way s x r.0 r.2)
  dsat_way s (two kind.OrI x z) w (inr r) = then (is 1 (down 1 ∷ [])) (dsat_way s z r.0 r.2)
  dsat_way s (thresh k xs) w (inl r) = followed (parts_way s [] xs 0 w r) (up 1 ∷ down 1 ∷ [])
  dsat_way s (wrap wrapper.A x) w r = wrap_way wrapper.A (dsat_way s x w r)
  dsat_way s (wrap wrapper.S x) w r = wrap_way wrapper.S (dsat_way s x w r)
  dsat_way s (wrap wrapper.C x) w r = wrap_way wrapper.C (dsat_way s x w r)
  dsat_way s (wrap wrapper.N x) w r = wrap_way wrapper.N (dsat_way s x w r)
  dsat_way s tree w r = leaf_way tree

  -- of the children of a threshold, n of them satisfied
  pub parts_way : (s : Setting) (first : Course) (xs : Trees) (n : ℕ) (w : Stack) → parts s xs n w → Way
  parts_way s first none n w r = is 0 []
  parts_way s first (more x xs) n w (inl r) = then (followed (sat_way s x r.2.1 r.2.3) first) (parts_way s (down 1 ∷ []) xs r.0 r.2.0 r.2.2)
  parts_way s first (more x xs) n w (inr r) = then (followed (dsat_way s x r.1 r.3) first) (parts_way s (down 1 ∷ []) xs n r.0 r.2)

-- one way and then another, of these kinds
formed : {P Q : Way → Type 0} (a b : Way) → P a → Q b → Then P Q (then a b)
formed a b p q = (a, b, p, q, refl)

-- and further steps
ended : {P : Way → Type 0} {steps : Course} (a : Way) → P a → Followed P steps (followed a steps)
ended {steps = steps} a p = formed a (is 0 steps) p refl

no_more_parts : (first : Course) (x : Tree) (xs : Trees) (n : ℕ) (v : Way) → Then (Followed (FormalDsat x) first) (FormalParts (down 1 ∷ []) xs n) v → FormalParts first (more x xs) n v
no_more_parts first x xs zero v h = h
no_more_parts first x xs (suc n) v h = inr h

module _ (s : Setting) (no_more : IsTrue s.all_rows → ⊥) where
  mutual
    -- the way of a canonical row is a formal one
    pub sat_formal : (tree : Tree) (w : Stack) (r : (row s tree).sat w) → FormalSat tree (sat_way s tree w r)
    sat_formal just_0 w r = absurd r
    sat_formal (and_or x y z) w (inl r) = inl (formed _ _ (ended _ (sat_formal x r.1 r.3)) (sat_formal y r.0 r.2))
    sat_formal (and_or x y z) w (inr r) = inr (formed _ _ (ended _ (dsat_formal x r.1 r.3)) (sat_formal z r.0 r.2))
    sat_formal (two kind.AndV x y) w r = formed _ _ (sat_formal x r.1 r.3) (sat_formal y r.0 r.2)
    sat_formal (two kind.AndB x y) w r = ended _ (formed _ _ (sat_formal x r.1 r.3) (sat_formal y r.0 r.2))
    sat_formal (two kind.OrB x z) w (inl r) = inl (ended _ (formed _ _ (sat_formal x r.1 r.3) (dsat_formal z r.0 r.2)))
    sat_formal (two kind.OrB x z) w (inr (inl r)) = inr (ended _ (formed _ _ (dsat_formal x r.1 r.3) (sat_formal z r.0 r.2)))
    sat_formal (two kind.OrB x z) w (inr (inr r)) = absurd (no_more r.0)
    sat_formal (two kind.OrI x z) w (inl r) = inl (formed _ _ refl (sat_formal x r.0 r.2))
    sat_formal (two kind.OrI x z) w (inr r) = inr (formed _ _ refl (sat_formal z r.0 r.2))
    sat_formal (two which x z) w (inl r) = inl (ended _ (sat_formal x w r))
    sat_formal (two which x z) w (inr r) = inr (formed _ _ (ended _ (dsat_formal x r.1 r.3)) (sat_formal z r.0 r.2))
    sat_formal (thresh k xs) w r = ended _ (parts_formal [] xs k w r)
    sat_formal (wrap wrapper.A x) w r = formed _ _ refl (ended _ (sat_formal x w r))
    sat_formal (wrap wrapper.S x) w r = formed _ _ refl (sat_formal x w r)
    sat_formal (wrap wrapper.D x) w r = formed _ _ refl (sat_formal x r.0 r.2)
    sat_formal (wrap wrapper.J x) w r = formed _ _ refl (sat_formal x w r)
    sat_formal (wrap letter x) w r = ended _ (sat_formal x w r)
    sat_formal tree w r = refl

    pub dsat_formal : (tree : Tree) (w : Stack) (r : (row s tree).dsat w) → FormalDsat tree (dsat_way s tree w r)
    dsat_formal just_0 w r = refl
    dsat_formal (pk_k key) w r = refl
    dsat_formal (pk_h key) w r = refl
    dsat_formal (hash kind value) w r = refl
    dsat_formal (and_or x y z) w (inl r) = formed _ _ (ended _ (dsat_formal x r.1 r.3)) (dsat_formal z r.0 r.2)
    dsat_formal (and_or x y z) w (inr r) = absurd (no_more r.0)
    dsat_formal (two kind.AndV x y) w r = absurd (no_more r.0)
    dsat_formal (two kind.AndB x y) w (inl r) = ended _ (formed _ _ (dsat_formal x r.1 r.3) (dsat_formal y r.0 r.2))
    dsat_formal (two kind.AndB x y) w (inr r) = absurd (no_more r.0)
    dsat_formal (two kind.OrB x z) w r = ended _ (formed _ _ (dsat_formal x r.1 r.3) (dsat_formal z r.0 r.2))
    dsat_formal (two kind.OrD x z) w r = formed _ _ (ended _ (dsat_formal x r.1 r.3)) (dsat_formal z r.0 r.2)
    dsat_formal (two kind.OrI x z) w (inl r) = inl (formed _ _ refl (dsat_formal x r.0 r.2))
    dsat_formal (two kind.OrI x z) w (inr r) = inr (formed _ _ refl (dsat_formal z r.0 r.2))
    dsat_formal (thresh k xs) w (inl r) = ended _ (parts_formal [] xs 0 w r)
    dsat_formal (thresh k xs) w (inr r) = absurd (no_more r.0)
    dsat_formal (multi k keys) w r = refl
    dsat_formal (wrap wrapper.A x) w r = formed _ _ refl (ended _ (dsat_formal x w r))
    dsat_formal (wrap wrapper.S x) w r = formed _ _ refl (dsat_formal x w r)
    dsat_formal (wrap wrapper.C x) w r = ended _ (dsat_formal x w r)
    dsat_formal (wrap wrapper.D x) w r = refl
    dsat_formal (wrap wrapper.J x) w (inl r) = refl
    dsat_formal (wrap wrapper.J x) w (inr r) = absurd (no_more r.0)
    dsat_formal (wrap wrapper.N x) w r = ended _ (dsat_formal x w r)
    dsat_formal tree w r = absurd r

    pub parts_formal : (first : Course) (xs : Trees) (n : ℕ) (w : Stack) (r : parts s xs n w) → FormalParts first xs n (parts_way s first xs n w r)
    parts_formal first none n w r = subst (λ (k : ℕ). FormalParts first none k (is 0 [])) (sym r.0) refl
    parts_formal first (more x xs) n w (inl r) =
        subst (λ (k : ℕ). FormalParts first (more x xs) k (parts_way s first (more x xs) n w (inl r))) (sym r.1)
        (inl (formed _ _ (ended _ (sat_formal x r.2.1 r.2.3)) (parts_formal (down 1 ∷ []) xs r.0 r.2.0 r.2.2)))
    parts_formal first (more x xs) n w (inr r) =
        no_more_parts first x xs n _ (formed _ _ (ended _ (dsat_formal x r.1 r.3)) (parts_formal (down 1 ∷ []) xs n r.0 r.2))

-- signatures of the first keys of a list
pub signed : (assets : Assets) (keys : List Key) (k : ℕ) → k ≤ length keys → All (Signs assets) keys → (sigs : Stack) × (length sigs ≡ k) × AreSignatures (member assets.pairs) keys sigs
signed assets keys zero few all = ([], refl, tt)
signed assets [] (suc k) few all = absurd (omega (arith, few))
signed assets (key ∷ keys) (suc k) few all =
    let own = All-head (Signs assets) key keys all in
    let rest = signed assets keys k (omega (arith, few)) (All-tail (Signs assets) key keys all) in
    (own.0 ∷ rest.0, omega (arith, rest.1), inl (own.1, rest.2))

-- with assets that have all that a miniscript can take, each formal satisfaction and dissatisfaction is that of a stack
module _ (assets : Assets) where
  abbrev s : Setting
  s = canonical assets

  -- a stack with a row whose way is v
  abbrev pub Has : (A : Stack → Type 0) → ((stack : Stack) → A stack → Way) → Way → Type 0
  Has A f v = (stack : Stack) × (r : A stack) × (v ≡ f stack r)

  has_then : {A B : Stack → Type 0} {f : (stack : Stack) → A stack → Way} {g : (stack : Stack) → B stack → Way} {X Y : Way → Type 0} →
      ((v : Way) → X v → Has A f v) → ((v : Way) → Y v → Has B g v) → (v : Way) → Then X Y v → Has (Both B A) (λ stack r. then (f r.1 r.3) (g r.0 r.2)) v
  has_then {f = f} x y v h =
      let i = x h.0 h.2 in
      let j = y h.1 h.3 in
      (i.0 ++ j.0, (j.0, i.0, j.1, i.1, refl), h.4 ∙ ap (λ a. then a h.1) i.2 ∙ ap (then (f i.0 i.1)) j.2)

  has_followed : {A : Stack → Type 0} {f : (stack : Stack) → A stack → Way} {X : Way → Type 0} {steps : Course} →
      ((v : Way) → X v → Has A f v) → (v : Way) → Followed X steps v → Has A (λ stack r. followed (f stack r) steps) v
  has_followed {f = f} x v h = let i = x h.0 h.2 in (i.0, i.1, h.4 ∙ ap (λ a. then a h.1) i.2 ∙ ap (then (f i.0 i.1)) h.3)

  has_led : {A : Stack → Type 0} {f : (stack : Stack) → A stack → Way} {Y : Way → Type 0} {n : ℕ} {steps : Course} →
      ((v : Way) → Y v → Has A f v) → (v : Way) → Then (Is n steps) Y v → Has A (λ stack r. then (is n steps) (f stack r)) v
  has_led {n = n} {steps = steps} y v h = let i = y h.1 h.3 in (i.0, i.1, h.4 ∙ ap (λ a. then a h.1) h.2 ∙ ap (then (is n steps)) i.2)

  has_behind : {A : Stack → Type 0} {f : (stack : Stack) → A stack → Way} {Y : Way → Type 0} {steps : Course} (item : Bytes) →
      ((v : Way) → Y v → Has A f v) → (v : Way) → Then (Is 1 steps) Y v → Has (Both A (Item item)) (λ stack r. then (is 1 steps) (f r.0 r.2)) v
  has_behind item y v h = let i = has_led y v h in (item ∷ i.0, (i.0, item ∷ [], i.1, refl, refl), i.2)

  -- one of two rows
  first_row : {A B : Stack → Type 0} {f : (stack : Stack) → A stack ⊎ B stack → Way} {v : Way} → Has A (λ stack r. f stack (inl r)) v
      → Has (λ stack. A stack ⊎ B stack) f v
  first_row i = (i.0, inl i.1, i.2)

  second_row : {A B : Stack → Type 0} {f : (stack : Stack) → A stack ⊎ B stack → Way} {v : Way} → Has B (λ stack r. f stack (inr r)) v
      → Has (λ stack. A stack ⊎ B stack) f v
  second_row i = (i.0, inr i.1, i.2)

  mutual
    pub has_sat : (tree : Tree) → IsWritable tree → IsTyped tree → HasAll assets tree → (v : Way) → FormalSat tree v → Has (row s tree).sat (sat_way s tree) v
    has_sat just_0 w t a v h = absurd h
    has_sat just_1 w t a v h = ([], refl, h)
    has_sat (pk_k key) w t a v h = (a.0 ∷ [], (a.0, a.1, refl), h)
    has_sat (pk_h key) w t a v h = (key ∷ a.0 ∷ [], (key, w.form, refl, refl, (a.0 ∷ [], key ∷ [], (a.0, a.1, refl), refl, refl)), h)
    has_sat (older n) w t a v h = ([], (a, refl), h)
    has_sat (after n) w t a v h = ([], (a, refl), h)
    has_sat (hash kind value) w t a v h = (a.0 ∷ [], (a.0, (a.2, a.1), refl), h)
    has_sat (and_or x y z) w t a v (inl h) = first_row (has_then (has_followed (has_sat x w.0 t.0 a.0)) (has_sat y w.1 t.1 a.1) v h)
    has_sat (and_or x y z) w t a v (inr h) = second_row (has_then (has_followed (has_dsat x w.0 t.0 a.0)) (has_sat z w.2 t.2 a.2) v h)
    has_sat (two kind.AndV x y) w t a v h = has_then (has_sat x w.0 t.0 a.0) (has_sat y w.1 t.1 a.1) v h
    has_sat (two kind.AndB x y) w t a v h = has_followed (has_then (has_sat x w.0 t.0 a.0) (has_sat y w.1 t.1 a.1)) v h
    has_sat (two kind.OrB x z) w t a v (inl h) = first_row (has_followed (has_then (has_sat x w.0 t.0 a.0) (has_dsat z w.1 t.1 a.1)) v h)
    has_sat (two kind.OrB x z) w t a v (inr h) = second_row (first_row (has_followed (has_then (has_dsat x w.0 t.0 a.0) (has_sat z w.1 t.1 a.1)) v h))
    has_sat (two kind.OrI x z) w t a v (inl h) = first_row (has_behind ONE (has_sat x w.0 t.0 a.0) v h)
    has_sat (two kind.OrI x z) w t a v (inr h) = second_row (has_behind EMPTY (has_sat z w.1 t.1 a.1) v h)
    has_sat (two which x z) w t a v (inl h) = first_row (has_followed (has_sat x w.0 t.0 a.0) v h)
    has_sat (two which x z) w t a v (inr h) = second_row (has_then (has_followed (has_dsat x w.0 t.0 a.0)) (has_sat z w.1 t.1 a.1) v h)
    has_sat (thresh k xs) w t a v h = has_followed (have_parts [] xs w.2 t.0 a k) v h
    has_sat (multi k keys) w t a v h =
        let f = typed-multi k keys t in
        let i = signed assets (reverse keys) k (omega (arith, f.1, length-reverse keys)) (all_reversed (Signs assets) keys a) in
        (i.0 ++ EMPTY ∷ [], (EMPTY ∷ [], i.0, refl, (i.1, i.2), refl), h)
    has_sat (wrap wrapper.A x) w t a v h = has_led (has_followed (has_sat x w t.0 a)) v h
    has_sat (wrap wrapper.S x) w t a v h = has_led (has_sat x w t.0 a) v h
    has_sat (wrap wrapper.D x) w t a v h = has_behind ONE (has_sat x w t.0 a) v h
    has_sat (wrap wrapper.J x) w t a v h = has_led (has_sat x w t.0 a) v h
    has_sat (wrap letter x) w t a v h = has_followed (has_sat x w t.0 a) v h

    has_dsat : (tree : Tree) → IsWritable tree → IsTyped tree → HasAll assets tree → (v : Way) → FormalDsat tree v → Has (row s tree).dsat (dsat_way s tree) v
    has_dsat just_0 w t a v h = ([], refl, h)
    has_dsat (pk_k key) w t a v h = (EMPTY ∷ [], refl, h)
    has_dsat (pk_h key) w t a v h = (key ∷ EMPTY ∷ [], (key, w.form, refl, refl, (EMPTY ∷ [], key ∷ [], refl, refl, refl)), h)
    has_dsat (hash kind value) w t a v h = (ZEROS ∷ [], inl (a.3, refl), h)
    has_dsat (and_or x y z) w t a v h = first_row (has_then (has_followed (has_dsat x w.0 t.0 a.0)) (has_dsat z w.2 t.2 a.2) v h)
    has_dsat (two kind.AndB x y) w t a v h = first_row (has_followed (has_then (has_dsat x w.0 t.0 a.0) (has_dsat y w.1 t.1 a.1)) v h)
    has_dsat (two kind.OrB x z) w t a v h = has_followed (has_then (has_dsat x w.0 t.0 a.0) (has_dsat z w.1 t.1 a.1)) v h
    has_dsat (two kind.OrD x z) w t a v h = has_then (has_followed (has_dsat x w.0 t.0 a.0)) (has_dsat z w.1 t.1 a.1) v h
    has_dsat (two kind.OrI x z) w t a v (inl h) = first_row (has_behind ONE (has_dsat x w.0 t.0 a.0) v h)
    has_dsat (two kind.OrI x z) w t a v (inr h) = second_row (has_behind EMPTY (has_dsat z w.1 t.1 a.1) v h)
    has_dsat (thresh k xs) w t a v h = first_row (has_followed (have_parts [] xs w.2 t.0 a 0) v h)
    has_dsat (multi k keys) w t a v h = (replicate (k + 1) EMPTY, refl, h)
    has_dsat (wrap wrapper.A x) w t a v h = has_led (has_followed (has_dsat x w t.0 a)) v h
    has_dsat (wrap wrapper.S x) w t a v h = has_led (has_dsat x w t.0 a) v h
    has_dsat (wrap wrapper.C x) w t a v h = has_followed (has_dsat x w t.0 a) v h
    has_dsat (wrap wrapper.D x) w t a v h = (EMPTY ∷ [], refl, h)
    has_dsat (wrap wrapper.J x) w t a v h = (EMPTY ∷ [], inl refl, h)
    has_dsat (wrap wrapper.N x) w t a v h = has_followed (has_dsat x w t.0 a) v h
    has_dsat tree w t a v h = absurd h

    have_parts : (first : Course) (xs : Trees) → AreWritable xs → AreTyped xs → HaveAll assets xs → (n : ℕ) (v : Way) → FormalParts first xs n v
        → Has (parts s xs n) (parts_way s first xs n) v
    have_parts first none w t a zero v h = ([], (refl, refl), h)
    have_parts first none w t a (suc n) v h = absurd h
    have_parts first (more x xs) w t a zero v h = second_row (has_then (has_followed (has_dsat x w.0 t.0 a.0)) (have_parts (down 1 ∷ []) xs w.1 t.1 a.1 0) v h)
    have_parts first (more x xs) w t a (suc n) v (inl h) =
        let i = has_then (has_followed (has_sat x w.0 t.0 a.0)) (have_parts (down 1 ∷ []) xs w.1 t.1 a.1 n) v h in (i.0, inl (n, refl, i.1), i.2)
    have_parts first (more x xs) w t a (suc n) v (inr h) =
        second_row (has_then (has_followed (has_dsat x w.0 t.0 a.0)) (have_parts (down 1 ∷ []) xs w.1 t.1 a.1 (suc n)) v h)
