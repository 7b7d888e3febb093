-- The letters that are tried of a node, by the types of its children alone.
use Rattle.std.proofs.Common.{◌≡◌, ℕ, suc, ◌+◌, ◌-◌, ◌<◌, Bool, true, false, List, [], ◌∷◌, ◌++◌, length, map, get_or, Some, None, Ok, Err, refl, sym, ◌∙◌, ap, arith, length-append}
use Rattle.std.specs.Prelude.{Option, Result, ◌==◌, ◌&&◌, not, is_some, option_map, slice_index}
use Rattle.std.specs.Option.{option_or}
use Rattle.std.specs.List.{find}
use Rattle.std.proofs.lemmas.List.{map-append}
use Rattle.std.proofs.lemmas.List.Folds.{find-append}
use Rattle.def_tree.specs.declared.Two.TheVariants.{AndV, OrI}
use Rattle.def_tree.specs.Children.{children}
use Rattle.def_tree.specs.Size.{nodes}
use Rattle.def_tree.specs.Tree.{Tree, Trees, just_0, just_1, pk_k, pk_h, older, after, hash, and_or, two, thresh, multi, wrap, none, more}
use Rattle.def_text.specs.Letter.{Letter, letter_of_wrapper, letter_t, letter_l, letter_u, letter_tree}
use Rattle.def_types.specs.declared.CorrectnessType.{CorrectnessType}
use Rattle.def_types.specs.declared.rule.RuleAt.{RuleAt}
use Rattle.def_types.specs.Correctness.{correctness, correctness_of}
use Rattle.def_outline.specs.Fits.{Trial, tried_letters, trial, behind, trials, over, has_type, fits}
use Rattle.ms_types.specs.Told.{told}
use Rattle.ms_types.specs.Scaffolding.Told.{tree_told, trees_told}
use Rattle.ms_types.specs.Replaced.{letter_told, over_told, all_there, count, replaced}
use Rattle.ms_types.proofs.Telling.{tree_told_is}
use Rattle.ms_outline.specs.Scaffolding.Found.{code_letter, types_of, numbers_of, passes, is_fit, fit_at, found, child_and_letter}

-- ---- types

abbrev ty : Tree → Option CorrectnessType
ty t = told (correctness_of t)

-- as the type system tells it
ty_is : (t : Tree) → ty t ≡ tree_told correctness t
ty_is t = tree_told_is correctness 0 t

has_is : (r : Result CorrectnessType RuleAt) → has_type r ≡ is_some (told r)
has_is (Ok t) = refl
has_is (Err at) = refl

letter_is : (l : Letter) (x : Tree) → ty (letter_tree l x) ≡ letter_told (code_letter l) (ty x)
letter_is (letter_of_wrapper wrapper) x = ty_is (wrap wrapper x) ∙ rw (ty_is x) refl
letter_is letter_t x = ty_is (two AndV x just_1) ∙ rw (ty_is x) refl
letter_is letter_l x = ty_is (two OrI just_0 x) ∙ rw (ty_is x) refl
letter_is letter_u x = ty_is (two OrI x just_0) ∙ rw (ty_is x) refl

there_is : (xs : Trees) → trees_told correctness xs ≡ all_there (types_of xs)
there_is none = refl
there_is (more x xs) = rw (there_is xs, ty_is x) refl

-- a node over as many children as it has
over_is : (t : Tree) (xs : Trees) → count xs ≡ count (children t) → 0 < count xs → ty (over t xs) ≡ over_told t (types_of xs)
over_is (and_or x y z) (more a (more b (more c none))) many some = ty_is (and_or a b c) ∙ rw (ty_is a, ty_is b, ty_is c) refl
over_is (and_or x y z) none many some = absurd (omega (arith, many))
over_is (and_or x y z) (more a none) many some = absurd (omega (arith, many))
over_is (and_or x y z) (more a (more b none)) many some = absurd (omega (arith, many))
over_is (and_or x y z) (more a (more b (more c (more d xs)))) many some = absurd (omega (arith, many))
over_is (two kind x y) (more a (more b none)) many some = ty_is (two kind a b) ∙ rw (ty_is a, ty_is b) refl
over_is (two kind x y) none many some = absurd (omega (arith, many))
over_is (two kind x y) (more a none) many some = absurd (omega (arith, many))
over_is (two kind x y) (more a (more b (more c xs))) many some = absurd (omega (arith, many))
over_is (thresh k ys) xs many some = ty_is (thresh k xs) ∙ rw (there_is xs) refl
over_is (wrap wrapper x) (more a none) many some = ty_is (wrap wrapper a) ∙ rw (ty_is a) refl
over_is (wrap wrapper x) none many some = absurd (omega (arith, many))
over_is (wrap wrapper x) (more a (more b xs)) many some = absurd (omega (arith, many))
over_is just_0 xs many some = absurd (omega (arith, many, some))
over_is just_1 xs many some = absurd (omega (arith, many, some))
over_is (pk_k key) xs many some = absurd (omega (arith, many, some))
over_is (pk_h key) xs many some = absurd (omega (arith, many, some))
over_is (older n) xs many some = absurd (omega (arith, many, some))
over_is (after n) xs many some = absurd (omega (arith, many, some))
over_is (hash kind value) xs many some = absurd (omega (arith, many, some))
over_is (multi k keys) xs many some = absurd (omega (arith, many, some))

-- ---- trees behind others

abbrev before : List Tree → Trees → Trees
before [] xs = xs
before (b ∷ bs) xs = more b (before bs xs)

before_last : (bs : List Tree) (x : Tree) (xs : Trees) → before (bs ++ x ∷ []) xs ≡ before bs (more x xs)
before_last [] x xs = refl
before_last (b ∷ bs) x xs = ap (more b) (before_last bs x xs)

before_types : (bs : List Tree) (xs : Trees) → types_of (before bs xs) ≡ map ty bs ++ types_of xs
before_types [] xs = refl
before_types (b ∷ bs) xs = ap (λ ts. ty b ∷ ts) (before_types bs xs)

before_count : (bs : List Tree) (xs : Trees) → count (before bs xs) ≡ length bs + count xs
before_count [] xs = omega arith
before_count (b ∷ bs) xs = omega (arith, before_count bs xs)

abbrev behinds : List Tree → Trial → Trial
behinds bs t = record { child = t.child; letter = t.letter; children = before bs t.children }

behinds_all : (bs : List Tree) (x : Tree) (ts : List Trial) → map (behinds bs) (map (behind x) ts) ≡ map (behinds (bs ++ x ∷ [])) ts
behinds_all bs x [] = refl
behinds_all bs x (t ∷ ts) =
    rw (behinds_all bs x ts) (ap (λ cs. record { child = t.child; letter = t.letter; children = cs } ∷ map (behinds (bs ++ x ∷ [])) ts) (sym (before_last bs x t.children)))

-- ---- the type that a letter gives in its place

replaced_is : (bs : List Tree) (o p : Option CorrectnessType) (ts : List (Option CorrectnessType))
    → replaced (map ty bs ++ o ∷ ts) (length bs) p ≡ map ty bs ++ p ∷ ts
replaced_is [] o p ts = refl
replaced_is (b ∷ bs) o p ts = ap (λ rs. ty b ∷ rs) (replaced_is bs o p ts)

got_is : (bs : List Tree) (o : Option CorrectnessType) (ts : List (Option CorrectnessType)) → get_or (map ty bs ++ o ∷ ts) (length bs) None ≡ o
got_is [] o ts = refl
got_is (b ∷ bs) o ts = got_is bs o ts

module _ (offsets : List ℕ) (own : ℕ) (t : Tree) where
  -- a trial of a child behind others
  one_is : (bs : List Tree) (c : ℕ) (x : Tree) (xs : Trees) (l : Letter) → length bs + suc (count xs) ≡ count (children t)
      → fits offsets own t (behinds bs (trial c x xs l)) ≡ is_fit offsets own t (types_of (before bs (more x xs))) (length bs) c l
  one_is bs c x xs l many =
      let ys = before bs (more (letter_tree l x) xs) in
      let size : count ys ≡ length bs + suc (count xs) = before_count bs (more (letter_tree l x) xs) ∙ omega arith in
      let types : types_of ys ≡ replaced (map ty bs ++ ty x ∷ types_of xs) (length bs) (letter_told (code_letter l) (ty x)) =
      before_types bs (more (letter_tree l x) xs) ∙ ap (λ o. map ty bs ++ o ∷ types_of xs) (letter_is l x)
      ∙ sym (replaced_is bs (ty x) (letter_told (code_letter l) (ty x)) (types_of xs)) in
      let there : has_type (correctness_of (over t ys)) ≡ passes t (types_of (before bs (more x xs))) (length bs) l =
      has_is (correctness_of (over t ys)) ∙ ap is_some (over_is t ys (size ∙ many) (omega (arith, size)) ∙ ap (over_told t) types)
      ∙ rw (before_types bs (more x xs), got_is bs (ty x) (types_of xs)) refl in
      ap (λ b. not (slice_index offsets c == slice_index offsets own) && b) there

  -- the letters before one child
  letters_are : (ls : List Letter) (bs : List Tree) (c : ℕ) (x : Tree) (xs : Trees) → length bs + suc (count xs) ≡ count (children t)
      → option_map child_and_letter (find (fits offsets own t) (map (behinds bs) (map (trial c x xs) ls)))
      ≡ option_map (λ l. (c, l)) (find (is_fit offsets own t (types_of (before bs (more x xs))) (length bs) c) ls)
  letters_are [] bs c x xs many = refl
  letters_are (l ∷ ls) bs c x xs many =
      go (is_fit offsets own t (types_of (before bs (more x xs))) (length bs) c l) refl (letters_are ls bs c x xs many)
    where
      go : (b : Bool) → is_fit offsets own t (types_of (before bs (more x xs))) (length bs) c l ≡ b
          → option_map child_and_letter (find (fits offsets own t) (map (behinds bs) (map (trial c x xs) ls)))
          ≡ option_map (λ k. (c, k)) (find (is_fit offsets own t (types_of (before bs (more x xs))) (length bs) c) ls)
          → option_map child_and_letter (find (fits offsets own t) (map (behinds bs) (map (trial c x xs) (l ∷ ls))))
          ≡ option_map (λ k. (c, k)) (find (is_fit offsets own t (types_of (before bs (more x xs))) (length bs) c) (l ∷ ls))
      go true e h = rw (one_is bs c x xs l many, e) refl
      go false e h = rw (one_is bs c x xs l many, e) h

  or_mapped : (a b : Option Trial) → option_map child_and_letter (option_or a b) ≡ option_or (option_map child_and_letter a) (option_map child_and_letter b)
  or_mapped None b = refl
  or_mapped (Some a) b = refl

  -- and before all
  trials_are : (bs : List Tree) (first : ℕ) (xs : Trees) → length bs + count xs ≡ count (children t)
      → option_map child_and_letter (find (fits offsets own t) (map (behinds bs) (trials first xs)))
      ≡ found offsets own t (types_of (before bs xs)) (length bs) (numbers_of first xs)
  trials_are bs first none many = refl
  trials_are bs first (more x xs) many =
      let c = first + nodes x - 1 in
      let here = map (behinds bs) (map (trial c x xs) tried_letters) in
      let others = map (behinds (bs ++ x ∷ [])) (trials (first + nodes x) xs) in
      let split : map (behinds bs) (trials first (more x xs)) ≡ here ++ others =
      map-append (behinds bs) (map (trial c x xs) tried_letters) (map (behind x) (trials (first + nodes x) xs)) ∙ ap (λ r. here ++ r) (behinds_all bs x (trials (first + nodes x) xs)) in
      let size : length (bs ++ x ∷ []) ≡ suc (length bs) = length-append bs (x ∷ []) ∙ omega arith in
      ap (λ r. option_map child_and_letter (find (fits offsets own t) r)) split
      ∙ ap (option_map child_and_letter) (find-append (fits offsets own t) here others)
      ∙ or_mapped (find (fits offsets own t) here) (find (fits offsets own t) others)
      ∙ ap (λ o. option_or o (option_map child_and_letter (find (fits offsets own t) others))) (letters_are tried_letters bs c x xs (omega (arith, many)))
      ∙ ap (λ o. option_or (fit_at offsets own t (types_of (before bs (more x xs))) (length bs) c) o)
      (trials_are (bs ++ x ∷ []) (first + nodes x) xs (omega (arith, size, many))
      ∙ ap (λ ts. found offsets own t ts (length (bs ++ x ∷ [])) (numbers_of (first + nodes x) xs)) (ap types_of (before_last bs x xs))
      ∙ ap (λ n. found offsets own t (types_of (before bs (more x xs))) n (numbers_of (first + nodes x) xs)) size)

  behinds_none : (ts : List Trial) → map (behinds []) ts ≡ ts
  behinds_none [] = refl
  behinds_none (r ∷ ts) = ap (λ rs. r ∷ rs) (behinds_none ts)

  pub found_is : (first : ℕ) → found offsets own t (types_of (children t)) 0 (numbers_of first (children t))
      ≡ option_map child_and_letter (find (fits offsets own t) (trials first (children t)))
  found_is first =
      sym (trials_are [] first (children t) (omega arith))
      ∙ ap (λ ts. option_map child_and_letter (find (fits offsets own t) ts)) (behinds_none (trials first (children t)))
