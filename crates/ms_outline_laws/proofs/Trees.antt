-- An outline is of one tree: each line begins a tree, and a threshold ends where a line isn't deeper.
use Rattle.std.proofs.Common.{◌≡◌, ℕ, ◌+◌, ◌≤◌, List, [], ◌∷◌, ◌++◌, map, refl, sym, ◌∙◌, ap, arith, append_assoc}
use Rattle.std.specs.Prelude.{⊤}
use Rattle.std.proofs.lemmas.List.{map-append}
use Rattle.def_tree.specs.Size.{nodes}
use Rattle.def_tree.specs.Tree.{Tree, Trees, just_0, and_or, two, thresh, wrap, none, more}
use Rattle.def_outline.specs.Outline.{Node, outline, outlines}
use Rattle.ms_outline_laws.proofs.Bare.{bare, bared}

abbrev Lines : Type 0
Lines = List (ℕ × Tree)

-- what an outline shows, before other lines
abbrev mutual
  onto : (depth : ℕ) → Tree → Lines → Lines
  onto depth (and_or x y z) rest = (depth, bare (and_or x y z)) ∷ onto (depth + 1) x (onto (depth + 1) y (onto (depth + 1) z rest))
  onto depth (two kind x y) rest = (depth, bare (two kind x y)) ∷ onto (depth + 1) x (onto (depth + 1) y rest)
  onto depth (thresh k xs) rest = (depth, bare (thresh k xs)) ∷ all_onto (depth + 1) xs rest
  onto depth (wrap wrapper x) rest = (depth, bare (wrap wrapper x)) ∷ onto (depth + 1) x rest
  onto depth leaf rest = (depth, bare leaf) ∷ rest

  all_onto : (depth : ℕ) → Trees → Lines → Lines
  all_onto depth none rest = rest
  all_onto depth (more x xs) rest = onto depth x (all_onto depth xs rest)

-- a part before another one, before other lines
both : (xs ys : List Node) (rest : Lines) → map bared (xs ++ ys) ++ rest ≡ map bared xs ++ (map bared ys ++ rest)
both xs ys rest = rw (map-append bared xs ys) (append_assoc (map bared xs) (map bared ys) rest)

mutual
  is_onto : (first depth : ℕ) (t : Tree) (rest : Lines) → map bared (outline first depth t) ++ rest ≡ onto depth t rest
  is_onto first depth (and_or x y z) rest =
      let a = outline first (depth + 1) x in
      let b = outline (first + nodes x) (depth + 1) y in
      let c = outline (first + nodes x + nodes y) (depth + 1) z in
      ap (λ (l : Lines). (depth, bare (and_or x y z)) ∷ l)
      (both (a ++ b) c rest
      ∙ (both a b (map bared c ++ rest)
      ∙ (ap (λ (l : Lines). map bared a ++ (map bared b ++ l)) (is_onto (first + nodes x + nodes y) (depth + 1) z rest)
      ∙ (ap (λ (l : Lines). map bared a ++ l) (is_onto (first + nodes x) (depth + 1) y (onto (depth + 1) z rest))
      ∙ is_onto first (depth + 1) x (onto (depth + 1) y (onto (depth + 1) z rest))))))
  is_onto first depth (two kind x y) rest =
      let a = outline first (depth + 1) x in
      let b = outline (first + nodes x) (depth + 1) y in
      ap (λ (l : Lines). (depth, bare (two kind x y)) ∷ l)
      (both a b rest
      ∙ (ap (λ (l : Lines). map bared a ++ l) (is_onto (first + nodes x) (depth + 1) y rest)
      ∙ is_onto first (depth + 1) x (onto (depth + 1) y rest)))
  is_onto first depth (thresh k xs) rest = ap (λ (l : Lines). (depth, bare (thresh k xs)) ∷ l) (are_onto first (depth + 1) xs rest)
  is_onto first depth (wrap wrapper x) rest = ap (λ (l : Lines). (depth, bare (wrap wrapper x)) ∷ l) (is_onto first (depth + 1) x rest)
  is_onto first depth leaf rest = refl

  are_onto : (first depth : ℕ) (xs : Trees) (rest : Lines) → map bared (outlines first depth xs) ++ rest ≡ all_onto depth xs rest
  are_onto first depth none rest = refl
  are_onto first depth (more x xs) rest =
      both (outline first depth x) (outlines (first + nodes x) depth xs) rest
      ∙ (ap (λ (l : Lines). map bared (outline first depth x) ++ l) (are_onto (first + nodes x) depth xs rest)
      ∙ is_onto first depth x (all_onto depth xs rest))

-- the first of these lines, if there is one, isn't deeper
abbrev EndsAt : (depth : ℕ) → Lines → Type 0
EndsAt depth [] = ⊤
EndsAt depth (l ∷ rest) = l.0 ≤ depth

-- a tree begins at its own depth
begins : (depth : ℕ) (t : Tree) (rest : Lines) → EndsAt depth (onto depth t rest)
begins depth (and_or x y z) rest = omega arith
begins depth (two kind x y) rest = omega arith
begins depth (thresh k xs) rest = omega arith
begins depth (wrap wrapper x) rest = omega arith
begins depth leaf rest = omega arith

all_begin : (depth : ℕ) (xs : Trees) (rest : Lines) → EndsAt depth rest → EndsAt depth (all_onto depth xs rest)
all_begin depth none rest ends = ends
all_begin depth (more x xs) rest ends = begins depth x (all_onto depth xs rest)

higher : (depth : ℕ) (rest : Lines) → EndsAt depth rest → EndsAt (depth + 1) rest
higher depth [] ends = tt
higher depth (l ∷ rest) ends = omega (arith, ends)

-- the lines of a tree are some, and the first of them is as deep as the tree
nothing : (depth : ℕ) (t : Tree) (rest : Lines) → [] ≡ onto depth t rest → ⊥
nothing depth (and_or x y z) rest e = absurd (cc e)
nothing depth (two kind x y) rest e = absurd (cc e)
nothing depth (thresh k xs) rest e = absurd (cc e)
nothing depth (wrap wrapper x) rest e = absurd (cc e)
nothing depth leaf rest e = absurd (cc e)

first_depth : (default : ℕ) → Lines → ℕ
first_depth default [] = default
first_depth default (l ∷ rest) = l.0

as_deep : (default depth : ℕ) (t : Tree) (rest : Lines) → first_depth default (onto depth t rest) ≡ depth
unfolding first_depth
as_deep default depth (and_or x y z) rest = refl
as_deep default depth (two kind x y) rest = refl
as_deep default depth (thresh k xs) rest = refl
as_deep default depth (wrap wrapper x) rest = refl
as_deep default depth leaf rest = refl

-- no tree begins where the line isn't as deep
none_begins : (depth : ℕ) (x : Tree) (rest lines : Lines) → EndsAt depth lines → lines ≡ onto (depth + 1) x rest → ⊥
unfolding first_depth
none_begins depth x rest [] ends e = nothing (depth + 1) x rest e
none_begins depth x rest (l ∷ lines) ends e =
    let same : l.0 ≡ depth + 1 = ap (first_depth 0) e ∙ as_deep 0 (depth + 1) x rest in
    absurd (omega (arith, same, ends))

-- ---- what shows the same is the same

first_tree : Lines → Tree
first_tree [] = just_0
first_tree (l ∷ rest) = l.1

mutual
  unfolding first_tree

  same : (depth : ℕ) (t u : Tree) (rest other : Lines) → EndsAt depth rest → EndsAt depth other → onto depth t rest ≡ onto depth u other → (t ≡ u) × (rest ≡ other)
  same depth (and_or x y z) (and_or a b c) rest other ends closes e =
      let one = same (depth + 1) x a (onto (depth + 1) y (onto (depth + 1) z rest)) (onto (depth + 1) b (onto (depth + 1) c other))
      (begins (depth + 1) y (onto (depth + 1) z rest)) (begins (depth + 1) b (onto (depth + 1) c other)) (cc e) in
      let two = same (depth + 1) y b (onto (depth + 1) z rest) (onto (depth + 1) c other) (begins (depth + 1) z rest) (begins (depth + 1) c other) one.1 in
      let three = same (depth + 1) z c rest other (higher depth rest ends) (higher depth other closes) two.1 in
      (cc (one.0, two.0, three.0), three.1)
  same depth (two kind x y) (two other_kind a b) rest other ends closes e =
      let one = same (depth + 1) x a (onto (depth + 1) y rest) (onto (depth + 1) b other) (begins (depth + 1) y rest) (begins (depth + 1) b other) (cc e) in
      let two = same (depth + 1) y b rest other (higher depth rest ends) (higher depth other closes) one.1 in
      (cc (ap first_tree e, one.0, two.0), two.1)
  same depth (thresh k xs) (thresh l ys) rest other ends closes e =
      let all = all_same depth xs ys rest other ends closes (cc e) in
      (cc (ap first_tree e, all.0), all.1)
  same depth (wrap wrapper x) (wrap other_wrapper a) rest other ends closes e =
      let one = same (depth + 1) x a rest other (higher depth rest ends) (higher depth other closes) (cc e) in
      (cc (ap first_tree e, one.0), one.1)
  same depth (and_or x y z) u rest other ends closes e = absurd (cc (ap first_tree e))
  same depth (two kind x y) u rest other ends closes e = absurd (cc (ap first_tree e))
  same depth (thresh k xs) u rest other ends closes e = absurd (cc (ap first_tree e))
  same depth (wrap wrapper x) u rest other ends closes e = absurd (cc (ap first_tree e))
  same depth t (and_or a b c) rest other ends closes e = absurd (cc (ap first_tree e))
  same depth t (two kind a b) rest other ends closes e = absurd (cc (ap first_tree e))
  same depth t (thresh k ys) rest other ends closes e = absurd (cc (ap first_tree e))
  same depth t (wrap wrapper a) rest other ends closes e = absurd (cc (ap first_tree e))
  same depth t u rest other ends closes e = (cc (ap first_tree e), cc (e, ap first_tree e))

  all_same : (depth : ℕ) (xs ys : Trees) (rest other : Lines) → EndsAt depth rest → EndsAt depth other
      → all_onto (depth + 1) xs rest ≡ all_onto (depth + 1) ys other → (xs ≡ ys) × (rest ≡ other)
  all_same depth none none rest other ends closes e = (refl, e)
  all_same depth none (more y ys) rest other ends closes e = absurd (none_begins depth y (all_onto (depth + 1) ys other) rest ends e)
  all_same depth (more x xs) none rest other ends closes e = absurd (none_begins depth x (all_onto (depth + 1) xs rest) other closes (sym e))
  all_same depth (more x xs) (more y ys) rest other ends closes e =
      let here = same (depth + 1) x y (all_onto (depth + 1) xs rest) (all_onto (depth + 1) ys other)
      (all_begin (depth + 1) xs rest (higher depth rest ends)) (all_begin (depth + 1) ys other (higher depth other closes)) e in
      let there = all_same depth xs ys rest other ends closes here.1 in
      (cc (here.0, there.0), there.1)

pub one_tree : (t u : Tree) → map bared (outline 0 0 t) ≡ map bared (outline 0 0 u) → t ≡ u
one_tree t u e = (same 0 t u [] [] tt tt (sym (is_onto 0 0 t []) ∙ (ap (λ (l : Lines). l ++ []) e ∙ is_onto 0 0 u []))).0
