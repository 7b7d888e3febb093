-- What a type system answers for a tree: the first requirement that is false, over the list of its nodes.
use Rattle.std.specs.Option.{option_or}
use Rattle.std.specs.Prelude.{⊤}
use Rattle.std.proofs.Common.{◌≡◌, ◌↔◌, ℕ, zero, suc, ◌+◌, ◌<◌, Bool, true, false, IsTrue, List, [], ◌∷◌, ◌++◌, length, take, slice_get, Option, Some, None, Result, Ok, Err, refl, sym, ◌∙◌, ap, subst, arith, append_assoc, if◌then◌else◌}
use Rattle.def_tree.specs.Tree.{Tree, Trees, and_or, two, thresh, wrap, none, more}
use Rattle.def_tree.specs.Size.{nodes, nodes_of}
use Rattle.def_tree.specs.Nodes.{all_nodes, nodes_of_all}
use Rattle.def_tree.proofs.NodeLists.{nodes_are_all, trees_are_all}
use Rattle.def_types.specs.declared.CorrectnessType.{CorrectnessType}
use Rattle.def_types.specs.declared.MalleabilityProperties.{MalleabilityProperties}
use Rattle.def_types.specs.declared.rule.Rule.{Rule}
use Rattle.def_types.specs.declared.rule.RuleAt.{RuleAt}
use Rattle.def_types.specs.Row.{Need, need, AllHold, Rows, unless_broken, answer, if_ok}
use Rattle.def_types.specs.System.{gives, gives_each, row_of, EveryHolds, IsFirstFalse, IsMet, AreMet, typed_from, typed_each}
use Rattle.def_types.specs.Correctness.{correctness, correctness_of}
use Rattle.def_types.specs.Malleable.{malleability, malleability_of}
use Rattle.def_types.specs.Typed.{type_of, IsTyped, properties_of, IsMalleabilityTyped}
use Rattle.def_types.specs.Laws.{CorrectnessIsTyped, CorrectnessIsFirst, MalleabilityIsTyped, MalleabilityIsFirst, TypedMeans, NonMalleableMeans}

-- the first requirement of a row that is false
abbrev broken : List Need → Option Rule
broken [] = None
broken (n ∷ needs) = if n.holds then broken needs else Some n.rule

broken-held : (needs : List Need) → AllHold needs → broken needs ≡ None
broken-held [] h = refl
broken-held (n ∷ needs) h = rw h.0 (broken-held needs h.1)

held_from_broken : (needs : List Need) → broken needs ≡ None → AllHold needs
held_from_broken [] e = tt
held_from_broken (n ∷ needs) e = go n.holds refl (held_from_broken needs) e
  where
    go : (b : Bool) → n.holds ≡ b → (broken needs ≡ None → AllHold needs) → (if b then broken needs else Some n.rule) ≡ None → IsTrue n.holds × AllHold needs
    go true p rest e = (p, rest e)
    go false p rest e = cc

-- it stands at a place, and those before it hold
abbrev FirstOfRow : List Need → Rule → ℕ → Type 0
FirstOfRow needs rule place = (slice_get needs place ≡ Some (need rule false)) × AllHold (take place needs)

first_from_broken : (needs : List Need) (rule : Rule) → broken needs ≡ Some rule → (place : ℕ) × FirstOfRow needs rule place
first_from_broken [] rule e = cc
first_from_broken (n ∷ needs) rule e = go n.holds refl (first_from_broken needs rule) e
  where
    go : (b : Bool) → n.holds ≡ b → (broken needs ≡ Some rule → (place : ℕ) × FirstOfRow needs rule place) → (if b then broken needs else Some n.rule)
        ≡ Some rule → (place : ℕ) × FirstOfRow (n ∷ needs) rule place
    go true p rest e = let r = rest e in (suc r.0, (r.1.0, (p, r.1.1)))
    go false p rest e = let same : n.rule ≡ rule = cc in (zero, (ap (λ (b : Bool). Some (need n.rule b)) p ∙ ap (λ (r : Rule). Some (need r false)) same, tt))

broken-first : (needs : List Need) (rule : Rule) (place : ℕ) → FirstOfRow needs rule place → broken needs ≡ Some rule
broken-first [] rule place h = let e = h.0 in cc
broken-first (n ∷ needs) rule zero h =
    let same : n ≡ need rule false = let e = h.0 in cc in
    rw same refl
broken-first (n ∷ needs) rule (suc place) h = rw h.1.0 (broken-first needs rule place (h.0, h.1.1))

-- the value, unless a requirement is false
abbrev unless_at : {A : Type 0} → Option RuleAt → A → Result A RuleAt
unless_at None value = Ok value
unless_at (Some at) value = Err at

abbrev at_node : (node : ℕ) → Option Rule → Option RuleAt → Option RuleAt
at_node node None rest = rest
at_node node (Some rule) rest = Some (record { node = node; rule = rule })

answer-is : {A : Type 0} (node : ℕ) (needs : List Need) (value : A) → unless_broken node needs value ≡ unless_at (at_node node (broken needs) None) value
answer-is node [] value = refl
answer-is {A} node (n ∷ needs) value = go n.holds (answer-is node needs value)
  where
    go : (b : Bool) → unless_broken node needs value ≡ unless_at (at_node node (broken needs) None) value
        → (if b then unless_broken node needs value else Err (record { node = node; rule = n.rule })) ≡ unless_at (at_node node (if b then broken needs else Some n.rule) None) value
    go true rest = rest
    go false rest = refl

-- one after the other
step : {A B : Type 0} (r : Result A RuleAt) (next : A → Result B RuleAt) (o p : Option RuleAt) (a : A) (b : B) → r ≡ unless_at o a → next a ≡ unless_at p b → if_ok r next ≡ unless_at (option_or o p) b
step {A} {B} r next o p a b e f = ap (λ (q : Result A RuleAt). if_ok q next) e ∙ go o
  where
    go : (o : Option RuleAt) → if_ok (unless_at o a) next ≡ unless_at (option_or o p) b
    go None = f
    go (Some at) = refl

last_step : {A B : Type 0} (r : Result A RuleAt) (f : A → B) (o : Option RuleAt) (a : A) → r ≡ unless_at o a → if_ok r (λ x. Ok (f x)) ≡ unless_at o (f a)
last_step {A} {B} r f o a e = ap (λ (q : Result A RuleAt). if_ok q (λ x. Ok (f x))) e ∙ go o
  where
    go : (o : Option RuleAt) → if_ok (unless_at o a) (λ x. Ok (f x)) ≡ unless_at o (f a)
    go None = refl
    go (Some at) = refl

-- a type system
module _ {A : Type 0} (rows : Rows A) where
  abbrev needs_of : Tree → List Need
  needs_of node = (row_of rows node).needs

  -- the first requirement of a list of nodes that is false
  abbrev first_false : (first : ℕ) → List Tree → Option RuleAt
  first_false first [] = None
  first_false first (t ∷ ts) = at_node first (broken (needs_of t)) (first_false (first + 1) ts)

  first_false-append : (first middle : ℕ) (ts us : List Tree) → middle ≡ first + length ts → first_false first (ts ++ us) ≡ option_or (first_false first ts) (first_false middle us)
  first_false-append first middle [] us at = ap (λ n. first_false n us) (omega (arith, at))
  first_false-append first middle (t ∷ ts) us at = go (broken (needs_of t)) (first_false-append (first + 1) middle ts us (omega (arith, at)))
    where
      go : (o : Option Rule) → first_false (first + 1) (ts ++ us) ≡ option_or (first_false (first + 1) ts) (first_false middle us)
          → at_node first o (first_false (first + 1) (ts ++ us)) ≡ option_or (at_node first o (first_false (first + 1) ts)) (first_false middle us)
      go None rest = rest
      go (Some rule) rest = refl

  root : (node : ℕ) (t : Tree) → answer node (row_of rows t) ≡ unless_at (first_false node (t ∷ [])) (row_of rows t).gives
  root node t = answer-is node (needs_of t) (row_of rows t).gives

  -- the answer is the first of all nodes
  mutual
    pub typed-is : (first : ℕ) (t : Tree) → typed_from rows first t ≡ unless_at (first_false first (all_nodes t)) (gives rows t)
    typed-is first (and_or x y z) =
        rw (append_assoc (all_nodes x ++ all_nodes y) (all_nodes z) (and_or x y z ∷ []))
        (rw (append_assoc (all_nodes x) (all_nodes y) (all_nodes z ++ and_or x y z ∷ []))
        (rw (first_false-append first (first + nodes x) (all_nodes x) (all_nodes y ++ (all_nodes z ++ and_or x y z ∷ [])) (omega (arith, nodes_are_all x)))
        (rw (first_false-append (first + nodes x) (first + nodes x + nodes y) (all_nodes y) (all_nodes z ++ and_or x y z ∷ []) (omega (arith, nodes_are_all y)))
        (rw (first_false-append (first + nodes x + nodes y) (first + nodes x + nodes y + nodes z) (all_nodes z) (and_or x y z ∷ []) (omega (arith, nodes_are_all z)))
        (step (typed_from rows first x) _ _ _ (gives rows x) (gives rows (and_or x y z)) (typed-is first x)
        (step (typed_from rows (first + nodes x) y) _ _ _ (gives rows y) (gives rows (and_or x y z)) (typed-is (first + nodes x) y)
        (step (typed_from rows (first + nodes x + nodes y) z) _ _ _ (gives rows z) (gives rows (and_or x y z)) (typed-is (first + nodes x + nodes y) z)
        (root (first + nodes x + nodes y + nodes z) (and_or x y z)))))))))
    typed-is first (two kind x y) =
        rw (append_assoc (all_nodes x) (all_nodes y) (two kind x y ∷ []))
        (rw (first_false-append first (first + nodes x) (all_nodes x) (all_nodes y ++ two kind x y ∷ []) (omega (arith, nodes_are_all x)))
        (rw (first_false-append (first + nodes x) (first + nodes x + nodes y) (all_nodes y) (two kind x y ∷ []) (omega (arith, nodes_are_all y)))
        (step (typed_from rows first x) _ _ _ (gives rows x) (gives rows (two kind x y)) (typed-is first x)
        (step (typed_from rows (first + nodes x) y) _ _ _ (gives rows y) (gives rows (two kind x y)) (typed-is (first + nodes x) y)
        (root (first + nodes x + nodes y) (two kind x y))))))
    typed-is first (thresh k xs) =
        rw (first_false-append first (first + nodes_of xs) (nodes_of_all xs) (thresh k xs ∷ []) (omega (arith, trees_are_all xs)))
        (step (typed_each rows first xs) _ _ _ (gives_each rows xs) (gives rows (thresh k xs)) (typed_each-is first xs)
        (root (first + nodes_of xs) (thresh k xs)))
    typed-is first (wrap wrapper x) =
        rw (first_false-append first (first + nodes x) (all_nodes x) (wrap wrapper x ∷ []) (omega (arith, nodes_are_all x)))
        (step (typed_from rows first x) _ _ _ (gives rows x) (gives rows (wrap wrapper x)) (typed-is first x)
        (root (first + nodes x) (wrap wrapper x)))
    typed-is first leaf = root first leaf

    pub typed_each-is : (first : ℕ) (xs : Trees) → typed_each rows first xs ≡ unless_at (first_false first (nodes_of_all xs)) (gives_each rows xs)
    typed_each-is first none = refl
    typed_each-is first (more x xs) =
        rw (first_false-append first (first + nodes x) (all_nodes x) (nodes_of_all xs) (omega (arith, nodes_are_all x)))
        (step (typed_from rows first x) _ _ _ (gives rows x) (gives_each rows (more x xs)) (typed-is first x)
        (last_step (typed_each rows (first + nodes x) xs) (λ types. gives rows x ∷ types) _ (gives_each rows xs) (typed_each-is (first + nodes x) xs)))

  -- each node of a list meets its requirements
  abbrev EachMet : List Tree → Type 0
  EachMet [] = ⊤
  EachMet (t ∷ ts) = AllHold (needs_of t) × EachMet ts

  each_met-append : (ts us : List Tree) → EachMet (ts ++ us) ↔ (EachMet ts × EachMet us)
  each_met-append [] us = (λ h. (tt, h), λ h. h.1)
  each_met-append (t ∷ ts) us =
      let rest = each_met-append ts us in
      (λ h. ((h.0, (rest.0 h.1).0), (rest.0 h.1).1), λ h. (h.0.0, rest.1 (h.0.1, h.1)))

  each_met_from_places : (ts : List Tree) → ((n : ℕ) (t : Tree) → slice_get ts n ≡ Some t → AllHold (needs_of t)) → EachMet ts
  each_met_from_places [] h = tt
  each_met_from_places (t ∷ ts) h = (h zero t refl, each_met_from_places ts (λ n u e. h (suc n) u e))

  places_from_each_met : (ts : List Tree) → EachMet ts → (n : ℕ) (t : Tree) → slice_get ts n ≡ Some t → AllHold (needs_of t)
  places_from_each_met [] h n t e = cc
  places_from_each_met (u ∷ ts) h zero t e = let same : u ≡ t = cc in subst (λ (v : Tree). AllHold (needs_of v)) same h.0
  places_from_each_met (u ∷ ts) h (suc n) t e = places_from_each_met ts h.1 n t e

  -- then none is false, and where none is each does
  first_false-met : (first : ℕ) (ts : List Tree) → EachMet ts → first_false first ts ≡ None
  first_false-met first [] h = refl
  first_false-met first (t ∷ ts) h = rw (broken-held (needs_of t) h.0) (first_false-met (first + 1) ts h.1)

  met_from_first : (first : ℕ) (ts : List Tree) → first_false first ts ≡ None → EachMet ts
  met_from_first first [] e = tt
  met_from_first first (t ∷ ts) e = go (broken (needs_of t)) refl (met_from_first (first + 1) ts) e
    where
      go : (o : Option Rule) → broken (needs_of t) ≡ o → (first_false (first + 1) ts ≡ None → EachMet ts) → at_node first o (first_false (first + 1) ts) ≡ None → AllHold (needs_of t) × EachMet ts
      go None p rest e = (held_from_broken (needs_of t) p, rest e)
      go (Some rule) p rest e = cc

  -- a requirement of the node at place k of a list is its first one that is false
  abbrev FirstOfList : List Tree → Rule → ℕ → Type 0
  FirstOfList ts rule k =
      ((node : Tree) × (slice_get ts k ≡ Some node) × ((place : ℕ) × FirstOfRow (needs_of node) rule place)) ×
      ((n : ℕ) (t : Tree) → n < k → slice_get ts n ≡ Some t → AllHold (needs_of t))

  first_from_false : (first : ℕ) (ts : List Tree) (at : RuleAt) → first_false first ts ≡ Some at → (k : ℕ) × (at.node ≡ first + k) × FirstOfList ts at.rule k
  first_from_false first [] at e = cc
  first_from_false first (t ∷ ts) at e = go (broken (needs_of t)) refl (first_from_false (first + 1) ts at) e
    where
      none_before : (k : ℕ) → AllHold (needs_of t) → ((n : ℕ) (u : Tree) → n < k → slice_get ts n ≡ Some u → AllHold (needs_of u)) → (n : ℕ) (u : Tree)
          → n < suc k → slice_get (t ∷ ts) n ≡ Some u → AllHold (needs_of u)
      none_before k here rest zero u below e = let same : t ≡ u = cc in subst (λ (v : Tree). AllHold (needs_of v)) same here
      none_before k here rest (suc n) u below e = rest n u (omega arith) e

      go : (o : Option Rule) → broken (needs_of t) ≡ o → (first_false (first + 1) ts ≡ Some at → (k : ℕ) × (at.node ≡ first + 1 + k) × FirstOfList ts at.rule k)
          → at_node first o (first_false (first + 1) ts) ≡ Some at → (k : ℕ) × (at.node ≡ first + k) × FirstOfList (t ∷ ts) at.rule k
      go None p rest e =
          let r = rest e in
          (suc r.0, (let s = r.1 in omega arith), (r.2.0, none_before r.0 (held_from_broken (needs_of t) p) r.2.1))
      go (Some rule) p rest e =
          let node : first ≡ at.node = ap (λ (o : Option RuleAt). node_or o 0) e in
          let same : rule ≡ at.rule = cc in
          (zero, omega arith, ((t, refl, first_from_broken (needs_of t) at.rule (p ∙ ap (λ (r : Rule). Some r) same)), λ n u below h. absurd (omega arith)))
        where
          node_or : Option RuleAt → ℕ → ℕ
          node_or None n = n
          node_or (Some at) n = at.node

  false_from_first : (first : ℕ) (ts : List Tree) (rule : Rule) (k : ℕ) → FirstOfList ts rule k → first_false first ts ≡ Some (record { node = first + k; rule = rule })
  false_from_first first [] rule k h = let e = h.0.1 in cc
  false_from_first first (t ∷ ts) rule zero h =
      let same : t ≡ h.0.0 = let e = h.0.1 in cc in
      let p : broken (needs_of t) ≡ Some rule = rw same (broken-first (needs_of h.0.0) rule h.0.2.0 h.0.2.1) in
      let e : first ≡ first + 0 = omega arith in
      rw p (ap (λ (n : ℕ). Some (record { node = n; rule = rule })) e)
  false_from_first first (t ∷ ts) rule (suc k) h =
      let p : broken (needs_of t) ≡ None = broken-held (needs_of t) (h.1 zero t (omega arith) refl) in
      let e : first + 1 + k ≡ first + suc k = omega arith in
      rw (p, ← e) (false_from_first (first + 1) ts rule k (h.0, λ n u below s. h.1 (suc n) u (omega arith) s))

  -- the same by recursion
  mutual
    met_is : (t : Tree) → IsMet rows t ↔ EachMet (all_nodes t)
    met_is (and_or x y z) =
        let all = each_met-append (all_nodes x ++ all_nodes y ++ all_nodes z) (and_or x y z ∷ []) in
        let three = each_met-append (all_nodes x ++ all_nodes y) (all_nodes z) in
        let pair = each_met-append (all_nodes x) (all_nodes y) in (
          λ h. all.1 (three.1 (pair.1 ((met_is x).0 h.0, (met_is y).0 h.1), (met_is z).0 h.2), (h.3, tt)),
          λ h.
              let l = three.0 (all.0 h).0 in
              let m = pair.0 l.0 in
              ((met_is x).1 m.0, (met_is y).1 m.1, (met_is z).1 l.1, (all.0 h).1.0),
        )
    met_is (two kind x y) =
        let all = each_met-append (all_nodes x ++ all_nodes y) (two kind x y ∷ []) in
        let pair = each_met-append (all_nodes x) (all_nodes y) in (
          λ h. all.1 (pair.1 ((met_is x).0 h.0, (met_is y).0 h.1), (h.2, tt)),
          λ h. let m = pair.0 (all.0 h).0 in ((met_is x).1 m.0, (met_is y).1 m.1, (all.0 h).1.0),
        )
    met_is (thresh k xs) =
        let all = each_met-append (nodes_of_all xs) (thresh k xs ∷ []) in
        (λ h. all.1 ((are_met xs).0 h.0, (h.1, tt)), λ h. ((are_met xs).1 (all.0 h).0, (all.0 h).1.0))
    met_is (wrap wrapper x) =
        let all = each_met-append (all_nodes x) (wrap wrapper x ∷ []) in
        (λ h. all.1 ((met_is x).0 h.0, (h.1, tt)), λ h. ((met_is x).1 (all.0 h).0, (all.0 h).1.0))
    met_is leaf = (λ h. (h, tt), λ h. h.0)

    are_met : (xs : Trees) → AreMet rows xs ↔ EachMet (nodes_of_all xs)
    are_met none = (λ h. tt, λ h. tt)
    are_met (more x xs) =
        let pair = each_met-append (all_nodes x) (nodes_of_all xs) in
        (λ h. pair.1 ((met_is x).0 h.0, (are_met xs).0 h.1), λ h. ((met_is x).1 (pair.0 h).0, (are_met xs).1 (pair.0 h).1))

  -- so of a tree
  pub met_means : (t : Tree) → IsMet rows t ↔ EveryHolds rows t
  met_means t = (λ h. places_from_each_met (all_nodes t) ((met_is t).0 h), λ h. (met_is t).1 (each_met_from_places (all_nodes t) h))

  value_from : (o : Option RuleAt) (a b : A) → unless_at o a ≡ Ok b → (o ≡ None) × (b ≡ a)
  value_from None a b e = (refl, cc)
  value_from (Some at) a b e = cc

  refusal_from : (o : Option RuleAt) (a : A) (at : RuleAt) → unless_at o a ≡ Err at → o ≡ Some at
  refusal_from None a at e = cc
  refusal_from (Some other) a at e = cc

  pub typed_is_met : (t : Tree) (a : A) → (typed_from rows 0 t ≡ Ok a) ↔ (IsMet rows t × (a ≡ gives rows t))
  typed_is_met t a = (
    λ e. let v = value_from (first_false 0 (all_nodes t)) (gives rows t) a (sym (typed-is 0 t) ∙ e) in ((met_is t).1 (met_from_first 0 (all_nodes t) v.0), v.1),
    λ h. typed-is 0 t ∙ rw (first_false-met 0 (all_nodes t) ((met_is t).0 h.0)) (ap (λ (b : A). Ok b) (sym h.1)),
  )

  pub typed_is_every : (t : Tree) (a : A) → (typed_from rows 0 t ≡ Ok a) ↔ (EveryHolds rows t × (a ≡ gives rows t))
  typed_is_every t a = (
    λ e. let h = (typed_is_met t a).0 e in ((met_means t).0 h.0, h.1),
    λ h. (typed_is_met t a).1 ((met_means t).1 h.0, h.1),
  )

  pub refused_is_first : (t : Tree) (at : RuleAt) → (typed_from rows 0 t ≡ Err at) ↔ IsFirstFalse rows t at
  refused_is_first t at = (forth, back)
    where
      forth : typed_from rows 0 t ≡ Err at → IsFirstFalse rows t at
      forth e =
          let f = first_from_false 0 (all_nodes t) at (refusal_from (first_false 0 (all_nodes t)) (gives rows t) at (sym (typed-is 0 t) ∙ e)) in
          let same : f.0 ≡ at.node = let s = f.1 in omega arith in
          let g : FirstOfList (all_nodes t) at.rule at.node = subst (λ (n : ℕ). FirstOfList (all_nodes t) at.rule n) same f.2 in
          record {
            node = g.0.0;
            place = g.0.2.0;
            is_node = g.0.1;
            is_false = g.0.2.1.0;
            before = g.0.2.1.1;
            earlier = g.1;
          }

      back : IsFirstFalse rows t at → typed_from rows 0 t ≡ Err at
      back h =
          let f = false_from_first 0 (all_nodes t) at.rule at.node ((h.node, h.is_node, (h.place, (h.is_false, h.before))), h.earlier) in
          let zero_more : 0 + at.node ≡ at.node = omega arith in
          let g : first_false 0 (all_nodes t) ≡ Some at = f ∙ ap (λ (n : ℕ). Some (record { node = n; rule = at.rule })) zero_more in
          typed-is 0 t ∙ rw g refl

-- of both
pub correctness_is_typed : (tree : Tree) (ty : CorrectnessType) → (correctness_of tree ≡ Ok ty) ↔ (IsTyped tree × (ty ≡ type_of tree))
correctness_is_typed tree ty = typed_is_met correctness tree ty

pub malleability_is_typed : (tree : Tree) (properties : MalleabilityProperties) → (malleability_of tree ≡ Ok properties) ↔ (IsMalleabilityTyped tree × (properties ≡ properties_of tree))
malleability_is_typed tree properties = typed_is_met malleability tree properties

pub correctness_is_every : CorrectnessIsTyped
correctness_is_every tree ty = typed_is_every correctness tree ty

pub correctness_is_first : CorrectnessIsFirst
correctness_is_first tree at = refused_is_first correctness tree at

pub malleability_is_every : MalleabilityIsTyped
malleability_is_every tree properties = typed_is_every malleability tree properties

pub malleability_is_first : MalleabilityIsFirst
malleability_is_first tree at = refused_is_first malleability tree at

pub typed_means : TypedMeans
typed_means tree = met_means correctness tree

pub non_malleable_means : NonMalleableMeans
non_malleable_means tree = met_means malleability tree
