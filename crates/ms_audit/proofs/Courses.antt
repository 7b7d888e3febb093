-- The walk as the code goes it, over a child, and then over what follows.
use Rattle.std.proofs.Common.{◌≡◌, ◌≢◌, ℕ, suc, ◌+◌, ◌<◌, ◌≤◌, ◌==◌, ◌⊎◌, not, Bool, true, false, List, [], ◌∷◌, ◌++◌, length, get_or, drop, Option, Some, None, Result, Ok, Err, refl, sym, ◌∙◌, ap, subst, inl, inr, arith, add-one, drop-cons, if◌then◌else◌}
use Rattle.std.specs.Prelude.{IfOk}
use Rattle.std.proofs.lemmas.Bool.{false≢true}
use Rattle.std.proofs.lemmas.Option.{none-some}
use Rattle.std.proofs.lemmas.List.{append-nil, append_assoc}
use Rattle.def_script.specs.Bytes.{Bytes}
use Rattle.def_machine.specs.Stacks.{Stack}
use Rattle.def_machine.specs.Machine.{Given}
use Rattle.def_tree.specs.declared.Two.{Two}
use Rattle.def_tree.specs.declared.Two.TheVariants as kind
use Rattle.def_tree.specs.declared.Wrapper.{Wrapper}
use Rattle.def_tree.specs.Tree.{Tree, Trees, two, thresh, wrap, more}
use Rattle.def_tree.specs.Size.{nodes, nodes_of}
use Rattle.def_audit.specs.declared.Step.{Step}
use Rattle.ms_tree.specs.declared.tree.Leaf.{Leaf}
use Rattle.ms_tree.specs.declared.tree.Leaf.TheVariants as leaf
use Rattle.ms_tree.specs.declared.tree.Tree as code_tree
use Rattle.ms_tree.specs.Shape.{leaf_shape, shape, shapes}
use Rattle.ms_audit_laws.specs.Walk.{Found, Counted, Walker, Verdict, Next, ends, goes, with_step, next, go_on, walk_child, count_on, count_behind, count_verdict, walk, walk_all, after_and_v, after_and_b, after_or_b, after_or_c, after_or_d}
use Rattle.ms_audit_laws.proofs.Walks.{some_is, own}
use Rattle.ms_audit.specs.declared.course.Course.{Course}
use Rattle.ms_audit.specs.declared.course.WalkStop.{WalkStop}
use Rattle.ms_audit.specs.Scaffolding.Parts.{is_dsat, verdict_of_and_or, verdict_of_two, verdict_of_wrap, ends_two}
use Rattle.ms_audit.specs.Scaffolding.Walking.{below, behind, Finds, Ends, Walks, Passes, wrapped, Chooses, added, Counts}

-- what was found behind the steps from before
behind_some : (o : Option Found) (steps : List Step) (g : Found) → behind steps o ≡ Some g → (f : Found) × (o ≡ Some f) × (f.sat ≡ g.sat) × (steps ++ f.steps ≡ g.steps) × (f.rest ≡ g.rest)
behind_some None steps g e = absurd (none-some g e)
behind_some (Some f) steps g e =
    let h = some_is (record { sat = f.sat; steps = steps ++ f.steps; rest = f.rest }) g e in
    (f, refl, ap (λ (x : Found). x.sat) h, ap (λ (x : Found). x.steps) h, ap (λ (x : Found). x.rest) h)

pub behind-with_step : (steps before : List Step) (node : ℕ) (v : Verdict) (rest : Stack) → behind steps (with_step node v before rest) ≡ with_step node v (steps ++ before) rest
behind-with_step steps before node None rest = refl
behind-with_step steps before node (Some v) rest =
    ap (λ (s : List Step). Some (record { sat = v.0; steps = s; rest = rest })) (sym (append_assoc steps before (own node v.0 v.1 ∷ [])))

-- a child, and nothing more
pub child_end : (node : ℕ) (w : Walker) (follow : Bool → Next) (steps : List Step) (s : Stack) (sat : Bool) (after : List Step) (rest : Stack) (v : Verdict) →
    behind steps (w s) ≡ Some (record { sat = sat; steps = after; rest = rest }) → follow sat ≡ ends v →
    behind steps (walk_child node w follow s) ≡ with_step node v after rest
child_end node w follow steps s sat after rest v e is =
    let h = behind_some (w s) steps _ e in
    let f = h.0 in
    ap (λ o. behind steps (next o (λ first. go_on node (follow first.sat) first))) h.1
    ∙ ap (λ n. behind steps (go_on node n f)) (ap follow h.2 ∙ is)
    ∙ behind-with_step steps f.steps node v f.rest
    ∙ ap (λ t. with_step node v t f.rest) h.3
    ∙ ap (with_step node v after) h.4

-- a child, and another one
pub child_go : (node : ℕ) (w second : Walker) (follow : Bool → Next) (verdict : Bool → Verdict) (steps : List Step) (s : Stack)
    (a : Bool) (middle : List Step) (between : Stack) (b : Bool) (after : List Step) (rest : Stack) →
    behind steps (w s) ≡ Some (record { sat = a; steps = middle; rest = between }) → follow a ≡ goes second verdict →
    behind middle (second between) ≡ Some (record { sat = b; steps = after; rest = rest }) →
    behind steps (walk_child node w follow s) ≡ with_step node (verdict b) after rest
child_go node w second follow verdict steps s a middle between b after rest e is e2 =
    let h = behind_some (w s) steps _ e in
    let f = h.0 in
    let k = behind_some (second between) middle _ e2 in
    let g = k.0 in
    ap (λ o. behind steps (next o (λ first. go_on node (follow first.sat) first))) h.1
    ∙ ap (λ n. behind steps (go_on node n f)) (ap follow h.2 ∙ is)
    ∙ ap (λ o. behind steps (next o (λ x. with_step node (verdict x.sat) (f.steps ++ x.steps) x.rest))) (ap second h.4 ∙ k.1)
    ∙ behind-with_step steps (f.steps ++ g.steps) node (verdict g.sat) g.rest
    ∙ ap (λ t. with_step node (verdict g.sat) t g.rest) (sym (append_assoc steps f.steps g.steps) ∙ ap (λ t. t ++ g.steps) h.3 ∙ k.3)
    ∙ ap (λ (v : Bool). with_step node (verdict v) after g.rest) k.2
    ∙ ap (with_step node (verdict b) after) k.4

-- the node's own step ends its walk
next_on : (result : Result Bool WalkStop) (n m p : ℕ) → m + 1 ≡ p → IfOk result (λ sat. n ≡ m + 1) → IfOk result (λ sat. n ≡ p)
next_on (Ok sat) n m p e h = h ∙ e
next_on (Err e') n m p e h = tt

pub finish : (given : Given) (stack : List Bytes) (tree : Tree) (s b c : Course) (result : Result Bool WalkStop) (v : Verdict) →
    behind s.steps.items (walk given s.next tree (below stack s.left)) ≡ with_step b.next v b.steps.items (below stack b.left) →
    b.next + 1 ≡ s.next + nodes tree → b.left ≤ length stack → Ends v b c result → Walks given stack tree s c result
finish given stack tree s b c result v e n l h = record {
  found = subst (Finds result c.steps.items (below stack c.left)) (sym (e ∙ ap (λ (m : ℕ). with_step b.next v b.steps.items (below stack m)) (sym h.left))) (h.found (below stack c.left));
  next = next_on result c.next b.next (s.next + nodes tree) n h.next;
  left = let same = h.left in omega (arith, same, l);
}

-- the same verdict
pub ends_by : (v w : Verdict) (b c : Course) (result : Result Bool WalkStop) → v ≡ w → Ends v b c result → Ends w b c result
ends_by v w b c result e h = subst (λ v. Ends v b c result) e h

-- the next node is another one, where a child is passed over or none is
pub stays : (a : Course) (next : ℕ) → a.next ≡ next → Passes a a next
stays a next e = record { next = e; left = refl; steps = refl }

passes_to : (a b : Course) (n m : ℕ) → n ≡ m → Passes a b n → Passes a b m
passes_to a b n m e p = record { next = p.next ∙ e; left = p.left; steps = p.steps }

passed_step : (stack : List Bytes) (a b : Course) (n : ℕ) (v : Verdict) → Passes a b n →
    with_step n v a.steps.items (below stack a.left) ≡ with_step b.next v b.steps.items (below stack b.left)
passed_step stack a b n v p =
    ap (λ (m : ℕ). with_step m v a.steps.items (below stack a.left)) (sym p.next)
    ∙ ap (λ (t : List Step). with_step b.next v t (below stack a.left)) (sym p.steps)
    ∙ ap (λ (l : ℕ). with_step b.next v b.steps.items (below stack l)) (sym p.left)

-- a fragment none of whose children takes part, from where an item was taken or none
pub own_done : (given : Given) (stack : List Bytes) (tree : Tree) (s b d c : Course) (result : Result Bool WalkStop) (node : ℕ) (v : Verdict) →
    b.steps.items ≡ s.steps.items → walk given s.next tree (below stack s.left) ≡ with_step node v [] (below stack b.left) → b.left ≤ length stack →
    Passes b d node → node + 1 ≡ s.next + nodes tree → Ends v d c result → Walks given stack tree s c result
own_done given stack tree s b d c result node v steps is l p n done =
    finish given stack tree s d c result v
    (ap (behind s.steps.items) is
    ∙ behind-with_step s.steps.items [] node v (below stack b.left)
    ∙ ap (λ (t : List Step). with_step node v t (below stack b.left)) (append-nil s.steps.items ∙ sym steps)
    ∙ passed_step stack b d node v p)
    (let at = p.next in omega (arith, at, n))
    (let same = p.left in omega (arith, same, l)) done

pub leaf_nodes : (l : Leaf) → nodes (leaf_shape l) ≡ 1
leaf_nodes leaf.Zero = refl
leaf_nodes leaf.One = refl
leaf_nodes (leaf.PkK key) = refl
leaf_nodes (leaf.PkH key) = refl
leaf_nodes (leaf.Older n) = refl
leaf_nodes (leaf.After n) = refl
leaf_nodes (leaf.Hash value) = refl

-- one child takes part, from where an item was taken or none, and `node` is the number of the fragment's own step
child_done : (given : Given) (stack : List Bytes) (tree x : Tree) (s a b d c : Course) (result : Result Bool WalkStop) (sat : Bool) (node : ℕ) (follow : Bool → Next) (v : Verdict) →
    a.steps.items ≡ s.steps.items → walk given s.next tree (below stack s.left) ≡ walk_child node (walk given a.next x) follow (below stack a.left) →
    Walks given stack x a b (Ok sat) → follow sat ≡ ends v → Passes b d node → node + 1 ≡ s.next + nodes tree → Ends v d c result → Walks given stack tree s c result
child_done given stack tree x s a b d c result sat node follow v steps is h f p n done =
    finish given stack tree s d c result v
    (ap (λ (t : List Step). behind t (walk given s.next tree (below stack s.left))) (sym steps)
    ∙ ap (behind a.steps.items) is
    ∙ child_end node (walk given a.next x) follow a.steps.items (below stack a.left) sat b.steps.items (below stack b.left) v h.found f
    ∙ passed_step stack b d node v p)
    (let at = p.next in omega (arith, at, n))
    (let same = p.left in let few = h.left in omega (arith, same, few)) done

-- a wrapper whose child takes no part, or takes part
pub wrap_empty_done : (given : Given) (stack : List Bytes) (w : Wrapper) (x : Tree) (s a d c : Course) (result : Result Bool WalkStop) (item : Option Bool) →
    Chooses w (Ok item) (below stack s.left) (below stack a.left) → is_dsat item ≡ true → a.steps.items ≡ s.steps.items → a.next ≡ s.next →
    a.left ≤ length stack → Passes a d (a.next + nodes x) → Ends (verdict_of_wrap w item None) d c result → Walks given stack (wrap w x) s c result
wrap_empty_done given stack w x s a d c result item choice is steps same l p done =
    own_done given stack (wrap w x) s a d c result (s.next + nodes x) (verdict_of_wrap w item None) steps
    (choice given s.next x ∙ ap (λ (b : Bool). wrapped w item b (s.next + nodes x) (walk given s.next x) (below stack a.left)) is) l
    (passes_to a d _ _ (omega (arith, same)) p) (omega arith) done

pub wrap_done : (given : Given) (stack : List Bytes) (w : Wrapper) (x : Tree) (s a b c : Course) (result : Result Bool WalkStop) (item : Option Bool) (sat : Bool) →
    Chooses w (Ok item) (below stack s.left) (below stack a.left) → is_dsat item ≡ false → a.steps.items ≡ s.steps.items → a.next ≡ s.next →
    Walks given stack x a b (Ok sat) → Ends (verdict_of_wrap w item (Some sat)) b c result → Walks given stack (wrap w x) s c result
wrap_done given stack w x s a b c result item sat choice is steps same h done =
    child_done given stack (wrap w x) x s a b b c result sat (a.next + nodes x) (λ sat. ends (verdict_of_wrap w item (Some sat))) (verdict_of_wrap w item (Some sat)) steps
    (choice given s.next x ∙ ap (λ (b : Bool). wrapped w item b (s.next + nodes x) (walk given s.next x) (below stack a.left)) is
    ∙ ap (λ (n : ℕ). wrapped w item false (n + nodes x) (walk given n x) (below stack a.left)) (sym same))
    h refl (stays b _ h.next) (omega (arith, same)) done

-- `andor`, where X is satisfied and where it isn't; `or_i`, where the first child is chosen and where the other one is
module _ (sat : Bool) where
  pub and_or_y : verdict_of_and_or (Some true) (Some sat) None ≡ Some (sat, not sat)
  unfolding verdict_of_and_or
  and_or_y = grind arith

  pub and_or_z : verdict_of_and_or (Some false) None (Some sat) ≡ Some (sat, false)
  unfolding verdict_of_and_or
  and_or_z = grind arith

  pub or_i_x : verdict_of_two kind.OrI (Some true) (Some sat) None ≡ Some (sat, false)
  unfolding verdict_of_two
  or_i_x = grind arith

  pub or_i_z : verdict_of_two kind.OrI (Some false) None (Some sat) ≡ Some (sat, false)
  unfolding verdict_of_two
  or_i_z = grind arith

-- what follows the first of two children
two_next : Two → Walker → Bool → Next
two_next kind.AndV w = after_and_v w
two_next kind.AndB w = after_and_b w
two_next kind.OrB w = after_or_b w
two_next kind.OrC w = after_or_c w
two_next kind.OrD w = after_or_d w
two_next kind.OrI w = λ first. ends None

-- the verdict that follows a child, by what was found of another one
abbrev verdict_in : Next → Bool → Verdict
verdict_in (ends v) second = v
verdict_in (goes w verdict) second = verdict second

two_verdict : (k : Two) (w : Walker) (first second : Bool) → verdict_in (two_next k w first) second ≡ verdict_of_two k None (Some first) (Some second)
unfolding two_next verdict_of_two
two_verdict k w first second = grind arith

same_next : (w : Walker) (f g : Bool → Verdict) → ((second : Bool) → f second ≡ g second) → goes w f ≡ goes w g
same_next w f g h = λ i. goes w (λ second. h second i)

two_ends : (k : Two) (w : Walker) (first : Bool) → ends_two k first ≡ true → two_next k w first ≡ ends (verdict_of_two k None (Some first) None)
unfolding two_next verdict_of_two
two_ends k w first e = grind (arith, e)

two_goes : (k : Two) (w : Walker) (first : Bool) → k ≢ kind.OrI → ends_two k first ≡ false →
    (two_next k w first ≡ goes w (λ second. verdict_of_two k None (Some first) (Some second)))
    ⊎ ((two_next k w first ≡ ends None) × ((second : Bool) → verdict_of_two k None (Some first) (Some second) ≡ None))
unfolding two_next verdict_of_two
two_goes kind.AndV w true n e = inl (same_next w _ _ (two_verdict kind.AndV w true))
two_goes kind.AndV w false n e = inr (refl, λ second. sym (two_verdict kind.AndV w false second))
two_goes kind.AndB w true n e = inl (same_next w _ _ (two_verdict kind.AndB w true))
two_goes kind.AndB w false n e = inl (same_next w _ _ (two_verdict kind.AndB w false))
two_goes kind.OrB w true n e = inl (same_next w _ _ (two_verdict kind.OrB w true))
two_goes kind.OrB w false n e = inl (same_next w _ _ (two_verdict kind.OrB w false))
two_goes kind.OrI w first n e = absurd (n refl)
two_goes other w true n e = absurd (false≢true (sym e))
two_goes other w false n e = inl (same_next w _ _ (two_verdict other w false))

two_is : (given : Given) (n : ℕ) (k : Two) (x z : Tree) (s : Stack) → k ≢ kind.OrI → walk given n (two k x z) s
    ≡ walk_child (n + nodes x + nodes z) (walk given n x) (two_next k (walk given (n + nodes x) z)) s
unfolding two_next
two_is given n kind.OrI x z s differs = absurd (differs refl)
two_is given n other x z s differs = refl

-- the first of two children is enough
pub first_done : (given : Given) (stack : List Bytes) (k : Two) (x z : Tree) (s a d c : Course) (result : Result Bool WalkStop) (first : Bool) →
    k ≢ kind.OrI → Walks given stack x s a (Ok first) → ends_two k first ≡ true → Passes a d (a.next + nodes z) →
    Ends (verdict_of_two k None (Some first) None) d c result → Walks given stack (two k x z) s c result
first_done given stack k x z s a d c result first differs h e p done =
    let at : a.next ≡ s.next + nodes x = h.next in
    child_done given stack (two k x z) x s s a d c result first (s.next + nodes x + nodes z) (two_next k (walk given (s.next + nodes x) z)) _
    refl (two_is given s.next k x z (below stack s.left) differs) h (two_ends k (walk given (s.next + nodes x) z) first e)
    (passes_to a d _ _ (omega (arith, at)) p) (omega arith) done

-- both take part
pub two_done : (given : Given) (stack : List Bytes) (k : Two) (x z : Tree) (s a b c : Course) (result : Result Bool WalkStop) (first second : Bool) →
    k ≢ kind.OrI → Walks given stack x s a (Ok first) → ends_two k first ≡ false → Walks given stack z a b (Ok second) →
    Ends (verdict_of_two k None (Some first) (Some second)) b c result → Walks given stack (two k x z) s c result
two_done given stack k x z s a b c result first second differs h e h2 done =
    let at : a.next ≡ s.next + nodes x = h.next in
    let end : b.next ≡ a.next + nodes z = h2.next in
    let node : b.next ≡ s.next + nodes x + nodes z = omega (arith, at, end) in
    let follow = two_next k (walk given (s.next + nodes x) z) in
    finish given stack (two k x z) s b c result (verdict_of_two k None (Some first) (Some second))
    (ap (behind s.steps.items) (two_is given s.next k x z (below stack s.left) differs)
    ∙ elim (two_goes k (walk given (s.next + nodes x) z) first differs e) [
      | inl goes_on ↦
          child_go (s.next + nodes x + nodes z) (walk given s.next x) (walk given (s.next + nodes x) z) follow
          (λ second. verdict_of_two k None (Some first) (Some second)) s.steps.items (below stack s.left)
          first a.steps.items (below stack a.left) second b.steps.items (below stack b.left) h.found goes_on
          (ap (λ (m : ℕ). behind a.steps.items (walk given m z (below stack a.left))) (sym at) ∙ h2.found)
      | inr stops ↦
          child_end (s.next + nodes x + nodes z) (walk given s.next x) follow s.steps.items
          (below stack s.left) first a.steps.items (below stack a.left) None h.found stops.0
          ∙ ap (λ v. with_step (s.next + nodes x + nodes z) v b.steps.items (below stack b.left)) (sym (stops.1 second))
    ]
    ∙ passed_step stack b b (s.next + nodes x + nodes z) (verdict_of_two k None (Some first) (Some second)) (stays b _ node))
    (omega (arith, node)) h2.left done

-- a threshold
added_some : (o : Option Counted) (steps : List Step) (g : Counted) → added 0 steps o ≡ Some g → (f : Counted) × (o ≡ Some f) × (f.count ≡ g.count) × (steps ++ f.steps ≡ g.steps) × (f.rest ≡ g.rest)
added_some None steps g e = absurd (none-some g e)
added_some (Some f) steps g e =
    let h = some_is (record { count = 0 + f.count; steps = steps ++ f.steps; rest = f.rest }) g e in
    let same : 0 + f.count ≡ g.count = ap (λ (x : Counted). x.count) h in
    (f, refl, omega (arith, same), ap (λ (x : Counted). x.steps) h, ap (λ (x : Counted). x.rest) h)

pub thresh_done : (given : Given) (stack : List Bytes) (k : ℕ) (xs : Trees) (s b c : Course) (result : Result Bool WalkStop) (count : ℕ) →
    Counts given stack xs s b (Ok count) → Ends (count_verdict (count == k) (count == 0)) b c result → Walks given stack (thresh k xs) s c result
thresh_done given stack k xs s b c result count h e =
    let at : b.next ≡ s.next + nodes_of xs = h.next in
    let a = added_some (walk_all given s.next xs (below stack s.left)) s.steps.items _ h.found in
    let f = a.0 in
    finish given stack (thresh k xs) s b c result (count_verdict (count == k) (count == 0))
    (ap (λ o. behind s.steps.items (next o (λ c. with_step (s.next + nodes_of xs) (count_verdict (c.count == k) (c.count == 0)) c.steps c.rest))) a.1
    ∙ behind-with_step s.steps.items f.steps (s.next + nodes_of xs) (count_verdict (f.count == k) (f.count == 0)) f.rest
    ∙ ap (λ (n : ℕ). with_step (s.next + nodes_of xs) (count_verdict (n == k) (n == 0)) (s.steps.items ++ f.steps) f.rest) a.2
    ∙ ap (λ (t : List Step). with_step (s.next + nodes_of xs) (count_verdict (count == k) (count == 0)) t f.rest) a.3
    ∙ ap (with_step (s.next + nodes_of xs) (count_verdict (count == k) (count == 0)) b.steps.items) a.4
    ∙ ap (λ (m : ℕ). with_step m (count_verdict (count == k) (count == 0)) b.steps.items (below stack b.left)) (sym at))
    (omega (arith, at)) h.left e

abbrev some_counted : Counted → Option Counted
some_counted c = Some c

-- one child more is counted, or isn't
counted_some : (n total : ℕ) (steps first after later : List Step) (rest : Stack) → n ≡ total → steps ++ first ≡ after →
    some_counted (record { count = n; steps = steps ++ (first ++ later); rest = rest }) ≡ some_counted (record { count = total; steps = after ++ later; rest = rest })
counted_some n total steps first after later rest e t =
    ap (λ (k : ℕ). Some (record { count = k; steps = steps ++ (first ++ later); rest = rest })) e
    ∙ ap (λ (l : List Step). Some (record { count = total; steps = l; rest = rest })) (sym (append_assoc steps first later) ∙ ap (λ l. l ++ later) t)

counted_added : (count total : ℕ) (steps first after : List Step) (s sat : Bool) (r : Stack) (o : Option Counted) → s ≡ sat → steps ++ first ≡ after →
    total ≡ (if sat then count + 1 else count) → added count steps (count_behind (record { sat = s; steps = first; rest = r }) o) ≡ added total after o
counted_added count total steps first after s sat r None e t is = refl
counted_added count total steps first after true sat r (Some c) e t is =
    let k : total ≡ count + 1 = is ∙ ap (λ (b : Bool). if b then count + 1 else count) (sym e) in
    counted_some (count + suc c.count) (total + c.count) steps first after c.steps c.rest (omega (arith, k)) t
counted_added count total steps first after false sat r (Some c) e t is =
    let k : total ≡ count = is ∙ ap (λ (b : Bool). if b then count + 1 else count) (sym e) in
    counted_some (count + c.count) (total + c.count) steps first after c.steps c.rest (omega (arith, k)) t

added_step : (count : ℕ) (steps : List Step) (o : Option Found) (others : Stack → Option Counted) (sat : Bool) (after : List Step) (rest : Stack) (total : ℕ) →
    behind steps o ≡ Some (record { sat = sat; steps = after; rest = rest }) → total ≡ (if sat then count + 1 else count) → added count steps (count_on others o) ≡ added total after (others rest)
added_step count steps o others sat after rest total e is =
    let h = behind_some o steps _ e in
    let f = h.0 in
    ap (λ o. added count steps (count_on others o)) h.1
    ∙ ap (λ (r : Stack). added count steps (count_behind f (others r))) h.4
    ∙ counted_added count total steps f.steps after f.sat sat f.rest (others rest) h.2 h.3 is

-- the child of a threshold that a loop is at, and those after it
rest_cons : (xs : List code_tree.Tree) (i : ℕ) (x : code_tree.Tree) → i < length xs → x ≡ get_or xs i x → shapes (drop i xs) ≡ more (shape x) (shapes (drop (i + 1) xs))
rest_cons xs i x there at =
    let first : drop i xs ≡ get_or xs i x ∷ drop (i + 1) xs = rw add-one (drop-cons xs i x there) in
    ap shapes first ∙ ap (λ (y : code_tree.Tree). more (shape y) (shapes (drop (i + 1) xs))) (sym at)

pub count_step : (given : Given) (stack : List Bytes) (xs : List code_tree.Tree) (i : ℕ) (x : code_tree.Tree) (a b : Course) (sat : Bool) (count total : ℕ) →
    i < length xs → x ≡ get_or xs i x → Walks given stack (shape x) a b (Ok sat) → total ≡ (if sat then count + 1 else count) →
    added total b.steps.items (walk_all given b.next (shapes (drop (i + 1) xs)) (below stack b.left))
    ≡ added count a.steps.items (walk_all given a.next (shapes (drop i xs)) (below stack a.left))
count_step given stack xs i x a b sat count total there at h is =
    let next : b.next ≡ a.next + nodes (shape x) = h.next in
    sym (
    ap (λ ts. added count a.steps.items (walk_all given a.next ts (below stack a.left))) (rest_cons xs i x there at)
    ∙ added_step count a.steps.items (walk given a.next (shape x) (below stack a.left))
    (walk_all given (a.next + nodes (shape x)) (shapes (drop (i + 1) xs))) sat b.steps.items (below stack b.left) total h.found is
    ∙ ap (λ (n : ℕ). added total b.steps.items (walk_all given n (shapes (drop (i + 1) xs)) (below stack b.left))) (sym next)
    )

-- so many nodes are left
pub nodes_left : (xs : List code_tree.Tree) (i : ℕ) (x : code_tree.Tree) → i < length xs → x ≡ get_or xs i x → nodes_of (shapes (drop i xs)) ≡ nodes (shape x) + nodes_of (shapes (drop (i + 1) xs))
nodes_left xs i x there at = ap nodes_of (rest_cons xs i x there at)

pub few_counted : (sat : Bool) (count index total : ℕ) → total ≡ (if sat then count + 1 else count) → count ≤ index → total ≤ index + 1
few_counted true count index total is few = omega (arith, is, few)
few_counted false count index total is few = omega (arith, is, few)
