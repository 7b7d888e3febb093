-- A walker finds the stacks of a row, each with its steps.
use Rattle.std.proofs.Common.{◌≡◌, ℕ, Bool, true, false, List, [], ◌∷◌, ◌++◌, Option, Some, None, refl, sym, ◌∙◌, ap, subst}
use Rattle.std.proofs.lemmas.Option.{none-some}
use Rattle.std.proofs.lemmas.List.{append-nil, append_assoc}
use Rattle.def_machine.specs.Stacks.{Stack}
use Rattle.def_audit.specs.declared.Step.{Step}
use Rattle.def_audit.specs.TrailSet.{TrailSet, Both, Then}
use Rattle.def_audit.specs.TrailRows.{TrailRow}
use Rattle.ms_audit_laws.specs.Walk.{Found, Walker, Verdict, Next, ends, goes, with_step, next, go_on, walk_child}

-- the stacks that satisfy, or those that dissatisfy
abbrev pub side : TrailRow → Bool → TrailSet
side t true = t.sat
side t false = t.dsat

-- a part of the stack was taken so
abbrev pub Taken : TrailRow → Stack → Found → Type 0
Taken t stack f = (taken : Stack) × side t f.sat taken f.steps × (stack ≡ taken ++ f.rest)

pub record IsWalk (t : TrailRow) (w : Walker) : Type 0 where
  pub sound : (stack : Stack) (f : Found) → w stack ≡ Some f → Taken t stack f
  pub complete : (sat : Bool) (taken : Stack) (steps : List Step) (rest : Stack) → side t sat taken steps → w (taken ++ rest) ≡ Some (record { sat = sat; steps = steps; rest = rest })

-- from the stacks that satisfy and from those that dissatisfy
pub is_walk : (t : TrailRow) (w : Walker) → ((stack : Stack) (f : Found) → w stack ≡ Some f → Taken t stack f) →
    ((taken : Stack) (steps : List Step) (rest : Stack) → t.sat taken steps → w (taken ++ rest) ≡ Some (record { sat = true; steps = steps; rest = rest })) →
    ((taken : Stack) (steps : List Step) (rest : Stack) → t.dsat taken steps → w (taken ++ rest) ≡ Some (record { sat = false; steps = steps; rest = rest })) →
    IsWalk t w
is_walk t w sound sat dsat = record { sound = sound; complete = complete }
  where
    complete : (sat : Bool) (taken : Stack) (steps : List Step) (rest : Stack) → side t sat taken steps →
        w (taken ++ rest) ≡ Some (record { sat = sat; steps = steps; rest = rest })
    complete true = sat
    complete false = dsat

pub some_is : {A : Type 0} (x y : A) → Some x ≡ Some y → x ≡ y
some_is x y e = cc

-- what was found is what there is to find
pub is_found : (t : TrailRow) (stack : Stack) (g f : Found) → Some g ≡ Some f → Taken t stack g → Taken t stack f
is_found t stack g f e h = subst (Taken t stack) (some_is g f e) h

pub none_found : (P : Type 0) (f : Found) → None ≡ Some f → P
none_found P f e = absurd (none-some f e)

abbrev pub own : (node : ℕ) → (sat extra : Bool) → Step
own node sat extra = record { node = node; sat = sat; extra = extra }

-- what follows where something was found
pub next_some : (o : Option Found) (k : Found → Option Found) (g : Found) → next o k ≡ Some g → (f : Found) × (o ≡ Some f) × (k f ≡ Some g)
next_some None k g e = none_found _ g e
next_some (Some f) k g e = (f, refl, e)

-- a child was walked so, and what follows takes the rest
abbrev pub Follows : (x t : TrailRow) → (node : ℕ) → (a : Bool) → Next → Type 0
Follows x t node a n =
    (taken rest : Stack) (steps : List Step) (g : Found) → side x a taken steps →
    go_on node n (record { sat = a; steps = steps; rest = rest }) ≡ Some g →
    (more : Stack) × side t g.sat (taken ++ more) g.steps × (rest ≡ more ++ g.rest)

-- nothing more follows
abbrev pub Allows : TrailSet → TrailRow → (node : ℕ) → Verdict → Type 0
Allows P t node None = Unit {0}
Allows P t node (Some v) = (taken : Stack) (steps : List Step) → P taken steps → side t v.0 taken (steps ++ own node v.0 v.1 ∷ [])

pub ends_follow : (x t : TrailRow) (node : ℕ) (a : Bool) (v : Verdict) → Allows (side x a) t node v → Follows x t node a (ends v)
ends_follow x t node a None h taken rest steps g s e = none_found _ g e
ends_follow x t node a (Some v) h taken rest steps g s e =
    subst (λ g. (more : Stack) × side t g.sat (taken ++ more) g.steps × (rest ≡ more ++ g.rest)) (some_is _ g e)
    ([], subst (λ w. side t v.0 w (steps ++ own node v.0 v.1 ∷ [])) (sym (append-nil taken)) (h taken steps s), refl)

-- another child follows
pub goes_follow : (x y t : TrailRow) (node : ℕ) (a : Bool) (w : Walker) (verdict : Bool → Verdict) → IsWalk y w →
    Allows (Both y.sat (side x a)) t node (verdict true) → Allows (Both y.dsat (side x a)) t node (verdict false) → Follows x t node a (goes w verdict)
goes_follow x y t node a w verdict i sat dsat taken rest steps g s e =
    let p = next_some (w rest) (λ second. with_step node (verdict second.sat) (steps ++ second.steps) second.rest) g e in
    let f = p.0 in
    let r = i.sound rest f p.1 in
    go (verdict f.sat) f (elim f.sat as (λ b. Allows (Both (side y b) (side x a)) t node (verdict b)) [ true ↦ sat | false ↦ dsat ]) r.0 r.1 r.2 p.2
  where
    go : (v : Verdict) (f : Found) → Allows (Both (side y f.sat) (side x a)) t node v → (more : Stack) → side y f.sat more f.steps → rest ≡ more ++ f.rest →
        with_step node v (steps ++ f.steps) f.rest ≡ Some g → (more : Stack) × side t g.sat (taken ++ more) g.steps × (rest ≡ more ++ g.rest)
    go None f allows more s2 r e = none_found _ g e
    go (Some v) f allows more s2 r e =
        subst (λ g. (more : Stack) × side t g.sat (taken ++ more) g.steps × (rest ≡ more ++ g.rest)) (some_is _ g e)
        (more, allows (taken ++ more) (steps ++ f.steps) (more, taken, steps, f.steps, s2, s, refl, refl), r)

-- a stack of a row is one of a child and what follows it
pub record Split (x : TrailRow) (node : ℕ) (follow : Bool → Next) (sat : Bool) (taken : Stack) (steps : List Step) : Type 0 where
  pub a : Bool
  pub above : Stack
  pub below : Stack
  pub first : List Step
  pub child : side x a above first
  pub parts : taken ≡ above ++ below
  pub finish : (rest : Stack) → go_on node (follow a) (record { sat = a; steps = first; rest = below ++ rest }) ≡ Some (record { sat = sat; steps = steps; rest = rest })

pub child_is_walk : (x t : TrailRow) (node : ℕ) (w : Walker) (follow : Bool → Next) → IsWalk x w →
    Follows x t node true (follow true) → Follows x t node false (follow false) →
    ((taken : Stack) (steps : List Step) → t.sat taken steps → Split x node follow true taken steps) →
    ((taken : Stack) (steps : List Step) → t.dsat taken steps → Split x node follow false taken steps) → IsWalk t (walk_child node w follow)
child_is_walk x t node w follow i sat_follows dsat_follows sat_splits dsat_splits = record { sound = sound; complete = complete }
  where
    follows : (a : Bool) → Follows x t node a (follow a)
    follows true = sat_follows
    follows false = dsat_follows

    splits : (sat : Bool) (taken : Stack) (steps : List Step) → side t sat taken steps → Split x node follow sat taken steps
    splits true = sat_splits
    splits false = dsat_splits

    sound : (stack : Stack) (g : Found) → walk_child node w follow stack ≡ Some g → Taken t stack g
    sound stack g e =
        let p = next_some (w stack) (λ first. go_on node (follow first.sat) first) g e in
        let f = p.0 in
        let s = i.sound stack f p.1 in
        let m = follows f.sat s.0 f.rest f.steps g s.1 p.2 in
        (s.0 ++ m.0, m.1, s.2 ∙ ap (λ r. s.0 ++ r) m.2 ∙ sym (append_assoc s.0 m.0 g.rest))

    complete : (sat : Bool) (taken : Stack) (steps : List Step) (rest : Stack) → side t sat taken steps → walk_child node w follow (taken ++ rest)
        ≡ Some (record { sat = sat; steps = steps; rest = rest })
    complete sat taken steps rest h =
        let s = splits sat taken steps h in
        ap (λ v. walk_child node w follow (v ++ rest)) s.parts
        ∙ ap (walk_child node w follow) (append_assoc s.above s.below rest)
        ∙ ap (λ o. next o (λ first. go_on node (follow first.sat) first)) (i.complete s.a s.above s.first (s.below ++ rest) s.child)
        ∙ s.finish rest

-- a step behind those of the children
pub same_steps : (node : ℕ) (sat extra : Bool) (before steps : List Step) (rest : Stack) → steps ≡ before ++ own node sat extra ∷ [] →
    with_step node (Some (sat, extra)) before rest ≡ Some (record { sat = sat; steps = steps; rest = rest })
same_steps node sat extra before steps rest e = ap (λ (s : List Step). Some (record { sat = sat; steps = s; rest = rest })) (sym e)

-- a child alone
pub ends_split : {x : TrailRow} {node : ℕ} {follow : Bool → Next} (a : Bool) {sat extra : Bool} {taken : Stack} {steps : List Step} →
    follow a ≡ ends (Some (sat, extra)) → Then (own node sat extra) (side x a) taken steps → Split x node follow sat taken steps
ends_split {x} {node} {follow} a {sat} {extra} {taken} {steps} e h = record {
  a = a;
  above = taken;
  below = [];
  first = h.0;
  child = h.1;
  parts = sym (append-nil taken);
  finish = λ rest.
      ap (λ n. go_on node n (record { sat = a; steps = h.0; rest = rest })) e ∙ same_steps node sat extra h.0 steps rest h.2;
}

-- a child and another one
pub goes_split : {x y : TrailRow} {node : ℕ} {follow : Bool → Next} {w : Walker} {verdict : Bool → Verdict} (a b : Bool)
    {sat extra : Bool} {taken : Stack} {steps : List Step} →
    IsWalk y w → follow a ≡ goes w verdict → verdict b ≡ Some (sat, extra) → Then (own node sat extra) (Both (side y b) (side x a)) taken steps →
    Split x node follow sat taken steps
goes_split {x} {y} {node} {follow} {w} {verdict} a b {sat} {extra} {taken} {steps} i e v h =
    let p = h.1 in record {
      a = a;
      above = p.1;
      below = p.0;
      first = p.2;
      child = p.5;
      parts = p.6;
      finish = λ rest.
          ap (λ n. go_on node n (record { sat = a; steps = p.2; rest = p.0 ++ rest })) e
          ∙ ap (λ o. next o (λ second. with_step node (verdict second.sat) (p.2 ++ second.steps) second.rest)) (i.complete b p.0 p.3 rest p.4)
          ∙ ap (λ o. with_step node o (p.2 ++ p.3) rest) v
          ∙ same_steps node sat extra (p.2 ++ p.3) steps rest (h.2 ∙ ap (λ s. s ++ own node sat extra ∷ []) p.7);
    }
