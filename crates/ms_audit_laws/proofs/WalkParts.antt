-- The walks over fragments with children, from those over their children.
use Rattle.std.proofs.Common.{◌≡◌, ℕ, suc, ◌≤◌, ◌==◌, not, ◌⊎◌, Bool, true, false, List, [], ◌∷◌, ◌++◌, length, Option, Some, None, refl, sym, ◌∙◌, ap, subst, inl, inr, arith, if◌then◌else◌}
use Rattle.std.specs.Str.{bytes_eq}
use Rattle.std.proofs.lemmas.Bool.{cases_Bool, eqb-true, eqb-false, eq-eqb, ne_eqb}
use Rattle.std.proofs.lemmas.Option.{none-some}
use Rattle.std.proofs.lemmas.List.{append_assoc}
use Rattle.std.proofs.lemmas.Slice.Eq.{bytes_eq-Decides}
use Rattle.def_script.specs.Bytes.{Bytes}
use Rattle.def_machine.specs.Stacks.{Stack, is_empty}
use Rattle.def_satisfaction.specs.StackSet.{Is}
use Rattle.def_satisfaction.specs.Rows.{EMPTY, ONE, HasTop}
use Rattle.def_audit.specs.declared.Step.{Step}
use Rattle.def_audit.specs.TrailSet.{TrailSet, Bare, Both, Then}
use Rattle.def_audit.specs.TrailRows.{TrailRow, bare_row, TrailsOfNone, TrailsOf, and_or_trails, and_v_trails, and_b_trails, or_b_trails, or_c_trails, or_d_trails, or_i_trails, thresh_trails, wrap_d_trails, wrap_v_trails, wrap_j_trails, wrap_trails}
use Rattle.def_satisfaction.proofs.EqualParts.{first_same}
use Rattle.ms_audit_laws.specs.Walk.{Found, Walker, ends, with_step, forced, walk_child, passed, next, Counted, count_behind, count_on, count_child, selected, by_selector, unless_empty, count_verdict, walk_thresh, after_and_or, after_and_v, after_and_b, after_or_b, after_or_c, after_or_d}
use Rattle.ms_audit_laws.proofs.Walks.{side, Taken, IsWalk, some_is, is_found, none_found, own, ends_follow, goes_follow, child_is_walk, same_steps, ends_split, goes_split}
use Rattle.ms_audit_laws.proofs.WalkLeaves.{is_nothing, none_row, just_0_walk}

-- a child alone
alone_walk : (node : ℕ) (x : TrailRow) (w : Walker) (extra : Bool → Bool) → IsWalk x w →
    IsWalk (record { dsat = Then (own node false (extra false)) x.dsat; sat = Then (own node true (extra true)) x.sat }) (walk_child node w (λ sat. ends (Some (sat, extra sat))))
alone_walk node x w extra i =
    let t : TrailRow = record { dsat = Then (own node false (extra false)) x.dsat; sat = Then (own node true (extra true)) x.sat } in
    child_is_walk x t node w (λ sat. ends (Some (sat, extra sat))) i (ends_follow x t node true (Some (true, extra true)) (λ w s h. (s, h, refl)))
    (ends_follow x t node false (Some (false, extra false)) (λ w s h. (s, h, refl)))
    (λ taken steps h. ends_split true refl h) (λ taken steps h. ends_split false refl h)

-- `a`, `s`, `c` and `n`
pub wrap_walk : (node : ℕ) (x : TrailRow) (w : Walker) → IsWalk x w → IsWalk (wrap_trails node x) (walk_child node w passed)
wrap_walk node x w i = alone_walk node x w (λ sat. false) i

-- `v`
pub wrap_v_walk : (node : ℕ) (x : TrailRow) (w : Walker) → IsWalk x w → IsWalk (wrap_v_trails node x) (walk_child node w (λ sat. ends (forced sat)))
wrap_v_walk node x w i =
    let t = wrap_v_trails node x in
    child_is_walk x t node w (λ sat. ends (forced sat)) i (ends_follow x t node true (Some (true, false)) (λ w s h. (s, h, refl)))
    (ends_follow x t node false None tt) (λ taken steps h. ends_split true refl h) (λ taken steps h. absurd h)

-- `andor`
pub and_or_walk : (node : ℕ) (x y z : TrailRow) (wx wy wz : Walker) → IsWalk x wx → IsWalk y wy → IsWalk z wz → IsWalk (and_or_trails node x y z) (walk_child node wx (after_and_or wy wz))
and_or_walk node x y z wx wy wz i j k =
    let t = and_or_trails node x y z in
    child_is_walk x t node wx (after_and_or wy wz) i
    (goes_follow x y t node true wy (λ sat. Some (sat, not sat)) j (λ w s h. (s, inl h, refl)) (λ w s h. inr (s, h, refl)))
    (goes_follow x z t node false wz (λ sat. Some (sat, false)) k (λ w s h. (s, inr h, refl)) (λ w s h. inl (s, h, refl)))
    (λ taken steps h. elim h.1 [ inl p ↦ goes_split true true j refl refl (h.0, p, h.2) | inr p ↦ goes_split false true k refl refl (h.0, p, h.2) ])
    (λ taken steps h. elim h [ inl p ↦ goes_split false false k refl refl p | inr p ↦ goes_split true false j refl refl p ])

-- `and_v`
pub and_v_walk : (node : ℕ) (x y : TrailRow) (wx wy : Walker) → IsWalk x wx → IsWalk y wy → IsWalk (and_v_trails node x y) (walk_child node wx (after_and_v wy))
and_v_walk node x y wx wy i j =
    let t = and_v_trails node x y in
    child_is_walk x t node wx (after_and_v wy) i
    (goes_follow x y t node true wy (λ sat. Some (sat, not sat)) j (λ w s h. (s, h, refl)) (λ w s h. (s, h, refl)))
    (ends_follow x t node false None tt)
    (λ taken steps h. goes_split true true j refl refl h) (λ taken steps h. goes_split true false j refl refl h)

-- `and_b`
pub and_b_walk : (node : ℕ) (x y : TrailRow) (wx wy : Walker) → IsWalk x wx → IsWalk y wy → IsWalk (and_b_trails node x y) (walk_child node wx (after_and_b wy))
and_b_walk node x y wx wy i j =
    let t = and_b_trails node x y in
    child_is_walk x t node wx (after_and_b wy) i
    (goes_follow x y t node true wy (λ sat. Some (sat, not sat)) j (λ w s h. (s, h, refl)) (λ w s h. inr (s, inr h, refl)))
    (goes_follow x y t node false wy (λ sat. Some (false, sat)) j (λ w s h. inr (s, inl h, refl)) (λ w s h. inl (s, h, refl)))
    (λ taken steps h. goes_split true true j refl refl h)
    (λ taken steps h. elim h [
      | inl p ↦ goes_split false false j refl refl p
      | inr (before, inl p, e) ↦ goes_split false true j refl refl (before, p, e)
      | inr (before, inr p, e) ↦ goes_split true false j refl refl (before, p, e)
    ])

-- `or_b`
pub or_b_walk : (node : ℕ) (x z : TrailRow) (wx wz : Walker) → IsWalk x wx → IsWalk z wz → IsWalk (or_b_trails node x z) (walk_child node wx (after_or_b wz))
or_b_walk node x z wx wz i k =
    let t = or_b_trails node x z in
    child_is_walk x t node wx (after_or_b wz) i
    (goes_follow x z t node true wz (λ sat. Some (true, sat)) k (λ w s h. inr (s, h, refl)) (λ w s h. inl (s, inl h, refl)))
    (goes_follow x z t node false wz (λ sat. Some (sat, false)) k (λ w s h. inl (s, inr h, refl)) (λ w s h. (s, h, refl)))
    (λ taken steps h. elim h [
      | inl (before, inl p, e) ↦ goes_split true false k refl refl (before, p, e)
      | inl (before, inr p, e) ↦ goes_split false true k refl refl (before, p, e)
      | inr p ↦ goes_split true true k refl refl p
    ])
    (λ taken steps h. goes_split false false k refl refl h)

-- `or_c`
pub or_c_walk : (node : ℕ) (x z : TrailRow) (wx wz : Walker) → IsWalk x wx → IsWalk z wz → IsWalk (or_c_trails node x z) (walk_child node wx (after_or_c wz))
or_c_walk node x z wx wz i k =
    let t = or_c_trails node x z in
    child_is_walk x t node wx (after_or_c wz) i (ends_follow x t node true (Some (true, false)) (λ w s h. (s, inl h, refl)))
    (goes_follow x z t node false wz forced k (λ w s h. (s, inr h, refl)) tt)
    (λ taken steps h. elim h.1 [ inl p ↦ ends_split true refl (h.0, p, h.2) | inr p ↦ goes_split false true k refl refl (h.0, p, h.2) ])
    (λ taken steps h. absurd h)

-- `or_d`
pub or_d_walk : (node : ℕ) (x z : TrailRow) (wx wz : Walker) → IsWalk x wx → IsWalk z wz → IsWalk (or_d_trails node x z) (walk_child node wx (after_or_d wz))
or_d_walk node x z wx wz i k =
    let t = or_d_trails node x z in
    child_is_walk x t node wx (after_or_d wz) i (ends_follow x t node true (Some (true, false)) (λ w s h. (s, inl h, refl)))
    (goes_follow x z t node false wz (λ sat. Some (sat, false)) k (λ w s h. (s, inr h, refl)) (λ w s h. (s, h, refl)))
    (λ taken steps h. elim h.1 [ inl p ↦ ends_split true refl (h.0, p, h.2) | inr p ↦ goes_split false true k refl refl (h.0, p, h.2) ])
    (λ taken steps h. goes_split false false k refl refl h)

-- a child below a selector, one of two kinds of stacks
pub selector_walk : (t x z : TrailRow) (wx wz : Walker) → IsWalk x wx → IsWalk z wz →
    ((sat : Bool) (taken : Stack) (steps : List Step) → side x sat taken steps → side t sat (ONE ∷ taken) steps) →
    ((sat : Bool) (taken : Stack) (steps : List Step) → side z sat taken steps → side t sat (EMPTY ∷ taken) steps) →
    ((sat : Bool) (taken : Stack) (steps : List Step) → side t sat taken steps →
    ((below : Stack) × (taken ≡ ONE ∷ below) × side x sat below steps) ⊎ ((below : Stack) × (taken ≡ EMPTY ∷ below) × side z sat below steps)) →
    IsWalk t (by_selector wx wz)
selector_walk t x z wx wz i k one empty parts = record { sound = sound; complete = complete }
  where
    go : (top : Bytes) (rest : Stack) (f : Found) (o e : Bool) → bytes_eq top ONE ≡ o → is_empty top ≡ e → selected o e (wx rest) (wz rest) None ≡ Some f → Taken t (top ∷ rest) f
    go top rest f true e p q h =
        let r = i.sound rest f h in
        (ONE ∷ r.0, one f.sat r.0 f.steps r.1, ap (λ x. x ∷ rest) ((bytes_eq-Decides top ONE).0 p) ∙ ap (λ w. ONE ∷ w) r.2)
    go top rest f false true p q h =
        let r = k.sound rest f h in
        (EMPTY ∷ r.0, empty f.sat r.0 f.steps r.1, ap (λ x. x ∷ rest) (is_nothing top q) ∙ ap (λ w. EMPTY ∷ w) r.2)
    go top rest f false false p q h = none_found _ f h

    sound : (stack : Stack) (f : Found) → by_selector wx wz stack ≡ Some f → Taken t stack f
    sound [] f e = none_found _ f e
    sound (top ∷ rest) f e = go top rest f _ _ refl refl e

    complete : (sat : Bool) (taken : Stack) (steps : List Step) (rest : Stack) → side t sat taken steps → by_selector wx wz (taken ++ rest) ≡ Some (record { sat = sat; steps = steps; rest = rest })
    complete sat taken steps rest h =
        elim (parts sat taken steps h) [
          | inl p ↦ ap (λ w. by_selector wx wz (w ++ rest)) p.1 ∙ i.complete sat p.0 steps rest p.2
          | inr p ↦ ap (λ w. by_selector wx wz (w ++ rest)) p.1 ∙ k.complete sat p.0 steps rest p.2
        ]

-- what is below a selector
below_selector : (node : ℕ) (sat : Bool) (item : Bytes) (P : TrailSet) (taken : Stack) (steps before : List Step) → Both P (Bare (Is item)) taken before → steps ≡ before ++ own node sat false ∷ [] →
    (below : Stack) × (taken ≡ item ∷ below) × Then (own node sat false) P below steps
below_selector node sat item P taken steps before h e = (
  h.0,
  h.6 ∙ ap (λ w. w ++ h.0) h.5.0,
  (h.3, h.4, e ∙ ap (λ s. s ++ own node sat false ∷ []) (h.7 ∙ ap (λ s. s ++ h.3) h.5.1)),
)

on_selector : (item : Bytes) (P : TrailSet) (taken : Stack) (steps : List Step) → P taken steps → Both P (Bare (Is item)) (item ∷ taken) steps
on_selector item P taken steps h = (taken, item ∷ [], [], steps, h, (refl, refl), refl, refl)

-- `or_i`
pub or_i_walk : (node : ℕ) (x z : TrailRow) (wx wz : Walker) → IsWalk x wx → IsWalk z wz → IsWalk (or_i_trails node x z) (by_selector (walk_child node wx passed) (walk_child node wz passed))
or_i_walk node x z wx wz i k =
    selector_walk (or_i_trails node x z) (wrap_trails node x) (wrap_trails node z) (walk_child node wx passed) (walk_child node wz passed)
    (wrap_walk node x wx i) (wrap_walk node z wz k) one empty parts
  where
    one : (sat : Bool) (taken : Stack) (steps : List Step) → side (wrap_trails node x) sat taken steps → side (or_i_trails node x z) sat (ONE ∷ taken) steps
    one true taken steps h = (h.0, inl (on_selector ONE x.sat taken h.0 h.1), h.2)
    one false taken steps h = (h.0, inl (on_selector ONE x.dsat taken h.0 h.1), h.2)

    empty : (sat : Bool) (taken : Stack) (steps : List Step) → side (wrap_trails node z) sat taken steps → side (or_i_trails node x z) sat (EMPTY ∷ taken) steps
    empty true taken steps h = (h.0, inr (on_selector EMPTY z.sat taken h.0 h.1), h.2)
    empty false taken steps h = (h.0, inr (on_selector EMPTY z.dsat taken h.0 h.1), h.2)

    parts : (sat : Bool) (taken : Stack) (steps : List Step) → side (or_i_trails node x z) sat taken steps →
        ((below : Stack) × (taken ≡ ONE ∷ below) × side (wrap_trails node x) sat below steps) ⊎ ((below : Stack) × (taken ≡ EMPTY ∷ below) × side (wrap_trails node z) sat below steps)
    parts true taken steps (before, inl h, e) = inl (below_selector node true ONE x.sat taken steps before h e)
    parts true taken steps (before, inr h, e) = inr (below_selector node true EMPTY z.sat taken steps before h e)
    parts false taken steps (before, inl h, e) = inl (below_selector node false ONE x.dsat taken steps before h e)
    parts false taken steps (before, inr h, e) = inr (below_selector node false EMPTY z.dsat taken steps before h e)

-- `d`
pub wrap_d_walk : (node : ℕ) (x : TrailRow) (w : Walker) → IsWalk x w
    → IsWalk (wrap_d_trails node x) (by_selector (walk_child node w (λ sat. ends (forced sat))) (with_step node (Some (false, false)) []))
wrap_d_walk node x w i =
    selector_walk (wrap_d_trails node x) (wrap_v_trails node x) (bare_row node none_row) (walk_child node w (λ sat. ends (forced sat)))
    (with_step node (Some (false, false)) []) (wrap_v_walk node x w i) (just_0_walk node) one empty parts
  where
    one : (sat : Bool) (taken : Stack) (steps : List Step) → side (wrap_v_trails node x) sat taken steps → side (wrap_d_trails node x) sat (ONE ∷ taken) steps
    one true taken steps h = (h.0, on_selector ONE x.sat taken h.0 h.1, h.2)
    one false taken steps h = absurd h

    empty : (sat : Bool) (taken : Stack) (steps : List Step) → side (bare_row node none_row) sat taken steps → side (wrap_d_trails node x) sat (EMPTY ∷ taken) steps
    empty true taken steps h = absurd h.1.0
    empty false taken steps h = (h.0, (ap (λ w. EMPTY ∷ w) h.1.0, h.1.1), h.2)

    parts : (sat : Bool) (taken : Stack) (steps : List Step) → side (wrap_d_trails node x) sat taken steps →
        ((below : Stack) × (taken ≡ ONE ∷ below) × side (wrap_v_trails node x) sat below steps) ⊎ ((below : Stack) × (taken ≡ EMPTY ∷ below) × side (bare_row node none_row) sat below steps)
    parts true taken steps h = inl (below_selector node true ONE x.sat taken steps h.0 h.1 h.2)
    parts false taken steps h = inr ([], h.1.0, (h.0, (refl, h.1.1), h.2))

-- `j`, whose child has the letter n
abbrev j_child : (node : ℕ) → TrailRow → TrailRow
j_child node x = record { dsat = Then (own node false true) x.dsat; sat = Then (own node true false) x.sat }

pub wrap_j_walk : (node : ℕ) (x : TrailRow) (w : Walker) → IsWalk x w → ((taken : Stack) (steps : List Step) → x.dsat taken steps → 1 ≤ length taken)
    → ((taken : Stack) (steps : List Step) → x.sat taken steps → HasTop taken) →
    IsWalk (wrap_j_trails node x) (unless_empty node (walk_child node w (λ sat. ends (Some (sat, not sat)))))
wrap_j_walk node x w i long top = record { sound = sound; complete = complete }
  where
    inner : IsWalk (j_child node x) (walk_child node w (λ sat. ends (Some (sat, not sat))))
    inner = alone_walk node x w not i

    has_top : (item : Bytes) (rest taken below : Stack) → is_empty item ≡ false → item ∷ rest ≡ taken ++ below → 1 ≤ length taken → HasTop taken
    has_top item rest [] below full e l = absurd (omega (arith, l))
    has_top item rest (first ∷ taken) below full e l = (first, taken, refl, ap is_empty (sym (first_same item first rest (taken ++ below) e)) ∙ full)

    turned : (item : Bytes) (rest taken below : Stack) (sat : Bool) (steps : List Step) → is_empty item ≡ false → item ∷ rest ≡ taken ++ below
        → side (j_child node x) sat taken steps → side (wrap_j_trails node x) sat taken steps
    turned item rest taken below true steps full e h = h
    turned item rest taken below false steps full e h = inr (h.0, (has_top item rest taken below full e (long taken h.0 h.1), h.1), h.2)

    sound : (stack : Stack) (f : Found) → unless_empty node (walk_child node w (λ sat. ends (Some (sat, not sat)))) stack ≡ Some f → Taken (wrap_j_trails node x) stack f
    sound [] f e = none_found _ f e
    sound (item ∷ rest) f e =
        elim (cases_Bool (is_empty item)) [
          | inl none_there ↦
              is_found (wrap_j_trails node x) (item ∷ rest) _ f (rw none_there at e)
              (item ∷ [], inl ([], (ap (λ x. x ∷ []) (is_nothing item none_there), refl), refl), refl)
          | inr full ↦
              let r = inner.sound (item ∷ rest) f (rw full at e) in
              (r.0, turned item rest r.0 f.rest f.sat f.steps full r.2 r.1, r.2)
        ]

    passes : (taken rest : Stack) → HasTop taken → unless_empty node (walk_child node w (λ sat. ends (Some (sat, not sat)))) (taken ++ rest)
        ≡ walk_child node w (λ sat. ends (Some (sat, not sat))) (taken ++ rest)
    passes taken rest h =
        subst (λ v. unless_empty node (walk_child node w (λ sat. ends (Some (sat, not sat)))) (v ++ rest) ≡ walk_child node w (λ sat. ends (Some (sat, not sat))) (v ++ rest)) (sym h.2)
        (rw h.3 refl)

    complete : (sat : Bool) (taken : Stack) (steps : List Step) (rest : Stack) → side (wrap_j_trails node x) sat taken steps
        → unless_empty node (walk_child node w (λ sat. ends (Some (sat, not sat)))) (taken ++ rest) ≡ Some (record { sat = sat; steps = steps; rest = rest })
    complete true taken steps rest h = passes taken rest (top taken h.0 h.1) ∙ inner.complete true taken steps rest h
    complete false taken steps rest (inl h) =
        ap (λ v. unless_empty node (walk_child node w (λ sat. ends (Some (sat, not sat)))) (v ++ rest)) h.1.0
        ∙ same_steps node false false [] steps rest (h.2 ∙ ap (λ s. s ++ own node false false ∷ []) h.1.1)
    complete false taken steps rest (inr h) = passes taken rest h.1.0 ∙ inner.complete false taken steps rest (h.0, h.1.1, h.2)

-- the children of a threshold
pub record IsCount (parts : ℕ → TrailSet) (w : Stack → Option Counted) : Type 0 where
  pub sound : (stack : Stack) (c : Counted) → w stack ≡ Some c → (taken : Stack) × parts c.count taken c.steps × (stack ≡ taken ++ c.rest)
  pub complete : (n : ℕ) (taken : Stack) (steps : List Step) (rest : Stack) → parts n taken steps → w (taken ++ rest) ≡ Some (record { count = n; steps = steps; rest = rest })

pub none_count : IsCount TrailsOfNone (λ stack. Some (record { count = 0; steps = []; rest = stack }))
none_count = record {
  sound = λ stack c e.
      subst (λ (c : Counted). (taken : Stack) × TrailsOfNone c.count taken c.steps × (stack ≡ taken ++ c.rest)) (some_is _ c e) ([], (refl, (refl, refl)), refl);
  complete = λ n taken steps rest h.
      ap (λ (w : Stack). Some (record { count = 0; steps = []; rest = w ++ rest })) h.1.0
      ∙ ap (λ (m : ℕ). Some (record { count = m; steps = []; rest = rest })) (sym h.0)
      ∙ ap (λ (s : List Step). Some (record { count = n; steps = s; rest = rest })) (sym h.1.1);
}

pub more_count : (x : TrailRow) (w : Walker) (parts : ℕ → TrailSet) (others : Stack → Option Counted) → IsWalk x w → IsCount parts others → IsCount (TrailsOf x parts) (count_child w others)
more_count x w parts others i j = record { sound = sound; complete = complete }
  where
    fits : (sat : Bool) (n : ℕ) (above below : Stack) (first later : List Step) → side x sat above first → parts n below later
        → TrailsOf x parts (if sat then suc n else n) (above ++ below) (first ++ later)
    fits true n above below first later p q = inl (n, refl, (below, above, first, later, q, p, refl, refl))
    fits false n above below first later p q = inr (below, above, first, later, q, p, refl, refl)

    sound : (stack : Stack) (c : Counted) → count_child w others stack ≡ Some c → (taken : Stack) × TrailsOf x parts c.count taken c.steps × (stack ≡ taken ++ c.rest)
    sound stack c e = go (w stack) refl e
      where
        second : (f : Found) → w stack ≡ Some f → (o : Option Counted) → others f.rest ≡ o → count_behind f o ≡ Some c → (taken : Stack)
            × TrailsOf x parts c.count taken c.steps × (stack ≡ taken ++ c.rest)
        second f p None q h = absurd (none-some c h)
        second f p (Some o) q h =
            let r = i.sound stack f p in
            let u = j.sound f.rest o q in
            subst (λ (c : Counted). (taken : Stack) × TrailsOf x parts c.count taken c.steps × (stack ≡ taken ++ c.rest)) (some_is _ c h)
            (r.0 ++ u.0, fits f.sat o.count r.0 u.0 f.steps o.steps r.1 u.1, r.2 ∙ ap (λ v. r.0 ++ v) u.2 ∙ sym (append_assoc r.0 u.0 o.rest))

        go : (o : Option Found) → w stack ≡ o → count_on others o ≡ Some c → (taken : Stack) × TrailsOf x parts c.count taken c.steps × (stack ≡ taken ++ c.rest)
        go None p h = absurd (none-some c h)
        go (Some f) p h = second f p (others f.rest) refl h

    both : (sat : Bool) (n : ℕ) (taken : Stack) (steps : List Step) (rest : Stack) → Both (parts n) (side x sat) taken steps
        → count_child w others (taken ++ rest) ≡ Some (record { count = if sat then suc n else n; steps = steps; rest = rest })
    both sat n taken steps rest h =
        ap (λ v. count_child w others (v ++ rest)) h.6
        ∙ ap (count_child w others) (append_assoc h.1 h.0 rest)
        ∙ ap (count_on others) (i.complete sat h.1 h.2 (h.0 ++ rest) h.5)
        ∙ ap (count_behind (record { sat = sat; steps = h.2; rest = h.0 ++ rest })) (j.complete n h.0 h.3 rest h.4)
        ∙ ap (λ (s : List Step). Some (record { count = if sat then suc n else n; steps = s; rest = rest })) (sym h.7)

    complete : (n : ℕ) (taken : Stack) (steps : List Step) (rest : Stack) → TrailsOf x parts n taken steps → count_child w others (taken ++ rest)
        ≡ Some (record { count = n; steps = steps; rest = rest })
    complete n taken steps rest (inl h) =
        both true h.0 taken steps rest h.2 ∙ ap (λ (m : ℕ). Some (record { count = m; steps = steps; rest = rest })) (sym h.1)
    complete n taken steps rest (inr h) = both false n taken steps rest h

-- `thresh`
pub thresh_walk : (node k : ℕ) (parts : ℕ → TrailSet) (w : Stack → Option Counted) → 1 ≤ k → IsCount parts w → IsWalk (thresh_trails node k parts) (walk_thresh node k w)
thresh_walk node k parts w some i = record { sound = sound; complete = complete }
  where
    fits : (stack : Stack) (f : Found) (c : Counted) (taken : Stack) → parts c.count taken c.steps → stack ≡ taken ++ c.rest → (met no_child : Bool)
        → (c.count == k) ≡ met → (c.count == 0) ≡ no_child →
        with_step node (count_verdict met no_child) c.steps c.rest ≡ Some f → Taken (thresh_trails node k parts) stack f
    fits stack f c taken p e true no_child m n h =
        is_found (thresh_trails node k parts) stack _ f h (taken, (c.steps, subst (λ n. parts n taken c.steps) (eqb-true c.count k m) p, refl), e)
    fits stack f c taken p e false true m n h =
        is_found (thresh_trails node k parts) stack _ f h (taken, inl (c.steps, subst (λ n. parts n taken c.steps) (eqb-true c.count 0 n) p, refl), e)
    fits stack f c taken p e false false m n h =
        is_found (thresh_trails node k parts) stack _ f h (taken, inr (c.steps, (c.count, eqb-false c.count 0 n, eqb-false c.count k m, p), refl), e)

    sound : (stack : Stack) (f : Found) → walk_thresh node k w stack ≡ Some f → Taken (thresh_trails node k parts) stack f
    sound stack f e = go (w stack) refl e
      where
        go : (o : Option Counted) → w stack ≡ o → next o (λ c. with_step node (count_verdict (c.count == k) (c.count == 0)) c.steps c.rest) ≡ Some f → Taken (thresh_trails node k parts) stack f
        go None p h = none_found _ f h
        go (Some c) p h = let r = i.sound stack c p in fits stack f c r.0 r.1 r.2 (c.count == k) (c.count == 0) refl refl h

    done : (n : ℕ) (sat extra : Bool) (taken : Stack) (before steps : List Step) (rest : Stack) → parts n taken before → count_verdict (n == k) (n == 0)
        ≡ Some (sat, extra) → steps ≡ before ++ own node sat extra ∷ [] →
        walk_thresh node k w (taken ++ rest) ≡ Some (record { sat = sat; steps = steps; rest = rest })
    done n sat extra taken before steps rest p v e =
        ap (λ o. next o (λ c. with_step node (count_verdict (c.count == k) (c.count == 0)) c.steps c.rest)) (i.complete n taken before rest p)
        ∙ ap (λ v. with_step node v before rest) v
        ∙ same_steps node sat extra before steps rest e

    complete : (sat : Bool) (taken : Stack) (steps : List Step) (rest : Stack) → side (thresh_trails node k parts) sat taken steps
        → walk_thresh node k w (taken ++ rest) ≡ Some (record { sat = sat; steps = steps; rest = rest })
    complete true taken steps rest h = done k true false taken h.0 steps rest h.1 (ap (λ b. count_verdict b (k == 0)) (eq-eqb k k refl)) h.2
    complete false taken steps rest (inl h) =
        done 0 false false taken h.0 steps rest h.1 (ap (λ b. count_verdict b true) (ne_eqb 0 k (λ e. absurd (omega (arith, e, some))))) h.2
    complete false taken steps rest (inr h) =
        done h.1.0 false true taken h.0 steps rest h.1.3 (ap (λ b. count_verdict b (h.1.0 == 0)) (ne_eqb h.1.0 k h.1.2) ∙ ap (count_verdict false) (ne_eqb h.1.0 0 h.1.1)) h.2
