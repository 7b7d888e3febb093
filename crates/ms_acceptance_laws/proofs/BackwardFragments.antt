-- What the main stack was where a fragment or wrapper with children went on, over any children of which that is known.
use Rattle.std.proofs.Common.{◌≡◌, ◌≢◌, ◌&&◌, ◌||◌, Bool, true, false, [], ◌∷◌, ◌++◌, Ok, refl, sym, ◌∙◌, ap, subst, inl, inr}
use Rattle.def_machine.specs.Faults.{OrFault}
use Rattle.def_machine.specs.Stacks.{Stack, Checker, bool_bytes}
use Rattle.def_machine.specs.Effects.{if_dup, bool_and, bool_or}
use Rattle.def_types.specs.declared.Base.{Base}
use Rattle.def_types.specs.declared.Base.TheVariants.{B, V, W}
use Rattle.def_satisfaction.specs.Rows.{EMPTY, ONE}
use Rattle.def_satisfaction.proofs.EqualParts.{first_same, rest_same}
use Rattle.ms_acceptance_laws.proofs.StackEffects.{Effect, both, plain, silent, choose, left}
use Rattle.ms_acceptance_laws.proofs.StackValues.{Value, bool_and-natural, bool_or-natural}
use Rattle.ms_acceptance_laws.proofs.ForwardBases.{choose_one, choose_empty, unit_value, bool_value}
use Rattle.ms_acceptance_laws.proofs.ForwardFragments.{Takes2, two_values, and_turned, or_turned}
use Rattle.ms_acceptance_laws.proofs.BackwardBases.{Logged, Took, weaken_back, Back, BackB, BackV, BackW, keeps_same, keeps_behind, prepend, onto, between, plainly, silently, branched}
use Rattle.ms_acceptance_laws.proofs.BackwardLeaves.{quietly}
use Rattle.ms_row_laws.proofs.RunLog.{Log, quiet, then_log, quiet_right}
use Rattle.ms_row_laws.proofs.Outcomes.{same_ok}

-- with another log
pub relogged : (checker : Checker) (c : Base) (u : Bool) (R : Logged) (m end : Stack) (k l : Log) → l ≡ k → Back checker c u R m end k → Back checker c u R m end l
relogged checker c u R m end k l e h = subst (Back checker c u R m end) (sym e) h

-- a child that went on, by its base type
abbrev pub Inverts : Checker → Base → (u : Bool) → Effect → Logged → Type 0
Inverts checker c u f R = (m end : Stack) (l : Log) → f m ≡ Ok (left end l) → Back checker c u R m end l

-- rows of two children, the first one's stack on top
abbrev pub Rows2 : (b : Bool) → (X Y : Stack → Log → Type 0) → Logged → Type 0
Rows2 b X Y R = (above below : Stack) (k l : Log) → X above k → Y below l → Took R b (above ++ below) (then_log k l)

-- `and_v`
pub and_v_back : (checker : Checker) (c : Base) (u : Bool) (f g : Effect) (X Y R : Logged) → (c ≢ W) → ((b : Bool) → Rows2 b X.sat (Took Y b) R)
    → ((m end : Stack) (l : Log) → f m ≡ Ok (left end l) → BackV X m end l) → Inverts checker c u g Y → Inverts checker c u (both f g) R
and_v_back checker c u f g X Y R n rows x y m end l e =
    let p = between f g m end l e in
    let i = x m p.mid p.first p.before in
    relogged checker c u R m end (then_log p.first p.second) l p.log
    (prepend checker c u R Y (then_log p.first) m i.0 p.mid end p.second n (keeps_behind p.first) i.1 (λ b w k t. rows b i.0 w p.first k i.2 t) (y p.mid end p.second p.after))

-- the choice behind a value with u
abbrev pub Chosen : Checker → Base → (u : Bool) → (g h : Effect) → (R : Logged) → (m w s end : Stack) → (k l : Log) → Bool → Type 0
Chosen checker c u g h R m w s end k l b = choose g h (bool_bytes b ∷ s) ≡ Ok (left end l) → Back checker c u R m end (then_log k l)

-- an effect whose first part leaves the byte 1 or the empty string
behind_unit : (checker : Checker) (c : Base) (u : Bool) (f g : Effect) (X R : Logged)
    → ((b : Bool) (m w s end : Stack) (k l : Log) → m ≡ w ++ s → Took X b w k → g (bool_bytes b ∷ s) ≡ Ok (left end l) → Back checker c u R m end (then_log k l))
    → ((m end : Stack) (l : Log) → f m ≡ Ok (left end l) → BackB true X m end l) → Inverts checker c u (both f g) R
behind_unit checker c u f g X R next x m end l e =
    let p = between f g m end l e in
    let i = x m p.mid p.first p.before in
    let is : p.mid ≡ bool_bytes i.0 ∷ i.2 = i.5 ∙ ap (λ v. v ∷ i.2) (unit_value i.0 i.3 i.6) in
    relogged checker c u R m end (then_log p.first p.second) l p.log
    (next i.0 m i.1 i.2 end p.first p.second i.4 i.7 (ap g (sym is) ∙ p.after))

-- `andor`
pub and_or_back : (checker : Checker) (c : Base) (u t v : Bool) (f g h : Effect) (X Y Z R : Logged) → (c ≢ W) → (u ≡ true → t ≡ true) → (u ≡ true → v ≡ true)
    → ((b : Bool) → Rows2 b X.sat (Took Y b) R) → ((b : Bool) → Rows2 b X.dsat (Took Z b) R)
    → ((m end : Stack) (l : Log) → f m ≡ Ok (left end l) → BackB true X m end l) → Inverts checker c t g Y → Inverts checker c v h Z
    → Inverts checker c u (both f (choose g h)) R
and_or_back checker c u t v f g h X Y Z R n ut uv rows others x y z = behind_unit checker c u f (choose g h) X R next x
  where
    next : (b : Bool) (m w s end : Stack) (k l : Log) → m ≡ w ++ s → Took X b w k → choose g h (bool_bytes b ∷ s) ≡ Ok (left end l) → Back checker c u R m end (then_log k l)
    next true m w s end k l i took e =
        weaken_back checker c t u R m end (then_log k l) ut
        (prepend checker c t R Y (then_log k) m w s end l n (keeps_behind k) i (λ b v n q. rows b w v k n took q) (y s end l (sym (choose_one g h s) ∙ e)))
    next false m w s end k l i took e =
        weaken_back checker c v u R m end (then_log k l) uv
        (prepend checker c v R Z (then_log k) m w s end l n (keeps_behind k) i (λ b v n q. others b w v k n took q) (z s end l (sym (choose_empty g h s) ∙ e)))

-- `or_c`
pub or_c_back : (checker : Checker) (f h : Effect) (X Z R : Logged) → ((w : Stack) (l : Log) → X.sat w l → R.sat w l)
    → ((above below : Stack) (k l : Log) → X.dsat above k → Z.sat below l → R.sat (above ++ below) (then_log k l))
    → ((m end : Stack) (l : Log) → f m ≡ Ok (left end l) → BackB true X m end l) → ((m end : Stack) (l : Log) → h m ≡ Ok (left end l) → BackV Z m end l)
    → (m end : Stack) (l : Log) → both f (choose silent h) m ≡ Ok (left end l) → BackV R m end l
or_c_back checker f h X Z R rows others x z = behind_unit checker V false f (choose silent h) X R next x
  where
    next : (b : Bool) (m w s end : Stack) (k l : Log) → m ≡ w ++ s → Took X b w k → choose silent h (bool_bytes b ∷ s) ≡ Ok (left end l) → BackV R m end (then_log k l)
    next true m w s end k l i took e =
        let p = silently s end l (sym (choose_one silent h s) ∙ e) in
        (w, i ∙ ap (λ v. w ++ v) (sym p.0), subst (R.sat w) (sym (ap (then_log k) p.1 ∙ quiet_right k)) (rows w k took))
    next false m w s end k l i took e =
        let j = z s end l (sym (choose_empty silent h s) ∙ e) in
        (w ++ j.0, onto m w s j.0 end i j.1, others w j.0 k l took j.2)

-- `or_d`
if_dup_one_back : (h : Effect) (s end : Stack) (l : Log) → both (plain if_dup) (choose silent h) (ONE ∷ s) ≡ Ok (left end l) → (end ≡ ONE ∷ s) × (l ≡ quiet)
unfolding if_dup
if_dup_one_back h s end l e =
    let i = quietly if_dup (choose silent h) (ONE ∷ s) (ONE ∷ ONE ∷ s) end l refl e in
    silently (ONE ∷ s) end l (sym (choose_one silent h (ONE ∷ s)) ∙ i)

if_dup_empty_back : (h : Effect) (s end : Stack) (l : Log) → both (plain if_dup) (choose silent h) (EMPTY ∷ s) ≡ Ok (left end l) → h s ≡ Ok (left end l)
unfolding if_dup
if_dup_empty_back h s end l e = sym (choose_empty silent h s) ∙ quietly if_dup (choose silent h) (EMPTY ∷ s) (EMPTY ∷ s) end l refl e

pub or_d_back : (checker : Checker) (u : Bool) (f h : Effect) (X Z R : Logged) → ((w : Stack) (l : Log) → X.sat w l → R.sat w l)
    → ((b : Bool) → Rows2 b X.dsat (Took Z b) R) → ((m end : Stack) (l : Log) → f m ≡ Ok (left end l) → BackB true X m end l)
    → ((m end : Stack) (l : Log) → h m ≡ Ok (left end l) → BackB u Z m end l) → (m end : Stack) (l : Log) → both f (both (plain if_dup) (choose silent h)) m
    ≡ Ok (left end l) → BackB u R m end l
or_d_back checker u f h X Z R rows others x z = behind_unit checker B u f (both (plain if_dup) (choose silent h)) X R next x
  where
    next : (b : Bool) (m w s end : Stack) (k l : Log) → m ≡ w ++ s → Took X b w k → both (plain if_dup) (choose silent h) (bool_bytes b ∷ s) ≡ Ok (left end l) → BackB u R m end (then_log k l)
    next true m w s end k l i took e =
        let p = if_dup_one_back h s end l e in
        (true, w, s, ONE, i, p.0, bool_value u true, subst (R.sat w) (sym (ap (then_log k) p.1 ∙ quiet_right k)) (rows w k took))
    next false m w s end k l i took e =
        prepend checker B u R Z (then_log k) m w s end l (λ e. cc) (keeps_behind k) i (λ b v n q. others b w v k n took q) (z s end l (if_dup_empty_back h s end l e))

-- `or_i`
pub or_i_back : (checker : Checker) (c : Base) (u t v : Bool) (f g : Effect) (X Z R : Logged) → (c ≢ W) → (u ≡ true → t ≡ true) → (u ≡ true → v ≡ true)
    → ((b : Bool) (w : Stack) (l : Log) → Took X b w l → Took R b (ONE ∷ w) l) → ((b : Bool) (w : Stack) (l : Log) → Took Z b w l → Took R b (EMPTY ∷ w) l)
    → Inverts checker c t f X → Inverts checker c v g Z → Inverts checker c u (choose f g) R
or_i_back checker c u t v f g X Z R n ut uv rows others x z m end l e =
    elim (branched f g m end l e) [
      | inl p ↦ weaken_back checker c t u R m end l ut
          (prepend checker c t R X (λ k. k) m (ONE ∷ []) p.0 end l n keeps_same p.1 rows (x p.0 end l p.2))
      | inr p ↦ weaken_back checker c v u R m end l uv
          (prepend checker c v R Z (λ k. k) m (EMPTY ∷ []) p.0 end l n keeps_same p.1 others (z p.0 end l p.2))
    ]

-- `and_b` and `or_b`
two_back : (op : Stack → OrFault Stack) (with_op : Bool → Bool → Bool) → Takes2 op with_op → (t u v : Bool) (f g : Effect) (X Y R : Logged)
    → ((a b : Bool) → Rows2 (with_op a b) (Took X a) (Took Y b) R) → ((m end : Stack) (l : Log) → f m ≡ Ok (left end l) → BackB t X m end l)
    → ((m end : Stack) (l : Log) → g m ≡ Ok (left end l) → BackW u Y m end l) → (m end : Stack) (l : Log) → both f (both g (plain op)) m ≡ Ok (left end l)
    → BackB v R m end l
two_back op with_op takes t u v f g X Y R rows x y m end l e =
    let p = between f (both g (plain op)) m end l e in
    let i = x m p.mid p.first p.before in
    let q = between g (plain op) p.mid end p.second p.after in
    let j = y p.mid q.mid q.first q.before in
    let r = plainly op q.mid end q.second q.after in
    -- what lies on the stack behind the first child is what the second one found there
    let at : i.3 ∷ i.2 ≡ j.1 ∷ (j.2 ++ j.3) = sym i.5 ∙ j.5 in
    let top : j.1 ≡ i.3 = sym (first_same i.3 j.1 i.2 (j.2 ++ j.3) at) in
    let below = rest_same i.3 j.1 i.2 (j.2 ++ j.3) at in
    let done = two_values op with_op takes t u i.0 j.0 j.1 j.4 j.3 q.mid (subst (Value t i.0) (sym top) i.6) j.7 j.6 in
    let log : l ≡ then_log p.first q.first =
    p.log ∙ ap (then_log p.first) (q.log ∙ ap (then_log q.first) r.1 ∙ quiet_right q.first) in (
      with_op i.0 j.0,
      i.1 ++ j.2,
      j.3,
      bool_bytes (with_op i.0 j.0),
      onto m i.1 i.2 j.2 j.3 i.4 below,
      same_ok end _ (sym r.0 ∙ done),
      bool_value v (with_op i.0 j.0),
      subst (Took R (with_op i.0 j.0) (i.1 ++ j.2)) (sym log) (rows i.0 j.0 i.1 j.2 p.first q.first i.7 j.8),
    )

pub and_b_back : (t u v : Bool) (f g : Effect) (X Y R : Logged) → ((a b : Bool) → Rows2 (a && b) (Took X a) (Took Y b) R)
    → ((m end : Stack) (l : Log) → f m ≡ Ok (left end l) → BackB t X m end l) → ((m end : Stack) (l : Log) → g m ≡ Ok (left end l) → BackW u Y m end l)
    → (m end : Stack) (l : Log) → both f (both g (plain bool_and)) m ≡ Ok (left end l) → BackB v R m end l
and_b_back = two_back bool_and (λ a b. a && b) (record { run = bool_and-natural; turned = and_turned })

pub or_b_back : (t u v : Bool) (f g : Effect) (X Y R : Logged) → ((a b : Bool) → Rows2 (a || b) (Took X a) (Took Y b) R)
    → ((m end : Stack) (l : Log) → f m ≡ Ok (left end l) → BackB t X m end l) → ((m end : Stack) (l : Log) → g m ≡ Ok (left end l) → BackW u Y m end l)
    → (m end : Stack) (l : Log) → both f (both g (plain bool_or)) m ≡ Ok (left end l) → BackB v R m end l
or_b_back = two_back bool_or (λ a b. a || b) (record { run = bool_or-natural; turned = or_turned })
