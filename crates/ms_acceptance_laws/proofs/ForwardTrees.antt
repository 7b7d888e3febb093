-- A miniscript's Script goes on from each of its satisfactions and dissatisfactions, and leaves what its type says.
use Rattle.std.proofs.Common.{◌≡◌, ◌≢◌, ℕ, ◌+◌, ◌^◌, ◌<◌, ◌&&◌, ◌||◌, Bool, true, false, [], ◌∷◌, ◌++◌, Ok, refl, sym, ◌∙◌, ap, subst, inl, inr, arith}
use Rattle.std.proofs.lemmas.Bool.{and_parts}
use Rattle.def_script.specs.Numbers.{natural_bytes}
use Rattle.def_machine.specs.Stacks.{Stack}
use Rattle.def_tree.specs.declared.Two.TheVariants as kind
use Rattle.def_tree.specs.declared.Wrapper.TheVariants as wrapper
use Rattle.def_tree.specs.Tree.{Tree, Trees, just_0, just_1, pk_k, pk_h, older, after, hash, and_or, two, thresh, multi, wrap, none, more}
use Rattle.def_tree.specs.Range.{IsWritable, AreWritable, count}
use Rattle.def_types.specs.declared.Base.{Base}
use Rattle.def_types.specs.declared.Base.TheVariants.{B, V, K, W}
use Rattle.def_types.specs.Typed.{type_of, IsTyped, AreTyped}
use Rattle.def_types.proofs.Rows.{correctness_rows}
use Rattle.def_types.proofs.Facts.{typed-and_or, typed-and_v, typed-and_b, typed-or_b, typed-or_c, typed-or_d, typed-or_i, typed-multi, typed-thresh, typed-thresh_none, typed-wrap_a, typed-wrap_s, typed-wrap_c, typed-wrap_d, typed-wrap_v, typed-wrap_j, typed-wrap_n, OthersFit}
use Rattle.def_satisfaction.specs.StackSet.{StackSet, Both}
use Rattle.def_satisfaction.specs.Setting.{Setting}
use Rattle.def_satisfaction.specs.Rows.{EMPTY, ONE, row, parts}
use Rattle.ms_acceptance_laws.proofs.StackEffects.{silent, left}
use Rattle.ms_acceptance_laws.proofs.TreeEffects.{den, den_sum, den_added}
use Rattle.ms_row_laws.proofs.RowLogs.{sat_log, dsat_log, parts_log}
use Rattle.ms_row_laws.proofs.RowLengths.{takes_none, takes_one, one_item}
use Rattle.ms_row_laws.proofs.RowTops.{takes_item}
use Rattle.ms_row_laws.proofs.SmallThresholds.{Few, AllFew, parts_few}
use Rattle.ms_acceptance_laws.proofs.ForwardBases.{Short, short_above, short_below, Ends, weaken}
use Rattle.ms_acceptance_laws.proofs.ForwardLeaves.{just_0_ends, just_1_ends, pk_k_sat_ends, pk_k_dsat_ends, pk_h_sat_ends, pk_h_dsat_ends, older_ends, after_ends, hash_sat_ends, hash_dsat_ends}
use Rattle.ms_acceptance_laws.proofs.ForwardFragments.{and_v_ends, and_or_true, and_or_false, or_c_true, or_d_true, or_d_false, or_i_true, or_i_false, and_b_ends, or_b_ends, wrap_a_ends, wrap_s_ends, wrap_c_ends, wrap_d_sat_ends, wrap_d_dsat_ends, wrap_v_ends, wrap_n_ends, wrap_j_some_ends, wrap_j_empty_ends}
use Rattle.ms_acceptance_laws.proofs.ForwardThresholds.{added_ends, first_ends, counted_ends, is_count, is_no_count}
use Rattle.ms_acceptance_laws.proofs.ForwardMultisigs.{multi_sat_ends, multi_dsat_ends}
use Rattle.ms_row_laws.proofs.RunLog.{Log, quiet, then_log}
use Rattle.ms_row_laws.proofs.MultisigTries.{forms}

-- what holds of the upper of two stacks, and of the lower
pub upper : (w above below : Stack) → w ≡ above ++ below → Short w → Short above
upper w above below e short = short_above above below (subst Short e short)

pub lower : (w above below : Stack) → w ≡ above ++ below → Short w → Short below
lower w above below e short = short_below above below (subst Short e short)

pub over : {P Q : StackSet} {G : (w : Stack) → P w → Type 0} → ((w : Stack) → Short w → (r : P w) → G w r) → (w : Stack) → Short w → (r : Both Q P w)
    → G r.1 r.3
over f w short r = f r.1 (upper w r.1 r.0 r.4 short) r.3

pub under : {P Q : StackSet} {G : (w : Stack) → P w → Type 0} → ((w : Stack) → Short w → (r : P w) → G w r) → (w : Stack) → Short w → (r : Both P Q w)
    → G r.0 r.2
under f w short r = f r.0 (lower w r.1 r.0 r.4 short) r.2

v_not_w : V ≢ W
v_not_w e = cc

-- from the stack w on top of any other the Script of t goes on; b is true for a satisfaction
pub record Goes (s : Setting) (t : Tree) (b : Bool) (w : Stack) (l : Log) : Type 0 where
  pub ends : (rest : Stack) → Ends s.given.checker (type_of t).base (type_of t).u b (den s.given t) w rest l

going : {s : Setting} {t : Tree} {b : Bool} {w : Stack} {l : Log}
    → ((rest : Stack) → Ends s.given.checker (type_of t).base (type_of t).u b (den s.given t) w rest l) → Goes s t b w l
going h = record { ends = h }

module _ (s : Setting) where
  -- by another name of its base type, and with u
  based : {t : Tree} {b : Bool} {w : Stack} {l : Log} (base : Base) → (type_of t).base ≡ base → Goes s t b w l → (rest : Stack)
      → Ends s.given.checker base (type_of t).u b (den s.given t) w rest l
  based {t} {b} {w} {l} base e h rest = subst (λ c. Ends s.given.checker c (type_of t).u b (den s.given t) w rest l) e (h.ends rest)

  unit : {t : Tree} {b : Bool} {w : Stack} {l : Log} (base : Base) → (type_of t).base ≡ base → (type_of t).u ≡ true → Goes s t b w l → (rest : Stack)
      → Ends s.given.checker base true b (den s.given t) w rest l
  unit {t} {b} {w} {l} base e i h rest = subst (λ u. Ends s.given.checker base u b (den s.given t) w rest l) i (based base e h rest)

  -- a value with u of two branches is one with u of each
  left_weak : {x : Tree} {b : Bool} {w : Stack} {l : Log} (z : Tree) → Goes s x b w l → (rest : Stack)
      → Ends s.given.checker (type_of x).base ((type_of x).u && (type_of z).u) b (den s.given x) w rest l
  left_weak {x} {b} z h rest = weaken s.given.checker _ _ _ b _ _ _ _ (λ e. (and_parts (type_of x).u (type_of z).u e).0) (h.ends rest)

  right_weak : {z : Tree} {b : Bool} {w : Stack} {l : Log} (x : Tree) → (type_of x).base ≡ (type_of z).base → Goes s z b w l → (rest : Stack)
      → Ends s.given.checker (type_of x).base ((type_of x).u && (type_of z).u) b (den s.given z) w rest l
  right_weak {z} {b} x e h rest = weaken s.given.checker _ _ _ b _ _ _ _ (λ e. (and_parts (type_of x).u (type_of z).u e).1) (based _ (sym e) h rest)

  -- two children, the stack of the first on top
  module _ {w above below : Stack} (e : w ≡ above ++ below) where
    and_or_first : {l m : Log} (x y z : Tree) (b : Bool) → IsTyped (and_or x y z) → Goes s x true above l → Goes s y b below m
        → Goes s (and_or x y z) b w (then_log l m)
    unfolding correctness_rows
    and_or_first x y z b typed i j =
        let p = typed-and_or x y z typed in
        going (λ rest. and_or_true s.given.checker _ _ b _ _ (den s.given z) w above below _ _ _ p.7 e (unit B p.3 p.5 i (below ++ rest)) (left_weak z j rest))

    and_or_second : {l m : Log} (x y z : Tree) (b : Bool) → IsTyped (and_or x y z) → Goes s x false above l → Goes s z b below m
        → Goes s (and_or x y z) b w (then_log l m)
    unfolding correctness_rows
    and_or_second x y z b typed i j =
        let p = typed-and_or x y z typed in
        going (λ rest. and_or_false s.given.checker _ _ b _ (den s.given y) _ w above below _ _ _ p.7 e (unit B p.3 p.5 i (below ++ rest))
        (right_weak y p.6 j rest))

    and_v_goes : {l m : Log} (x y : Tree) (b : Bool) → IsTyped (two kind.AndV x y) → Goes s x true above l → Goes s y b below m
        → Goes s (two kind.AndV x y) b w (then_log l m)
    unfolding correctness_rows
    and_v_goes x y b typed i j =
        let p = typed-and_v x y typed in
        going (λ rest. and_v_ends s.given.checker _ _ b (den s.given x) (den s.given y) w above below _ _ _ p.3 e (based V p.2 i (below ++ rest)) (j.ends rest))

    and_b_goes : {l m : Log} (x y : Tree) (a b : Bool) → IsTyped (two kind.AndB x y) → Goes s x a above l → Goes s y b below m
        → Goes s (two kind.AndB x y) (a && b) w (then_log l m)
    unfolding correctness_rows
    and_b_goes x y a b typed i j =
        let p = typed-and_b x y typed in
        going (λ rest. and_b_ends _ _ true a b (den s.given x) (den s.given y) w above below _ _ _ e (based B p.2 i (below ++ rest)) (based W p.3 j rest))

    or_b_goes : {l m : Log} (x z : Tree) (a b : Bool) → IsTyped (two kind.OrB x z) → Goes s x a above l → Goes s z b below m
        → Goes s (two kind.OrB x z) (a || b) w (then_log l m)
    unfolding correctness_rows
    or_b_goes x z a b typed i j =
        let p = typed-or_b x z typed in
        going (λ rest. or_b_ends _ _ true a b (den s.given x) (den s.given z) w above below _ _ _ e (based B p.2 i (below ++ rest)) (based W p.4 j rest))

    or_d_goes : {l m : Log} (x z : Tree) (b : Bool) → IsTyped (two kind.OrD x z) → Goes s x false above l → Goes s z b below m
        → Goes s (two kind.OrD x z) b w (then_log l m)
    unfolding correctness_rows
    or_d_goes x z b typed i j =
        let p = typed-or_d x z typed in
        going (λ rest. or_d_false _ b (den s.given x) (den s.given z) w above below _ _ _ e (unit B p.2 p.4 i (below ++ rest)) (based B p.5 j rest))

    or_i_first : {m : Log} (x z : Tree) (b : Bool) → IsTyped (two kind.OrI x z) → above ≡ ONE ∷ [] → Goes s x b below m → Goes s (two kind.OrI x z) b w m
    unfolding correctness_rows
    or_i_first x z b typed is i =
        going (λ rest. or_i_true s.given.checker _ _ b _ (den s.given z) w above below _ _ (typed-or_i x z typed).3 is e (left_weak z i rest))

    or_i_second : {m : Log} (x z : Tree) (b : Bool) → IsTyped (two kind.OrI x z) → above ≡ EMPTY ∷ [] → Goes s z b below m → Goes s (two kind.OrI x z) b w m
    unfolding correctness_rows
    or_i_second x z b typed is j =
        let p = typed-or_i x z typed in
        going (λ rest. or_i_false s.given.checker _ _ b (den s.given x) _ w above below _ _ p.3 is e (right_weak x p.2 j rest))

  -- not so many children satisfied as must be
  unmet : (k : ℕ) (x : Tree) (xs : Trees) → IsTyped (thresh k (more x xs)) → Few (thresh k (more x xs)) → (n : ℕ) (w : Stack) (r : parts s (more x xs) n w)
      → (n ≡ k → ⊥)
      → ((rest : Stack) → den_sum s.given (more x xs) (w ++ rest) ≡ Ok (left (natural_bytes n ∷ rest) (parts_log s (more x xs) n w r)))
      → Goes s (thresh k (more x xs)) false w (parts_log s (more x xs) n w r)
  unfolding correctness_rows
  unmet k x xs typed few n w r other sum =
      let low = few.0 in
      let most = (typed-thresh k x xs typed).3 in
      let l = parts_few s (more x xs) n w r in
      going (λ rest. counted_ends n k false (den_sum s.given (more x xs)) w rest _ (is_no_count n k (omega arith) (omega arith) other) (sum rest))

  mutual
    unfolding correctness_rows

    pub sat_ends : (t : Tree) → IsWritable t → IsTyped t → Few t → (w : Stack) → Short w → (r : (row s t).sat w) → Goes s t true w (sat_log s t w r)
    sat_ends just_0 k typed few w short r = absurd r
    sat_ends just_1 k typed few w short r = going (λ rest. just_1_ends s w rest r)
    sat_ends (pk_k key) k typed few w short r = going (λ rest. pk_k_sat_ends s key w rest k r)
    sat_ends (pk_h key) k typed few w short r = going (λ rest. pk_h_sat_ends s key w rest r)
    sat_ends (older n) k typed few w short r = going (λ rest. older_ends s n w rest typed r)
    sat_ends (after n) k typed few w short r = going (λ rest. after_ends s n w rest typed r)
    sat_ends (hash kind value) k typed few w short r = going (λ rest. hash_sat_ends s kind value w rest r)
    sat_ends (and_or x y z) k typed few w short (inl r) =
        and_or_first r.4 x y z true typed (over (sat_ends x k.0 typed.0 few.0) w short r) (under (sat_ends y k.1 typed.1 few.1) w short r)
    sat_ends (and_or x y z) k typed few w short (inr r) =
        and_or_second r.4 x y z true typed (over (dsat_ends x k.0 typed.0 few.0) w short r) (under (sat_ends z k.2 typed.2 few.2) w short r)
    sat_ends (two kind.AndV x y) k typed few w short r =
        and_v_goes r.4 x y true typed (over (sat_ends x k.0 typed.0 few.0) w short r) (under (sat_ends y k.1 typed.1 few.1) w short r)
    sat_ends (two kind.AndB x y) k typed few w short r =
        and_b_goes r.4 x y true true typed (over (sat_ends x k.0 typed.0 few.0) w short r) (under (sat_ends y k.1 typed.1 few.1) w short r)
    sat_ends (two kind.OrB x z) k typed few w short (inl r) =
        or_b_goes r.4 x z true false typed (over (sat_ends x k.0 typed.0 few.0) w short r) (under (dsat_ends z k.1 typed.1 few.1) w short r)
    sat_ends (two kind.OrB x z) k typed few w short (inr (inl r)) =
        or_b_goes r.4 x z false true typed (over (dsat_ends x k.0 typed.0 few.0) w short r) (under (sat_ends z k.1 typed.1 few.1) w short r)
    sat_ends (two kind.OrB x z) k typed few w short (inr (inr (fact, r))) =
        or_b_goes r.4 x z true true typed (over (sat_ends x k.0 typed.0 few.0) w short r) (under (sat_ends z k.1 typed.1 few.1) w short r)
    sat_ends (two kind.OrC x z) k typed few w short (inl r) =
        let p = typed-or_c x z typed in
        going (λ rest. or_c_true (den s.given x) (den s.given z) w rest _ (unit B p.2 p.4 (sat_ends x k.0 typed.0 few.0 w short r) rest))
    sat_ends (two kind.OrC x z) k typed few w short (inr r) =
        let p = typed-or_c x z typed in
        record {
          ends = λ rest.
              and_or_false s.given.checker V false true (den s.given x) silent (den s.given z) w r.1 r.0 rest _ _ v_not_w r.4
              (unit B p.2 p.4 (over (dsat_ends x k.0 typed.0 few.0) w short r) (r.0 ++ rest))
              (based V p.5 (under (sat_ends z k.1 typed.1 few.1) w short r) rest);
        }
    sat_ends (two kind.OrD x z) k typed few w short (inl r) =
        let p = typed-or_d x z typed in
        going (λ rest. or_d_true (type_of z).u (den s.given x) (den s.given z) w rest _ (unit B p.2 p.4 (sat_ends x k.0 typed.0 few.0 w short r) rest))
    sat_ends (two kind.OrD x z) k typed few w short (inr r) =
        or_d_goes r.4 x z true typed (over (dsat_ends x k.0 typed.0 few.0) w short r) (under (sat_ends z k.1 typed.1 few.1) w short r)
    sat_ends (two kind.OrI x z) k typed few w short (inl r) = or_i_first r.4 x z true typed r.3 (under (sat_ends x k.0 typed.0 few.0) w short r)
    sat_ends (two kind.OrI x z) k typed few w short (inr r) = or_i_second r.4 x z true typed r.3 (under (sat_ends z k.1 typed.1 few.1) w short r)
    sat_ends (thresh k none) writable typed few w short r = absurd (typed-thresh_none k typed)
    sat_ends (thresh k (more x xs)) writable typed few w short r =
        going (λ rest. counted_ends k k true (den_sum s.given (more x xs)) w rest _ (is_count k k refl)
        (sum_ends k (more x xs) writable typed few k w short r rest))
    sat_ends (multi k keys) writable typed few w short r =
        let p = typed-multi k keys typed in
        going (λ rest. multi_sat_ends s.given.checker k keys r.1 w r.0 rest p.2 p.1 (forms keys writable.2) r.2 r.4 r.3.0 r.3.1)
    sat_ends (wrap wrapper.A x) k typed few w short r =
        going (λ rest. wrap_a_ends (type_of x).u true (den s.given x) w rest _ (based B (typed-wrap_a x typed).1 (sat_ends x k typed.0 few w short r) rest))
    sat_ends (wrap wrapper.S x) k typed few w short r =
        let p = typed-wrap_s x typed in
        let item = one_item w ((takes_one s x p.0 p.2).sat w r) in
        going (λ rest. wrap_s_ends (type_of x).u true (den s.given x) w rest _ item.0 item.1 (based B p.1 (sat_ends x k p.0 few w short r)))
    sat_ends (wrap wrapper.C x) k typed few w short r =
        going (λ rest. wrap_c_ends s.given.checker true (den s.given x) w rest _ (based K (typed-wrap_c x typed).1 (sat_ends x k typed.0 few w short r) rest))
    sat_ends (wrap wrapper.D x) k typed few w short r =
        let p = typed-wrap_d x typed in
        let i = under (sat_ends x k p.0 few) w short r in
        going (λ rest. wrap_d_sat_ends (den s.given x) w r.1 r.0 rest _ r.3 ((takes_none s x p.2).sat r.0 r.2) r.4 (based V p.1 i ((1 ∷ []) ∷ rest)))
    sat_ends (wrap wrapper.V x) k typed few w short r =
        going (λ rest. wrap_v_ends (type_of x).u (den s.given x) w rest _ (based B (typed-wrap_v x typed).1 (sat_ends x k typed.0 few w short r) rest))
    sat_ends (wrap wrapper.J x) k typed few w short r =
        let p = typed-wrap_j x typed in
        going (λ rest. wrap_j_some_ends (type_of x).u true (den s.given x) w rest _ ((takes_item s x p.0 p.2).sat w r) short
        (based B p.1 (sat_ends x k p.0 few w short r) rest))
    sat_ends (wrap wrapper.N x) k typed few w short r =
        going (λ rest. wrap_n_ends (type_of x).u true (den s.given x) w rest _ (based B (typed-wrap_n x typed).1 (sat_ends x k typed.0 few w short r) rest))

    pub dsat_ends : (t : Tree) → IsWritable t → IsTyped t → Few t → (w : Stack) → Short w → (r : (row s t).dsat w) → Goes s t false w (dsat_log s t w r)
    dsat_ends just_0 k typed few w short r = going (λ rest. just_0_ends s w rest r)
    dsat_ends (pk_k key) k typed few w short r = going (λ rest. pk_k_dsat_ends s key w rest k r)
    dsat_ends (pk_h key) k typed few w short r = going (λ rest. pk_h_dsat_ends s key w rest r)
    dsat_ends (hash kind value) k typed few w short r = going (λ rest. hash_dsat_ends s kind value w rest r)
    dsat_ends (and_or x y z) k typed few w short (inl r) =
        and_or_second r.4 x y z false typed (over (dsat_ends x k.0 typed.0 few.0) w short r) (under (dsat_ends z k.2 typed.2 few.2) w short r)
    dsat_ends (and_or x y z) k typed few w short (inr (fact, r)) =
        and_or_first r.4 x y z false typed (over (sat_ends x k.0 typed.0 few.0) w short r) (under (dsat_ends y k.1 typed.1 few.1) w short r)
    dsat_ends (two kind.AndV x y) k typed few w short (fact, r) =
        and_v_goes r.4 x y false typed (over (sat_ends x k.0 typed.0 few.0) w short r) (under (dsat_ends y k.1 typed.1 few.1) w short r)
    dsat_ends (two kind.AndB x y) k typed few w short (inl r) =
        and_b_goes r.4 x y false false typed (over (dsat_ends x k.0 typed.0 few.0) w short r) (under (dsat_ends y k.1 typed.1 few.1) w short r)
    dsat_ends (two kind.AndB x y) k typed few w short (inr (fact, inl r)) =
        and_b_goes r.4 x y false true typed (over (dsat_ends x k.0 typed.0 few.0) w short r) (under (sat_ends y k.1 typed.1 few.1) w short r)
    dsat_ends (two kind.AndB x y) k typed few w short (inr (fact, inr r)) =
        and_b_goes r.4 x y true false typed (over (sat_ends x k.0 typed.0 few.0) w short r) (under (dsat_ends y k.1 typed.1 few.1) w short r)
    dsat_ends (two kind.OrB x z) k typed few w short r =
        or_b_goes r.4 x z false false typed (over (dsat_ends x k.0 typed.0 few.0) w short r) (under (dsat_ends z k.1 typed.1 few.1) w short r)
    dsat_ends (two kind.OrD x z) k typed few w short r =
        or_d_goes r.4 x z false typed (over (dsat_ends x k.0 typed.0 few.0) w short r) (under (dsat_ends z k.1 typed.1 few.1) w short r)
    dsat_ends (two kind.OrI x z) k typed few w short (inl r) = or_i_first r.4 x z false typed r.3 (under (dsat_ends x k.0 typed.0 few.0) w short r)
    dsat_ends (two kind.OrI x z) k typed few w short (inr r) = or_i_second r.4 x z false typed r.3 (under (dsat_ends z k.1 typed.1 few.1) w short r)
    dsat_ends (thresh k none) writable typed few w short r = absurd (typed-thresh_none k typed)
    dsat_ends (thresh k (more x xs)) writable typed few w short (inl r) =
        unmet k x xs typed few 0 w r (λ e. (let l = (typed-thresh k x xs typed).2 in omega arith)) (sum_ends k (more x xs) writable typed few 0 w short r)
    dsat_ends (thresh k (more x xs)) writable typed few w short (inr (fact, r)) =
        unmet k x xs typed few r.0 w r.3 r.2 (sum_ends k (more x xs) writable typed few r.0 w short r.3)
    dsat_ends (multi k keys) writable typed few w short r =
        let p = typed-multi k keys typed in
        going (λ rest. multi_dsat_ends s.given.checker k keys w rest p.0 p.2 p.1 (forms keys writable.2) r)
    dsat_ends (wrap wrapper.A x) k typed few w short r =
        going (λ rest. wrap_a_ends (type_of x).u false (den s.given x) w rest _ (based B (typed-wrap_a x typed).1 (dsat_ends x k typed.0 few w short r) rest))
    dsat_ends (wrap wrapper.S x) k typed few w short r =
        let p = typed-wrap_s x typed in
        let item = one_item w ((takes_one s x p.0 p.2).dsat w r) in
        going (λ rest. wrap_s_ends (type_of x).u false (den s.given x) w rest _ item.0 item.1 (based B p.1 (dsat_ends x k p.0 few w short r)))
    dsat_ends (wrap wrapper.C x) k typed few w short r =
        going (λ rest. wrap_c_ends s.given.checker false (den s.given x) w rest _ (based K (typed-wrap_c x typed).1 (dsat_ends x k typed.0 few w short r) rest))
    dsat_ends (wrap wrapper.D x) k typed few w short r = going (λ rest. wrap_d_dsat_ends (den s.given x) w rest r)
    dsat_ends (wrap wrapper.J x) k typed few w short (inl r) = going (λ rest. wrap_j_empty_ends (type_of x).u (den s.given x) w rest r)
    dsat_ends (wrap wrapper.J x) k typed few w short (inr (fact, r)) =
        going (λ rest. wrap_j_some_ends (type_of x).u false (den s.given x) w rest _ r.0 short
        (based B (typed-wrap_j x typed).1 (dsat_ends x k typed.0 few w short r.1) rest))
    dsat_ends (wrap wrapper.N x) k typed few w short r =
        going (λ rest. wrap_n_ends (type_of x).u false (den s.given x) w rest _ (based B (typed-wrap_n x typed).1 (dsat_ends x k typed.0 few w short r) rest))
    dsat_ends tree k typed few w short r = absurd r

    -- all children of a threshold, n of them satisfied
    pub sum_ends : (k : ℕ) (xs : Trees) → IsWritable (thresh k xs) → IsTyped (thresh k xs) → Few (thresh k xs) → (n : ℕ) (w : Stack) → Short w
        → (r : parts s xs n w) → (rest : Stack) → den_sum s.given xs (w ++ rest) ≡ Ok (left (natural_bytes n ∷ rest) (parts_log s xs n w r))
    sum_ends k none writable typed few n w short r rest = absurd (typed-thresh_none k typed)
    sum_ends k (more x xs) writable typed few n w short (inl (m, is, r)) rest =
        let p = typed-thresh k x xs typed in
        let low = few.0 in
        first_ends n true (den s.given x) (den_added s.given xs) w r.1 r.0 rest _ _ r.4
        (unit B p.4 p.6 (over (sat_ends x writable.2.0 p.0 few.1.0) w short r) (r.0 ++ rest))
        (parts_ends xs writable.2.1 p.1 p.7 few.1.1 1 m n r.0 (omega arith) (omega arith) (lower w r.1 r.0 r.4 short) r.2 rest)
    sum_ends k (more x xs) writable typed few n w short (inr r) rest =
        let p = typed-thresh k x xs typed in
        let low = few.0 in
        first_ends n false (den s.given x) (den_added s.given xs) w r.1 r.0 rest _ _ r.4
        (unit B p.4 p.6 (over (dsat_ends x writable.2.0 p.0 few.1.0) w short r) (r.0 ++ rest))
        (parts_ends xs writable.2.1 p.1 p.7 few.1.1 0 n n r.0 (omega arith) (omega arith) (lower w r.1 r.0 r.4 short) r.2 rest)

    -- further children, behind the sum of those before them
    parts_ends : (xs : Trees) → AreWritable xs → AreTyped xs → OthersFit xs → AllFew xs → (a n sum : ℕ) (w : Stack) → a + count xs < 2 ^ 31 → sum ≡ a + n
        → Short w → (r : parts s xs n w) → (rest : Stack)
        → den_added s.given xs (natural_bytes a ∷ (w ++ rest)) ≡ Ok (left (natural_bytes sum ∷ rest) (parts_log s xs n w r))
    parts_ends none k typed fit few a n sum w low same short r rest =
        let stays : a ≡ sum = (let e = r.0 in omega arith) in
        ap (λ v. silent (natural_bytes a ∷ (v ++ rest))) r.1 ∙ ap (λ c. Ok (left (natural_bytes c ∷ rest) quiet)) stays
    parts_ends (more x xs) k typed fit few a n sum w low same short (inl (m, is, r)) rest =
        added_ends a sum true (den s.given x) (den_added s.given xs) w r.1 r.0 rest _ _ (omega arith) r.4
        (unit W fit.0 fit.2 (over (sat_ends x k.0 typed.0 few.0) w short r) (r.0 ++ rest))
        (parts_ends xs k.1 typed.1 fit.3 few.1 (a + 1) m sum r.0 (omega arith) (omega arith) (lower w r.1 r.0 r.4 short) r.2 rest)
    parts_ends (more x xs) k typed fit few a n sum w low same short (inr r) rest =
        added_ends a sum false (den s.given x) (den_added s.given xs) w r.1 r.0 rest _ _ (omega arith) r.4
        (unit W fit.0 fit.2 (over (dsat_ends x k.0 typed.0 few.0) w short r) (r.0 ++ rest))
        (parts_ends xs k.1 typed.1 fit.3 few.1 (a + 0) n sum r.0 (omega arith) (omega arith) (lower w r.1 r.0 r.4 short) r.2 rest)
