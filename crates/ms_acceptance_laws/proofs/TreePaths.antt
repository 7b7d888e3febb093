-- The run of each canonical row of the satisfaction table keeps within the course of a formal one with as many items.
use Rattle.std.proofs.Common.{◌≡◌, ◌≢◌, ℕ, ◌+◌, Bool, true, false, IsTrue, List, [], ◌∷◌, ◌++◌, length, map, replicate, Option, Some, None, refl, sym, ◌∙◌, ap, subst, inl, inr, arith}
use Rattle.std.proofs.lemmas.List.{length-append, length-replicate, nil_from_length}
use Rattle.def_hash.specs.Hash.{hash160}
use Rattle.def_script.specs.declared.Op.TheVariants as op
use Rattle.def_script.specs.Bytes.{Bytes}
use Rattle.def_script.specs.Instruction.{Instruction, push, code}
use Rattle.def_script.specs.Numbers.{natural_bytes}
use Rattle.def_machine.specs.Stacks.{Stack}
use Rattle.def_machine.specs.Machine.{Given}
use Rattle.def_tree.specs.declared.Two.TheVariants as kind
use Rattle.def_tree.specs.declared.Wrapper.TheVariants as wrapper
use Rattle.def_tree.specs.Tree.{Tree, Trees, Key, just_0, just_1, pk_k, pk_h, older, after, hash, and_or, two, thresh, multi, wrap, none, more}
use Rattle.def_tree.specs.Range.{IsWritable, AreWritable}
use Rattle.def_types.specs.declared.Base.{Base}
use Rattle.def_types.specs.declared.Base.TheVariants.{B, V, K, W}
use Rattle.def_types.specs.Typed.{type_of, IsTyped, AreTyped}
use Rattle.def_types.proofs.Rows.{correctness_rows}
use Rattle.def_types.proofs.Facts.{typed-and_or, typed-and_v, typed-and_b, typed-or_b, typed-or_c, typed-or_d, typed-or_i, typed-thresh, typed-thresh_none, typed-wrap_a, typed-wrap_s, typed-wrap_c, typed-wrap_d, typed-wrap_v, typed-wrap_j, typed-wrap_n, OthersFit}
use Rattle.def_emit.specs.Emit.{push_number, emit, emit_sum, emit_added}
use Rattle.def_satisfaction.specs.StackSet.{StackSet}
use Rattle.def_satisfaction.specs.Setting.{Setting}
use Rattle.def_satisfaction.specs.Rows.{EMPTY, ONE, ZEROS, row, parts}
use Rattle.def_height.specs.declared.Highest.{Highest}
use Rattle.def_height.specs.Course.{up, down, Course, rise}
use Rattle.def_height.specs.Formal.{Way, then, FormalSat, FormalDsat, FormalParts}
use Rattle.def_height.specs.Scaffolding.Highest.{highest_sat, highest_dsat, highest_parts}
use Rattle.def_height.proofs.Courses.{ups, downs, IsHighest}
use Rattle.def_height.proofs.Heights.{left, rise_multi, fit_children, sat_highest, dsat_highest, first_highest}
use Rattle.ms_acceptance_laws.proofs.RowWays.{is, followed, sat_way, dsat_way, parts_way, sat_formal, dsat_formal, parts_formal}
use Rattle.ms_acceptance_laws.proofs.ScriptRise.{rises}
use Rattle.ms_acceptance_laws.proofs.TreeEffects.{den, den_sum}
use Rattle.ms_row_laws.proofs.RowLogs.{sat_log, dsat_log, parts_log}
use Rattle.ms_row_laws.proofs.RowLengths.{takes_none, takes_one, one_item}
use Rattle.ms_row_laws.proofs.RowTops.{takes_item}
use Rattle.ms_row_laws.proofs.SmallThresholds.{Few, AllFew}
use Rattle.ms_acceptance_laws.proofs.ForwardBases.{Short}
use Rattle.ms_acceptance_laws.proofs.ForwardTrees.{lower, over, under, sat_ends, dsat_ends, sum_ends}
use Rattle.ms_acceptance_laws.proofs.ScriptEffects.{and_or_script, or_c_script, or_d_script, or_i_script, does, does_sum}
use Rattle.ms_acceptance_laws.proofs.WithinCourse.{Follows, does_follow, keeps_pushes}
use Rattle.ms_acceptance_laws.proofs.UntakenBranches.{still}
use Rattle.ms_acceptance_laws.proofs.SimplePaths.{Path, Child, b_not_w, k_not_w, child_of, path_script, is_path, both_items, and_v_path, behind_path, wrap_v_path, two_path}
use Rattle.ms_acceptance_laws.proofs.BranchingPaths.{hash_path, pk_h_path, and_or_true_path, and_or_false_path, or_c_true_path, or_c_false_path, or_d_true_path, or_d_false_path, or_i_true_path, or_i_false_path, wrap_a_path, wrap_s_path, wrap_d_sat_path, wrap_d_dsat_path, wrap_j_sat_path, wrap_j_dsat_path, first_path, added_path, none_path, thresh_path}

-- what a formal way leaves
leaves_of : (elements : ℕ) (P : Way → Type 0) (o : Option Highest) → IsHighest elements P o → (v : Way) → P v → v.items + ups v.course ≡ elements + downs v.course
leaves_of elements P None h v p = absurd (h v p)
leaves_of elements P (Some m) h v p = h.leaves v p

path_base : {given : Given} {base : Base} {c : List Instruction} {v : Way} {w : Stack} → (other : Base) → base ≡ other → Path given base c v w
    → Path given other c v w
path_base {given} {base} {c} {v} {w} other e p = subst (λ (b : Base). Path given b c v w) e p

-- pushes, and then opcodes that raise nothing
pushes_path : (given : Given) (base : Base) (pushed : List Bytes) (d : List Instruction) (items : ℕ) (course : Course) (w : Stack) → (base ≢ W) → length w ≡ items →
    rises (map push pushed ++ d) ≡ length pushed → rise course ≡ length pushed → Path given base (map push pushed ++ d) (is items course) w
pushes_path given base pushed d items course w n long flat top =
    is_path base items course w n long (map push pushed ++ d) (λ rest. keeps_pushes given pushed d course (w ++ rest) flat top)

-- a `multi`
rises-pushes : (items : List Bytes) (d : List Instruction) → rises (map push items ++ d) ≡ length items + rises d
rises-pushes [] d = omega arith
rises-pushes (item ∷ items) d = omega (arith, rises-pushes items d)

pushed_keys : (keys : List Key) (last : Bytes) (d : List Instruction) → map push (keys ++ last ∷ []) ++ d ≡ map push keys ++ (push last ∷ d)
pushed_keys [] last d = refl
pushed_keys (key ∷ keys) last d = ap (λ (c : List Instruction). push key ∷ c) (pushed_keys keys last d)

multi_path : (given : Given) (k : ℕ) (keys : List Key) (w : Stack) → length w ≡ k + 1 →
    Path given B (emit (multi k keys)) (is (k + 1) (replicate (length keys + 2) (up 1) ++ down (length keys + k + 2) ∷ [])) w
multi_path given k keys w long =
    let end : Course = down (length keys + k + 2) ∷ [] in
    let pushed : List Bytes = natural_bytes k ∷ (keys ++ natural_bytes (length keys) ∷ []) in
    let many : length (keys ++ natural_bytes (length keys) ∷ []) ≡ length keys + 1 = length-append keys (natural_bytes (length keys) ∷ []) in
    path_script (emit (multi k keys)) (ap (λ (c : List Instruction). push_number k ∷ c) (pushed_keys keys (natural_bytes (length keys)) (code op.CheckMultiSig ∷ [])))
    (pushes_path given B pushed (code op.CheckMultiSig ∷ []) (k + 1) (replicate (length keys + 2) (up 1) ++ end) w b_not_w long
    (omega (arith, rises-pushes pushed (code op.CheckMultiSig ∷ [])))
    (omega (arith, many, rise_multi (length keys + 2) end)))

-- the stacks of a row that satisfy, or that dissatisfy, with their ways
abbrev Part : Setting → Tree → (b : Bool) → StackSet
Part s t true = (row s t).sat
Part s t false = (row s t).dsat

abbrev way : (s : Setting) (t : Tree) (b : Bool) (w : Stack) → Part s t b w → Way
way s t true = sat_way s t
way s t false = dsat_way s t

module _ (s : Setting) (no_more : IsTrue s.all_rows → ⊥) where
  abbrev Walk : Tree → Way → Stack → Type 0
  Walk t v w = Path s.given (type_of t).base (emit t) v w

  abbrev Own : (b : Bool) → Tree → Way → Stack → Type 0
  Own b t v w = Child s.given (type_of t).base (type_of t).u b (emit t) v w

  -- a child by its path, by itself or on top of another stack
  child : (b : Bool) (t : Tree) → IsWritable t → IsTyped t → Few t → ((w : Stack) → Short w → (r : Part s t b w) → Walk t (way s t b w r) w) →
      (w : Stack) → Short w → (r : Part s t b w) → Own b t (way s t b w r) w
  child true t k typed few path w short r =
      child_of s.given _ _ true (emit t) (den s.given t) _ w (sat_log s t w r) (does s.given t) (sat_ends s t k typed few w short r).ends
      (leaves_of (left t) (FormalSat t) (highest_sat t) (sat_highest t typed) _ (sat_formal s no_more t w r)) (path w short r)
  child false t k typed few path w short r =
      child_of s.given _ _ false (emit t) (den s.given t) _ w (dsat_log s t w r) (does s.given t) (dsat_ends s t k typed few w short r).ends
      (leaves_of (left t) (FormalDsat t) (highest_dsat t) (dsat_highest t typed) _ (dsat_formal s no_more t w r)) (path w short r)

  -- a child by another name of its base type, and with u
  based : {b : Bool} {v : Way} {w : Stack} (t : Tree) (base : Base) → (type_of t).base ≡ base → Own b t v w → Child s.given base (type_of t).u b (emit t) v w
  based {b} {v} {w} t base e x = subst (λ (c : Base). Child s.given c (type_of t).u b (emit t) v w) e x

  unit : {b : Bool} {v : Way} {w : Stack} (t : Tree) (base : Base) → (type_of t).base ≡ base → (type_of t).u ≡ true → Own b t v w
      → Child s.given base true b (emit t) v w
  unit {b} {v} {w} t base e i x = subst (λ (u : Bool). Child s.given base u b (emit t) v w) i (based t base e x)

  -- two children, the stack of the first on top
  module _ {w above below : Stack} (e : w ≡ above ++ below) where
    and_or_second : {v u : Way} (x y z : Tree) (b : Bool) → IsTyped (and_or x y z) → Own false x v above → Own b z u below
        → Walk (and_or x y z) (then (followed v (down 1 ∷ [])) u) w
    unfolding correctness_rows
    and_or_second x y z b typed i j =
        let p = typed-and_or x y z typed in
        path_script (emit (and_or x y z)) (and_or_script x y z) (and_or_false_path w p.7 e (unit x B p.3 p.5 i) (based z _ (sym p.6) j) (still s.given y))

    and_b_walk : {v u : Way} (x y : Tree) (a : Bool) → IsTyped (two kind.AndB x y) → Own a x v above → Walk y u below
        → Walk (two kind.AndB x y) (followed (then v u) (down 1 ∷ [])) w
    unfolding correctness_rows
    and_b_walk x y a typed i j = let p = typed-and_b x y typed in two_path w (code op.BoolAnd ∷ []) e refl (based x B p.2 i) (path_base W p.3 j)

    or_b_walk : {v u : Way} (x z : Tree) (a : Bool) → IsTyped (two kind.OrB x z) → Own a x v above → Walk z u below
        → Walk (two kind.OrB x z) (followed (then v u) (down 1 ∷ [])) w
    unfolding correctness_rows
    or_b_walk x z a typed i j = let p = typed-or_b x z typed in two_path w (code op.BoolOr ∷ []) e refl (based x B p.2 i) (path_base W p.4 j)

    or_d_walk : {v u : Way} (x z : Tree) → IsTyped (two kind.OrD x z) → Own false x v above → Walk z u below
        → Walk (two kind.OrD x z) (then (followed v (up 0 ∷ down 1 ∷ [])) u) w
    unfolding correctness_rows
    or_d_walk x z typed i j =
        let p = typed-or_d x z typed in
        path_script (emit (two kind.OrD x z)) (or_d_script x z) (or_d_false_path w e (unit x B p.2 p.4 i) (path_base B p.5 j))

    or_i_first : {v : Way} (x z : Tree) (b : Bool) → IsTyped (two kind.OrI x z) → above ≡ ONE ∷ [] → Own b x v below
        → Walk (two kind.OrI x z) (then (is 1 (down 1 ∷ [])) v) w
    unfolding correctness_rows
    or_i_first x z b typed one i =
        path_script (emit (two kind.OrI x z)) (or_i_script x z) (or_i_true_path w above (typed-or_i x z typed).3 e one i (still s.given z))

    or_i_second : {v : Way} (x z : Tree) → IsTyped (two kind.OrI x z) → above ≡ EMPTY ∷ [] → Walk z v below
        → Walk (two kind.OrI x z) (then (is 1 (down 1 ∷ [])) v) w
    unfolding correctness_rows
    or_i_second x z typed empty j =
        let p = typed-or_i x z typed in
        path_script (emit (two kind.OrI x z)) (or_i_script x z)
        (or_i_false_path (den s.given x) w above p.3 e empty (path_base _ (sym p.2) j) (does s.given x) (still s.given x))

  -- the children of a threshold
  sum_follows : (k : ℕ) (x : Tree) (xs : Trees) → IsWritable (thresh k (more x xs)) → IsTyped (thresh k (more x xs)) → Few (thresh k (more x xs))
      → (n : ℕ) (w : Stack) → Short w →
      (r : parts s (more x xs) n w) → (p : Path s.given B (emit_sum (more x xs)) (parts_way s [] (more x xs) n w r) w) → (rest : Stack) →
      (v : Bytes) × Follows s.given (emit_sum (more x xs)) (parts_way s [] (more x xs) n w r).course (w ++ rest) (v ∷ rest)
  sum_follows k x xs writable typed few n w short r p rest =
      let leaves = leaves_of 1 (FormalParts [] (more x xs) n) (highest_parts 1 (more x xs) n) (first_highest (more x xs) n (fit_children k x xs typed)) _
      (parts_formal s no_more [] (more x xs) n w r) in (
        natural_bytes n,
        does_follow s.given (emit_sum (more x xs)) (den_sum s.given (more x xs)) _ (w ++ rest) (natural_bytes n ∷ rest) (parts_log s (more x xs) n w r)
            (does_sum s.given (more x xs))
            (sum_ends s k (more x xs) writable typed few n w short r rest) (omega (arith, leaves, p.items, length-append w rest)) (p.keeps rest),
      )

  mutual
    unfolding correctness_rows

    pub sat_path : (t : Tree) → IsWritable t → IsTyped t → Few t → (w : Stack) → Short w → (r : (row s t).sat w)
        → Path s.given (type_of t).base (emit t) (sat_way s t w r) w
    sat_path just_0 k typed few w short r = absurd r
    sat_path just_1 k typed few w short r = pushes_path s.given B (ONE ∷ []) [] 0 (up 1 ∷ []) w b_not_w (ap length r) refl refl
    sat_path (pk_k key) k typed few w short r = pushes_path s.given K (key ∷ []) [] 1 (up 1 ∷ []) w k_not_w (ap length r.2) refl refl
    sat_path (pk_h key) k typed few w short r =
        pk_h_path s.given (hash160 key) r.0 w r.4.1 r.4.0 r.4.4 r.4.3 (ap length r.4.2.2)
    sat_path (older n) k typed few w short r = pushes_path s.given B (natural_bytes n ∷ []) (code op.CheckSequenceVerify ∷ []) 0 (up 1 ∷ up 0 ∷ []) w b_not_w (ap length r.1) refl refl
    sat_path (after n) k typed few w short r = pushes_path s.given B (natural_bytes n ∷ []) (code op.CheckLockTimeVerify ∷ []) 0 (up 1 ∷ up 0 ∷ []) w b_not_w (ap length r.1) refl refl
    sat_path (hash kind value) k typed few w short r = hash_path s.given kind value r.0 w r.1.0.0 r.2
    sat_path (and_or x y z) k typed few w short (inl r) =
        let p = typed-and_or x y z typed in
        path_script (emit (and_or x y z)) (and_or_script x y z)
        (and_or_true_path (den s.given z) w p.7 r.4 (unit x B p.3 p.5 (over (child true x k.0 typed.0 few.0 (sat_path x k.0 typed.0 few.0)) w short r))
        (under (sat_path y k.1 typed.1 few.1) w short r) (does s.given z) (still s.given z))
    sat_path (and_or x y z) k typed few w short (inr r) =
        and_or_second r.4 x y z true typed (over (child false x k.0 typed.0 few.0 (dsat_path x k.0 typed.0 few.0)) w short r)
        (under (child true z k.2 typed.2 few.2 (sat_path z k.2 typed.2 few.2)) w short r)
    sat_path (two kind.AndV x y) k typed few w short r =
        let p = typed-and_v x y typed in
        and_v_path w p.3 r.4 (based x V p.2 (over (child true x k.0 typed.0 few.0 (sat_path x k.0 typed.0 few.0)) w short r))
        (under (sat_path y k.1 typed.1 few.1) w short r)
    sat_path (two kind.AndB x y) k typed few w short r =
        and_b_walk r.4 x y true typed (over (child true x k.0 typed.0 few.0 (sat_path x k.0 typed.0 few.0)) w short r)
        (under (sat_path y k.1 typed.1 few.1) w short r)
    sat_path (two kind.OrB x z) k typed few w short (inl r) =
        or_b_walk r.4 x z true typed (over (child true x k.0 typed.0 few.0 (sat_path x k.0 typed.0 few.0)) w short r)
        (under (dsat_path z k.1 typed.1 few.1) w short r)
    sat_path (two kind.OrB x z) k typed few w short (inr (inl r)) =
        or_b_walk r.4 x z false typed (over (child false x k.0 typed.0 few.0 (dsat_path x k.0 typed.0 few.0)) w short r)
        (under (sat_path z k.1 typed.1 few.1) w short r)
    sat_path (two kind.OrB x z) k typed few w short (inr (inr r)) = absurd (no_more r.0)
    sat_path (two kind.OrC x z) k typed few w short (inl r) =
        let p = typed-or_c x z typed in
        path_script (emit (two kind.OrC x z)) (or_c_script x z)
        (or_c_true_path (unit x B p.2 p.4 (child true x k.0 p.0 few.0 (sat_path x k.0 p.0 few.0) w short r)) (still s.given z))
    sat_path (two kind.OrC x z) k typed few w short (inr r) =
        let p = typed-or_c x z typed in
        path_script (emit (two kind.OrC x z)) (or_c_script x z)
        (or_c_false_path w r.4 (unit x B p.2 p.4 (over (child false x k.0 typed.0 few.0 (dsat_path x k.0 typed.0 few.0)) w short r))
        (path_base V p.5 (under (sat_path z k.1 typed.1 few.1) w short r)))
    sat_path (two kind.OrD x z) k typed few w short (inl r) =
        let p = typed-or_d x z typed in
        path_script (emit (two kind.OrD x z)) (or_d_script x z)
        (or_d_true_path (unit x B p.2 p.4 (child true x k.0 p.0 few.0 (sat_path x k.0 p.0 few.0) w short r)) (still s.given z))
    sat_path (two kind.OrD x z) k typed few w short (inr r) =
        or_d_walk r.4 x z typed (over (child false x k.0 typed.0 few.0 (dsat_path x k.0 typed.0 few.0)) w short r)
        (under (sat_path z k.1 typed.1 few.1) w short r)
    sat_path (two kind.OrI x z) k typed few w short (inl r) =
        or_i_first r.4 x z true typed r.3 (under (child true x k.0 typed.0 few.0 (sat_path x k.0 typed.0 few.0)) w short r)
    sat_path (two kind.OrI x z) k typed few w short (inr r) = or_i_second r.4 x z typed r.3 (under (sat_path z k.1 typed.1 few.1) w short r)
    sat_path (thresh k none) writable typed few w short r = absurd (typed-thresh_none k typed)
    sat_path (thresh k (more x xs)) writable typed few w short r =
        let p = sum_path k (more x xs) writable typed few k w short r in
        thresh_path k p (sum_follows k x xs writable typed few k w short r p)
    sat_path (multi k keys) writable typed few w short r =
        multi_path s.given k keys w (both_items w r.1 r.0 k 1 (k + 1) r.4 r.3.0 (ap length r.2) refl)
    sat_path (wrap wrapper.A x) k typed few w short r = wrap_a_path (path_base B (typed-wrap_a x typed).1 (sat_path x k typed.0 few w short r))
    sat_path (wrap wrapper.S x) k typed few w short r =
        let p = typed-wrap_s x typed in
        let item = one_item w ((takes_one s x p.0 p.2).sat w r) in
        wrap_s_path item.0 item.1 (path_base B p.1 (sat_path x k p.0 few w short r))
    sat_path (wrap wrapper.C x) k typed few w short r =
        behind_path B k_not_w b_not_w (down 1 ∷ []) (code op.CheckSig ∷ []) refl refl
        (path_base K (typed-wrap_c x typed).1 (sat_path x k typed.0 few w short r))
    sat_path (wrap wrapper.D x) k typed few w short r =
        let p = typed-wrap_d x typed in
        wrap_d_sat_path w r.1 r.4 r.3 (nil_from_length r.0 ((takes_none s x p.2).sat r.0 r.2)) (path_base V p.1 (under (sat_path x k p.0 few) w short r))
    sat_path (wrap wrapper.V x) k typed few w short r = wrap_v_path (path_base B (typed-wrap_v x typed).1 (sat_path x k typed.0 few w short r))
    sat_path (wrap wrapper.J x) k typed few w short r =
        let p = typed-wrap_j x typed in
        wrap_j_sat_path ((takes_item s x p.0 p.2).sat w r) short (path_base B p.1 (sat_path x k p.0 few w short r))
    sat_path (wrap wrapper.N x) k typed few w short r =
        behind_path B b_not_w b_not_w (up 0 ∷ []) (code op.ZeroNotEqual ∷ []) refl refl
        (path_base B (typed-wrap_n x typed).1 (sat_path x k typed.0 few w short r))

    pub dsat_path : (t : Tree) → IsWritable t → IsTyped t → Few t → (w : Stack) → Short w → (r : (row s t).dsat w)
        → Path s.given (type_of t).base (emit t) (dsat_way s t w r) w
    dsat_path just_0 k typed few w short r = pushes_path s.given B (EMPTY ∷ []) [] 0 (up 1 ∷ []) w b_not_w (ap length r) refl refl
    dsat_path (pk_k key) k typed few w short r = pushes_path s.given K (key ∷ []) [] 1 (up 1 ∷ []) w k_not_w (ap length r) refl refl
    dsat_path (pk_h key) k typed few w short r =
        pk_h_path s.given (hash160 key) r.0 w r.4.1 r.4.0 r.4.4 r.4.3 (ap length r.4.2)
    dsat_path (hash kind value) k typed few w short (inl r) = hash_path s.given kind value ZEROS w r.0.0 r.1
    dsat_path (hash kind value) k typed few w short (inr r) = absurd (no_more r.0)
    dsat_path (and_or x y z) k typed few w short (inl r) =
        and_or_second r.4 x y z false typed (over (child false x k.0 typed.0 few.0 (dsat_path x k.0 typed.0 few.0)) w short r)
        (under (child false z k.2 typed.2 few.2 (dsat_path z k.2 typed.2 few.2)) w short r)
    dsat_path (and_or x y z) k typed few w short (inr r) = absurd (no_more r.0)
    dsat_path (two kind.AndV x y) k typed few w short r = absurd (no_more r.0)
    dsat_path (two kind.AndB x y) k typed few w short (inl r) =
        and_b_walk r.4 x y false typed (over (child false x k.0 typed.0 few.0 (dsat_path x k.0 typed.0 few.0)) w short r)
        (under (dsat_path y k.1 typed.1 few.1) w short r)
    dsat_path (two kind.AndB x y) k typed few w short (inr r) = absurd (no_more r.0)
    dsat_path (two kind.OrB x z) k typed few w short r =
        or_b_walk r.4 x z false typed (over (child false x k.0 typed.0 few.0 (dsat_path x k.0 typed.0 few.0)) w short r)
        (under (dsat_path z k.1 typed.1 few.1) w short r)
    dsat_path (two kind.OrD x z) k typed few w short r =
        or_d_walk r.4 x z typed (over (child false x k.0 typed.0 few.0 (dsat_path x k.0 typed.0 few.0)) w short r)
        (under (dsat_path z k.1 typed.1 few.1) w short r)
    dsat_path (two kind.OrI x z) k typed few w short (inl r) =
        or_i_first r.4 x z false typed r.3 (under (child false x k.0 typed.0 few.0 (dsat_path x k.0 typed.0 few.0)) w short r)
    dsat_path (two kind.OrI x z) k typed few w short (inr r) = or_i_second r.4 x z typed r.3 (under (dsat_path z k.1 typed.1 few.1) w short r)
    dsat_path (thresh k none) writable typed few w short r = absurd (typed-thresh_none k typed)
    dsat_path (thresh k (more x xs)) writable typed few w short (inl r) =
        let p = sum_path k (more x xs) writable typed few 0 w short r in
        thresh_path k p (sum_follows k x xs writable typed few 0 w short r p)
    dsat_path (thresh k (more x xs)) writable typed few w short (inr r) = absurd (no_more r.0)
    dsat_path (multi k keys) writable typed few w short r = multi_path s.given k keys w (ap length r ∙ length-replicate (k + 1) EMPTY)
    dsat_path (wrap wrapper.A x) k typed few w short r = wrap_a_path (path_base B (typed-wrap_a x typed).1 (dsat_path x k typed.0 few w short r))
    dsat_path (wrap wrapper.S x) k typed few w short r =
        let p = typed-wrap_s x typed in
        let item = one_item w ((takes_one s x p.0 p.2).dsat w r) in
        wrap_s_path item.0 item.1 (path_base B p.1 (dsat_path x k p.0 few w short r))
    dsat_path (wrap wrapper.C x) k typed few w short r =
        behind_path B k_not_w b_not_w (down 1 ∷ []) (code op.CheckSig ∷ []) refl refl
        (path_base K (typed-wrap_c x typed).1 (dsat_path x k typed.0 few w short r))
    dsat_path (wrap wrapper.D x) k typed few w short r = wrap_d_dsat_path w r (still s.given x)
    dsat_path (wrap wrapper.J x) k typed few w short (inl r) = wrap_j_dsat_path w r (still s.given x)
    dsat_path (wrap wrapper.J x) k typed few w short (inr r) = absurd (no_more r.0)
    dsat_path (wrap wrapper.N x) k typed few w short r =
        behind_path B b_not_w b_not_w (up 0 ∷ []) (code op.ZeroNotEqual ∷ []) refl refl
        (path_base B (typed-wrap_n x typed).1 (dsat_path x k typed.0 few w short r))
    dsat_path tree k typed few w short r = absurd r

    -- all children of a threshold, n of them satisfied
    sum_path : (k : ℕ) (xs : Trees) → IsWritable (thresh k xs) → IsTyped (thresh k xs) → Few (thresh k xs) → (n : ℕ) (w : Stack) → Short w → (r : parts s xs n w) →
        Path s.given B (emit_sum xs) (parts_way s [] xs n w r) w
    sum_path k none writable typed few n w short r = absurd (typed-thresh_none k typed)
    sum_path k (more x xs) writable typed few n w short (inl (m, is, r)) =
        let p = typed-thresh k x xs typed in
        first_path w r.4 (unit x B p.4 p.6 (over (child true x writable.2.0 p.0 few.1.0 (sat_path x writable.2.0 p.0 few.1.0)) w short r))
        (parts_path xs writable.2.1 p.1 p.7 few.1.1 m r.0 (lower w r.1 r.0 r.4 short) r.2)
    sum_path k (more x xs) writable typed few n w short (inr r) =
        let p = typed-thresh k x xs typed in
        first_path w r.4 (unit x B p.4 p.6 (over (child false x writable.2.0 p.0 few.1.0 (dsat_path x writable.2.0 p.0 few.1.0)) w short r))
        (parts_path xs writable.2.1 p.1 p.7 few.1.1 n r.0 (lower w r.1 r.0 r.4 short) r.2)

    -- further children, behind the sum of those before them
    parts_path : (xs : Trees) → AreWritable xs → AreTyped xs → OthersFit xs → AllFew xs → (n : ℕ) (w : Stack) → Short w → (r : parts s xs n w)
        → Path s.given W (emit_added xs) (parts_way s (down 1 ∷ []) xs n w r) w
    parts_path none k typed fit few n w short r = none_path s.given w r.1
    parts_path (more x xs) k typed fit few n w short (inl (m, is, r)) =
        added_path w r.4 (based x W fit.0 (over (child true x k.0 typed.0 few.0 (sat_path x k.0 typed.0 few.0)) w short r))
        (parts_path xs k.1 typed.1 fit.3 few.1 m r.0 (lower w r.1 r.0 r.4 short) r.2)
    parts_path (more x xs) k typed fit few n w short (inr r) =
        added_path w r.4 (based x W fit.0 (over (child false x k.0 typed.0 few.0 (dsat_path x k.0 typed.0 few.0)) w short r))
        (parts_path xs k.1 typed.1 fit.3 few.1 n r.0 (lower w r.1 r.0 r.4 short) r.2)
