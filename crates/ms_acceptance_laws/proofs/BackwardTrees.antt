-- Where the Script of a miniscript goes on, the stack ended in a satisfaction or a dissatisfaction of it.
use Rattle.std.proofs.Common.{◌≡◌, ℕ, zero, suc, ◌+◌, ◌^◌, ◌<◌, ◌≤◌, ◌&&◌, ◌||◌, Bool, true, false, List, [], ◌∷◌, ◌++◌, length, Ok, refl, sym, ◌∙◌, ap, subst, inl, inr, arith}
use Rattle.std.proofs.lemmas.Bool.{false≢true, and_parts}
use Rattle.std.specs.Str.{bytes_eq}
use Rattle.std.proofs.lemmas.Slice.Eq.{bytes_eq-Decides}
use Rattle.std.proofs.lemmas.List.{append_assoc}
use Rattle.def_script.specs.Numbers.{natural_bytes}
use Rattle.def_machine.specs.Stacks.{Stack, bool_bytes}
use Rattle.def_machine.specs.Machine.{Given}
use Rattle.def_tree.specs.declared.Two.TheVariants as kind
use Rattle.def_tree.specs.declared.Wrapper.TheVariants as wrapper
use Rattle.def_tree.specs.Tree.{Tree, Trees, Key, just_0, just_1, pk_k, pk_h, older, after, hash, and_or, two, thresh, multi, wrap, none, more}
use Rattle.def_tree.specs.Range.{IsWritable, AreWritable, count}
use Rattle.def_types.specs.declared.Base.{Base}
use Rattle.def_types.specs.declared.Base.TheVariants.{B, V, K, W}
use Rattle.def_types.specs.Typed.{type_of, IsTyped, AreTyped}
use Rattle.def_types.proofs.Rows.{correctness_rows}
use Rattle.def_types.proofs.Facts.{typed-and_or, typed-and_v, typed-and_b, typed-or_b, typed-or_c, typed-or_d, typed-or_i, typed-multi, typed-thresh, typed-thresh_none, typed-wrap_a, typed-wrap_s, typed-wrap_c, typed-wrap_d, typed-wrap_v, typed-wrap_j, typed-wrap_n, OthersFit}
use Rattle.def_satisfaction.specs.Setting.{Setting, any}
use Rattle.def_satisfaction.specs.Satisfaction.{full}
use Rattle.def_satisfaction.specs.Rows.{EMPTY, ONE, HasTop, parts}
use Rattle.ms_acceptance_laws.proofs.StackEffects.{left}
use Rattle.ms_acceptance_laws.proofs.TreeEffects.{den, den_sum, den_added}
use Rattle.ms_row_laws.proofs.RowLogs.{parts_log}
use Rattle.ms_row_laws.proofs.RowLengths.{takes_none, takes_one}
use Rattle.ms_row_laws.proofs.RowTops.{takes_item, top_length}
use Rattle.ms_row_laws.proofs.SmallThresholds.{Few, AllFew, parts_few}
use Rattle.ms_acceptance_laws.proofs.StackValues.{one_if}
use Rattle.ms_acceptance_laws.proofs.ForwardBases.{bool_value}
use Rattle.ms_acceptance_laws.proofs.ForwardThresholds.{one_if-low, same_number}
use Rattle.ms_acceptance_laws.proofs.BackwardBases.{Logged, logged, Took, BackB, onto, silently}
use Rattle.ms_acceptance_laws.proofs.BackwardLeaves.{just_0_back, just_1_back, pk_k_back, pk_h_back, older_back, after_back, hash_back}
use Rattle.ms_acceptance_laws.proofs.BackwardFragments.{Inverts, Rows2, and_v_back, and_or_back, or_c_back, or_d_back, or_i_back, and_b_back, or_b_back}
use Rattle.ms_acceptance_laws.proofs.BackwardWrappers.{wrap_a_back, wrap_s_back, wrap_c_back, wrap_d_back, wrap_v_back, wrap_n_back, wrap_j_back}
use Rattle.ms_acceptance_laws.proofs.BackwardThresholds.{added_back, first_back, compared, Tried, multi_tried}
use Rattle.ms_row_laws.proofs.RunLog.{Log, then_log}
use Rattle.ms_row_laws.proofs.MultisigTries.{empties_split}

-- all rows, and any preimage and key
abbrev every : Given → Setting
every given = full given any

abbrev of_tree : Given → Tree → Logged
of_tree given t = logged (every given) t

logs_same : (a b c d : Log) → a ≡ c → b ≡ d → then_log a b ≡ then_log c d
logs_same a b c d e i = ap (λ k. then_log k b) e ∙ ap (then_log c) i

-- the rows of the fragments, from those of their children
and_v_rows : (given : Given) (x y : Tree) (b : Bool) → Rows2 b (of_tree given x).sat (Took (of_tree given y) b) (of_tree given (two kind.AndV x y))
and_v_rows given x y true above below k l r q = ((below, above, q.0, r.0, refl), logs_same _ _ k l r.1 q.1)
and_v_rows given x y false above below k l r q = ((refl, (below, above, q.0, r.0, refl)), logs_same _ _ k l r.1 q.1)

and_or_rows : (given : Given) (x y z : Tree) (b : Bool) → Rows2 b (of_tree given x).sat (Took (of_tree given y) b) (of_tree given (and_or x y z))
and_or_rows given x y z true above below k l r q = (inl (below, above, q.0, r.0, refl), logs_same _ _ k l r.1 q.1)
and_or_rows given x y z false above below k l r q = (inr (refl, (below, above, q.0, r.0, refl)), logs_same _ _ k l r.1 q.1)

and_or_others : (given : Given) (x y z : Tree) (b : Bool) → Rows2 b (of_tree given x).dsat (Took (of_tree given z) b) (of_tree given (and_or x y z))
and_or_others given x y z true above below k l r q = (inr (below, above, q.0, r.0, refl), logs_same _ _ k l r.1 q.1)
and_or_others given x y z false above below k l r q = (inl (below, above, q.0, r.0, refl), logs_same _ _ k l r.1 q.1)

and_b_rows : (given : Given) (x y : Tree) (a b : Bool) → Rows2 (a && b) (Took (of_tree given x) a) (Took (of_tree given y) b) (of_tree given (two kind.AndB x y))
and_b_rows given x y true true above below k l r q = ((below, above, q.0, r.0, refl), logs_same _ _ k l r.1 q.1)
and_b_rows given x y true false above below k l r q = (inr (refl, inr (below, above, q.0, r.0, refl)), logs_same _ _ k l r.1 q.1)
and_b_rows given x y false true above below k l r q = (inr (refl, inl (below, above, q.0, r.0, refl)), logs_same _ _ k l r.1 q.1)
and_b_rows given x y false false above below k l r q = (inl (below, above, q.0, r.0, refl), logs_same _ _ k l r.1 q.1)

or_b_rows : (given : Given) (x z : Tree) (a b : Bool) → Rows2 (a || b) (Took (of_tree given x) a) (Took (of_tree given z) b) (of_tree given (two kind.OrB x z))
or_b_rows given x z true true above below k l r q = (inr (inr (refl, (below, above, q.0, r.0, refl))), logs_same _ _ k l r.1 q.1)
or_b_rows given x z true false above below k l r q = (inl (below, above, q.0, r.0, refl), logs_same _ _ k l r.1 q.1)
or_b_rows given x z false true above below k l r q = (inr (inl (below, above, q.0, r.0, refl)), logs_same _ _ k l r.1 q.1)
or_b_rows given x z false false above below k l r q = ((below, above, q.0, r.0, refl), logs_same _ _ k l r.1 q.1)

or_d_others : (given : Given) (x z : Tree) (b : Bool) → Rows2 b (of_tree given x).dsat (Took (of_tree given z) b) (of_tree given (two kind.OrD x z))
or_d_others given x z true above below k l r q = (inr (below, above, q.0, r.0, refl), logs_same _ _ k l r.1 q.1)
or_d_others given x z false above below k l r q = ((below, above, q.0, r.0, refl), logs_same _ _ k l r.1 q.1)

or_i_rows : (given : Given) (x z : Tree) (b : Bool) (w : Stack) (l : Log) → Took (of_tree given x) b w l → Took (of_tree given (two kind.OrI x z)) b (ONE ∷ w) l
or_i_rows given x z true w l r = (inl (w, ONE ∷ [], r.0, refl, refl), r.1)
or_i_rows given x z false w l r = (inl (w, ONE ∷ [], r.0, refl, refl), r.1)

or_i_others : (given : Given) (x z : Tree) (b : Bool) (w : Stack) (l : Log) → Took (of_tree given z) b w l → Took (of_tree given (two kind.OrI x z)) b (EMPTY ∷ w) l
or_i_others given x z true w l r = (inr (w, EMPTY ∷ [], r.0, refl, refl), r.1)
or_i_others given x z false w l r = (inr (w, EMPTY ∷ [], r.0, refl, refl), r.1)

wrap_j_rows : (given : Given) (x : Tree) (b : Bool) (w : Stack) (l : Log) → HasTop w → Took (of_tree given x) b w l → Took (of_tree given (wrap wrapper.J x)) b w l
wrap_j_rows given x true w l top r = r
wrap_j_rows given x false w l top r = (inr (refl, (top, r.0)), r.1)

one_long : (given : Given) (x : Tree) → IsTyped x → (type_of x).o ≡ true → (b : Bool) (w : Stack) (l : Log) → Took (of_tree given x) b w l → length w ≡ 1
one_long given x typed o true w l r = (takes_one (every given) x typed o).sat w r.0
one_long given x typed o false w l r = (takes_one (every given) x typed o).dsat w r.0

item_long : (given : Given) (x : Tree) → IsTyped x → (type_of x).n ≡ true → (b : Bool) (w : Stack) (l : Log) → Took (of_tree given x) b w l → 1 ≤ length w
item_long given x typed n true w l r = top_length w ((takes_item (every given) x typed n).sat w r.0)
item_long given x typed n false w l r = (takes_item (every given) x typed n).dsat w r.0

-- the children of a threshold went on
record PartsBack (given : Given) (xs : Trees) (a : ℕ) (m end : Stack) (l : Log) : Type 0 where
  n : ℕ
  w : Stack
  s : Stack
  at : m ≡ w ++ s
  main : end ≡ natural_bytes (a + n) ∷ s
  row : parts (every given) xs n w
  log : parts_log (every given) xs n w row ≡ l

extend : (given : Given) (x : Tree) (xs : Trees) (a : ℕ) (b : Bool) (m w s end : Stack) (first second l : Log) → m ≡ w ++ s → Took (of_tree given x) b w first
    → PartsBack given xs (a + one_if b) s end second → l ≡ then_log first second → PartsBack given (more x xs) a m end l
extend given x xs a true m w s end first second l at took p log = record {
  n = suc p.n;
  w = w ++ p.w;
  s = p.s;
  at = onto m w s p.w p.s at p.at;
  main = p.main ∙ ap (λ c. natural_bytes c ∷ p.s) (let same : a + 1 + p.n ≡ a + suc p.n = omega arith in same);
  row = inl (p.n, refl, (p.w, w, p.row, took.0, refl));
  log = logs_same _ _ first second took.1 p.log ∙ sym log;
}
extend given x xs a false m w s end first second l at took p log = record {
  n = p.n;
  w = w ++ p.w;
  s = p.s;
  at = onto m w s p.w p.s at p.at;
  main = p.main ∙ ap (λ c. natural_bytes c ∷ p.s) (let same : a + 0 + p.n ≡ a + p.n = omega arith in same);
  row = inr (p.w, w, p.row, took.0, refl);
  log = logs_same _ _ first second took.1 p.log ∙ sym log;
}

abbrev Counts : Given → Trees → Stack → Log → ℕ → Type 0
Counts given xs w l i = (q : parts (every given) xs i w) × (parts_log (every given) xs i w q ≡ l)

-- so many children satisfied, and whether that is k
thresh_took : (given : Given) (k n : ℕ) (xs : Trees) (w : Stack) (l : Log) → n < 2 ^ 31 → k < 2 ^ 31 → (r : parts (every given) xs n w)
    → parts_log (every given) xs n w r ≡ l → Took (of_tree given (thresh k xs)) (bytes_eq (natural_bytes n) (natural_bytes k)) w l
thresh_took given k n xs w l low small r log = go (bytes_eq (natural_bytes n) (natural_bytes k)) refl
  where
    none_of : (i : ℕ) → (i ≡ k → ⊥) → Counts given xs w l i → (of_tree given (thresh k xs)).dsat w l
    none_of zero differs q = (inl q.0, q.1)
    none_of (suc i) differs q = (inr (refl, (suc i, (λ e. (let no : 1 ≤ 0 = omega arith in absurd (omega arith))), differs, q.0)), q.1)

    go : (b : Bool) → bytes_eq (natural_bytes n) (natural_bytes k) ≡ b → Took (of_tree given (thresh k xs)) b w l
    go true e = subst (Counts given xs w l) (same_number n k low small ((bytes_eq-Decides (natural_bytes n) (natural_bytes k)).0 e)) (r, log)
    go false e = none_of n (λ i. false≢true (sym e ∙ (bytes_eq-Decides (natural_bytes n) (natural_bytes k)).1 (ap natural_bytes i))) (r, log)

-- the children behind the first one, wherever they went on
abbrev PartsInvert : Given → Trees → Type 0
PartsInvert given xs =
    (a : ℕ) (m end : Stack) (l : Log) → a + count xs < 2 ^ 31 → den_added given xs (natural_bytes a ∷ m) ≡ Ok (left end l) → PartsBack given xs a m end l

thresh_back : (given : Given) (k : ℕ) (x : Tree) (xs : Trees) → k ≤ count (more x xs) → count (more x xs) < 2 ^ 30 → Inverts given.checker B true (den given x) (of_tree given x)
    → PartsInvert given xs →
    Inverts given.checker B true (den given (thresh k (more x xs))) (of_tree given (thresh k (more x xs)))
thresh_back given k x xs range few first others m end l e =
    let c = compared (den_sum given (more x xs)) k m end l e in
    let f = first_back (of_tree given x) (den given x) (den_added given xs) m c.mid l first c.before in
    let small : one_if f.satisfied ≤ 1 = one_if-low f.satisfied in
    let b =
    extend given x xs 0 f.satisfied m f.w f.s c.mid f.first f.second l f.at f.took
    (others (0 + one_if f.satisfied) f.s c.mid f.second (omega arith) f.others) f.log in
    let most = parts_few (every given) (more x xs) b.n b.w b.row in
    let named : 0 + b.n ≡ b.n = omega arith in
    let same = bytes_eq (natural_bytes b.n) (natural_bytes k) in (
      same,
      b.w,
      b.s,
      bool_bytes same,
      b.at,
      c.after b.n b.s (b.main ∙ ap (λ i. natural_bytes i ∷ b.s) named),
      bool_value true same,
      thresh_took given k b.n (more x xs) b.w l (omega arith) (omega arith) b.row b.log,
    )

multi_took : (given : Given) (k : ℕ) (keys : List Key) (m end : Stack) (l : Log) → Tried given.checker keys k m end l → BackB true (of_tree given (multi k keys)) m end l
multi_took given k keys m end l t = (
  t.passed,
  t.sigs ++ EMPTY ∷ [],
  t.rest,
  bool_bytes t.passed,
  t.at ∙ sym (append_assoc t.sigs (EMPTY ∷ []) t.rest),
  t.main,
  bool_value true t.passed,
  go t.passed refl,
)
  where
    go : (b : Bool) → t.passed ≡ b → Took (of_tree given (multi k keys)) b (t.sigs ++ EMPTY ∷ []) l
    go true e = let p = t.signed e in ((EMPTY ∷ [], t.sigs, refl, (t.count, p.0), refl), sym p.1)
    go false e = let p = t.unsigned e in (ap (λ v. v ++ EMPTY ∷ []) p.0 ∙ sym (empties_split k), sym p.1)

-- by another name of its base type, and of u
as_base : (given : Given) (t : Tree) (c : Base) → (type_of t).base ≡ c → Inverts given.checker (type_of t).base (type_of t).u (den given t) (of_tree given t) →
    Inverts given.checker c (type_of t).u (den given t) (of_tree given t)
as_base given t c e h = subst (λ a. Inverts given.checker a (type_of t).u (den given t) (of_tree given t)) e h

as_unit : (given : Given) (t : Tree) (c : Base) → (type_of t).base ≡ c → (type_of t).u ≡ true → Inverts given.checker (type_of t).base (type_of t).u (den given t) (of_tree given t) →
    Inverts given.checker c true (den given t) (of_tree given t)
as_unit given t c e i h = subst (λ v. Inverts given.checker c v (den given t) (of_tree given t)) i (as_base given t c e h)

mutual
  unfolding correctness_rows

  pub inverts : (given : Given) (t : Tree) → IsWritable t → IsTyped t → Few t → Inverts given.checker (type_of t).base (type_of t).u (den given t) (of_tree given t)
  inverts given just_0 k typed few = just_0_back given
  inverts given just_1 k typed few = just_1_back given
  inverts given (pk_k key) k typed few = pk_k_back given key
  inverts given (pk_h key) k typed few = pk_h_back given key
  inverts given (older n) k typed few = λ m end l e. older_back given n m end l typed e
  inverts given (after n) k typed few = λ m end l e. after_back given n m end l typed e
  inverts given (hash kind value) k typed few = hash_back given kind value
  inverts given (and_or x y z) k typed few =
      let p = typed-and_or x y z typed in
      and_or_back given.checker _ _ _ _ (den given x) (den given y) (den given z) (of_tree given x) (of_tree given y) (of_tree given z) _ p.7
      (λ e. (and_parts (type_of y).u (type_of z).u e).0) (λ e. (and_parts (type_of y).u (type_of z).u e).1) (and_or_rows given x y z)
      (and_or_others given x y z)
      (as_unit given x B p.3 p.5 (inverts given x k.0 p.0 few.0)) (inverts given y k.1 p.1 few.1) (as_base given z _ (sym p.6) (inverts given z k.2 p.2 few.2))
  inverts given (two kind.AndV x y) k typed few =
      let p = typed-and_v x y typed in
      and_v_back given.checker _ _ (den given x) (den given y) (of_tree given x) (of_tree given y) _ p.3 (and_v_rows given x y)
      (as_base given x V p.2 (inverts given x k.0 p.0 few.0)) (inverts given y k.1 p.1 few.1)
  inverts given (two kind.AndB x y) k typed few =
      let p = typed-and_b x y typed in
      and_b_back _ _ true (den given x) (den given y) (of_tree given x) (of_tree given y) _ (and_b_rows given x y)
      (as_base given x B p.2 (inverts given x k.0 p.0 few.0)) (as_base given y W p.3 (inverts given y k.1 p.1 few.1))
  inverts given (two kind.OrB x z) k typed few =
      let p = typed-or_b x z typed in
      or_b_back _ _ true (den given x) (den given z) (of_tree given x) (of_tree given z) _ (or_b_rows given x z)
      (as_base given x B p.2 (inverts given x k.0 p.0 few.0)) (as_base given z W p.4 (inverts given z k.1 p.1 few.1))
  inverts given (two kind.OrC x z) k typed few =
      let p = typed-or_c x z typed in
      or_c_back given.checker (den given x) (den given z) (of_tree given x) (of_tree given z) (of_tree given (two kind.OrC x z)) (λ w l r. (inl r.0, r.1))
      (λ above below k l r q. (inr (below, above, q.0, r.0, refl), logs_same _ _ k l r.1 q.1))
      (as_unit given x B p.2 p.4 (inverts given x k.0 p.0 few.0)) (as_base given z V p.5 (inverts given z k.1 p.1 few.1))
  inverts given (two kind.OrD x z) k typed few =
      let p = typed-or_d x z typed in
      or_d_back given.checker _ (den given x) (den given z) (of_tree given x) (of_tree given z) _ (λ w l r. (inl r.0, r.1)) (or_d_others given x z)
      (as_unit given x B p.2 p.4 (inverts given x k.0 p.0 few.0)) (as_base given z B p.5 (inverts given z k.1 p.1 few.1))
  inverts given (two kind.OrI x z) k typed few =
      let p = typed-or_i x z typed in
      or_i_back given.checker _ _ _ _ (den given x) (den given z) (of_tree given x) (of_tree given z) _ p.3
      (λ e. (and_parts (type_of x).u (type_of z).u e).0) (λ e. (and_parts (type_of x).u (type_of z).u e).1) (or_i_rows given x z) (or_i_others given x z)
      (inverts given x k.0 p.0 few.0) (as_base given z _ (sym p.2) (inverts given z k.1 p.1 few.1))
  inverts given (thresh k none) writable typed few = absurd (typed-thresh_none k typed)
  inverts given (thresh k (more x xs)) writable typed few =
      let p = typed-thresh k x xs typed in
      thresh_back given k x xs p.3 few.0
      (as_unit given x B p.4 p.6 (inverts given x writable.2.0 p.0 few.1.0))
      (parts_back given xs writable.2.1 p.1 p.7 few.1.1)
  inverts given (multi k keys) writable typed few = λ m end l e. (
      let p = typed-multi k keys typed in
      multi_took given k keys m end l (multi_tried given.checker keys k m end l p.2 p.1 e))
  inverts given (wrap wrapper.A x) k typed few =
      wrap_a_back (type_of x).u (den given x) (of_tree given x) (as_base given x B (typed-wrap_a x typed).1 (inverts given x k typed.0 few))
  inverts given (wrap wrapper.S x) k typed few =
      let p = typed-wrap_s x typed in
      wrap_s_back (type_of x).u (den given x) (of_tree given x) (one_long given x p.0 p.2) (as_base given x B p.1 (inverts given x k p.0 few))
  inverts given (wrap wrapper.C x) k typed few =
      wrap_c_back given.checker (den given x) (of_tree given x) (as_base given x K (typed-wrap_c x typed).1 (inverts given x k typed.0 few))
  inverts given (wrap wrapper.D x) k typed few =
      let p = typed-wrap_d x typed in
      wrap_d_back (den given x) (of_tree given x) (of_tree given (wrap wrapper.D x))
      (λ w l r. (takes_none (every given) x p.2).sat w r.0) (λ l r. (([], ONE ∷ [], r.0, refl, refl), r.1)) (refl, refl)
      (as_base given x V p.1 (inverts given x k p.0 few))
  inverts given (wrap wrapper.V x) k typed few =
      wrap_v_back (type_of x).u (den given x) (of_tree given x) (as_base given x B (typed-wrap_v x typed).1 (inverts given x k typed.0 few))
  inverts given (wrap wrapper.J x) k typed few =
      let p = typed-wrap_j x typed in
      wrap_j_back (type_of x).u (den given x) (of_tree given x) (of_tree given (wrap wrapper.J x)) (item_long given x p.0 p.2) (wrap_j_rows given x) (inl refl, refl)
      (as_base given x B p.1 (inverts given x k p.0 few))
  inverts given (wrap wrapper.N x) k typed few =
      wrap_n_back (type_of x).u (den given x) (of_tree given x) (as_base given x B (typed-wrap_n x typed).1 (inverts given x k typed.0 few))

  parts_back : (given : Given) (xs : Trees) → AreWritable xs → AreTyped xs → OthersFit xs → AllFew xs → (a : ℕ) (m end : Stack) (l : Log)
      → a + count xs < 2 ^ 31 → den_added given xs (natural_bytes a ∷ m) ≡ Ok (left end l) → PartsBack given xs a m end l
  parts_back given none k typed fit few a m end l low e =
      let p = silently (natural_bytes a ∷ m) end l e in
      record {
        n = 0;
        w = [];
        s = m;
        at = refl;
        main = p.0 ∙ ap (λ c. natural_bytes c ∷ m) (let same : a ≡ a + 0 = omega arith in same);
        row = (refl, refl);
        log = sym p.1;
      }
  parts_back given (more x xs) k typed fit few a m end l low e =
      let c = added_back (of_tree given x) (den given x) (den_added given xs) a m end l (omega arith)
      (as_unit given x W fit.0 fit.2 (inverts given x k.0 typed.0 few.0)) e in
      let small : one_if c.satisfied ≤ 1 = one_if-low c.satisfied in
      extend given x xs a c.satisfied m c.w c.s end c.first c.second l c.at c.took
      (parts_back given xs k.1 typed.1 fit.3 few.1 (a + one_if c.satisfied) c.s end c.second (omega arith) c.others) c.log
