-- A satisfaction with the preimages and keys that are known has steps: where they are by canonical rows alone it is a canonical
-- satisfaction, and where no others count they are.
use Rattle.std.proofs.Common.{◌≡◌, ℕ, ◌+◌, not, Bool, true, false, List, [], ◌∷◌, ◌++◌, reverse, refl, sym, ◌∙◌, ap, subst, inl, inr}
use Rattle.std.proofs.lemmas.Bool.{false≢true, and_parts, and_from}
use Rattle.def_script.specs.Bytes.{Bytes}
use Rattle.def_machine.specs.Stacks.{Stack, Checker}
use Rattle.def_tree.specs.declared.Two.{Two}
use Rattle.def_tree.specs.declared.Two.TheVariants as kind
use Rattle.def_tree.specs.declared.Wrapper.TheVariants as wrapper
use Rattle.def_tree.specs.Size.{nodes}
use Rattle.def_tree.specs.Tree.{Tree, Trees, Key, pk_h, hash, and_or, two, thresh, wrap, none, more}
use Rattle.def_assets.specs.Assets.{Assets}
use Rattle.def_satisfaction.specs.StackSet as plain
use Rattle.def_satisfaction.specs.StackSet.{StackSet}
use Rattle.def_satisfaction.specs.Setting.{Setting, any}
use Rattle.def_satisfaction.specs.Satisfaction.{canonical, full, Holds}
use Rattle.def_satisfaction.specs.Rows.{Row, NotCanonical, PartsOf, HasTop, ZEROS, IsNoPreimageOf, WithHashOf, hash_row, thresh_row, row, parts}
use Rattle.def_satisfaction.proofs.Wider.{Within, IsWithin, IsWider, row_within}
use Rattle.def_satisfaction.proofs.Canonical.{held}
use Rattle.def_choice.specs.NonMalleable.{given_with}
use Rattle.def_audit.specs.declared.Step.{Step}
use Rattle.def_audit.specs.TrailSet.{TrailSet, Bare, Both, Either, Where, Canonical, Extra}
use Rattle.def_audit.specs.TrailRows.{TrailRow, WithTop, TrailsOf, bare_row, hash_trails, thresh_trails, trails, trails_of}
use Rattle.def_audit.proofs.Erased.{top_or_not}
use Rattle.ms_audit_laws.specs.Laws.{is_canonical, CanonicalIsSat}
use Rattle.ms_audit_laws.proofs.WalkTrees.{trail_is_unique}

-- both parts of canonical steps are canonical
canonical_parts : (first later : List Step) → is_canonical (first ++ later) ≡ true → (is_canonical first ≡ true) × (is_canonical later ≡ true)
canonical_parts [] later e = (refl, e)
canonical_parts (step ∷ first) later e =
    let p = and_parts (not step.extra) (is_canonical (first ++ later)) e in
    let q = canonical_parts first later p.1 in
    (and_from (not step.extra) (is_canonical first) p.0 q.0, q.1)

-- two lists of canonical steps
joined : (first later : List Step) → is_canonical first ≡ true → is_canonical later ≡ true → is_canonical (first ++ later) ≡ true
joined [] later e f = f
joined (step ∷ first) later e f =
    let p = and_parts (not step.extra) (is_canonical first) e in
    and_from (not step.extra) (is_canonical (first ++ later)) p.0 (joined first later p.1 f)

-- each stack of P has steps in Q; where these are canonical it is one of R, and where no other rows count they are
pub record Keeps (all_rows : Bool) (P : StackSet) (Q : TrailSet) (R : StackSet) : Type 0 where
  pub to : (stack : Stack) → P stack → (steps : List Step) × Q stack steps × (is_canonical steps ≡ true → R stack) × (all_rows ≡ false → is_canonical steps ≡ true)

pub record KeepsRow (all_rows : Bool) (x : Row) (t : TrailRow) (y : Row) : Type 0 where
  pub dsat : Keeps all_rows x.dsat t.dsat y.dsat
  pub sat : Keeps all_rows x.sat t.sat y.sat

module _ {b : Bool} where
  bare : (P Q R : StackSet) → ((stack : Stack) → P stack → Q stack) → ((stack : Stack) → P stack → R stack) → Keeps b P (Bare Q) R
  bare P Q R f g = record { to = λ stack h. ([], (f stack h, refl), λ e. g stack h, λ e. refl) }

  same : (P : StackSet) → Keeps b P (Bare P) P
  same P = bare P P P (λ stack h. h) (λ stack h. h)

  both : {P Q : StackSet} {P' Q' : TrailSet} {R S : StackSet} → Keeps b P P' R → Keeps b Q Q' S → Keeps b (plain.Both P Q) (Both P' Q') (plain.Both R S)
  both p q = record {
    to = λ stack h.
        let lower = p.to h.0 h.2 in
        let upper = q.to h.1 h.3 in (
          upper.0 ++ lower.0,
          (h.0, h.1, upper.0, lower.0, lower.1, upper.1, h.4, refl),
          λ e. let c = canonical_parts upper.0 lower.0 e in (h.0, h.1, lower.2 c.1, upper.2 c.0, h.4),
          λ e. joined upper.0 lower.0 (upper.3 e) (lower.3 e),
        );
  }

  either : {P Q : StackSet} {P' Q' : TrailSet} {R S : StackSet} → Keeps b P P' R → Keeps b Q Q' S → Keeps b (plain.Either P Q) (Either P' Q') (plain.Either R S)
  either p q = record {
    to = λ stack h. elim h [
      | inl h ↦ let r = p.to stack h in (r.0, inl r.1, λ e. inl (r.2 e), r.3)
      | inr h ↦ let r = q.to stack h in (r.0, inr r.1, λ e. inr (r.2 e), r.3)
    ];
  }

  -- the node's own step by a canonical row
  own : {node : ℕ} {sat : Bool} {P : StackSet} {Q : TrailSet} {R : StackSet} → Keeps b P Q R → Keeps b P (Canonical node sat Q) R
  own {node} {sat} p = record {
    to = λ stack h.
        let r = p.to stack h in
        let step : Step = record { node = node; sat = sat; extra = false } in
        (r.0 ++ step ∷ [], (r.0, r.1, refl), λ e. r.2 (canonical_parts r.0 (step ∷ []) e).0, λ e. joined r.0 (step ∷ []) (r.3 e) refl);
  }

  never : (Q : TrailSet) (R : StackSet) → Keeps b plain.Never Q R
  never Q R = record { to = λ stack h. absurd h }

  of_three : {P Q R : StackSet} {S : TrailSet} {P' Q' R' : StackSet} → Keeps b (plain.Either (plain.Either P Q) R) S (plain.Either (plain.Either P' Q') R') →
      Keeps b (plain.Either P (plain.Either Q R)) S (plain.Either P' (plain.Either Q' R'))
  of_three {P} {Q} {R} p = record {
    to = λ stack h.
        let turned : plain.Either (plain.Either P Q) R stack = elim h [ inl x ↦ inl (inl x) | inr (inl y) ↦ inl (inr y) | inr (inr z) ↦ inr z ] in
        let r = p.to stack turned in
        (r.0, r.1, λ e. elim (r.2 e) [ inl (inl x) ↦ inl x | inl (inr y) ↦ inr (inl y) | inr z ↦ inr (inr z) ], r.3);
  }

  parts_of : (x y : Row) (t : TrailRow) (P : ℕ → StackSet) (Q : ℕ → TrailSet) (R : ℕ → StackSet) → KeepsRow b x t y → ((n : ℕ) → Keeps b (P n) (Q n) (R n)) →
      (n : ℕ) → Keeps b (PartsOf x P n) (TrailsOf t Q n) (PartsOf y R n)
  parts_of x y t P Q R i j n = either (record {
    to = λ stack h. let r = (both (j h.0) i.sat).to stack h.2 in (r.0, (h.0, h.1, r.1), λ e. (h.0, h.1, r.2 e), r.3);
  }) (both (j n) i.dsat)

module _ (assets : Assets) (checker : Checker) (holds : Holds checker assets) (b : Bool) where
  -- the canonical rows, or all of them
  abbrev s : Setting
  s = record (canonical assets) { all_rows = b }

  abbrev c : Setting
  c = canonical assets

  abbrev t : Setting
  t = full (given_with assets checker) any

  wider : IsWider s t
  wider = record {
    signatures = held assets checker holds;
    older = λ n h. h;
    after = λ n h. h;
    preimages = λ kind value preimage h. tt;
    keys = λ key other h. tt;
    rows = λ h. refl;
  }

  -- a row that isn't canonical has a step that says so
  extra_row : {node : ℕ} {sat : Bool} {P : StackSet} {Q : TrailSet} (R : StackSet) {S : StackSet} → Keeps b P Q R
      → Keeps b (NotCanonical s P) (Extra node sat Q) (NotCanonical c S)
  extra_row {node} {sat} R p = record {
    to = λ stack h.
        let r = p.to stack h.1 in
        let step : Step = record { node = node; sat = sat; extra = true } in
        (r.0 ++ step ∷ [], (r.0, r.1, refl), λ e. absurd (false≢true (canonical_parts r.0 (step ∷ []) e).1), λ e. absurd (false≢true (sym e ∙ h.0)));
  }

  -- a fragment without children, all of whose rows are canonical
  leaf_kept : (node : ℕ) (tree : Tree) (y : Row) → IsWithin (row s tree) y → KeepsRow b (row s tree) (bare_row node (row t tree)) y
  leaf_kept node tree y within =
      let w = row_within s t wider tree in
      record { dsat = own (bare _ _ _ w.dsat within.dsat); sat = own (bare _ _ _ w.sat within.sat) }

  all_same : (x : Row) → IsWithin x x
  all_same x = record { dsat = λ stack h. h; sat = λ stack h. h }

  -- `pk_h` with its own key
  key_kept : (key : Key) (node : ℕ) (sat : Bool) (P : Key → StackSet) (Q : StackSet) → Within (WithHashOf s key (λ other. plain.Both (P other) (plain.Is other))) Q →
      Keeps b (WithHashOf s key (λ other. plain.Both (P other) (plain.Is other))) (WithTop key node sat Q)
      (WithHashOf c key (λ other. plain.Both (P other) (plain.Is other)))
  key_kept key node sat P Q within = record {
    to = λ stack h.
        let b = h.4 in
        let top : stack ≡ key ∷ b.0 = b.4 ∙ ap (λ w. w ++ b.0) b.3 ∙ ap (λ k. k ∷ b.0) h.3 in
        (_, inl ([], ((b.0, top), (within stack h, refl)), refl), λ e. h, λ e. refl);
  }

  same_item : (a b : Bytes) (stack rest : Stack) → stack ≡ a ∷ [] → stack ≡ b ∷ rest → b ≡ a
  same_item a b stack rest p q = cc (sym p ∙ q)

  hash_kept : (node : ℕ) (k : _) (value : Bytes) → KeepsRow b (hash_row s k value) (hash_trails node (hash_row t k value)) (hash_row c k value)
  hash_kept node k value = record {
    dsat = record { to = to };
    sat = own (bare _ _ _ (row_within s t wider (hash k value)).sat (λ stack h. h));
  }
    where
      zeros : (stack rest : Stack) → stack ≡ ZEROS ∷ rest → (hash_row s k value).dsat stack → (hash_row c k value).dsat stack
      zeros stack rest top (inl h) = inl h
      zeros stack rest top (inr h) =
          let is = same_item h.1.0 ZEROS stack rest h.1.2 top in
          inl (subst (IsNoPreimageOf k value) (sym is) h.1.1, h.1.2 ∙ ap (λ x. x ∷ []) (sym is))

      to : (stack : Stack) → (hash_row s k value).dsat stack → (steps : List Step) × WithTop ZEROS node false (hash_row t k value).dsat stack steps
          × (is_canonical steps ≡ true → (hash_row c k value).dsat stack) × (b ≡ false → is_canonical steps ≡ true)
      to stack (inl h) = (_, inl ([], (([], h.1), (inl h, refl)), refl), λ e. inl h, λ e. refl)
      to stack (inr h) =
          elim (top_or_not ZEROS stack) [
            | inl is ↦ (_, inl ([], (is, (inr (refl, h.1), refl)), refl), λ e. zeros stack is.0 is.1 (inr h), λ e. refl)
            | inr isn't ↦ (_, inr ([], (isn't, (inr (refl, h.1), refl)), refl), λ e. absurd (false≢true e), λ e. absurd (false≢true (sym e ∙ h.0)))
          ]

  thresh_kept : (node k : ℕ) (P : ℕ → StackSet) (Q : ℕ → TrailSet) (R : ℕ → StackSet) → ((n : ℕ) → Keeps b (P n) (Q n) (R n))
      → KeepsRow b (thresh_row s k P) (thresh_trails node k Q) (thresh_row c k R)
  thresh_kept node k P Q R j = record {
    dsat = either (own (j 0)) (extra_row (λ stack. (n : ℕ) × R n stack) (record {
      to = λ stack h. let r = (j h.0).to stack h.3 in (r.0, (h.0, h.1, h.2, r.1), λ e. (h.0, r.2 e), r.3);
    }));
    sat = own (j k);
  }

  j_kept : (node : ℕ) (P : StackSet) (Q : TrailSet) (R : StackSet) → Keeps b P Q R →
      Keeps b (NotCanonical s (λ stack. HasTop stack × P stack)) (Extra node false (Where HasTop Q)) (NotCanonical c (λ stack. HasTop stack × R stack))
  j_kept node P Q R p = extra_row R (record {
    to = λ stack h. let r = p.to stack h.1 in (r.0, (h.0, r.1), r.2, r.3);
  })

  wrap_kept : (node : ℕ) (x y : Row) (t : TrailRow) → KeepsRow b x t y
      → KeepsRow b x (record { dsat = Canonical node false t.dsat; sat = Canonical node true t.sat }) y
  wrap_kept node x y t i = record { dsat = own i.dsat; sat = own i.sat }

  two_kept : (first : ℕ) (kind : Two) (x y : Tree) → KeepsRow b (row s x) (trails (given_with assets checker) first x) (row c x) →
      KeepsRow b (row s y) (trails (given_with assets checker) (first + nodes x) y) (row c y) →
      KeepsRow b (row s (two kind x y)) (trails (given_with assets checker) first (two kind x y)) (row c (two kind x y))
  two_kept first kind.AndV x y i j = record {
    dsat = extra_row _ (both j.dsat i.sat);
    sat = own (both j.sat i.sat);
  }
  two_kept first kind.AndB x y i j = record {
    dsat = either (own (both j.dsat i.dsat)) (extra_row _ (either (both j.sat i.dsat) (both j.dsat i.sat)));
    sat = own (both j.sat i.sat);
  }
  two_kept first kind.OrB x y i j = record {
    dsat = own (both j.dsat i.dsat);
    sat = of_three (either (own (either (both j.dsat i.sat) (both j.sat i.dsat))) (extra_row _ (both j.sat i.sat)));
  }
  two_kept first kind.OrC x y i j = record { dsat = never _ _; sat = own (either i.sat (both j.sat i.dsat)) }
  two_kept first kind.OrD x y i j = record { dsat = own (both j.dsat i.dsat); sat = own (either i.sat (both j.sat i.dsat)) }
  two_kept first kind.OrI x y i j = record {
    dsat = own (either (both i.dsat (same _)) (both j.dsat (same _)));
    sat = own (either (both i.sat (same _)) (both j.sat (same _)));
  }

  mutual
    pub row_kept : (first : ℕ) (tree : Tree) → KeepsRow b (row s tree) (trails (given_with assets checker) first tree) (row c tree)
    row_kept first (pk_h key) =
        let w = row_within s t wider (pk_h key) in record { dsat = key_kept key first false _ _ w.dsat; sat = key_kept key first true _ _ w.sat }
    row_kept first (hash k value) = hash_kept first k value
    row_kept first (and_or x y z) =
        let i = row_kept first x in
        let j = row_kept (first + nodes x) y in
        let k = row_kept (first + nodes x + nodes y) z in
        record {
          dsat = either (own (both k.dsat i.dsat)) (extra_row _ (both j.dsat i.sat));
          sat = own (either (both j.sat i.sat) (both k.sat i.dsat));
        }
    row_kept first (two kind x y) = two_kept first kind x y (row_kept first x) (row_kept (first + nodes x) y)
    row_kept first (thresh k xs) = thresh_kept _ k _ _ _ (parts_kept first xs)
    row_kept first (wrap wrapper.D x) =
        let i = row_kept first x in
        record { dsat = own (same _); sat = own (both i.sat (same _)) }
    row_kept first (wrap wrapper.V x) =
        let i = row_kept first x in
        record { dsat = never _ _; sat = own i.sat }
    row_kept first (wrap wrapper.J x) =
        let i = row_kept first x in
        record { dsat = either (own (same _)) (j_kept _ _ _ _ i.dsat); sat = own i.sat }
    row_kept first (wrap wrapper x) = wrap_kept _ _ _ _ (row_kept first x)
    row_kept first leaf = leaf_kept first leaf _ (all_same _)

    parts_kept : (first : ℕ) (xs : Trees) (n : ℕ) → Keeps b (parts s xs n) (trails_of (given_with assets checker) first xs n) (parts c xs n)
    parts_kept first none n = record { to = λ stack h. ([], (h.0, (h.1, refl)), λ e. h, λ e. refl) }
    parts_kept first (more x xs) n = parts_of _ _ _ _ _ _ (row_kept first x) (parts_kept (first + nodes x) xs) n

pub canonical_is_sat : CanonicalIsSat
canonical_is_sat tree assets checker steps stack valid holds trail no_extra sat =
    let r = (row_kept assets checker holds true 0 tree).sat.to (reverse stack) sat in
    let one = trail_is_unique tree (given_with assets checker) steps r.0 stack valid trail r.1 in
    r.2 (subst (λ s. is_canonical s ≡ true) one no_extra)
