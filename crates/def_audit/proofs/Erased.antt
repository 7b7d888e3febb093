-- Without their steps, the stacks of the rows with steps are those of all rows.
use Rattle.std.proofs.Common.{ℕ, ◌+◌, ◌⊎◌, Bool, true, false, List, [], ◌∷◌, ◌++◌, reverse, refl, sym, ◌∙◌, inl, inr}
use Rattle.std.proofs.lemmas.Bool.{cases_Bool, false≢true}
use Rattle.std.specs.Str.{bytes_eq}
use Rattle.std.proofs.lemmas.Slice.Eq.{bytes_eq-Decides}
use Rattle.def_script.specs.Bytes.{Bytes}
use Rattle.def_machine.specs.Stacks.{Stack}
use Rattle.def_machine.specs.Machine.{Given}
use Rattle.def_tree.specs.declared.Two.{Two}
use Rattle.def_tree.specs.declared.Two.TheVariants as kind
use Rattle.def_tree.specs.declared.Wrapper.TheVariants as wrapper
use Rattle.def_tree.specs.Size.{nodes}
use Rattle.def_tree.specs.Tree.{Tree, Trees, pk_h, hash, and_or, two, thresh, wrap, none, more}
use Rattle.def_satisfaction.specs.StackSet as plain
use Rattle.def_satisfaction.specs.StackSet.{StackSet}
use Rattle.def_satisfaction.specs.Setting.{Setting, any}
use Rattle.def_satisfaction.specs.Satisfaction.{full}
use Rattle.def_satisfaction.specs.Rows.{Row, NotCanonical, PartsOf, HasTop, thresh_row, row, parts}
use Rattle.def_audit.specs.declared.Step.{Step}
use Rattle.def_audit.specs.TrailSet.{TrailSet, Bare, Both, Either, Where, Then, Canonical, Extra}
use Rattle.def_audit.specs.TrailRows.{TrailRow, IsTop, WithTop, TrailsOf, thresh_trails, trails, trails_of}
use Rattle.def_audit.specs.Laws.{DerivesIsFull}

-- each stack of P has steps in Q, and each that has is one of P
pub record Same (P : StackSet) (Q : TrailSet) : Type 0 where
  pub to : (stack : Stack) → P stack → (steps : List Step) × Q stack steps
  pub from : (stack : Stack) (steps : List Step) → Q stack steps → P stack

pub record SameRow (x : Row) (t : TrailRow) : Type 0 where
  pub dsat : Same x.dsat t.dsat
  pub sat : Same x.sat t.sat

bare : (P : StackSet) → Same P (Bare P)
bare P = record { to = λ stack h. ([], (h, refl)); from = λ stack steps h. h.0 }

both : {P Q : StackSet} {P' Q' : TrailSet} → Same P P' → Same Q Q' → Same (plain.Both P Q) (Both P' Q')
both p q = record {
  to = λ stack h.
      let lower = p.to h.0 h.2 in
      let upper = q.to h.1 h.3 in
      (upper.0 ++ lower.0, (h.0, h.1, upper.0, lower.0, lower.1, upper.1, h.4, refl));
  from = λ stack steps h. (h.0, h.1, p.from h.0 h.3 h.4, q.from h.1 h.2 h.5, h.6);
}

either : {P Q : StackSet} {P' Q' : TrailSet} → Same P P' → Same Q Q' → Same (plain.Either P Q) (Either P' Q')
either p q = record {
  to = λ stack h. elim h [
    | inl h ↦ let r = p.to stack h in (r.0, inl r.1)
    | inr h ↦ let r = q.to stack h in (r.0, inr r.1)
  ];
  from = λ stack steps h. elim h [ inl h ↦ inl (p.from stack steps h) | inr h ↦ inr (q.from stack steps h) ];
}

own : {step : Step} {P : StackSet} {P' : TrailSet} → Same P P' → Same P (Then step P')
own {step} p = record {
  to = λ stack h. let r = p.to stack h in (r.0 ++ step ∷ [], (r.0, r.1, refl));
  from = λ stack steps h. p.from stack h.0 h.1;
}

never : (Q : TrailSet) → ((stack : Stack) (steps : List Step) → Q stack steps → ⊥) → Same plain.Never Q
never Q none_of = record { to = λ stack h. absurd h; from = none_of }

-- stacks by a row that isn't canonical, which all count here
all_rows : (given : Given) {P : StackSet} {Q : TrailSet} → Same P Q → Same (NotCanonical (full given any) P) Q
all_rows given p = record { to = λ stack h. p.to stack h.1; from = λ stack steps h. (refl, p.from stack steps h) }

-- the last of three sets apart from the others
of_three : {P Q R : StackSet} {S : TrailSet} → Same (plain.Either (plain.Either P Q) R) S → Same (plain.Either P (plain.Either Q R)) S
of_three same = record {
  to = λ stack h. elim h [ inl p ↦ same.to stack (inl (inl p)) | inr (inl q) ↦ same.to stack (inl (inr q)) | inr (inr r) ↦ same.to stack (inr r) ];
  from = λ stack steps h. elim (same.from stack steps h) [ inl (inl p) ↦ inl p | inl (inr q) ↦ inr (inl q) | inr r ↦ inr (inr r) ];
}

-- the top item is this one, or isn't
pub top_or_not : (item : Bytes) (stack : Stack) → IsTop item stack ⊎ ¬ IsTop item stack
top_or_not item [] = inr (λ h. cc h.1)
top_or_not item (top ∷ stack) =
    elim (cases_Bool (bytes_eq top item)) [
      | inl e ↦ inl (stack, rw ((bytes_eq-Decides top item).0 e))
      | inr e ↦ inr (λ h. false≢true (sym e ∙ (bytes_eq-Decides top item).1 (cc h.1)))
    ]

with_top : (item : Bytes) (node : ℕ) (sat : Bool) (P : StackSet) → Same P (WithTop item node sat P)
with_top item node sat P = record {
  to = λ stack h. elim (top_or_not item stack) [
    | inl is ↦ (_, inl ([], (is, (h, refl)), refl))
    | inr isn't ↦ (_, inr ([], (isn't, (h, refl)), refl))
  ];
  from = λ stack steps h. elim h [ inl h ↦ h.1.1.0 | inr h ↦ h.1.1.0 ];
}

parts_of : (x : Row) (t : TrailRow) (P : ℕ → StackSet) (Q : ℕ → TrailSet) → SameRow x t → ((n : ℕ) → Same (P n) (Q n)) → (n : ℕ) → Same (PartsOf x P n) (TrailsOf t Q n)
parts_of x t P Q i j n = either (record {
  to = λ stack h. let r = (both (j h.0) i.sat).to stack h.2 in (r.0, (h.0, h.1, r.1));
  from = λ stack steps h. (h.0, h.1, (both (j h.0) i.sat).from stack steps h.2);
}) (both (j n) i.dsat)

module _ (given : Given) where
  abbrev s : Setting
  s = full given any

  thresh_same : (node k : ℕ) (P : ℕ → StackSet) (Q : ℕ → TrailSet) → ((n : ℕ) → Same (P n) (Q n)) → SameRow (thresh_row s k P) (thresh_trails node k Q)
  thresh_same node k P Q j = record {
    dsat = either (own (j 0)) (all_rows given (own (record {
      to = λ stack h. let r = (j h.0).to stack h.3 in (r.0, (h.0, h.1, h.2, r.1));
      from = λ stack steps h. (h.0, h.1, h.2, (j h.0).from stack steps h.3);
    })));
    sat = own (j k);
  }

  j_same : (node : ℕ) (P : StackSet) (Q : TrailSet) → Same P Q → Same (NotCanonical s (λ stack. HasTop stack × P stack)) (Extra node false (Where HasTop Q))
  j_same node P Q p = all_rows given (own (record {
    to = λ stack h. let r = p.to stack h.1 in (r.0, (h.0, r.1));
    from = λ stack steps h. (h.0, p.from stack steps h.1);
  }))

  bare_same : (node : ℕ) (x : Row) → SameRow x (record { dsat = Canonical node false (Bare x.dsat); sat = Canonical node true (Bare x.sat) })
  bare_same node x = record { dsat = own (bare x.dsat); sat = own (bare x.sat) }

  wrap_same : (node : ℕ) (x : Row) (t : TrailRow) → SameRow x t → SameRow x (record { dsat = Canonical node false t.dsat; sat = Canonical node true t.sat })
  wrap_same node x t i = record { dsat = own i.dsat; sat = own i.sat }

  two_same : (first : ℕ) (kind : Two) (x y : Tree) → SameRow (row s x) (trails given first x) → SameRow (row s y) (trails given (first + nodes x) y) →
      SameRow (row s (two kind x y)) (trails given first (two kind x y))
  two_same first kind.AndV x y i j = record {
    dsat = all_rows given (own (both j.dsat i.sat));
    sat = own (both j.sat i.sat);
  }
  two_same first kind.AndB x y i j = record {
    dsat = either (own (both j.dsat i.dsat)) (all_rows given (own (either (both j.sat i.dsat) (both j.dsat i.sat))));
    sat = own (both j.sat i.sat);
  }
  two_same first kind.OrB x y i j = record {
    dsat = own (both j.dsat i.dsat);
    sat = of_three (either (own (either (both j.dsat i.sat) (both j.sat i.dsat))) (all_rows given (own (both j.sat i.sat))));
  }
  two_same first kind.OrC x y i j = record { dsat = never _ (λ stack steps h. h); sat = own (either i.sat (both j.sat i.dsat)) }
  two_same first kind.OrD x y i j = record { dsat = own (both j.dsat i.dsat); sat = own (either i.sat (both j.sat i.dsat)) }
  two_same first kind.OrI x y i j = record {
    dsat = own (either (both i.dsat (bare _)) (both j.dsat (bare _)));
    sat = own (either (both i.sat (bare _)) (both j.sat (bare _)));
  }

  mutual
    pub row_same : (first : ℕ) (tree : Tree) → SameRow (row s tree) (trails given first tree)
    row_same first (pk_h key) = record { dsat = with_top key first false _; sat = with_top key first true _ }
    row_same first (hash kind value) = record { dsat = with_top _ first false _; sat = own (bare _) }
    row_same first (and_or x y z) =
        let i = row_same first x in
        let j = row_same (first + nodes x) y in
        let k = row_same (first + nodes x + nodes y) z in
        record {
          dsat = either (own (both k.dsat i.dsat)) (all_rows given (own (both j.dsat i.sat)));
          sat = own (either (both j.sat i.sat) (both k.sat i.dsat));
        }
    row_same first (two kind x y) = two_same first kind x y (row_same first x) (row_same (first + nodes x) y)
    row_same first (thresh k xs) = thresh_same _ k _ _ (parts_same first xs)
    row_same first (wrap wrapper.D x) =
        let i = row_same first x in
        record { dsat = own (bare _); sat = own (both i.sat (bare _)) }
    row_same first (wrap wrapper.V x) =
        let i = row_same first x in
        record { dsat = never _ (λ stack steps h. h); sat = own i.sat }
    row_same first (wrap wrapper.J x) =
        let i = row_same first x in
        record { dsat = either (own (bare _)) (j_same _ _ _ i.dsat); sat = own i.sat }
    row_same first (wrap wrapper x) = wrap_same _ _ _ (row_same first x)
    row_same first leaf = bare_same first _

    pub parts_same : (first : ℕ) (xs : Trees) (n : ℕ) → Same (parts s xs n) (trails_of given first xs n)
    parts_same first none n = record { to = λ stack h. ([], (h.0, (h.1, refl))); from = λ stack steps h. (h.0, h.1.0) }
    parts_same first (more x xs) n = parts_of _ _ _ _ (row_same first x) (parts_same (first + nodes x) xs) n

pub derives_is_full : DerivesIsFull
derives_is_full tree given stack =
    let i = row_same given 0 tree in (
      (i.sat.to (reverse stack), λ h. i.sat.from (reverse stack) h.0 h.1),
      (i.dsat.to (reverse stack), λ h. i.dsat.from (reverse stack) h.0 h.1),
    )
