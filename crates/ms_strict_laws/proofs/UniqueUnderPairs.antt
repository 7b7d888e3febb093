-- Stacks that are the only ones of their set, under every table that has no pairs of some keys but these.
use Rattle.std.proofs.Common.{◌≡◌, ℕ, suc, ◌≤◌, false, List, [], ◌∷◌, ◌++◌, Contains, sym, ◌∙◌, ap, inl, inr, arith}
use Rattle.std.proofs.lemmas.Bool.{cases_Bool}
use Rattle.std.proofs.lemmas.List.Elements.{Contains-append_left, Contains-append_right}
use Rattle.def_script.specs.Bytes.{Bytes}
use Rattle.def_machine.specs.Stacks.{Stack, Pairs, Checker}
use Rattle.def_machine.specs.MultiSig.{is_good}
use Rattle.def_tree.specs.Tree.{Key}
use Rattle.def_satisfaction.specs.StackSet.{StackSet, Is, Both, Either}
use Rattle.def_satisfaction.specs.Rows.{Row, PartsOf}
use Rattle.ms_row_laws.proofs.NeededSignatures.{IsEmpty}
use Rattle.ms_strict_laws.proofs.MultisigPairs.{Covered}
use Rattle.ms_row_laws.proofs.KeyLists.{Disjoint, Among}
use Rattle.ms_strict_laws.proofs.PairSets.{Inside, inside_both, has_cases}

pub record Sole (keys : List Key) (checks : Pairs) (others : Checker → StackSet) (w : Stack) : Type 0 where
  pub inside : Inside checks keys
  pub only : (checker : Checker) → Covered checker keys checks → (v : Stack) → others checker v → v ≡ w

-- the same of stacks with n satisfied children
pub record SoleParts (keys : List Key) (checks : Pairs) (n : ℕ) (others : Checker → ℕ → StackSet) (w : Stack) : Type 0 where
  pub inside : Inside checks keys
  pub only : (checker : Checker) → Covered checker keys checks → (m : ℕ) (v : Stack) → others checker m v → (m ≤ n) × (m ≡ n → v ≡ w)

pub covered_above : (checker : Checker) (a b : List Key) (p q : Pairs) → Disjoint a b → Inside q b → Covered checker (a ++ b) (p ++ q) → Covered checker a p
covered_above checker a b p q apart j c key sig i good =
    elim (has_cases p q key sig (c key sig (Contains-append_left a b key i) good)) [ inl k ↦ k | inr k ↦ absurd (apart key i (j key sig k)) ]

pub covered_below : (checker : Checker) (a b : List Key) (p q : Pairs) → Disjoint a b → Inside p a → Covered checker (a ++ b) (p ++ q) → Covered checker b q
covered_below checker a b p q apart i c key sig j good =
    elim (has_cases p q key sig (c key sig (Contains-append_right a b key j) good)) [ inl k ↦ absurd (apart key (i key sig k) j) | inr k ↦ k ]

-- the table has no pairs of the keys
abbrev pub NoneOf : Checker → List Key → Type 0
NoneOf checker keys = (key sig : Bytes) → Contains keys key → is_good checker key sig ≡ false

-- as where all that it has are pairs of other keys
pub none_of : (checker : Checker) (keys a b : List Key) (checks : Pairs) → Inside checks a → Disjoint a b → Among b keys → Covered checker keys checks → NoneOf checker b
none_of checker keys a b checks inside apart among c key sig i =
    elim (cases_Bool (is_good checker key sig)) [
      | inl good ↦ absurd (apart key (inside key sig (c key sig (among key i) good)) i)
      | inr bad ↦ bad
    ]

pub both_sole : (a b : List Key) (p q : Pairs) (P Q : Checker → StackSet) (w above below : Stack) → Disjoint a b → Sole a p P above → Sole b q Q below → w
    ≡ above ++ below → Sole (a ++ b) (p ++ q) (λ checker. Both (Q checker) (P checker)) w
both_sole a b p q P Q w above below apart i j e = record {
  inside = inside_both a b p q i.inside j.inside;
  only = λ checker c v r.
      r.4
      ∙ ap (λ x. x ++ r.0) (i.only checker (covered_above checker a b p q apart j.inside c) r.1 r.3)
      ∙ ap (λ x. above ++ x) (j.only checker (covered_below checker a b p q apart i.inside c) r.0 r.2)
      ∙ sym e;
}

pub item_sole : (keys : List Key) (checks : Pairs) (P : Checker → StackSet) (item : Bytes) (w above below : Stack) → Sole keys checks P below → above ≡ item ∷ []
    → w ≡ above ++ below → Sole keys checks (λ checker. Both (P checker) (Is item)) w
item_sole keys checks P item w above below i f e = record {
  inside = i.inside;
  only = λ checker c v r. r.4 ∙ ap (λ x. x ++ r.0) (r.3 ∙ sym f) ∙ ap (λ x. above ++ x) (i.only checker c r.0 r.2) ∙ sym e;
}

-- among more keys
pub more_keys : (a keys : List Key) (checks : Pairs) (P : Checker → StackSet) (w : Stack) → Among a keys → Sole a checks P w → Sole keys checks P w
more_keys a keys checks P w among i = record {
  inside = λ key sig h. among key (i.inside key sig h);
  only = λ checker c. i.only checker (λ key sig h. c key sig (among key h));
}

-- beside another option that has no stack
pub first_sole : (keys : List Key) (checks : Pairs) (P Q : Checker → StackSet) (w : Stack) → Sole keys checks P w
    → ((checker : Checker) → Covered checker keys checks → IsEmpty (Q checker)) → Sole keys checks (λ checker. Either (P checker) (Q checker)) w
first_sole keys checks P Q w i no_other = record {
  inside = i.inside;
  only = λ checker c v r. elim r [ inl h ↦ i.only checker c v h | inr h ↦ absurd (no_other checker c v h) ];
}

pub second_sole : (keys : List Key) (checks : Pairs) (P Q : Checker → StackSet) (w : Stack) → Sole keys checks Q w
    → ((checker : Checker) → Covered checker keys checks → IsEmpty (P checker)) → Sole keys checks (λ checker. Either (P checker) (Q checker)) w
second_sole keys checks P Q w i no_other = record {
  inside = i.inside;
  only = λ checker c v r. elim r [ inl h ↦ absurd (no_other checker c v h) | inr h ↦ i.only checker c v h ];
}

-- the same stack
same_both : (v w above below a b : Stack) → v ≡ a ++ b → w ≡ above ++ below → a ≡ above → b ≡ below → v ≡ w
same_both v w above below a b e f i j = e ∙ ap (λ x. x ++ b) i ∙ ap (λ x. above ++ x) j ∙ sym f

pub sat_part : (a b : List Key) (p q : Pairs) (n m : ℕ) (X : Checker → Row) (P : Checker → ℕ → StackSet) (w above below : Stack) → Disjoint a b
    → Sole a p (λ checker. (X checker).sat) above → SoleParts b q m P below → n ≡ suc m → w ≡ above ++ below
    → SoleParts (a ++ b) (p ++ q) n (λ checker. PartsOf (X checker) (P checker)) w
sat_part a b p q n m X P w above below apart i j e f = record {
  inside = inside_both a b p q i.inside j.inside;
  only = λ checker c k v r.
      go checker k v r (i.only checker (covered_above checker a b p q apart j.inside c)) (j.only checker (covered_below checker a b p q apart i.inside c));
}
  where
    go : (checker : Checker) (k : ℕ) (v : Stack) → PartsOf (X checker) (P checker) k v → ((v : Stack) → (X checker).sat v → v ≡ above)
        → ((k : ℕ) (v : Stack) → P checker k v → (k ≤ m) × (k ≡ m → v ≡ below)) → (k ≤ n) × (k ≡ n → v ≡ w)
    go checker k v (inl (l, g, r)) x others =
        let o = others l r.0 r.2 in
        let few = o.0 in
        (omega arith, λ same. same_both v w above below r.1 r.0 r.4 f (x r.1 r.3) (o.1 (omega arith)))
    go checker k v (inr r) x others =
        let few = (others k r.0 r.2).0 in
        (omega arith, λ same. absurd (omega arith))

pub dsat_part : (a b : List Key) (p q : Pairs) (n : ℕ) (X : Checker → Row) (P : Checker → ℕ → StackSet) (w above below : Stack) → Disjoint a b
    → Sole a p (λ checker. (X checker).dsat) above → SoleParts b q n P below → w ≡ above ++ below → ((checker : Checker) → Covered checker a p → IsEmpty (X checker).sat)
    → SoleParts (a ++ b) (p ++ q) n (λ checker. PartsOf (X checker) (P checker)) w
dsat_part a b p q n X P w above below apart i j f no_sat = record {
  inside = inside_both a b p q i.inside j.inside;
  only = λ checker c k v r.
      let c_x = covered_above checker a b p q apart j.inside c in
      go checker k v r (no_sat checker c_x) (i.only checker c_x) (j.only checker (covered_below checker a b p q apart i.inside c));
}
  where
    go : (checker : Checker) (k : ℕ) (v : Stack) → PartsOf (X checker) (P checker) k v → IsEmpty (X checker).sat → ((v : Stack) → (X checker).dsat v → v ≡ above)
        → ((k : ℕ) (v : Stack) → P checker k v → (k ≤ n) × (k ≡ n → v ≡ below)) → (k ≤ n) × (k ≡ n → v ≡ w)
    go checker k v (inl (l, g, r)) none x others = absurd (none r.1 r.3)
    go checker k v (inr r) none x others =
        let o = others k r.0 r.2 in
        (o.0, λ same. same_both v w above below r.1 r.0 r.4 f (x r.1 r.3) (o.1 same))
