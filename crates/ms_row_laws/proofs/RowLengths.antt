-- How many items the rows of the satisfaction table have (the letters z and o of a type).
use Rattle.std.proofs.Common.{◌≡◌, ℕ, ◌+◌, Bool, true, ◌&&◌, ◌||◌, [], ◌∷◌, length, refl, ◌∙◌, ap, ◌⊎◌, inl, inr, arith}
use Rattle.std.specs.Prelude.{⊤}
use Rattle.std.proofs.lemmas.Bool.{or_cases, false≢true, and_parts}
use Rattle.std.proofs.lemmas.List.{length-append}
use Rattle.def_script.specs.Bytes.{Bytes}
use Rattle.def_machine.specs.Stacks.{Stack}
use Rattle.def_tree.specs.declared.Two.{Two}
use Rattle.def_tree.specs.declared.Two.TheVariants as kind
use Rattle.def_tree.specs.declared.Wrapper.TheVariants as wrapper
use Rattle.def_tree.specs.Tree.{Tree, Trees, just_0, just_1, pk_k, older, after, hash, and_or, two, thresh, wrap, none, more}
use Rattle.def_types.specs.Correctness.{all_z, all_z_but_one}
use Rattle.def_types.specs.Typed.{type_of, types_of, IsTyped, AreTyped}
use Rattle.def_types.proofs.Rows.{correctness_rows}
use Rattle.def_types.proofs.Facts.{all_true, typed-wrap_d}
use Rattle.def_satisfaction.specs.StackSet.{StackSet, Never, Is, If, Both, Either}
use Rattle.def_satisfaction.specs.Setting.{Setting}
use Rattle.def_table.specs.Table.{and_or_row, or_c_row, or_d_row}
use Rattle.def_satisfaction.specs.Rows.{Row, EMPTY, ONE, Signature, PartsOf, thresh_row, row, parts, stacks}

-- every stack of the set has so many items
abbrev pub Takes : ℕ → StackSet → Type 0
Takes k P = (w : Stack) → P w → length w ≡ k

pub record TakesRow (k : ℕ) (r : Row) : Type 0 where
  pub dsat : Takes k r.dsat
  pub sat : Takes k r.sat

both_takes : {a b k : ℕ} {P Q : StackSet} → Takes b P → Takes a Q → b + a ≡ k → Takes k (Both P Q)
both_takes p q e w r = ap length r.4 ∙ (let l = length-append r.1 r.0 in let i = p r.0 r.2 in let j = q r.1 r.3 in omega arith)

either_takes : {k : ℕ} {P Q : StackSet} → Takes k P → Takes k Q → Takes k (Either P Q)
either_takes p q w (inl r) = p w r
either_takes p q w (inr r) = q w r

if_takes : {fact : Type 0} {k : ℕ} {P : StackSet} → Takes k P → Takes k (If fact P)
if_takes p w r = p w r.1

none_takes : {k : ℕ} → Takes k Never
none_takes w r = absurd r

is_takes : (item : Bytes) → Takes 1 (Is item)
is_takes item w r = ap length r

and_or_takes : (s : Setting) (a b : ℕ) (x y z : Row) → TakesRow a x → TakesRow b y → TakesRow b z → TakesRow (b + a) (and_or_row (stacks s) x y z)
and_or_takes s a b x y z i j k = record {
  dsat = either_takes (both_takes k.dsat i.dsat refl) (if_takes (both_takes j.dsat i.sat refl));
  sat = either_takes (both_takes j.sat i.sat refl) (both_takes k.sat i.dsat refl);
}

-- `and_v`, `and_b` and `or_b` take what their two children do
abbrev IsPair : Two → Type 0
IsPair kind.OrC = ⊥
IsPair kind.OrD = ⊥
IsPair kind.OrI = ⊥
IsPair which = ⊤

pair_takes : (s : Setting) (which : Two) (x y : Tree) (a b : ℕ) → IsPair which → TakesRow a (row s x) → TakesRow b (row s y) → TakesRow (b + a) (row s (two which x y))
pair_takes s kind.AndV x y a b pair i j = record { dsat = if_takes (both_takes j.dsat i.sat refl); sat = both_takes j.sat i.sat refl }
pair_takes s kind.AndB x y a b pair i j = record {
  dsat =
      either_takes (both_takes j.dsat i.dsat refl)
      (if_takes (either_takes (both_takes j.sat i.dsat refl) (both_takes j.dsat i.sat refl)));
  sat = both_takes j.sat i.sat refl;
}
pair_takes s kind.OrB x y a b pair i j = record {
  dsat = both_takes j.dsat i.dsat refl;
  sat =
      either_takes (both_takes j.dsat i.sat refl)
      (either_takes (both_takes j.sat i.dsat refl) (if_takes (both_takes j.sat i.sat refl)));
}
pair_takes s which x y a b pair i j = absurd pair

or_c_takes : (s : Setting) (a : ℕ) (x z : Row) → TakesRow a x → TakesRow 0 z → TakesRow a (or_c_row (stacks s) x z)
or_c_takes s a x z i k = record { dsat = none_takes; sat = either_takes i.sat (both_takes k.sat i.dsat (omega arith)) }

or_d_takes : (s : Setting) (a : ℕ) (x z : Row) → TakesRow a x → TakesRow 0 z → TakesRow a (or_d_row (stacks s) x z)
or_d_takes s a x z i k = record { dsat = both_takes k.dsat i.dsat (omega arith); sat = either_takes i.sat (both_takes k.sat i.dsat (omega arith)) }

parts_of_takes : (a b : ℕ) (x : Row) (others : ℕ → StackSet) → TakesRow a x → ((n : ℕ) → Takes b (others n)) → (n : ℕ) → Takes (b + a) (PartsOf x others n)
parts_of_takes a b x others i j n w (inl r) = both_takes (j r.0) i.sat refl w r.2
parts_of_takes a b x others i j n w (inr r) = both_takes (j n) i.dsat refl w r

thresh_takes : (s : Setting) (a k : ℕ) (P : ℕ → StackSet) → ((n : ℕ) → Takes a (P n)) → TakesRow a (thresh_row s k P)
thresh_takes s a k P j = record { dsat = either_takes (j 0) (if_takes (λ w r. j r.0 w r.3)); sat = j k }

nothing_takes : (w : Stack) → w ≡ [] → length w ≡ 0
nothing_takes w r = ap length r

-- z, zero-arg
mutual
  unfolding correctness_rows

  pub takes_none : (s : Setting) (t : Tree) → (type_of t).z ≡ true → TakesRow 0 (row s t)
  takes_none s just_0 e = record { dsat = nothing_takes; sat = none_takes }
  takes_none s just_1 e = record { dsat = none_takes; sat = nothing_takes }
  takes_none s (older n) e = record { dsat = none_takes; sat = if_takes nothing_takes }
  takes_none s (after n) e = record { dsat = none_takes; sat = if_takes nothing_takes }
  takes_none s (and_or x y z) e =
      let p = all_true (type_of x).z (type_of y).z (type_of z).z e in
      and_or_takes s 0 0 (row s x) (row s y) (row s z) (takes_none s x p.0) (takes_none s y p.1) (takes_none s z p.2)
  takes_none s (two kind.OrC x y) e =
      let p = and_parts (type_of x).z (type_of y).z e in
      or_c_takes s 0 (row s x) (row s y) (takes_none s x p.0) (takes_none s y p.1)
  takes_none s (two kind.OrD x y) e =
      let p = and_parts (type_of x).z (type_of y).z e in
      or_d_takes s 0 (row s x) (row s y) (takes_none s x p.0) (takes_none s y p.1)
  takes_none s (two kind.OrI x y) e = absurd (false≢true e)
  takes_none s (two which x y) e =
      let p = and_parts (type_of x).z (type_of y).z e in
      pair_takes s which x y 0 0 tt (takes_none s x p.0) (takes_none s y p.1)
  takes_none s (thresh k xs) e = thresh_takes s 0 k (parts s xs) (parts_take_none s xs e)
  takes_none s (wrap wrapper.V x) e = let i = takes_none s x e in record { dsat = none_takes; sat = i.sat }
  takes_none s (wrap wrapper.N x) e = takes_none s x e
  takes_none s tree e = absurd (false≢true e)

  pub parts_take_none : (s : Setting) (xs : Trees) → all_z (types_of xs) ≡ true → (n : ℕ) → Takes 0 (parts s xs n)
  parts_take_none s none e n = λ w r. nothing_takes w r.1
  parts_take_none s (more x xs) e n =
      let p = and_parts (type_of x).z (all_z (types_of xs)) e in
      parts_of_takes 0 0 (row s x) (parts s xs) (takes_none s x p.0) (parts_take_none s xs p.1) n

signature_takes : (s : Setting) (key : Bytes) → Takes 1 (Signature s key)
signature_takes s key w r = ap length r.2

-- both of two tests, or both of two others
either_pair : (a b c d : Bool) → ((a && b) || (c && d)) ≡ true → ((a ≡ true) × (b ≡ true)) ⊎ ((c ≡ true) × (d ≡ true))
either_pair a b c d e = elim (or_cases (a && b) (c && d) e) [ inl h ↦ inl (and_parts a b h) | inr h ↦ inr (and_parts c d h) ]

either_three : (a b c d f g : Bool) → ((a && b && c) || (d && f && g)) ≡ true → ((a ≡ true) × (b ≡ true) × (c ≡ true)) ⊎ ((d ≡ true) × (f ≡ true) × (g ≡ true))
either_three a b c d f g e = elim (or_cases (a && b && c) (d && f && g) e) [ inl h ↦ inl (all_true a b c h) | inr h ↦ inr (all_true d f g h) ]

-- o, one-arg
mutual
  unfolding correctness_rows

  pub takes_one : (s : Setting) (t : Tree) → IsTyped t → (type_of t).o ≡ true → TakesRow 1 (row s t)
  takes_one s (pk_k key) typed e = record { dsat = is_takes EMPTY; sat = signature_takes s key }
  takes_one s (hash kind value) typed e = record {
    dsat = either_takes (if_takes (is_takes _)) (if_takes (λ w r. ap length r.2));
    sat = λ w r. ap length r.2;
  }
  takes_one s (and_or x y z) typed e =
      elim (either_three (type_of x).z (type_of y).o (type_of z).o (type_of x).o (type_of y).z (type_of z).z e) [
        | inl p ↦ and_or_takes s 0 1 (row s x) (row s y) (row s z) (takes_none s x p.0) (takes_one s y typed.1 p.1) (takes_one s z typed.2 p.2)
        | inr p ↦ and_or_takes s 1 0 (row s x) (row s y) (row s z) (takes_one s x typed.0 p.0) (takes_none s y p.1) (takes_none s z p.2)
      ]
  takes_one s (two kind.OrC x y) typed e =
      let p = and_parts (type_of x).o (type_of y).z e in
      or_c_takes s 1 (row s x) (row s y) (takes_one s x typed.0 p.0) (takes_none s y p.1)
  takes_one s (two kind.OrD x y) typed e =
      let p = and_parts (type_of x).o (type_of y).z e in
      or_d_takes s 1 (row s x) (row s y) (takes_one s x typed.0 p.0) (takes_none s y p.1)
  takes_one s (two kind.OrI x y) typed e =
      let p = and_parts (type_of x).z (type_of y).z e in
      let i = takes_none s x p.0 in
      let j = takes_none s y p.1 in record {
        dsat = either_takes (both_takes i.dsat (is_takes ONE) refl) (both_takes j.dsat (is_takes EMPTY) refl);
        sat = either_takes (both_takes i.sat (is_takes ONE) refl) (both_takes j.sat (is_takes EMPTY) refl);
      }
  takes_one s (two which x y) typed e =
      elim (either_pair (type_of x).z (type_of y).o (type_of y).z (type_of x).o e) [
        | inl p ↦ pair_takes s which x y 0 1 tt (takes_none s x p.0) (takes_one s y typed.1 p.1)
        | inr p ↦ pair_takes s which x y 1 0 tt (takes_one s x typed.0 p.1) (takes_none s y p.0)
      ]
  takes_one s (thresh k xs) typed e = thresh_takes s 1 k (parts s xs) (parts_take_one s xs typed.0 e)
  takes_one s (wrap wrapper.C x) typed e = takes_one s x typed.0 e
  takes_one s (wrap wrapper.D x) typed e =
      let i = takes_none s x (typed-wrap_d x typed).2 in record { dsat = is_takes EMPTY; sat = both_takes i.sat (is_takes ONE) refl }
  takes_one s (wrap wrapper.V x) typed e = let i = takes_one s x typed.0 e in record { dsat = none_takes; sat = i.sat }
  takes_one s (wrap wrapper.J x) typed e =
      let i = takes_one s x typed.0 e in record { dsat = either_takes (is_takes EMPTY) (if_takes (λ w r. i.dsat w r.1)); sat = i.sat }
  takes_one s (wrap wrapper.N x) typed e = takes_one s x typed.0 e
  takes_one s tree typed e = absurd (false≢true e)

  pub parts_take_one : (s : Setting) (xs : Trees) → AreTyped xs → all_z_but_one (types_of xs) ≡ true → (n : ℕ) → Takes 1 (parts s xs n)
  parts_take_one s none typed e n = absurd (false≢true e)
  parts_take_one s (more x xs) typed e n =
      elim (either_pair (type_of x).o (all_z (types_of xs)) (type_of x).z (all_z_but_one (types_of xs)) e) [
        | inl p ↦ parts_of_takes 1 0 (row s x) (parts s xs) (takes_one s x typed.0 p.0) (parts_take_none s xs p.1) n
        | inr p ↦ parts_of_takes 0 1 (row s x) (parts s xs) (takes_none s x p.0) (parts_take_one s xs typed.1 p.1) n
      ]

-- one item is the whole stack
pub one_item : (w : Stack) → length w ≡ 1 → (item : Bytes) × (w ≡ item ∷ [])
one_item [] e = absurd (omega arith)
one_item (x ∷ []) e = (x, refl)
one_item (x ∷ y ∷ w) e = absurd (omega arith)
