-- The rows of a miniscript with the letter n have an item, and the top item of a satisfaction isn't empty.
use Rattle.std.proofs.Common.{◌≡◌, ℕ, zero, suc, ◌+◌, ◌≤◌, true, false, ◌&&◌, IsTrue, List, [], ◌∷◌, ◌++◌, length, reverse, replicate, refl, sym, ◌∙◌, ap, subst, inl, inr, arith}
use Rattle.std.proofs.lemmas.Bool.{or_cases, false≢true, and_parts}
use Rattle.std.proofs.lemmas.List.{length-append, nil_from_length}
use Rattle.def_script.specs.Bytes.{Bytes}
use Rattle.def_machine.specs.Stacks.{Stack, Checker, is_empty}
use Rattle.def_script.specs.Key.{is_key}
use Rattle.def_machine.specs.MultiSig.{is_good}
use Rattle.def_tree.specs.declared.Two.TheVariants as kind
use Rattle.def_tree.specs.declared.Wrapper.TheVariants as wrapper
use Rattle.def_tree.specs.Tree.{Tree, Key, pk_k, pk_h, hash, two, multi, wrap}
use Rattle.def_types.specs.Typed.{type_of, IsTyped}
use Rattle.def_types.proofs.Rows.{correctness_rows}
use Rattle.def_types.proofs.Facts.{typed-multi, typed-wrap_j}
use Rattle.def_satisfaction.specs.StackSet.{StackSet, Is, If, Both, Either}
use Rattle.def_satisfaction.specs.Setting.{Setting}
use Rattle.def_satisfaction.specs.Rows.{Row, EMPTY, ONE, HasTop, Signature, AreSignatures, row}
use Rattle.ms_row_laws.proofs.RowLengths.{Takes, takes_none}

-- every stack of the set has an item, or one that isn't empty on top
abbrev Long : StackSet → Type 0
Long P = (w : Stack) → P w → 1 ≤ length w

abbrev Topped : StackSet → Type 0
Topped P = (w : Stack) → P w → HasTop w

pub record TopRow (r : Row) : Type 0 where
  pub dsat : Long r.dsat
  pub sat : Topped r.sat

-- strings that aren't empty
pub good_is_some : (checker : Checker) (key sig : Bytes) → IsTrue (is_good checker key sig) → is_empty sig ≡ false
good_is_some checker key [] e = absurd (false≢true e)
good_is_some checker key (b ∷ sig) e = refl

pub key_is_some : (key : Bytes) → IsTrue (is_key key) → is_empty key ≡ false
key_is_some [] e = absurd (false≢true e)
key_is_some (b ∷ key) e = refl

long_is_some : (bytes : Bytes) → 1 ≤ length bytes → is_empty bytes ≡ false
long_is_some [] e = absurd (omega arith)
long_is_some (b ∷ bytes) e = refl

top_item : (w : Stack) (item : Bytes) → w ≡ item ∷ [] → is_empty item ≡ false → HasTop w
top_item w item e some = (item, [], e, some)

pub top_length : (w : Stack) → HasTop w → 1 ≤ length w
top_length w r = let e = ap length r.2 in omega arith

long_top : {P : StackSet} → Topped P → Long P
long_top p w r = top_length w (p w r)

both_top : {P Q : StackSet} → Topped Q → Topped (Both P Q)
both_top q w r = let h = q r.1 r.3 in (h.0, h.1 ++ r.0, r.4 ∙ ap (λ above. above ++ r.0) h.2, h.3)

both_long : {P Q : StackSet} → Long Q → Long (Both P Q)
both_long q w r = let l = length-append r.1 r.0 in let e = ap length r.4 in let h = q r.1 r.3 in omega arith

-- with nothing above it
below_top : {P Q : StackSet} → Topped P → Takes 0 Q → Topped (Both P Q)
below_top p q w r = subst HasTop (sym (r.4 ∙ ap (λ above. above ++ r.0) (nil_from_length r.1 (q r.1 r.3)))) (p r.0 r.2)

below_long : {P Q : StackSet} → Long P → Long (Both P Q)
below_long p w r = let l = length-append r.1 r.0 in let e = ap length r.4 in let h = p r.0 r.2 in omega arith

either_long : {P Q : StackSet} → Long P → Long Q → Long (Either P Q)
either_long p q w (inl r) = p w r
either_long p q w (inr r) = q w r

if_long : {fact : Type 0} {P : StackSet} → Long P → Long (If fact P)
if_long p w r = p w r.1

signature_top : (s : Setting) (key : Key) → Topped (Signature s key)
signature_top s key w r = top_item w r.0 r.2 (good_is_some s.given.checker key r.0 r.1)

is_long : (item : Bytes) → Long (Is item)
is_long item w e = let l = ap length e in omega arith

-- the top signature of some
signatures_top : (checker : Checker) (keys : List Key) (sigs : Stack) → 1 ≤ length sigs → AreSignatures checker keys sigs → HasTop sigs
signatures_top checker keys [] some r = absurd (omega arith)
signatures_top checker [] (sig ∷ sigs) some r = absurd r
signatures_top checker (key ∷ keys) (sig ∷ sigs) some (inl r) = (sig, sigs, refl, good_is_some checker key sig r.0)
signatures_top checker (key ∷ keys) (sig ∷ sigs) some (inr r) = signatures_top checker keys (sig ∷ sigs) some r

empties_long : (n : ℕ) → 1 ≤ n → Long (λ w. w ≡ replicate n EMPTY)
empties_long zero some w e = absurd (omega arith)
empties_long (suc n) some w e = let l = ap length e in omega arith

-- n, nonzero
pub takes_item : (s : Setting) (t : Tree) → IsTyped t → (type_of t).n ≡ true → TopRow (row s t)
unfolding correctness_rows
takes_item s (pk_k key) typed e = record { dsat = is_long EMPTY; sat = signature_top s key }
takes_item s (pk_h key) typed e = record {
  dsat = λ w r. both_long (is_long r.0) w r.4;
  sat = λ w r. both_top (λ v i. top_item v r.0 i (key_is_some r.0 r.1)) w r.4;
}
takes_item s (hash kind value) typed e = record {
  dsat = either_long (if_long (is_long _)) (if_long (λ w r. is_long r.0 w r.2));
  sat = λ w r. top_item w r.0 r.2 (long_is_some r.0 (let l = r.1.0.0 in omega arith));
}
takes_item s (two kind.AndV x y) typed e =
    elim (or_cases (type_of x).n ((type_of x).z && (type_of y).n) e) [
      | inl p ↦ let i = takes_item s x typed.0 p in record { dsat = if_long (both_long (long_top i.sat)); sat = both_top i.sat }
      | inr p ↦
          let q = and_parts (type_of x).z (type_of y).n p in
          let i = takes_none s x q.0 in
          let j = takes_item s y typed.1 q.1 in
          record { dsat = if_long (below_long j.dsat); sat = below_top j.sat i.sat }
    ]
takes_item s (two kind.AndB x y) typed e =
    elim (or_cases (type_of x).n ((type_of x).z && (type_of y).n) e) [
      | inl p ↦ let i = takes_item s x typed.0 p in record {
        dsat = either_long (both_long i.dsat) (if_long (either_long (both_long i.dsat) (both_long (long_top i.sat))));
        sat = both_top i.sat;
      }
      | inr p ↦
          let q = and_parts (type_of x).z (type_of y).n p in
          let i = takes_none s x q.0 in
          let j = takes_item s y typed.1 q.1 in record {
            dsat = either_long (below_long j.dsat) (if_long (either_long (below_long (long_top j.sat)) (below_long j.dsat)));
            sat = below_top j.sat i.sat;
          }
    ]
takes_item s (multi k keys) typed e =
    let some = (typed-multi k keys typed).0 in record {
      dsat = empties_long (k + 1) (omega arith);
      sat = both_top (λ v h. signatures_top s.given.checker (reverse keys) v (let l = h.0 in omega arith) h.1);
    }
takes_item s (wrap wrapper.C x) typed e = takes_item s x typed.0 e
takes_item s (wrap wrapper.D x) typed e = record { dsat = is_long EMPTY; sat = both_top (λ v i. top_item v ONE i refl) }
takes_item s (wrap wrapper.V x) typed e = let i = takes_item s x typed.0 e in record { dsat = λ w r. absurd r; sat = i.sat }
takes_item s (wrap wrapper.J x) typed e =
    let i = takes_item s x typed.0 (typed-wrap_j x typed).2 in
    record { dsat = either_long (is_long EMPTY) (if_long (λ w r. top_length w r.0)); sat = i.sat }
takes_item s (wrap wrapper.N x) typed e = takes_item s x typed.0 e
takes_item s tree typed e = absurd (false≢true e)
