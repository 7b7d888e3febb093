-- Which rows need a signature of a miniscript's keys (the letters s and f of its properties).
use Rattle.std.proofs.Common.{◌≡◌, ℕ, ◌+◌, ◌≤◌, true, false, ◌&&◌, ◌||◌, List, [], ◌∷◌, ◌++◌, length, reverse, Contains, refl, sym, ◌∙◌, ap, inl, inr, arith, if◌then◌else◌}
use Rattle.std.proofs.lemmas.Bool.{or_cases, cases_Bool, ltb-true, false≢true, and_parts, and_from, or_right}
use Rattle.std.proofs.lemmas.List.Elements.{Contains-append_left, Contains-append_right}
use Rattle.def_hash.specs.Hash.{hash160}
use Rattle.def_script.specs.Bytes.{Bytes}
use Rattle.def_machine.specs.Stacks.{Stack, Checker, member}
use Rattle.def_machine.specs.MultiSig.{is_good}
use Rattle.def_tree.specs.declared.Two.{Two}
use Rattle.def_tree.specs.declared.Two.TheVariants as kind
use Rattle.def_tree.specs.declared.Wrapper.TheVariants as wrapper
use Rattle.def_tree.specs.Tree.{Tree, Trees, Key, just_0, pk_k, pk_h, hash, and_or, two, thresh, multi, wrap, none, more}
use Rattle.def_types.specs.declared.Base.TheVariants.{K}
use Rattle.def_types.specs.declared.MalleabilityProperties.{MalleabilityProperties}
use Rattle.def_types.specs.Malleable as malleability_of
use Rattle.def_types.specs.Malleable.{count_not_s}
use Rattle.def_types.specs.Typed.{type_of, IsTyped, AreTyped, properties_of, all_properties_of}
use Rattle.def_types.proofs.Rows.{correctness_rows, malleability_rows}
use Rattle.def_types.proofs.Facts.{typed-and_or, typed-or_i, typed-multi, typed-wrap_c}
use Rattle.def_sane.specs.Keys.{keys, keys_of_all}
use Rattle.def_satisfaction.specs.StackSet.{StackSet, If, Both, Either}
use Rattle.def_satisfaction.specs.Setting.{Setting, Mode, any, only, CountsAsKey}
use Rattle.def_table.specs.Table.{and_or_row}
use Rattle.def_satisfaction.specs.Rows.{Row, Signature, AreSignatures, PartsOf, thresh_row, multi_row, row, parts, stacks}
use Rattle.def_assets.specs.Assets.{known}
use Rattle.def_choice.proofs.Weights.{contains-reverse}

-- the table has no good signature of these keys, nor of those that count for them
abbrev pub NoKeys : Setting → List Key → Type 0
NoKeys s keys =
    (key other : Key) (sig : Bytes) → Contains keys key → hash160 other ≡ hash160 key → CountsAsKey s.mode key other →
    is_good s.given.checker other sig ≡ false

-- the set has no stack
abbrev pub IsEmpty : StackSet → Type 0
IsEmpty P = (w : Stack) → P w → ⊥

pub none_left : (s : Setting) (a b : List Key) → NoKeys s (a ++ b) → NoKeys s a
none_left s a b h key other sig i = h key other sig (Contains-append_left a b key i)

pub none_right : (s : Setting) (a b : List Key) → NoKeys s (a ++ b) → NoKeys s b
none_right s a b h key other sig i = h key other sig (Contains-append_right a b key i)

pub counts_itself : (mode : Mode) (key : Key) → CountsAsKey mode key key
counts_itself any key = tt
counts_itself (only known) key = refl

own_is_bad : (s : Setting) (keys : List Key) → NoKeys s keys → (key : Key) (sig : Bytes) → Contains keys key → is_good s.given.checker key sig ≡ false
own_is_bad s keys h key sig i = h key key sig i refl (counts_itself s.mode key)

-- what needs a signature of a row by its properties
pub record Needs (m : MalleabilityProperties) (r : Row) : Type 0 where
  pub sat : m.s ≡ true → IsEmpty r.sat
  pub dsat : m.f ≡ true → IsEmpty r.dsat

no_signature : (s : Setting) (key : Key) → ((sig : Bytes) → is_good s.given.checker key sig ≡ false) → IsEmpty (Signature s key)
no_signature s key bad w r = false≢true (sym (bad r.0) ∙ r.1)

pub below_none : {P Q : StackSet} → IsEmpty P → IsEmpty (Both P Q)
below_none p w r = p r.0 r.2

pub above_none : {P Q : StackSet} → IsEmpty Q → IsEmpty (Both P Q)
above_none q w r = q r.1 r.3

pub either_none : {P Q : StackSet} → IsEmpty P → IsEmpty Q → IsEmpty (Either P Q)
either_none p q w (inl r) = p w r
either_none p q w (inr r) = q w r

pub if_none : {fact : Type 0} {P : StackSet} → IsEmpty P → IsEmpty (If fact P)
if_none p w r = p w r.1

and_or_needs : (s : Setting) (mx my mz : MalleabilityProperties) (x y z : Row) → Needs mx x → Needs my y → Needs mz z → Needs (malleability_of.and_or_row mx my mz).gives (and_or_row (stacks s) x y z)
unfolding malleability_rows
and_or_needs s mx my mz x y z i j k = record {
  sat = λ e. let p = and_parts mz.s (mx.s || my.s) e in
      either_none (elim (or_cases mx.s my.s p.1) [ inl a ↦ above_none (i.sat a) | inr a ↦ below_none (j.sat a) ]) (below_none (k.sat p.0));
  dsat = λ e. let p = and_parts mz.f (mx.s || my.f) e in
      either_none (below_none (k.dsat p.0)) (if_none (elim (or_cases mx.s my.f p.1) [ inl a ↦ above_none (i.sat a) | inr a ↦ below_none (j.dsat a) ]));
}

two_needs : (s : Setting) (which : Two) (x y : Tree) → Needs (properties_of x) (row s x) → Needs (properties_of y) (row s y) → Needs (properties_of (two which x y)) (row s (two which x y))
unfolding malleability_rows
two_needs s kind.AndV x y i j = record {
  sat = λ e. elim (or_cases (properties_of x).s (properties_of y).s e) [ inl a ↦ above_none (i.sat a) | inr a ↦ below_none (j.sat a) ];
  dsat = λ e. elim (or_cases (properties_of x).s (properties_of y).f e) [ inl a ↦ if_none (above_none (i.sat a)) | inr a ↦ if_none (below_none (j.dsat a)) ];
}
two_needs s kind.AndB x y i j =
    let mx = properties_of x in
    let my = properties_of y in record {
      sat = λ e. elim (or_cases mx.s my.s e) [ inl a ↦ above_none (i.sat a) | inr a ↦ below_none (j.sat a) ];
      dsat = λ e. elim (or_cases ((mx.f && my.f) || (mx.s && mx.f)) (my.s && my.f) e) [
        | inr a ↦
            let p = and_parts my.s my.f a in
            either_none (below_none (j.dsat p.1)) (if_none (either_none (below_none (j.sat p.0)) (below_none (j.dsat p.1))))
        | inl a ↦ elim (or_cases (mx.f && my.f) (mx.s && mx.f) a) [
          | inl b ↦
              let p = and_parts mx.f my.f b in
              either_none (above_none (i.dsat p.0)) (if_none (either_none (above_none (i.dsat p.0)) (below_none (j.dsat p.1))))
          | inr b ↦
              let p = and_parts mx.s mx.f b in
              either_none (above_none (i.dsat p.1)) (if_none (either_none (above_none (i.dsat p.1)) (above_none (i.sat p.0))))
        ]
      ];
    }
two_needs s kind.OrB x z i k = record {
  sat = λ e. let p = and_parts (properties_of x).s (properties_of z).s e in
      either_none (above_none (i.sat p.0)) (either_none (below_none (k.sat p.1)) (if_none (above_none (i.sat p.0))));
  dsat = λ e. absurd (false≢true e);
}
two_needs s kind.OrC x z i k = record {
  sat = λ e. let p = and_parts (properties_of x).s (properties_of z).s e in either_none (i.sat p.0) (below_none (k.sat p.1));
  dsat = λ e w r. r;
}
two_needs s kind.OrD x z i k = record {
  sat = λ e. let p = and_parts (properties_of x).s (properties_of z).s e in either_none (i.sat p.0) (below_none (k.sat p.1));
  dsat = λ e. below_none (k.dsat e);
}
two_needs s kind.OrI x z i k = record {
  sat = λ e. let p = and_parts (properties_of x).s (properties_of z).s e in either_none (below_none (i.sat p.0)) (below_none (k.sat p.1));
  dsat = λ e. let p = and_parts (properties_of x).f (properties_of z).f e in either_none (below_none (i.dsat p.0)) (below_none (k.dsat p.1));
}

-- no more children are satisfied than there are without s
abbrev pub FewSat : List MalleabilityProperties → (ℕ → StackSet) → Type 0
FewSat ms P = (n : ℕ) (w : Stack) → P n w → n ≤ count_not_s ms

counted_few : (m : MalleabilityProperties) (ms : List MalleabilityProperties) (x : Row) (P : ℕ → StackSet) → Needs m x → FewSat ms P → FewSat (m ∷ ms) (PartsOf x P)
counted_few m ms x P i few n w (inl (j, e, r)) =
    elim (cases_Bool m.s) [
      | inl s ↦ absurd (i.sat s r.1 r.3)
      | inr s ↦
          let c : count_not_s (m ∷ ms) ≡ 1 + count_not_s ms = ap (λ b. (if b then 0 else 1) + count_not_s ms) s in
          let f = few j r.0 r.2 in
          omega arith
    ]
counted_few m ms x P i few n w (inr r) = let f = few n r.0 r.2 in omega arith

thresh_needs : (s : Setting) (k : ℕ) (ms : List MalleabilityProperties) (P : ℕ → StackSet) → FewSat ms P → Needs (malleability_of.thresh_row k ms).gives (thresh_row s k P)
unfolding malleability_rows
thresh_needs s k ms P few = record {
  sat = λ e w r. (let f = few k w r in let l = ltb-true (count_not_s ms) k e in omega arith);
  dsat = λ e. absurd (false≢true e);
}

-- there is none among the signatures of keys without
no_signatures : (checker : Checker) (keys : List Key) → ((key : Key) (sig : Bytes) → Contains keys key → is_good checker key sig ≡ false) → (sigs : Stack)
    → AreSignatures checker keys sigs → length sigs ≡ 0
no_signatures checker keys bad [] h = refl
no_signatures checker [] bad (sig ∷ sigs) h = absurd h
no_signatures checker (key ∷ keys) bad (sig ∷ sigs) (inl h) = absurd (false≢true (sym (bad key sig (0, omega arith, refl)) ∙ h.0))
no_signatures checker (key ∷ keys) bad (sig ∷ sigs) (inr h) = no_signatures checker keys (λ k g i. bad k g (Contains-append_right (key ∷ []) keys k i)) (sig ∷ sigs) h

multi_needs : (s : Setting) (k : ℕ) (keys : List Key) → 1 ≤ k → NoKeys s keys → Needs malleability_of.key_row.gives (multi_row s k keys)
unfolding malleability_rows
multi_needs s k keys some h = record {
  sat = λ e w r.
      let n = no_signatures s.given.checker (reverse keys) (λ key sig i. own_is_bad s keys h key sig (contains-reverse keys key i)) r.1 r.3.1 in
      let l = r.3.0 in omega arith;
  dsat = λ e. absurd (false≢true e);
}

-- a miniscript of type K has the letter s: it leaves a key whose signature is checked
key_is_s : (t : Tree) → IsTyped t → (type_of t).base ≡ K → (properties_of t).s ≡ true
unfolding correctness_rows malleability_rows
key_is_s (and_or x y z) typed e =
    let p = typed-and_or x y z typed in
    and_from (properties_of z).s ((properties_of x).s || (properties_of y).s) (key_is_s z p.2 (sym p.6 ∙ e))
    (or_right (properties_of x).s (properties_of y).s (key_is_s y p.1 e))
key_is_s (two kind.AndV x y) typed e = or_right (properties_of x).s (properties_of y).s (key_is_s y typed.1 e)
key_is_s (two kind.OrI x z) typed e =
    let p = typed-or_i x z typed in
    and_from (properties_of x).s (properties_of z).s (key_is_s x p.0 e) (key_is_s z p.1 (sym p.2 ∙ e))
key_is_s (wrap wrapper.C x) typed e = refl
key_is_s tree typed e = cc

mutual
  unfolding malleability_rows

  pub needs : (s : Setting) (t : Tree) → IsTyped t → NoKeys s (keys t) → Needs (properties_of t) (row s t)
  needs s just_0 typed h = record { sat = λ e w r. r; dsat = λ e. absurd (false≢true e) }
  needs s (pk_k key) typed h = record {
    sat = λ e. no_signature s key (λ sig. own_is_bad s (key ∷ []) h key sig (0, omega arith, refl));
    dsat = λ e. absurd (false≢true e);
  }
  needs s (pk_h key) typed h = record {
    sat = λ e w r. no_signature s r.0 (λ sig. h key r.0 sig (0, omega arith, refl) r.2 r.3) r.4.0 r.4.2;
    dsat = λ e. absurd (false≢true e);
  }
  needs s (hash kind value) typed h = record { sat = λ e. absurd (false≢true e); dsat = λ e. absurd (false≢true e) }
  needs s (and_or x y z) typed h =
      let h_xy = none_left s (keys x ++ keys y) (keys z) h in
      and_or_needs s (properties_of x) (properties_of y) (properties_of z) (row s x) (row s y) (row s z)
      (needs s x typed.0 (none_left s (keys x) (keys y) h_xy)) (needs s y typed.1 (none_right s (keys x) (keys y) h_xy))
      (needs s z typed.2 (none_right s (keys x ++ keys y) (keys z) h))
  needs s (two which x y) typed h =
      two_needs s which x y (needs s x typed.0 (none_left s (keys x) (keys y) h)) (needs s y typed.1 (none_right s (keys x) (keys y) h))
  needs s (thresh k xs) typed h = thresh_needs s k (all_properties_of xs) (parts s xs) (few_satisfied s xs typed.0 h)
  needs s (multi k own) typed h = multi_needs s k own (typed-multi k own typed).0 h
  needs s (wrap wrapper.C x) typed h =
      let i = needs s x typed.0 h in
      let p = typed-wrap_c x typed in
      record { sat = λ e. i.sat (key_is_s x p.0 p.1); dsat = i.dsat }
  needs s (wrap wrapper.D x) typed h =
      let i = needs s x typed.0 h in record { sat = λ e. below_none (i.sat e); dsat = λ e. absurd (false≢true e) }
  needs s (wrap wrapper.V x) typed h = let i = needs s x typed.0 h in record { sat = i.sat; dsat = λ e w r. r }
  needs s (wrap wrapper.J x) typed h = let i = needs s x typed.0 h in record { sat = i.sat; dsat = λ e. absurd (false≢true e) }
  needs s (wrap letter x) typed h = needs s x typed.0 h
  needs s tree typed h = record { sat = λ e. absurd (false≢true e); dsat = λ e w r. r }

  pub few_satisfied : (s : Setting) (xs : Trees) → AreTyped xs → NoKeys s (keys_of_all xs) → FewSat (all_properties_of xs) (parts s xs)
  few_satisfied s none typed h = λ n w r. (let e = r.0 in omega arith)
  few_satisfied s (more x xs) typed h =
      counted_few (properties_of x) (all_properties_of xs) (row s x) (parts s xs)
      (needs s x typed.0 (none_left s (keys x) (keys_of_all xs) h)) (few_satisfied s xs typed.1 (none_right s (keys x) (keys_of_all xs) h))

-- no table has no good signature
pub bare_is_bad : (key sig : Bytes) → is_good (member []) key sig ≡ false
bare_is_bad key [] = refl
bare_is_bad key (b ∷ sig) = refl

pub no_table : (s : Setting) (keys : List Key) → s.given.checker ≡ member [] → NoKeys s keys
no_table s keys e key other sig h i j = ap (λ checker. is_good checker other sig) e ∙ bare_is_bad other sig
