-- A policy whose miniscript has the letter s is false where no key signs.
use Rattle.std.proofs.Common.{◌≡◌, ℕ, ◌+◌, ◌<◌, ◌≤◌, nat_le, Bool, true, false, ◌&&◌, ◌||◌, List, [], ◌∷◌, length, map, refl, sym, ◌∙◌, ap, subst, inl, inr, arith, if◌then◌else◌}
use Rattle.std.specs.Bool.{⊤}
use Rattle.std.proofs.Math.Bool.{and-false}
use Rattle.std.proofs.lemmas.Bool.{cases_Bool, ltb-true, false≢true, and_parts}
use Rattle.std.proofs.lemmas.Bool.Decides.{nat_tests}
use Rattle.def_tree.specs.declared.Two.TheVariants as kind
use Rattle.def_tree.specs.declared.Wrapper.TheVariants as wrapper
use Rattle.def_tree.specs.Tree.{Tree, Trees, Key, just_0, pk_k, pk_h, and_or, two, thresh, multi, wrap, none, more}
use Rattle.def_types.specs.declared.Base.{Base}
use Rattle.def_types.specs.declared.Base.TheVariants.{K}
use Rattle.def_types.specs.Malleable.{count_not_s}
use Rattle.def_types.specs.Typed.{type_of, IsTyped, AreTyped, properties_of, all_properties_of}
use Rattle.def_types.proofs.Rows.{correctness_rows, malleability_rows}
use Rattle.def_types.proofs.Facts.{typed-and_or, typed-or_i, typed-multi, typed-wrap_c}
use Rattle.def_sane.proofs.Meanings.{valid_means, sane_means}
use Rattle.def_policy.specs.Policy as policy
use Rattle.def_policy.specs.Policy.{policies_of}
use Rattle.def_policy.specs.Plain.{plain, plain_each}
use Rattle.def_policy.specs.Simple.{simple}
use Rattle.def_policy.specs.Truth.{Facts, how_many, is_true, truths, with_keys}
use Rattle.def_policy.specs.Keys.{KeysSuffice}
use Rattle.def_policy.specs.Laws.{SaneWantsKey}
use Rattle.def_policy.proofs.Truths.{simple_keeps_truth}

all_second : (a b : Bool) → b ≡ false → (a && (b && true)) ≡ false
all_second a b e = rw e (and-false a)

any_neither : (a b : Bool) → a ≡ false → b ≡ false → (a || (b || false)) ≡ false
any_neither a b e f = rw (e, f)

one_of_both : (a b s t : Bool) → (s ≡ true → a ≡ false) → (t ≡ true → b ≡ false) → (s || t) ≡ true → (a && (b && true)) ≡ false
one_of_both a b s t f g h = grind arith

each_of_both : (a b s t : Bool) → (s ≡ true → a ≡ false) → (t ≡ true → b ≡ false) → (s && t) ≡ true → (a || (b || false)) ≡ false
each_of_both a b s t f g h = grind arith

abbrev IsK : Base → Type 0
IsK K = ⊤
IsK base = ⊥

module _ (facts : Facts) (unsigned : (key : Key) → facts.signs key ≡ false) where
  abbrev Is : Tree → Bool
  Is t = is_true facts (plain t)

  -- of type K: it leaves a key whose signature is checked
  key_unsigned : (t : Tree) → IsTyped t → (type_of t).base ≡ K → Is t ≡ false
  unfolding correctness_rows
  key_unsigned just_0 typed e = refl
  key_unsigned (pk_k key) typed e = unsigned key
  key_unsigned (pk_h key) typed e = unsigned key
  key_unsigned (and_or x y z) typed e =
      let p = typed-and_or x y z typed in
      any_neither _ (Is z) (all_second (Is x) (Is y) (key_unsigned y p.1 e)) (key_unsigned z p.2 (sym p.6 ∙ e))
  key_unsigned (two kind.AndV x y) typed e = all_second (Is x) (Is y) (key_unsigned y typed.1 e)
  key_unsigned (two kind.OrI x y) typed e =
      let p = typed-or_i x y typed in
      any_neither (Is x) (Is y) (key_unsigned x p.0 e) (key_unsigned y p.1 (sym p.2 ∙ e))
  key_unsigned (wrap wrapper.A x) typed e = absurd (subst IsK (sym e) tt)
  key_unsigned t typed e = absurd (subst IsK (sym e) tt)

  -- no key of a `multi` signs
  none_signs : (keys : List Key) → how_many (truths facts (policies_of (map policy.key keys))) ≡ 0
  none_signs [] = refl
  none_signs (key ∷ keys) = let e = unsigned key in let rest = none_signs keys in rw e (omega (arith, rest))

  too_few : (k n : ℕ) → n < k → nat_le k n ≡ false
  too_few k n h = grind (arith, nat_tests)

  one_more : (b : Bool) (m n : ℕ) → m ≤ n → (if b then 1 else 0) + m ≤ 1 + n
  one_more b m n h = grind arith

  mutual
    unfolding malleability_rows

    pub needs_key : (t : Tree) → IsTyped t → (properties_of t).s ≡ true → Is t ≡ false
    needs_key just_0 typed s = refl
    needs_key (pk_k key) typed s = unsigned key
    needs_key (pk_h key) typed s = unsigned key
    needs_key (and_or x y z) typed s =
        let e = and_parts (properties_of z).s ((properties_of x).s || (properties_of y).s) s in
        any_neither _ (Is z) (one_of_both (Is x) (Is y) _ _ (needs_key x typed.0) (needs_key y typed.1) e.1)
        (needs_key z typed.2 e.0)
    needs_key (two kind.AndV x y) typed s = one_of_both (Is x) (Is y) _ _ (needs_key x typed.0) (needs_key y typed.1) s
    needs_key (two kind.AndB x y) typed s = one_of_both (Is x) (Is y) _ _ (needs_key x typed.0) (needs_key y typed.1) s
    needs_key (two k x y) typed s = each_of_both (Is x) (Is y) _ _ (needs_key x typed.0) (needs_key y typed.1) s
    needs_key (thresh k xs) typed s =
        let l = ltb-true (count_not_s (all_properties_of xs)) k s in
        let f = few_true xs typed.0 in
        too_few k _ (omega (arith, l, f))
    needs_key (multi k keys) typed s =
        let some = (typed-multi k keys typed).0 in
        let e = none_signs keys in
        too_few k _ (omega (arith, some, e))
    needs_key (wrap wrapper.C x) typed s = let p = typed-wrap_c x typed in key_unsigned x p.0 p.1
    needs_key (wrap kind x) typed s = needs_key x typed.0 s
    needs_key leaf typed s = absurd (false≢true s)

    -- no more children are true than there are without s
    few_true : (xs : Trees) → AreTyped xs → how_many (truths facts (plain_each xs)) ≤ count_not_s (all_properties_of xs)
    few_true none typed = omega arith
    few_true (more x xs) typed =
        let rest = few_true xs typed.1 in
        elim (cases_Bool (properties_of x).s) [
          | inl s ↦ (let e = needs_key x typed.0 s in rw (s, e) (omega (arith, rest)))
          | inr s ↦ rw s (one_more (Is x) _ _ rest)
        ]

pub sane_wants_key : SaneWantsKey
sane_wants_key tree writable sane n least = go least.signers refl
  where
    none_suffices : KeysSuffice (simple (plain tree)) [] → ⊥
    none_suffices e =
        let m = (sane_means tree).0 sane in
        let v = (valid_means tree).0 m.0 in
        let no = needs_key (with_keys []) (λ key. refl) tree v.0 m.2 in
        false≢true (sym no ∙ sym (simple_keeps_truth (with_keys []) (plain tree)) ∙ e)

    go : (signers : List Key) → least.signers ≡ signers → 1 ≤ n
    go [] e = absurd (none_suffices (subst (KeysSuffice (simple (plain tree))) e least.suffices))
    go (key ∷ signers) e = let s = least.size in let l = ap length e in omega (arith, s, l)
