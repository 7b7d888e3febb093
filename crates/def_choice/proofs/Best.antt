-- How right choices are joined.
use Rattle.std.proofs.Common.{◌≡◌, ◌≤◌, nat_lt, [], ◌∷◌, ◌++◌, reverse, Option, Some, None, refl, sym, ◌∙◌, ap, subst, inl, inr, arith}
use Rattle.std.specs.Option.{option_map}
use Rattle.std.proofs.lemmas.Bool.{cases_Bool, ltb-true, ltb-false}
use Rattle.std.proofs.lemmas.List.{reverse-reverse}
use Rattle.std.proofs.lemmas.Option.{none-some, same_Some}
use Rattle.def_machine.specs.Stacks.{Stack}
use Rattle.def_script.specs.Witness.{weight}
use Rattle.def_satisfaction.specs.StackSet.{StackSet, Both, Either}
use Rattle.def_choice.specs.Least.{both, lighter, least}
use Rattle.def_choice.specs.Lightest.{IsLightest}
use Rattle.def_choice.proofs.Weights.{weight-append, weight-reverse}

-- from a set with no stack
pub none_best : (P : StackSet) → ((w : Stack) → P w → ⊥) → IsLightest P None
none_best P never = record { is = λ w h. absurd (none-some w h); lightest = λ w h. absurd (never w h) }

-- from a set with one stack
pub one_best : (P : StackSet) (w : Stack) → P w → ((v : Stack) → P v → v ≡ w) → IsLightest P (Some w)
one_best P w p only = record {
  is = λ v h. subst P (same_Some w v h) p;
  lightest = λ v h. (w, refl, let e : weight v ≡ weight w = ap weight (only v h) in omega (arith, e));
}

-- from the same set
pub best_as : (P Q : StackSet) (m : Option Stack) → ((w : Stack) → P w → Q w) → ((w : Stack) → Q w → P w) → IsLightest P m → IsLightest Q m
best_as P Q m to from best = record {
  is = λ w h. to w (best.is w h);
  lightest = λ w h. best.lightest w (from w h);
}

-- what is chosen weighs no more than any
least_of : (P : StackSet) (v : Stack) → IsLightest P (Some v) → (w : Stack) → P w → weight v ≤ weight w
least_of P v best w h =
    let k = best.lightest w h in
    let e : weight k.0 ≡ weight v = ap weight (same_Some k.0 v (sym k.1)) in
    omega (arith, e, k.2)

-- one on top of the other
pub best_both : (P Q : StackSet) (a b : Option Stack) → IsLightest P a → IsLightest Q b → IsLightest (Both P Q) (both a b)
best_both P Q None b p q = record {
  is = λ w h. absurd (none-some w h);
  lightest = λ w h. let k = p.lightest h.0 h.2 in absurd (none-some k.0 k.1);
}
best_both P Q (Some a) None p q = record {
  is = λ w h. absurd (none-some w h);
  lightest = λ w h. let k = q.lightest h.1 h.3 in absurd (none-some k.0 k.1);
}
best_both P Q (Some a) (Some b) p q = record {
  is = λ w h. (a, b, p.is a refl, q.is b refl, sym (same_Some (b ++ a) w h));
  lightest = λ w h.
      let g : weight w ≡ weight (h.1 ++ h.0) = ap weight h.4 in
      (b ++ a, refl, omega (arith, g, least_of P a p h.0 h.2, least_of Q b q h.1 h.3, weight-append b a, weight-append h.1 h.0));
}

pub best_lighter : (P Q : StackSet) (a b : Option Stack) → IsLightest P a → IsLightest Q b → IsLightest (Either P Q) (lighter a b)
best_lighter P Q None b p q = record {
  is = λ w h. inr (q.is w h);
  lightest = λ w h. elim h [ inl i ↦ (let k = p.lightest w i in absurd (none-some k.0 k.1)) | inr i ↦ q.lightest w i ];
}
best_lighter P Q (Some v) None p q = record {
  is = λ w h. inl (p.is w h);
  lightest = λ w h. elim h [ inl i ↦ p.lightest w i | inr i ↦ (let k = q.lightest w i in absurd (none-some k.0 k.1)) ];
}
best_lighter P Q (Some v) (Some w) p q = elim (cases_Bool (nat_lt (weight w) (weight v))) [
  | inl less ↦ rw less (record {
    is = λ z h. inr (q.is z h);
    lightest = λ z h. (w, refl, elim h [ inl i ↦ omega (arith, least_of P v p z i, ltb-true (weight w) (weight v) less) | inr i ↦ least_of Q w q z i ]);
  })
  | inr more ↦ rw more (record {
    is = λ z h. inl (p.is z h);
    lightest = λ z h. (v, refl, elim h [ inl i ↦ least_of P v p z i | inr i ↦ omega (arith, least_of Q w q z i, ltb-false (weight w) (weight v) more) ]);
  })
]

pub lighter-none : (a : Option Stack) → lighter a None ≡ a
lighter-none None = refl
lighter-none (Some v) = refl

-- the first of two options of least weight
pub best_two : (P Q : StackSet) (a b : Option Stack) → IsLightest P a → IsLightest Q b → IsLightest (Either P Q) (least (a ∷ b ∷ []))
best_two P Q a b p q =
    let q' : IsLightest Q (lighter b None) = subst (λ m. IsLightest Q m) (sym (lighter-none b)) q in
    best_lighter P Q a (lighter b None) p q'

-- turned round
pub turned : (m : Option Stack) (w : Stack) → option_map reverse m ≡ Some w → (v : Stack) × (m ≡ Some v) × (v ≡ reverse w)
turned None w h = absurd (none-some w h)
turned (Some v) w h =
    let e : reverse v ≡ w = same_Some (reverse v) w h in
    (v, refl, sym (reverse-reverse v) ∙ ap reverse e)

pub best_reverse : (P : StackSet) (m : Option Stack) → IsLightest P m → IsLightest (λ w. P (reverse w)) (option_map reverse m)
best_reverse P m best = record {
  is = λ w h. let t = turned m w h in subst P t.2 (best.is t.0 t.1);
  lightest = λ w h.
      let k = best.lightest (reverse w) h in
      (reverse k.0, ap (λ o. option_map reverse o) k.1, omega (arith, k.2, weight-reverse k.0, weight-reverse w));
}
