-- The weight of a lightest stack is the least one.
use Rattle.std.proofs.Common.{◌≡◌, ◌↔◌, ℕ, List, Option, Some, None, refl, sym, ap, subst, arith}
use Rattle.std.specs.Option.{option_map}
use Rattle.def_script.specs.Bytes.{Bytes}
use Rattle.def_script.specs.Witness.{weight}
use Rattle.def_choice.specs.Lightest.{IsLightest}
use Rattle.ms_sat.specs.Least.{IsLeastWeight}

of_lightest : (P : List Bytes → Type 0) (m : Option (List Bytes)) → IsLightest P m → IsLeastWeight P (option_map weight m)
of_lightest P None best = record {
  attained = λ n e. absurd (let never : ⊥ = cc in never);
  least = λ v h. let k = best.lightest v h in absurd (let e = k.1 in let never : ⊥ = cc in never);
  none = (λ e v h. let k = best.lightest v h in let i = k.1 in cc, λ h. refl);
}
of_lightest P (Some w) best = record {
  attained = λ n e. (w, best.is w refl, cc);
  least = λ v h.
      let k = best.lightest v h in
      let i = k.1 in
      let same : w ≡ k.0 = cc in
      let weighs : weight w ≡ weight k.0 = ap weight same in
      (weight w, refl, omega (arith, k.2, weighs));
  none = (λ e. absurd (let never : ⊥ = cc in never), λ h. absurd (h w (best.is w refl)));
}

pub least_weight : (P : List Bytes → Type 0) (m : Option (List Bytes)) (o : Option ℕ) → o ≡ option_map weight m → IsLightest P m → IsLeastWeight P o
least_weight P m o is best = subst (IsLeastWeight P) (sym is) (of_lightest P m best)

-- and there is none exactly where there is no stack
pub none_lightest : (P : List Bytes → Type 0) (m : Option (List Bytes)) → IsLightest P m → (m ≡ None) ↔ ((stack : List Bytes) → P stack → ⊥)
none_lightest P None best = (λ e v h. let k = best.lightest v h in let i = k.1 in cc, λ h. refl)
none_lightest P (Some w) best = (λ e. absurd (let never : ⊥ = cc in never), λ h. absurd (h w (best.is w refl)))
