-- Of a descriptor one list of outputs is known.
use Rattle.std.proofs.Common.{◌≡◌, ℕ, ◌*◌, List, ap, subst, refl, Option, Result, Ok}
use Rattle.std.specs.Coded.{Coded, Coded-set, code_by, coded_ℕ, coded_list, coded×, coded_option}
use Rattle.std.proofs.Math.Logic.{∥∥₁_elim, ∥∥₁_prop}
use Rattle.def_script.specs.Bytes.{Bytes}
use Rattle.def_tree.specs.Tree.{Key}
use Rattle.def_descriptor.specs.Expression.{Origin}
use Rattle.def_descriptor.specs.Gives.{branch_count}
use Rattle.def_descriptor.specs.Answer.{Descriptor}
use Rattle.def_update.specs.Known.{Known}
use Rattle.def_descriptor_answer.specs.Update.{KnowsFrom}
use Rattle.def_descriptor_answer.proofs.OneAnswer.{one_known}

bytes_code : Coded Bytes
bytes_code = coded_list coded_ℕ

origin_code : Coded Origin
origin_code = code_by (Bytes × List ℕ) (coded× bytes_code bytes_code) (λ o. (o.print, o.steps)) (λ p. record { print = p.0; steps = p.1 }) (λ _. refl)

known_code : Coded Known
known_code =
    code_by (Bytes × (Option Bytes × (Option Bytes × List (Key × Origin))))
    (coded× bytes_code (coded× (coded_option bytes_code) (coded× (coded_option bytes_code) (coded_list (coded× bytes_code origin_code)))))
    (λ k. (k.output, (k.redeem, (k.witness, k.keys)))) (λ p. record { output = p.0; redeem = p.1.0; witness = p.1.1.0; keys = p.1.1.1 }) (λ _. refl)

pub known_set : (known other : List Known) → IsProp (known ≡ other)
known_set known other = Coded-set (coded_list known_code) known other

module _ (d : Descriptor) (count : ℕ) where
  abbrev pub Knows_all : List Known → Type 0
  Knows_all known = KnowsFrom d count (branch_count d.body * count) 0 (Ok known)

  abbrev pub One : Type 0
  One = (known : List Known) × ∥ Knows_all known ∥₁

  abbrev all : List Known → Result (List Known) Bytes
  all known = Ok known

  ok_same : (known other : List Known) → all known ≡ all other → known ≡ other
  ok_same known other e = cc

  pub one_of : (known other : List Known) → Knows_all known → Knows_all other → known ≡ other
  one_of known other h k = ok_same known other (one_known d count (branch_count d.body * count) 0 (Ok known) (Ok other) h k)

  same : (known other : List Known) → ∥ Knows_all known ∥₁ → ∥ Knows_all other ∥₁ → known ≡ other
  same known other p q = ∥∥₁_elim p (known_set known other) (λ h. ∥∥₁_elim q (known_set known other) (λ k. one_of known other h k))

  abbrev with_fact : (known : List Known) → ∥ Knows_all known ∥₁ → One
  with_fact known p = (known, p)

  pub one_list : IsProp One
  one_list (known, p) (other, q) =
      subst (λ (z : List Known). (t : ∥ Knows_all z ∥₁) → with_fact known p ≡ with_fact z t) (same known other p q) (λ t. ap (with_fact known) (∥∥₁_prop p t)) q
