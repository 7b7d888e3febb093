-- The fragments with two or three children of which one is satisfied: where the one that is left has a dissatisfaction,
-- they can be satisfied exactly where a child can.
use Rattle.std.proofs.Common.{Bool, true, false, ◌&&◌, ◌||◌, [], ◌∷◌, inl, inr, refl}
use Rattle.std.proofs.lemmas.Bool.{false≢true}
use Rattle.def_assets.specs.Assets.{Assets}
use Rattle.def_satisfaction.specs.StackSet.{Is, Both}
use Rattle.def_satisfaction.specs.Satisfaction.{canonical}
use Rattle.def_table.specs.Table.{and_or_row, or_b_row, or_d_row, or_i_row}
use Rattle.def_satisfaction.specs.Rows.{EMPTY, ONE, Row, stacks}
use Rattle.def_choice.specs.Tight.{HasOne}
use Rattle.ms_row_laws.proofs.UniqueDissatisfaction.{one_both}
use Rattle.ms_policy_laws.proofs.Says.{Says, says_both, says_either}

-- X and Y, or Z where X is dissatisfied
pub says_and_or : (assets : Assets) (a b c : Bool) (x y z : Row) → Says a x.sat → Says b y.sat → Says c z.sat → HasOne x.dsat →
    Says ((a && (b && true)) || (c || false)) (and_or_row (stacks (canonical assets)) x y z).sat
says_and_or assets a b c x y z p q r d =
    says_either (a && (b && true)) c (Both y.sat x.sat) z.sat (and_or_row (stacks (canonical assets)) x y z).sat
    (says_both a b x.sat y.sat p q) r
    (λ w. (w.0, inl w.1))
    (λ w. let one = one_both z.sat x.dsat w d in (one.0, inr one.1))
    (λ w. elim w.1 [ inl v ↦ inl (w.0, v) | inr v ↦ inr (v.0, v.2) ])

-- one of them, where the other is dissatisfied
pub says_or_b : (assets : Assets) (a b : Bool) (x z : Row) → Says a x.sat → Says b z.sat → HasOne x.dsat → HasOne z.dsat →
    Says (a || (b || false)) (or_b_row (stacks (canonical assets)) x z).sat
says_or_b assets a b x z p q dx dz =
    says_either a b x.sat z.sat (or_b_row (stacks (canonical assets)) x z).sat p q
    (λ w. let one = one_both z.dsat x.sat dz w in (one.0, inl one.1))
    (λ w. let one = one_both z.sat x.dsat w dx in (one.0, inr (inl one.1)))
    (λ w. elim w.1 [
      | inl v ↦ inl (v.1, v.3)
      | inr v ↦ elim v [ inl u ↦ inr (u.0, u.2) | inr u ↦ absurd (false≢true u.0) ]
    ])

-- X, or Z where X is dissatisfied; `or_c` is satisfied as `or_d`
pub says_or_d : (assets : Assets) (a b : Bool) (x z : Row) → Says a x.sat → Says b z.sat → HasOne x.dsat → Says (a || (b || false)) (or_d_row (stacks (canonical assets)) x z).sat
says_or_d assets a b x z p q d =
    says_either a b x.sat z.sat (or_d_row (stacks (canonical assets)) x z).sat p q
    (λ w. (w.0, inl w.1))
    (λ w. let one = one_both z.sat x.dsat w d in (one.0, inr one.1))
    (λ w. elim w.1 [ inl v ↦ inl (w.0, v) | inr v ↦ inr (v.0, v.2) ])

-- one of them, which an item on top chooses
pub says_or_i : (assets : Assets) (a b : Bool) (x z : Row) → Says a x.sat → Says b z.sat → Says (a || (b || false)) (or_i_row (stacks (canonical assets)) x z).sat
says_or_i assets a b x z p q =
    says_either a b x.sat z.sat (or_i_row (stacks (canonical assets)) x z).sat p q
    (λ w. let one = one_both x.sat (Is ONE) w (ONE ∷ [], refl) in (one.0, inl one.1))
    (λ w. let one = one_both z.sat (Is EMPTY) w (EMPTY ∷ [], refl) in (one.0, inr one.1))
    (λ w. elim w.1 [ inl v ↦ inl (v.0, v.2) | inr v ↦ inr (v.0, v.2) ])
