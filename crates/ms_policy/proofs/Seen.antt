-- What a policy is seen as, by its root.
use Rattle.std.proofs.Common.{◌≡◌, List, [], ◌∷◌, map, Vec, Global, refl, sym, ◌∙◌, ap}
use Rattle.def_policy.specs.declared.Join.TheVariants as join
use Rattle.def_policy.specs.Policy as model
use Rattle.def_policy.specs.Policy.{list_of, policies_of}
use Rattle.def_policy.specs.Simple.{opened}
use Rattle.ms_policy.specs.declared.policy.Policy.{Policy, Never, Always}
use Rattle.ms_policy.specs.declared.policy.Policy.TheOpen.{Policy-F}
use Rattle.ms_policy.specs.declared.policy.Policy.TheViews.{All, Any, out-Policy, roll-Policy, roll-out-Policy, rolls-All, rolls-Any, rolls-Always, rolls-Never}
use Rattle.ms_policy.specs.declared.policy.Policy.TheFolds.{fold-roll-Policy}
use Rattle.ms_policy.specs.Shape.{root_shape, policy_shape}

list_of-policies_of : (parts : List model.Policy) → list_of (policies_of parts) ≡ parts
list_of-policies_of [] = refl
list_of-policies_of (part ∷ parts) = ap (λ rest. part ∷ rest) (list_of-policies_of parts)

pub seen-all : (policy : Policy) (parts : Vec Policy Global) → policy ≡ All parts → policy_shape policy ≡ model.all (policies_of (map policy_shape parts.items))
seen-all policy parts is = ap policy_shape (is ∙ sym (rolls-All parts)) ∙ fold-roll-Policy model.Policy root_shape (Policy-F.All parts)

pub seen-any : (policy : Policy) (parts : Vec Policy Global) → policy ≡ Any parts → policy_shape policy ≡ model.any (policies_of (map policy_shape parts.items))
seen-any policy parts is = ap policy_shape (is ∙ sym (rolls-Any parts)) ∙ fold-roll-Policy model.Policy root_shape (Policy-F.Any parts)

-- the parts of an All stand in its place in an All, and those of an Any in an Any
pub opened-all : (part : Policy) (parts : Vec Policy Global) → part ≡ All parts → opened join.All (policy_shape part) ≡ map policy_shape parts.items
opened-all part parts is = ap (opened join.All) (seen-all part parts is) ∙ list_of-policies_of (map policy_shape parts.items)

pub opened-any : (part : Policy) (parts : Vec Policy Global) → part ≡ Any parts → opened join.Any (policy_shape part) ≡ map policy_shape parts.items
opened-any part parts is = ap (opened join.Any) (seen-any part parts is) ∙ list_of-policies_of (map policy_shape parts.items)

-- other parts stay
pub stays_in_all : (part : Policy) → (part ≡ Always → ⊥) → ((parts : Vec Policy Global) → part ≡ All parts → ⊥) → opened join.All (policy_shape part) ≡ policy_shape part ∷ []
stays_in_all part not_always not_all = go (out-Policy part) (roll-out-Policy part)
  where
    go : (x : Policy-F Policy) → roll-Policy x ≡ part → opened join.All (policy_shape part) ≡ policy_shape part ∷ []
    go Policy-F.Always e = absurd (not_always (sym e ∙ rolls-Always))
    go (Policy-F.All parts) e = absurd (not_all parts (sym e ∙ rolls-All parts))
    go x e = rw (← e, fold-roll-Policy model.Policy root_shape x) refl

pub stays_in_any : (part : Policy) → (part ≡ Never → ⊥) → ((parts : Vec Policy Global) → part ≡ Any parts → ⊥) → opened join.Any (policy_shape part) ≡ policy_shape part ∷ []
stays_in_any part not_never not_any = go (out-Policy part) (roll-out-Policy part)
  where
    go : (x : Policy-F Policy) → roll-Policy x ≡ part → opened join.Any (policy_shape part) ≡ policy_shape part ∷ []
    go Policy-F.Never e = absurd (not_never (sym e ∙ rolls-Never))
    go (Policy-F.Any parts) e = absurd (not_any parts (sym e ∙ rolls-Any parts))
    go x e = rw (← e, fold-roll-Policy model.Policy root_shape x) refl
