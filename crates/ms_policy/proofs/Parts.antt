-- Lists of parts, one part more.
use Rattle.std.proofs.Common.{◌≡◌, Bool, not, ◌||◌, List, [], ◌∷◌, ◌++◌, map, filter, flat_map, refl, ◌∙◌, ap}
use Rattle.std.proofs.lemmas.List.{map-append, append-nil}
use Rattle.std.proofs.lemmas.List.Elements.{filter-append}
use Rattle.std.proofs.lemmas.Grind.{flat_map-append}
use Rattle.def_tree.specs.Tree.{Key}
use Rattle.def_policy.specs.declared.Join.{Join}
use Rattle.def_policy.specs.Policy as model
use Rattle.def_policy.specs.Policy.{policies_of}
use Rattle.def_policy.specs.Simple.{opened, is_always, is_never, simple_each}
use Rattle.ms_policy.specs.declared.policy.Policy.{Policy}
use Rattle.ms_policy.specs.Shape.{policy_shape}

pub opened_more : (how : Join) (parts : List Policy) (part : Policy) →
    flat_map (opened how) (map policy_shape (parts ++ part ∷ [])) ≡ flat_map (opened how) (map policy_shape parts) ++ opened how (policy_shape part)
opened_more how parts part =
    ap (flat_map (opened how)) (map-append policy_shape parts (part ∷ [])) ∙
    flat_map-append (opened how) (map policy_shape parts) (policy_shape part ∷ []) ∙
    ap (λ more. flat_map (opened how) (map policy_shape parts) ++ more) (append-nil (opened how (policy_shape part)))

abbrev pub is_kept : model.Policy → Bool
is_kept part = not (is_always part || is_never part)

pub kept_more : (parts : List Policy) (part : Policy) →
    filter (λ part. not (is_always part || is_never part)) (map policy_shape (parts ++ part ∷ [])) ≡
    filter (λ part. not (is_always part || is_never part)) (map policy_shape parts) ++ filter (λ part. not (is_always part || is_never part)) (policy_shape part ∷ [])
kept_more parts part =
    ap (filter is_kept) (map-append policy_shape parts (part ∷ [])) ∙
    filter-append is_kept (map policy_shape parts) (policy_shape part ∷ [])

-- keys are simple
pub simple_keys : (keys : List Key) → simple_each (policies_of (map model.key keys)) ≡ map model.key keys
simple_keys [] = refl
simple_keys (key ∷ keys) = ap (λ parts. model.key key ∷ parts) (simple_keys keys)
