-- What is known of children's malleability properties, and of one child more.
use Rattle.std.proofs.Common.{◌≡◌, ◌≤◌, suc, ◌+◌, Bool, true, false, ◌&&◌, nat_eq, List, [], ◌∷◌, ◌++◌, length, refl, if◌then◌else◌, arith}
use Rattle.std.specs.List.{list_all}
use Rattle.std.proofs.lemmas.List.Folds.{list_all-append}
use Rattle.std.proofs.Math.Bool.{and-true}
use Rattle.def_types.specs.declared.MalleabilityProperties.{MalleabilityProperties}
use Rattle.def_types.specs.Malleable.{count_not_s}
use Rattle.ms_types.specs.Scaffolding.Signed.{signed, and}

-- at most all children have no s
pub few_unsigned : (xs : List MalleabilityProperties) → count_not_s xs ≤ length xs
few_unsigned [] = omega arith
few_unsigned (x ∷ xs) = go x.s (few_unsigned xs)
  where
    go : (s : Bool) → count_not_s xs ≤ length xs → (if s then 0 else 1) + count_not_s xs ≤ suc (length xs)
    go true rest = omega arith
    go false rest = omega arith

-- all have s where none has not
pub all_s : (xs : List MalleabilityProperties) → nat_eq (count_not_s xs) 0 ≡ list_all (λ x. x.s) xs
all_s [] = refl
all_s (x ∷ xs) = go x.s (all_s xs)
  where
    go : (s : Bool) → nat_eq (count_not_s xs) 0 ≡ list_all (λ y. y.s) xs → nat_eq ((if s then 0 else 1) + count_not_s xs) 0 ≡ (s && list_all (λ y. y.s) xs)
    go true rest = grind arith
    go false rest = grind arith

count_snoc : (xs : List MalleabilityProperties) (x : MalleabilityProperties) → count_not_s (xs ++ x ∷ []) ≡ (if x.s then count_not_s xs else count_not_s xs + 1)
count_snoc [] x = go x.s
  where
    go : (s : Bool) → (if s then 0 else 1) + 0 ≡ (if s then 0 else 0 + 1)
    go true = refl
    go false = refl
count_snoc (y ∷ xs) x = rw (count_snoc xs x) (go x.s)
  where
    go : (s : Bool) → (if y.s then 0 else 1) + (if s then count_not_s xs else count_not_s xs + 1) ≡ (if s then (if y.s then 0 else 1) + count_not_s xs else (if y.s then 0 else 1) + count_not_s xs + 1)
    go true = refl
    go false = omega arith

pub signed_snoc : (xs : List MalleabilityProperties) (x : MalleabilityProperties) → signed (xs ++ x ∷ []) ≡ and (signed xs) x
signed_snoc xs x = rw (list_all-append (λ y. y.e) xs (x ∷ [])) (rw (count_snoc xs x) (rw (and-true x.e) refl))
