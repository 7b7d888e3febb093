-- How many keys have to sign a policy, by trying each set of its keys.
use Rattle.std.specs.Prelude.{ℕ, min, Bool, not, List, [], ◌∷◌, ◌++◌, length, map, filter, Option, Some, None, if◌then◌else◌}
use Rattle.std.specs.List.{list_any}
use Rattle.std.specs.Str.{bytes_eq}
use Rattle.def_tree.specs.Tree.{Key}
use Rattle.def_policy.specs.Policy.{Policy}
use Rattle.def_policy.specs.Truth.{is_true, with_keys}
use Rattle.def_policy.specs.Keys.{keys}

-- every set of some keys, as a list in which no key stands twice: those without the first key, and those with it
abbrev pub key_sets : List Key → List (List Key)
key_sets [] = [] ∷ []
key_sets (k ∷ ks) = key_sets ks ++ map (λ s. k ∷ s) (filter (λ s. not (list_any (bytes_eq k) s)) (key_sets ks))

abbrev pub least_with : ℕ → Option ℕ → Option ℕ
least_with n None = Some n
least_with n (Some m) = Some (min n m)

-- the size of the smallest set that passes a test
abbrev pub smallest : (passes : List Key → Bool) → List (List Key) → Option ℕ
smallest passes [] = None
smallest passes (s ∷ ss) = if passes s then least_with (length s) (smallest passes ss) else smallest passes ss

-- the least number of keys with which the policy is true where every hash and lock is met, or none where no keys do
unfoldable pub least_keys : Policy → Option ℕ
least_keys policy = smallest (λ s. is_true (with_keys s) policy) (key_sets (keys policy))
