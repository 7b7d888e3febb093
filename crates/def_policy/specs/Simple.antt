-- A policy made simple, from the inside out: nothing below the root is always or never true, and no part is joined as
-- the policy that it is a part of.
use Rattle.std.specs.Prelude.{ℕ, ◌-◌, ◌==◌, nat_lt, Bool, true, false, not, ◌||◌, List, [], ◌∷◌, length, filter, flat_map, if◌then◌else◌}
use Rattle.std.specs.List.{list_any}
use Rattle.def_policy.specs.declared.Join.{Join}
use Rattle.def_policy.specs.declared.Join.TheVariants as join
use Rattle.def_policy.specs.Policy.{Policy, Policies, never, always, key, older, after, hash, all, any, thresh, none, more, list_of, policies_of, joining}

-- the part that says nothing among parts that are joined: Always in All, Never in Any
abbrev pub neutral : Join → Policy
neutral join.All = always
neutral join.Any = never

-- the part that decides alone: Never in All, Always in Any
abbrev pub decisive : Join → Policy
decisive join.All = never
decisive join.Any = always

abbrev pub is_decisive : Join → Policy → Bool
is_decisive join.All never = true
is_decisive join.Any always = true
is_decisive how part = false

-- what stands in a part's place: nothing for one that says nothing, and its parts for one that is joined in the same way
abbrev pub opened : Join → Policy → List Policy
opened join.All always = []
opened join.Any never = []
opened join.All (all parts) = list_of parts
opened join.Any (any parts) = list_of parts
opened how part = part ∷ []

-- no part is the neutral one, one part is itself, and several are joined
abbrev pub gathered : Join → List Policy → Policy
gathered how [] = neutral how
gathered how (part ∷ []) = part
gathered how (part ∷ next ∷ parts) = joining how (policies_of (part ∷ next ∷ parts))

-- simple parts, joined
abbrev pub joined : Join → List Policy → Policy
joined how parts =
    if list_any (is_decisive how) parts then decisive how
    else gathered how (flat_map (opened how) parts)

abbrev pub is_always : Policy → Bool
is_always always = true
is_always part = false

abbrev pub is_never : Policy → Bool
is_never never = true
is_never part = false

-- so many of the parts, of which none is Always or Never
abbrev pub chosen : (k : ℕ) → List Policy → Policy
chosen k parts =
    if k == 0 then always
    else if nat_lt (length parts) k then never
    else if k == 1 then joined join.Any parts
    else if k == length parts then joined join.All parts
    else thresh k (policies_of parts)

-- k of simple parts: each Always lowers the number by one, to 0 at least
abbrev pub threshold : (k : ℕ) → List Policy → Policy
threshold k parts =
    chosen (k - length (filter is_always parts)) (filter (λ part. not (is_always part || is_never part)) parts)

abbrev mutual
  pub simple : Policy → Policy
  simple never = never
  simple always = always
  simple (key k) = key k
  simple (older n) = older n
  simple (after n) = after n
  simple (hash kind value) = hash kind value
  simple (all parts) = joined join.All (simple_each parts)
  simple (any parts) = joined join.Any (simple_each parts)
  simple (thresh k parts) = threshold k (simple_each parts)

  pub simple_each : Policies → List Policy
  simple_each none = []
  simple_each (more x xs) = simple x ∷ simple_each xs
