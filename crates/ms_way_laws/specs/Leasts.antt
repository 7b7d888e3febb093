-- The least sets of a policy in a setting, listed: those of a threshold are made of those of its parts.
use Rattle.std.specs.Prelude.{◌↔◌, ℕ, ◌-◌, Bool, true, false, List, [], ◌∷◌, map, Option, Some, None, if◌then◌else◌}
use Rattle.def_policy.specs.Policy.{Policy, Policies, never, always, key, older, after, hash, all, any, thresh, none, more}
use Rattle.def_policy.specs.Laws.{count}
use Rattle.ms_way_laws.specs.Parts.{Part, IsLeast, free}
use Rattle.ms_way_laws.specs.Listed.{Counted, listed, In, AreOnce}
use Rattle.ms_way_laws.specs.Settled.{Setting, Choice, Choices, leaf, node, ended, next, IsWithin, part, parts}

abbrev pub choices_of : List Choice → Choices
choices_of [] = ended
choices_of (x ∷ xs) = next x (choices_of xs)

-- of a leaf that is settled, nothing where it holds; of one that is asked for, itself
abbrev pub of_settled : Bool → List Choice
of_settled held = if held then leaf false ∷ [] else []

abbrev pub of_hash : Option Bool → List Choice
of_hash None = leaf true ∷ []
of_hash (Some known) = of_settled known

-- of so many parts
abbrev pub of_parts : (k : ℕ) → List (Part Choice) → List (Counted Choice) → List Choice
of_parts k xs each = map (λ ss. node (choices_of ss)) (listed (k - free xs) each)

abbrev mutual
  pub leasts : Setting → Policy → List Choice
  leasts s never = []
  leasts s always = leaf false ∷ []
  leasts s (key k) = leaf true ∷ []
  leasts s (older n) = of_settled (s.older n)
  leasts s (after n) = of_settled (s.after n)
  leasts s (hash kind value) = of_hash (s.known kind value)
  leasts s (all ps) = of_parts (count ps) (parts s ps) (each s ps)
  leasts s (any ps) = of_parts 1 (parts s ps) (each s ps)
  leasts s (thresh k ps) = of_parts k (parts s ps) (each s ps)

  pub each : Setting → Policies → List (Counted Choice)
  each s none = []
  each s (more p ps) = record { part = part s p; leasts = leasts s p } ∷ each s ps

-- these are the least sets, each once
abbrev pub LeastsAreLeast : Type 0
LeastsAreLeast =
    (s : Setting) (policy : Policy) →
    ((x : Choice) → In x (leasts s policy) ↔ IsLeast Choice IsWithin (part s policy) x) × AreOnce (leasts s policy)
