-- Whether what is least in a setting is enough in an earlier one.
use Rattle.std.specs.Prelude.{◌≡◌, ◌<◌, ⊤, ℕ, ◌&&◌, ◌||◌, not, Bool, true, Option, Some, None}
use Rattle.def_hash.specs.declared.HashKind.{HashKind}
use Rattle.def_script.specs.Bytes.{Bytes}
use Rattle.def_policy.specs.Policy.{Policies, thresh, none, more}
use Rattle.ms_way_laws.specs.Parts.{IsLeast, free}
use Rattle.ms_way_laws.specs.Settled.{Setting, Choice, Choices, node, ended, next, IsWithin, holds, part, parts}

-- both are asked for, or what is known in the first is known in the second
abbrev pub IsKnownLater : Option Bool → Option Bool → Type 0
IsKnownLater None None = ⊤
IsKnownLater None (Some b) = ⊥
IsKnownLater (Some a) None = ⊥
IsKnownLater (Some a) (Some b) = a ≡ true → b ≡ true

-- what holds in the first setting holds in the second
pub record IsEarlier (t s : Setting) : Type 0 where
  pub older : (n : ℕ) → t.older n ≡ true → s.older n ≡ true
  pub after : (n : ℕ) → t.after n ≡ true → s.after n ≡ true
  pub known : (kind : HashKind) (value : Bytes) → IsKnownLater (t.known kind value) (s.known kind value)

-- each part that holds in the second setting holds in the first
abbrev pub all_still : (t s : Setting) → Policies → Choices → Bool
all_still t s none xs = true
all_still t s (more p ps) ended = true
all_still t s (more p ps) (next x xs) = (not (holds s p x) || holds t p x) && all_still t s ps xs

-- a least set of so many parts, not all of which hold with nothing, is enough in an earlier setting exactly where each part
-- still holds there that holds here
abbrev pub MetBelow : Type 0
MetBelow =
    (t s : Setting) (k : ℕ) (ps : Policies) (xs : Choices) → IsEarlier t s → free (parts s ps) < k →
    IsLeast Choice IsWithin (part s (thresh k ps)) (node xs) →
    holds t (thresh k ps) (node xs) ≡ all_still t s ps xs
