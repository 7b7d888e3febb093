-- The order of ways: numbers one by one, the first difference deciding.
use Rattle.std.specs.Prelude.{ℕ, ◌+◌, ◌*◌, ◌==◌, ◌&&◌, ◌||◌, nat_lt, Bool, true, false, List, [], ◌∷◌, ◌++◌, length, map, filter, Option, Some, None, if◌then◌else◌}
use Rattle.def_tree.specs.Tree.{Tree}
use Rattle.def_ways.specs.declared.Delay.{Delay}
use Rattle.def_ways.specs.declared.Delay.TheVariants.{Blocks, Units}
use Rattle.def_ways.specs.Secret.{Secret, key, preimage, same, secrets}
use Rattle.def_ways.specs.Offer.{Offer, locktime_of}

-- no lock, or one more than its seconds, with 600 for a block and 512 for a unit; of equal ones blocks stand first
abbrev pub delay_numbers : Option Delay → List ℕ
delay_numbers None = 0 ∷ 0 ∷ []
delay_numbers (Some (Blocks n)) = (600 * n + 1) ∷ 0 ∷ []
delay_numbers (Some (Units n)) = (512 * n + 1) ∷ 1 ∷ []

-- how many of a list stand before a secret
abbrev pub place : Secret → List Secret → ℕ
place secret [] = 0
place secret (other ∷ rest) = if same secret other then 0 else place secret rest + 1

abbrev pub is_key : Secret → Bool
is_key (key k) = true
is_key (preimage kind value) = false

-- the relative lock, the absolute one (heights are below times), how many keys, and the places of keys and hash values
abbrev pub numbers : Tree → Offer → List ℕ
numbers tree offer =
    delay_numbers offer.delay
    ++ (locktime_of offer.moment ∷ length (filter is_key offer.secrets) ∷ map (λ secret. place secret (secrets tree)) offer.secrets)

abbrev pub is_less : List ℕ → List ℕ → Bool
is_less [] [] = false
is_less [] (y ∷ ys) = true
is_less (x ∷ xs) [] = false
is_less (x ∷ xs) (y ∷ ys) = nat_lt x y || (x == y && is_less xs ys)

-- an offer comes before another one
abbrev pub is_before : Tree → Offer → Offer → Bool
is_before tree offer other = is_less (numbers tree offer) (numbers tree other)
