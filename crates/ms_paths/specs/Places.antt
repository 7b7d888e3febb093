-- The tokens of a text from a place on, and what is read of them.
use Rattle.std.specs.Prelude.{◌≡◌, ◌≢◌, ◌≤◌, ℕ, ◌+◌, List, [], ◌∷◌, length, drop, Result, Ok, Err, MatchResult}
use Rattle.def_script.specs.Bytes.{Bytes}
use Rattle.def_text.specs.Refusal.{MOST_BYTES}
use Rattle.def_descriptor.specs.declared.DescriptorFault.{DescriptorFault}
use Rattle.def_descriptor.specs.declared.DescriptorFault.TheVariants as fault
use Rattle.def_descriptor.specs.Token.{Token, tokens_from, Read}

-- a place of a text, which isn't too long
pub record IsPlace (text : Bytes) (at : ℕ) : Type 0 where
  pub short : length text ≤ MOST_BYTES
  pub within : at ≤ length text

-- the tokens at a place
unfoldable pub tokens_at : (text : Bytes) → (at : ℕ) → List Token
tokens_at text at = tokens_from at (drop at text)

-- those behind the token of some bytes there: behind the end are none
abbrev pub behind : (text : Bytes) → (at : ℕ) → (bytes : Bytes) → List Token
behind text at [] = []
behind text at (b ∷ bytes) = tokens_at text (at + length (b ∷ bytes))

-- a fault is the answer, but for want of memory
abbrev pub Refuses : {A : Type 0} → Result A DescriptorFault → DescriptorFault → Type 0
Refuses r why = why ≢ fault.Memory → r ≡ Err why

-- a result is the answer
abbrev pub Says : {A B : Type 0} → Result A DescriptorFault → (B → A) → Result B DescriptorFault → Type 0
Says r f result = MatchResult result (λ x. r ≡ Ok (f x)) (Refuses r)

-- what was read at a place, with the place behind it, is the answer
abbrev pub Reads : {A B : Type 0} → (text : Bytes) → (at : ℕ) → Read A → (B → A) → Result (B × ℕ) DescriptorFault → Type 0
Reads text at r f result = MatchResult result (λ x. (r ≡ Ok (f x.0, tokens_at text x.1)) × IsPlace text x.1 × at ≤ x.1) (Refuses r)
