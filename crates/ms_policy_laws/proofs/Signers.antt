-- How many of some keys assets sign with, and that there are so many signatures in order.
use Rattle.std.proofs.Common.{◌≡◌, ℕ, zero, suc, ◌+◌, ◌≤◌, Bool, List, [], ◌∷◌, ◌++◌, length, map, reverse, Option, Some, None, refl, ap, inl, inr, arith}
use Rattle.std.specs.Option.{is_some}
use Rattle.std.proofs.lemmas.List.{map-append, reverse-append}
use Rattle.def_script.specs.Bytes.{Bytes}
use Rattle.def_machine.specs.Stacks.{Stack, member}
use Rattle.def_tree.specs.Tree.{Key}
use Rattle.def_assets.specs.Assets.{Assets, AreAssets, sig_of}
use Rattle.def_satisfaction.specs.Rows.{AreSignatures}
use Rattle.def_satisfaction.proofs.Held.{held_is_good, good_is_held}
use Rattle.def_policy.specs.Truth.{how_many}

-- how many are true in two lists
pub how_many-append : (a b : List Bool) → how_many (a ++ b) ≡ how_many a + how_many b
how_many-append [] b = omega arith
how_many-append (x ∷ a) b = omega (arith, how_many-append a b)

module _ (assets : Assets) where
  -- whether there is a signature of a key
  abbrev pub signs : Key → Bool
  signs key = is_some (sig_of assets key)

  -- of how many keys there is one
  abbrev pub signers : List Key → ℕ
  signers keys = how_many (map signs keys)

  -- in whichever order they stand
  pub signers-reverse : (keys : List Key) → signers (reverse keys) ≡ signers keys
  signers-reverse [] = refl
  signers-reverse (key ∷ keys) =
      rw (reverse-append (key ∷ []) keys, map-append signs (reverse keys) (key ∷ []))
      (omega (arith, how_many-append (map signs (reverse keys)) (signs key ∷ []), signers-reverse keys))

  -- so many signatures of keys, in their order
  pub record SomeSigs (keys : List Key) (n : ℕ) : Type 0 where
    pub sigs : Stack
    pub count : length sigs ≡ n
    pub good : AreSignatures (member assets.pairs) keys sigs

  -- a key that is passed over
  passed_over : (key : Key) (keys : List Key) (n : ℕ) → SomeSigs keys n → SomeSigs (key ∷ keys) n
  passed_over key keys n some = go some.sigs some.count some.good
    where
      go : (sigs : Stack) → length sigs ≡ n → AreSignatures (member assets.pairs) keys sigs → SomeSigs (key ∷ keys) n
      go [] e good = record { sigs = []; count = e; good = tt }
      go (sig ∷ sigs) e good = record { sigs = sig ∷ sigs; count = e; good = inr good }

  module _ (are : AreAssets assets) where
    -- one more signature, by the first key or without it
    first_or_not : (key : Key) (keys : List Key) (n : ℕ) (held : Option Bytes) → sig_of assets key ≡ held →
        (n ≤ signers keys → SomeSigs keys n) → (suc n ≤ signers keys → SomeSigs keys (suc n)) →
        suc n ≤ signers (key ∷ keys) → SomeSigs (key ∷ keys) (suc n)
    first_or_not key keys n None e by_first by_others h =
        let counted : signers (key ∷ keys) ≡ 0 + signers keys = ap (λ o. how_many (is_some o ∷ map signs keys)) e in
        passed_over key keys (suc n) (by_others (omega arith))
    first_or_not key keys n (Some sig) e by_first by_others h =
        let counted : signers (key ∷ keys) ≡ 1 + signers keys = ap (λ o. how_many (is_some o ∷ map signs keys)) e in
        let rest = by_first (omega arith) in
        record { sigs = sig ∷ rest.sigs; count = ap suc rest.count; good = inl (held_is_good assets are key sig e, rest.good) }

    -- there are as many signatures in order as keys that sign, and fewer
    pub enough : (keys : List Key) (n : ℕ) → n ≤ signers keys → SomeSigs keys n
    enough keys zero h = record { sigs = []; count = refl; good = tt }
    enough [] (suc n) h = absurd (omega arith)
    enough (key ∷ keys) (suc n) h = first_or_not key keys n (sig_of assets key) refl (enough keys n) (enough keys (suc n)) h

    -- there are no more
    pub at_most : (keys : List Key) (sigs : Stack) → AreSignatures (member assets.pairs) keys sigs → length sigs ≤ signers keys
    at_most keys [] h = omega arith
    at_most [] (sig ∷ sigs) h = absurd h
    at_most (key ∷ keys) (sig ∷ sigs) (inl h) =
        let held = good_is_held assets key sig h.0 in
        let counted : signers (key ∷ keys) ≡ 1 + signers keys = ap (λ o. how_many (is_some o ∷ map signs keys)) held.1 in
        let rest = at_most keys sigs h.1 in
        omega arith
    at_most (key ∷ keys) (sig ∷ sigs) (inr h) = let rest = at_most keys (sig ∷ sigs) h in omega arith
