-- The forms of keys, hash values, signatures and preimages, from tests that compute; and what tests tell, for the
-- examples.
use Rattle.std.proofs.Common.{◌≡◌, ℕ, zero, suc, ◌≤◌, ◌<◌, nat_lt, nat_le, Bool, true, false, ◌&&◌, ◌||◌, [], ◌∷◌, length, refl, arith}
use Rattle.std.specs.List.{list_all}
use Rattle.std.proofs.lemmas.Bool.{and_parts, false≢true}
use Rattle.std.proofs.lemmas.Bool.Decides.{nat_tests}
use Rattle.def_hash.specs.declared.HashKind.{HashKind}
use Rattle.def_hash.specs.Hash.{digest_length}
use Rattle.def_script.specs.Bytes.{Bytes, IsBytes}
use Rattle.def_tree.specs.Tree.{Key}
use Rattle.def_tree.specs.Range.{IsKey, IsDigest}
use Rattle.def_assets.specs.Assets.{IsSignature, IsPreimage}
use Rattle.def_script.specs.Key.{is_key}

abbrev pub all_low : Bytes → Bool
all_low = list_all (λ b. nat_lt b 256)

below : (b : ℕ) → nat_lt b 256 ≡ true → b < 256
below b h = grind (arith, nat_tests)

pub bytes : (xs : Bytes) → all_low xs ≡ true → IsBytes xs
bytes [] h i = omega arith
bytes (x ∷ xs) h zero = below x (and_parts (nat_lt x 256) (all_low xs) h).0
bytes (x ∷ xs) h (suc i) = bytes xs (and_parts (nat_lt x 256) (all_low xs) h).1 i

pub key_form : (key : Key) → is_key key ≡ true → all_low key ≡ true → IsKey key
key_form key f b = record { form = f; bytes = bytes key b }

pub digest_form : (kind : HashKind) (value : Bytes) → length value ≡ digest_length kind → all_low value ≡ true → IsDigest kind value
digest_form kind value l b = record { length = l; bytes = bytes value b }

at_most : (a b : ℕ) → nat_le a b ≡ true → a ≤ b
at_most a b h = grind (arith, nat_tests)

pub signature_form : (sig : Bytes) → nat_le 1 (length sig) ≡ true → nat_le (length sig) 73 ≡ true → all_low sig ≡ true → IsSignature sig
signature_form sig l m b = record { some = at_most 1 (length sig) l; few = at_most (length sig) 73 m; bytes = bytes sig b }

pub preimage_form : (x : Bytes) → length x ≡ 32 → all_low x ≡ true → IsPreimage x
preimage_form x l b = record { length = l; bytes = bytes x b }

pub never_both : (a : Bool) → (a && false) ≡ true → ⊥
never_both a h = false≢true (and_parts a false h).1

-- what holds of one of two pairs holds of both
pub one_of_both : (a b : Bool) → (a || false) ≡ true → (a || b) ≡ true
one_of_both true b h = refl
one_of_both false b h = absurd (false≢true h)
