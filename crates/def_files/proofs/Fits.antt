-- What the tests of a file say, as facts.
use Rattle.std.proofs.Common.{◌≡◌, ℕ, ◌^◌, ◌<◌, Bool, true, false, nat_le, nat_lt, if◌then◌else◌, List, Option, Some, None, All, map, refl, sym, ◌∙◌, length, slice_index_or, unwrap_or, lit<}
use Rattle.std.specs.List.{list_all}
use Rattle.std.specs.Prelude.{option_and_then}
use Rattle.std.proofs.lemmas.Bool.{leb-true, ltb-true, eqb-true, and_parts}
use Rattle.std.proofs.lemmas.List.Folds.{list_all-map}
use Rattle.std.proofs.lemmas.List.Sums.{AllPass-from_list_all}
use Rattle.serde_json.specs.Data.{Data}
use Rattle.serde_json.specs.Find.{as_number, as_u64}
use Rattle.def_script.specs.Bytes.{Bytes, IsBytes}
use Rattle.def_script.specs.Signature.{MAX_SIGNATURE_SIZE}
use Rattle.def_script.specs.Key.{is_key}
use Rattle.def_tree.specs.Range.{IsKey}
use Rattle.def_assets.specs.Assets.{IsSignature, IsPreimage}
use Rattle.def_files.specs.Json.{word_of, number_or}
use Rattle.def_files.specs.AssetFile.{is_signature, is_preimage}

pub key_fits : (key : Bytes) → is_key key ≡ true → IsBytes key → IsKey key
key_fits key e bytes = record { form = e; bytes = bytes }

pub signature_fits : (sig : Bytes) → is_signature sig ≡ true → IsBytes sig → IsSignature sig
signature_fits sig e bytes =
    let parts = and_parts (nat_le 1 (length sig)) (nat_le (length sig) MAX_SIGNATURE_SIZE) e in
    record { some = leb-true 1 (length sig) parts.0; few = leb-true (length sig) 73 parts.1; bytes = bytes }

pub preimage_fits : (preimage : Bytes) → is_preimage preimage ≡ true → IsBytes preimage → IsPreimage preimage
preimage_fits preimage e bytes = record { length = eqb-true (length preimage) 32 e; bytes = bytes }

-- a number of a file has 32 bits
word_fits : (o : Option ℕ) → unwrap_or (word_of o) 0 < 2 ^ 32
word_fits None = lit< tt
word_fits (Some n) = go (nat_lt n (2 ^ 32)) refl
  where
    go : (b : Bool) → nat_lt n (2 ^ 32) ≡ b → unwrap_or (if b then Some n else None) 0 < 2 ^ 32
    go true e = ltb-true n (2 ^ 32) e
    go false e = lit< tt

pub number_fits : (default : ℕ) (o : Option Data) → default < 2 ^ 32 → unwrap_or (number_or default o) 0 < 2 ^ 32
number_fits default None h = h
number_fits default (Some d) h = word_fits (option_and_then as_u64 (as_number d))

-- what a test says of each element of a mapped list
pub all_mapped : {A : Type 0} (f : A → Bytes) (test : Bytes → Bool) (P : Bytes → Type 0) (xs : List A)
    → ((bytes : Bytes) → test bytes ≡ true → IsBytes bytes → P bytes)
    → list_all test (map f xs) ≡ true → ((x : A) → IsBytes (f x)) → All (λ x. P (f x)) xs
all_mapped f test P xs fits e bytes k d h =
    fits (f (slice_index_or xs k d)) (AllPass-from_list_all (λ x. test (f x)) xs (sym (list_all-map test f xs) ∙ e) k d h) (bytes (slice_index_or xs k d))
