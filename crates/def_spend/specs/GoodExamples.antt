-- Which signatures count: of BIP 143's "Native P2WPKH" its published one, the same with a high s, and the same of other hash types.
use Rattle.std.specs.Prelude.{◌≡◌, ◌++◌, [], ◌∷◌}
use Rattle.def_hash.specs.Hex.{from_hex}
use Rattle.def_script.specs.Bytes.{Bytes}
use Rattle.def_curve.specs.declared.Judgement.{Judgement}
use Rattle.def_curve.specs.declared.Judgement.TheVariants.{Bad, High, Good}
use Rattle.def_curve.specs.Examples.{bip143_key, bip143_signature}
use Rattle.def_psbt.specs.Map.{Map}
use Rattle.def_spend.specs.declared.Verification.{Verification}
use Rattle.def_spend.specs.declared.Verification.TheVariants.{Verified, Unverified}
use Rattle.def_spend.specs.Input.{Spend}
use Rattle.def_spend.specs.Good.{word_of, assets_of}
use Rattle.def_spend.specs.SignedExamples.{two_inputs, second_input}

-- the published signature, without its hash type
abbrev pub low : Bytes
low = from_hex "304402203609e17b84f6a7d30c80bfa610b5b4542f32a8a0d5447a12fb1366d7f01cc44a0220573a954c4518331561406f90300e8f3358f51928d43c212a8caed02de67eebee"

-- with n - s for its s
abbrev pub high : Bytes
high = from_hex "304502203609e17b84f6a7d30c80bfa610b5b4542f32a8a0d5447a12fb1366d7f01cc44a022100a8c56ab3bae7ccea9ebf906fcff170cb61b9c3bddb0c7f1133238e5ee9b75553"

-- the map: the spent output, and a signature
abbrev pub second_map : (signature : Bytes) → Map
second_map signature =
    record { key = 0x01 ∷ []; value = from_hex "0046c323000000001600141d0f172a0ecb48aee1be1f2687d2963ae33f71a1" }
    ∷ record { key = 0x02 ∷ from_hex bip143_key; value = signature } ∷ []

abbrev pub second_spend : Verification → (signature : Bytes) → Spend
second_spend verification signature = record {
  verification = verification;
  transaction = two_inputs;
  number = 1;
  input = second_input;
  fields = second_map signature;
}

-- what it is, and how many signatures count in either way: what isn't good counts only where every signature does
abbrev pub IsWord : (signature : Bytes) → Judgement → Type 0
IsWord signature word = word_of (second_spend Verified signature) (from_hex bip143_key, signature) ≡ word

abbrev pub Counts : Verification → (signature : Bytes) → Type 0
Counts verification signature =
    (assets_of (second_spend verification signature)).pairs ≡ (from_hex bip143_key, signature) ∷ []

abbrev pub CountsNot : Verification → (signature : Bytes) → Type 0
CountsNot verification signature = (assets_of (second_spend verification signature)).pairs ≡ []

abbrev pub PublishedCounts : Type 0
PublishedCounts = IsWord (from_hex bip143_signature) Good × Counts Verified (from_hex bip143_signature) × Counts Unverified (from_hex bip143_signature)

-- a high s
abbrev pub HighCounts : Type 0
HighCounts = IsWord (high ++ 0x01 ∷ []) High × CountsNot Verified (high ++ 0x01 ∷ []) × Counts Unverified (high ++ 0x01 ∷ [])

-- of another hash type, which signs something else
abbrev pub OtherTypeCounts : Type 0
OtherTypeCounts = IsWord (low ++ 0x02 ∷ []) Bad × CountsNot Verified (low ++ 0x02 ∷ []) × Counts Unverified (low ++ 0x02 ∷ [])

-- of a byte that is no hash type, which signs nothing
abbrev pub NoTypeCounts : Type 0
NoTypeCounts = IsWord (low ++ 0x04 ∷ []) Bad × CountsNot Verified (low ++ 0x04 ∷ []) × Counts Unverified (low ++ 0x04 ∷ [])
