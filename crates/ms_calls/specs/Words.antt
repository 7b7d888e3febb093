-- The words of a call, which lie in one buffer, one after the other.
use Rattle.std.specs.Prelude.{◌≡◌, ◌≢◌, ℕ, ◌<◌, ⊤, List, [], ◌∷◌, ◌++◌, length, All, IsUtf8}
use Rattle.def_script.specs.Bytes.{Bytes}

-- no byte is 0
abbrev pub HasNoNul : Bytes → Type 0
HasNoNul [] = ⊤
HasNoNul (byte ∷ bytes) = (0 < byte) × HasNoNul bytes

abbrev pub HaveNoNul : List Bytes → Type 0
HaveNoNul [] = ⊤
HaveNoNul (word ∷ words) = HasNoNul word × HaveNoNul words

-- each word, and a 0 after it
abbrev pub words_bytes : List Bytes → Bytes
words_bytes [] = []
words_bytes (word ∷ words) = word ++ 0 ∷ words_bytes words

-- the bytes are so many words, each of them UTF-8 without a 0
pub record AreWords (count : ℕ) (bytes : Bytes) (words : List Bytes) : Type 0 where
  pub counted : length words ≡ count
  pub spelled : bytes ≡ words_bytes words
  pub utf8 : All IsUtf8 words
  pub no_nul : HaveNoNul words

-- no words are these bytes
abbrev pub AreNoWords : (count : ℕ) → (bytes : Bytes) → Type 0
AreNoWords count bytes = (words : List Bytes) → ¬ AreWords count bytes words

-- there is at most one such list
abbrev pub OneList : Type 0
OneList = (count : ℕ) (bytes : Bytes) (words others : List Bytes) → AreWords count bytes words → AreWords count bytes others → words ≡ others

-- so it is with each answer to the source and to the words that the bytes are, unless the call's code says that memory was wanting
abbrev pub HoldsOfAnswer : {S : Type 0} → (IsAnswer : List Bytes → Bytes → S → Bytes → Type 0) → (count : ℕ) → (bytes source : Bytes) →
    (code : ℕ) → (IsSo : (status : S) → (report : Bytes) → Type 0) → Type 0
HoldsOfAnswer {S} IsAnswer count bytes source code IsSo =
    (words : List Bytes) (status : S) (report : Bytes) →
    AreWords count bytes words → IsAnswer words source status report → code ≢ 7 → IsSo status report
