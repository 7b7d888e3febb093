-- The tokens of two texts that are one, but for keys.
use Rattle.std.proofs.Common.{◌≡◌, ℕ, ◌+◌, ◌<◌, true, List, [], ◌∷◌, ◌++◌, length, refl, sym, ap, ◌∙◌, subst, arith}
use Rattle.std.specs.List.{list_all}
use Rattle.std.proofs.lemmas.Bool.{and_parts}
use Rattle.def_script.specs.Bytes.{Bytes}
use Rattle.def_text.specs.Token.{Token, word, is_word_byte, word_before, byte_before, tokens_from}
use Rattle.def_text.proofs.Cut.{ByteKind, word_kind, single_kind, skip_kind, kind_of}
use Rattle.def_text.proofs.PrintedWords.{word_byte}
use Rattle.ms_key_laws.proofs.Words.{Exchanged, KeyWord, keys_before, keys_alone, same_length}
use Rattle.ms_key_laws.proofs.Words as words

-- the same tokens, but for words in which keys were exchanged
pub data AreAlike : List Token → List Token → Type 0 where
  no_token : AreAlike [] []
  word_alike : (at : ℕ) {w v : Bytes} {ts us : List Token} → Exchanged w v → AreAlike ts us → AreAlike (word at w ∷ ts) (word at v ∷ us)
  same_token : (t : Token) {ts us : List Token} → AreAlike ts us → AreAlike (t ∷ ts) (t ∷ us)

-- ---- a byte before them

before_same : (at b : ℕ) (t : Token) {ts us : List Token} → AreAlike ts us → AreAlike (word_before at b (t ∷ ts)) (word_before at b (t ∷ us))
before_same at b (word n w) h = same_token (word at (b ∷ w)) h
before_same at b t h = same_token (word at (b ∷ [])) (same_token t h)

word_before_both : (at b : ℕ) {ts us : List Token} → AreAlike ts us → AreAlike (word_before at b ts) (word_before at b us)
word_before_both at b no_token = same_token (word at (b ∷ [])) no_token
word_before_both at b (word_alike n e h) = word_alike at (words.byte_before b e) h
word_before_both at b (same_token t h) = before_same at b t h

by_kind : (at b : ℕ) (ts us : List Token) → ByteKind at b → AreAlike ts us → AreAlike (byte_before at b ts) (byte_before at b us)
by_kind at b ts us (word_kind g is) h =
    subst (λ z. AreAlike z (byte_before at b us)) (sym (is ts)) (subst (AreAlike (word_before at b ts)) (sym (is us)) (word_before_both at b h))
by_kind at b ts us (single_kind g s o w n is) h =
    subst (λ z. AreAlike z (byte_before at b us)) (sym (is ts)) (subst (AreAlike (s ∷ ts)) (sym (is us)) (same_token s h))
by_kind at b ts us (skip_kind is) h =
    subst (λ z. AreAlike z (byte_before at b us)) (sym (is ts)) (subst (AreAlike ts) (sym (is us)) h)

-- bytes before them
pub bytes_before : (bytes : Bytes) (at : ℕ) (rest other : Bytes) → ((n : ℕ) → AreAlike (tokens_from n rest) (tokens_from n other))
    → AreAlike (tokens_from at (bytes ++ rest)) (tokens_from at (bytes ++ other))
bytes_before [] at rest other h = h at
bytes_before (b ∷ bytes) at rest other h =
    by_kind at b (tokens_from (at + 1) (bytes ++ rest)) (tokens_from (at + 1) (bytes ++ other)) (kind_of at b) (bytes_before bytes (at + 1) rest other h)

-- ---- a word before them

abbrev pub joined : (at : ℕ) (w : Bytes) → List Token → List Token
joined at w (word n v ∷ ts) = word at (w ++ v) ∷ ts
joined at w ts = word at w ∷ ts

one_byte : (at b : ℕ) (ts : List Token) → word_before at b ts ≡ joined at (b ∷ []) ts
one_byte at b [] = refl
one_byte at b (word n v ∷ ts) = refl
one_byte at b (t ∷ ts) = refl

more_bytes : (at n b c : ℕ) (w : Bytes) (ts : List Token) → word_before at b (joined n (c ∷ w) ts) ≡ joined at (b ∷ c ∷ w) ts
more_bytes at n b c w [] = refl
more_bytes at n b c w (word m v ∷ ts) = refl
more_bytes at n b c w (t ∷ ts) = refl

-- the bytes of a word join what is behind them
pub joins : (w : Bytes) (at : ℕ) (rest : Bytes) → list_all is_word_byte w ≡ true → 0 < length w
    → tokens_from at (w ++ rest) ≡ joined at w (tokens_from (at + length w) rest)
joins [] at rest all some = absurd (omega arith)
joins (b ∷ []) at rest all some =
    word_byte at b (tokens_from (at + 1) rest) (and_parts (is_word_byte b) true all).0 ∙ one_byte at b (tokens_from (at + 1) rest)
joins (b ∷ c ∷ w) at rest all some =
    let parts = and_parts (is_word_byte b) (list_all is_word_byte (c ∷ w)) all in
    let n : ℕ = length (c ∷ w) in
    let end : at + 1 + n ≡ at + length (b ∷ c ∷ w) = omega arith in
    word_byte at b (tokens_from (at + 1) (c ∷ (w ++ rest))) parts.0
    ∙ (ap (word_before at b) (joins (c ∷ w) (at + 1) rest parts.1 (omega arith))
    ∙ (more_bytes at (at + 1) b c w (tokens_from (at + 1 + n) rest)
    ∙ ap (λ (z : ℕ). joined at (b ∷ c ∷ w) (tokens_from z rest)) end))

alone_or_joined : (at : ℕ) {k l : Bytes} (t : Token) {ts us : List Token} → KeyWord k → KeyWord l → AreAlike ts us
    → AreAlike (joined at k (t ∷ ts)) (joined at l (t ∷ us))
alone_or_joined at (word n w) h g rest = word_alike at (keys_before w w h g refl) rest
alone_or_joined at t h g rest = word_alike at (keys_alone h g) (same_token t rest)

joined_both : (at : ℕ) {k l : Bytes} {ts us : List Token} → KeyWord k → KeyWord l → AreAlike ts us → AreAlike (joined at k ts) (joined at l us)
joined_both at h g no_token = word_alike at (keys_alone h g) no_token
joined_both at h g (word_alike n {w = w} {v = v} e rest) = word_alike at (keys_before w v h g (same_length e)) rest
joined_both at h g (same_token t rest) = alone_or_joined at t h g rest

-- keys before them
pub keys_before_both : {k l : Bytes} (at : ℕ) (rest other : Bytes) → KeyWord k → KeyWord l → ((n : ℕ) → AreAlike (tokens_from n rest) (tokens_from n other))
    → AreAlike (tokens_from at (k ++ rest)) (tokens_from at (l ++ other))
keys_before_both {k = k} {l = l} at rest other h g alike =
    let long : length k ≡ 66 = h.long in
    let same_long : length l ≡ 66 = g.long in
    let end : at + length k ≡ at + length l = omega arith in
    subst (λ z. AreAlike z (tokens_from at (l ++ other))) (sym (joins k at rest h.word (omega arith)))
    (subst (AreAlike (joined at k (tokens_from (at + length k) rest))) (sym (joins l at other g.word (omega arith)))
    (joined_both at h g (subst (λ (z : ℕ). AreAlike (tokens_from (at + length k) rest) (tokens_from z other)) end (alike (at + length k)))))
