-- Tokens of the characters of a descriptor: what stands behind such tokens.
use Rattle.std.proofs.Common.{◌≡◌, ◌⊎◌, inl, inr, ℕ, ◌+◌, ◌<◌, ◌≤◌, Bool, true, false, List, [], ◌∷◌, drop, arith, refl, ap, ◌∙◌, cond, Result, Ok, Err}
use Rattle.std.specs.Prelude.{◌&&◌, ⊤, nat_le, IsUtf8}
use Rattle.std.specs.List.{list_all}
use Rattle.std.specs.Str.{bytes_eq}
use Rattle.std.proofs.lemmas.Bool.{and_parts, or_cases, leb-true}
use Rattle.std.proofs.lemmas.Str.{IsUtf8-drop, IsCharBoundary-after_ascii, lead_after_ascii}
use Rattle.std.proofs.lemmas.Slice.Eq.{bytes_eq-Decides}
use Rattle.def_script.specs.Bytes.{Bytes}
use Rattle.def_text.specs.Token.{is_word_byte, goes_on}
use Rattle.def_descriptor.specs.declared.DescriptorFault.{DescriptorFault}
use Rattle.def_descriptor.specs.Token.{Token, token, belongs, byte_before, tokens_from, starts, and_then, behind}

-- a character of a descriptor: of ASCII, and printed
abbrev pub is_printed : ℕ → Bool
is_printed b = nat_le 32 b && nat_le b 126

abbrev pub IsClean : Bytes → Type 0
IsClean bytes = list_all is_printed bytes ≡ true

-- ---- the tokens of a text

-- each byte but the first belongs to the one before
abbrev pub IsChain : Bytes → Type 0
IsChain [] = ⊤
IsChain (b ∷ rest) = (rest ≡ [] ⊎ belongs b rest ≡ true) × IsChain rest

-- the tokens are those of a text in UTF-8
abbrev pub AreGood : List Token → Type 0
AreGood [] = ⊤
AreGood (token at bytes ∷ ts) = (IsUtf8 bytes × IsChain bytes) × AreGood ts

abbrev pub AreChains : List Token → Type 0
AreChains [] = ⊤
AreChains (token at bytes ∷ ts) = IsChain bytes × AreChains ts

before_chains : (at b : ℕ) (ts : List Token) → AreChains ts → AreChains (byte_before at b ts)
before_chains at b [] h = ((inl refl, tt), tt)
before_chains at b (token next bytes ∷ ts) h = go (belongs b bytes) refl
  where
    go : (t : Bool) → belongs b bytes ≡ t → AreChains (cond t (token at (b ∷ bytes) ∷ ts) (token at (b ∷ []) ∷ token next bytes ∷ ts))
    go true e = ((inr e, h.0), h.1)
    go false e = ((inl refl, tt), h)

pub chains : (bytes : Bytes) (at : ℕ) → AreChains (tokens_from at bytes)
chains [] at = (tt, tt)
chains (b ∷ bytes) at = before_chains at b (tokens_from (at + 1) bytes) (chains bytes (at + 1))

pub word_printed : (b : ℕ) → is_word_byte b ≡ true → is_printed b ≡ true
word_printed b h = grind arith

no_word_goes_on : (b : ℕ) → is_word_byte b ≡ true → b < 128
no_word_goes_on b h = grind arith

printed_ascii : (b : ℕ) → is_printed b ≡ true → b < 128
printed_ascii b h = let parts = and_parts (nat_le 32 b) (nat_le b 126) h in let most = leb-true b 126 parts.1 in omega arith

pub goes_on_bounds : (b : ℕ) → goes_on b ≡ true → (128 ≤ b) × (b ≤ 191)
goes_on_bounds b h = let parts = and_parts (nat_le 0x80 b) (nat_le b 0xbf) h in (leb-true 0x80 b parts.0, leb-true b 0xbf parts.1)

-- a token that begins with a printed character is printed
printed_token : (b : ℕ) (rest : Bytes) → IsUtf8 (b ∷ rest) → IsChain (b ∷ rest) → is_printed b ≡ true → IsClean (b ∷ rest)
printed_token b [] utf8 chain h = rw h refl
printed_token b (c ∷ rest) utf8 (inl none, more) h = absurd (cc)
printed_token b (c ∷ rest) utf8 (inr joins, more) h =
    let low : b < 128 = printed_ascii b h in
    let tail : IsUtf8 (c ∷ rest) = IsUtf8-drop (b ∷ c ∷ rest) 1 utf8 (IsCharBoundary-after_ascii (b ∷ c ∷ rest) 0 utf8 (omega arith) low) in
    elim (or_cases (is_word_byte b && is_word_byte c) (goes_on c) joins) [
      | inl both ↦
          let word : is_word_byte c ≡ true = (and_parts (is_word_byte b) (is_word_byte c) both).1 in
          rw h (printed_token c rest tail more (word_printed c word))
      | inr later ↦
          let (least, most) = goes_on_bounds c later in
          let lead : 192 ≤ c = lead_after_ascii (b ∷ c ∷ rest) 0 utf8 low (omega arith) least in
          absurd (omega arith)
    ]

-- ---- what stands behind printed tokens

pub data Reaches : List Token → List Token → Type 0 where
  here : {ts : List Token} → Reaches ts ts
  past : {at : ℕ} {bytes : Bytes} {ts rest : List Token} → IsClean bytes → Reaches ts rest → Reaches (token at bytes ∷ ts) rest

pub further : {ts us rest : List Token} → Reaches ts us → Reaches us rest → Reaches ts rest
further here g = g
further (past clean h) g = past clean (further h g)

pub still_good : {ts rest : List Token} → Reaches ts rest → AreGood ts → AreGood rest
still_good here g = g
still_good (past clean h) g = still_good h g.1

-- a token that begins with a printed character
pub past_printed : (at b : ℕ) (bytes : Bytes) {ts rest : List Token} → AreGood (token at (b ∷ bytes) ∷ ts) → is_printed b ≡ true → Reaches ts rest
    → Reaches (token at (b ∷ bytes) ∷ ts) rest
past_printed at b bytes good h r = past (printed_token b bytes good.0.0 good.0.1 h) r

-- a token that is known
pub past_mark : (mark : Bytes) (ts : List Token) → IsClean mark → starts mark ts ≡ true → Reaches ts (drop 1 ts)
past_mark mark [] clean h = absurd (cc)
past_mark mark (token at own ∷ ts) clean h = past (ap (list_all is_printed) ((bytes_eq-Decides own mark).0 h) ∙ clean) here

-- ---- what is read reaches what is left

abbrev pub ReachesBy : {A : Type 0} → List Token → Result (A × List Token) DescriptorFault → Type 0
ReachesBy ts (Ok (x, rest)) = Reaches ts rest
ReachesBy ts (Err fault) = ⊤

pub from_further : {A : Type 0} {ts us : List Token} (r : Result (A × List Token) DescriptorFault) → Reaches ts us → ReachesBy us r → ReachesBy ts r
from_further (Ok (x, rest)) h k = further h k
from_further (Err fault) h k = tt

pub reach_then : {A B : Type 0} (ts : List Token) (r : Result (A × List Token) DescriptorFault) (next : A → List Token → Result (B × List Token) DescriptorFault)
    → AreGood ts → ReachesBy ts r → ((x : A) (rest : List Token) → AreGood rest → ReachesBy rest (next x rest)) → ReachesBy ts (and_then r next)
reach_then ts (Ok (x, rest)) next good h go = from_further (next x rest) h (go x rest (still_good h good))
reach_then ts (Err fault) next good h go = tt

pub reach_if : {A : Type 0} (ts : List Token) (b : Bool) (r s : Result (A × List Token) DescriptorFault) → (b ≡ true → ReachesBy ts r) → ReachesBy ts s
    → ReachesBy ts (cond b r s)
reach_if ts true r s h k = h refl
reach_if ts false r s h k = k

pub reach_behind : {B : Type 0} (mark : Bytes) (ts : List Token) (next : List Token → Result (B × List Token) DescriptorFault) → IsClean mark → AreGood ts
    → ((rest : List Token) → AreGood rest → ReachesBy rest (next rest)) → ReachesBy ts (behind mark ts next)
reach_behind mark [] next clean good go = tt
reach_behind mark (token at own ∷ ts) next clean good go =
    reach_if (token at own ∷ ts) (bytes_eq own mark) (next ts) (Err _)
    (λ e. from_further (next ts) (past_mark mark (token at own ∷ ts) clean e) (go ts good.1)) tt
