-- Where a key was refused, a token that stands in no text ends the text of the pieces, which is then not read.
use Rattle.std.proofs.Common.{◌≡◌, ℕ, ◌+◌, List, [], ◌∷◌, ◌++◌, codes, refl, sym, subst, append-nil, Option, Some, None}
use Rattle.std.specs.Prelude.{⊤}
use Rattle.def_script.specs.Bytes.{Bytes}
use Rattle.def_tree.specs.Tree.{Tree}
use Rattle.def_text.specs.Token.{Token, word, other, tokens_from, tokens, word_before, byte_before}
use Rattle.def_text.specs.Refusal.{TextReads}
use Rattle.def_text.specs.Scaffolding.Reader.{State, START, step, behind}
use Rattle.def_text.proofs.Cut.{ByteKind, word_kind, single_kind, skip_kind, kind_of}
use Rattle.def_text.proofs.Complete.{complete_text}
use Rattle.def_text.proofs.Viable.{some_first}
use Rattle.def_descriptor.specs.declared.DescriptorFault.{DescriptorFault}
use Rattle.def_descriptor.specs.Pieces.{Piece}
use Rattle.def_descriptor.specs.Answer.{sample, stop}

-- a token that stands in no text is among them
abbrev pub HasOther : List Token → Type 0
HasOther [] = ⊥
HasOther (other at ∷ ts) = ⊤
HasOther (t ∷ ts) = HasOther ts

before_other : (t : Token) (ts : List Token) → HasOther ts → HasOther (t ∷ ts)
before_other (other at) ts h = tt
before_other t ts h = h

word_other : (at b : ℕ) (ts : List Token) → HasOther ts → HasOther (word_before at b ts)
word_other at b [] h = absurd h
word_other at b (word n w ∷ ts) h = h
word_other at b (t ∷ ts) h = h

pub byte_other : (at b : ℕ) (ts : List Token) → ByteKind at b → HasOther ts → HasOther (byte_before at b ts)
byte_other at b ts (word_kind g is) h = subst HasOther (sym (is ts)) (word_other at b ts h)
byte_other at b ts (single_kind g s o w n is) h = subst HasOther (sym (is ts)) (before_other s ts h)
byte_other at b ts (skip_kind is) h = subst HasOther (sym (is ts)) h

stop_other : (bytes : Bytes) (at : ℕ) → HasOther (tokens_from at (bytes ++ codes "!"))
stop_other [] at = tt
stop_other (b ∷ bytes) at = byte_other at b (tokens_from (at + 1) (bytes ++ codes "!")) (kind_of at b) (stop_other bytes (at + 1))

pub never : (ts : List Token) (s n : State) → HasOther ts → behind s ts ≡ Some n → ⊥
never [] s n h e = h
never (other at ∷ ts) s n h e = absurd (cc)
never (t ∷ ts) s n h e =
    let (m, first, rest) = some_first (λ m. behind m ts) (step s t) n e in
    never ts m n h rest

-- so no key was refused in a text that is read
pub none_refused : (ps : List Piece) (refused : Option DescriptorFault) (tree : Tree) (offsets : List ℕ) → TextReads (sample ps ++ stop refused) tree offsets → refused ≡ None
none_refused ps None tree offsets h = refl
none_refused ps (Some fault) tree offsets h =
    absurd (never (tokens (sample ps ++ codes "!")) START _ (stop_other (sample ps) 0) (complete_text h.spelled))

pub sample_reads : (ps : List Piece) (refused : Option DescriptorFault) (tree : Tree) (offsets : List ℕ) → TextReads (sample ps ++ stop refused) tree offsets
    → TextReads (sample ps) tree offsets
sample_reads ps None tree offsets h = subst (λ z. TextReads z tree offsets) (append-nil (sample ps)) h
sample_reads ps (Some fault) tree offsets h =
    absurd (never (tokens (sample ps ++ codes "!")) START _ (stop_other (sample ps) 0) (complete_text h.spelled))
