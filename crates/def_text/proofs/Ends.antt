-- A text ends with its end, and its front is viable where the machine takes it.
use Rattle.std.proofs.Common.{◌≡◌, ℕ, ◌+◌, true, List, [], ◌∷◌, ◌++◌, Option, Some, None, refl, sym, ap, ◌∙◌, subst, append-nil, arith}
use Rattle.std.specs.Prelude.{⊤}
use Rattle.std.specs.Str.{IsUtf8}
use Rattle.def_script.specs.Bytes.{Bytes}
use Rattle.def_tree.specs.Tree.{Tree}
use Rattle.def_text.specs.Token.{Token, tokens, tokens_from, word_before, byte_before}
use Rattle.def_text.specs.Letter.{letter_tree}
use Rattle.def_text.specs.Spells.{SpellsText}
use Rattle.def_text.specs.Refusal.{IsViable}
use Rattle.def_text.specs.Scaffolding.Reader.{finished, Frame, letter_frame, State, START, end_behind, step, behind}
use Rattle.def_text.proofs.Sound.{spelled}
use Rattle.def_text.proofs.Cut.{ByteKind, word_kind, single_kind, skip_kind, kind_of, is_end}
use Rattle.def_text.proofs.Completion.{is_finished}
use Rattle.def_text.proofs.Viable.{some_first, goes_viable}

-- ---- a text's last token is its end

abbrev pub LastEnd : List Token → Type 0
LastEnd [] = ⊥
LastEnd (t ∷ []) = is_end t ≡ true
LastEnd (t ∷ u ∷ ts) = LastEnd (u ∷ ts)

last_behind : (t : Token) (ts : List Token) → LastEnd ts → LastEnd (t ∷ ts)
last_behind t [] h = absurd h
last_behind t (u ∷ ts) h = h

last_of_word : (at b : ℕ) (ts : List Token) → LastEnd ts → LastEnd (word_before at b ts)
last_of_word at b ts = grind arith

last_by_kind : (at b : ℕ) (ts : List Token) → ByteKind at b → LastEnd ts → LastEnd (byte_before at b ts)
last_by_kind at b ts (word_kind g same) h = subst LastEnd (sym (same ts)) (last_of_word at b ts h)
last_by_kind at b ts (single_kind g s o w n same) h = subst LastEnd (sym (same ts)) (last_behind s ts h)
last_by_kind at b ts (skip_kind same) h = subst LastEnd (sym (same ts)) h

pub tokens_end : (bytes : Bytes) (at : ℕ) → LastEnd (tokens_from at bytes)
tokens_end [] at = refl
tokens_end (b ∷ bytes) at = last_by_kind at b (tokens_from (at + 1) bytes) (kind_of at b) (tokens_end bytes (at + 1))

abbrev NextFinished : Option State → Type 0
NextFinished None = ⊤
NextFinished (Some n) = is_finished n.0 ≡ true

ended_finishes : (x : Tree) (fs : List Frame) (os : List ℕ) → NextFinished (end_behind x fs os)
ended_finishes x [] os = refl
ended_finishes x (letter_frame l a ∷ fs) os = ended_finishes (letter_tree l x) fs _
ended_finishes x (frame ∷ fs) os = tt

step_finishes : (s : State) (t : Token) → is_end t ≡ true → NextFinished (step s t)
step_finishes s t = grind (arith, ended_finishes)

-- behind its end a text is finished
pub finishes : (us : List Token) (s n : State) → LastEnd us → behind s us ≡ Some n → is_finished n.0 ≡ true
finishes [] s n h e = absurd h
finishes (u ∷ []) s n h e =
    let (m, first, same) = some_first (λ m. Some m) (step s u) n e in
    let k : NextFinished (Some n) = subst NextFinished (first ∙ same) (step_finishes s u h) in
    k
finishes (u ∷ v ∷ us) s n h e =
    let (m, first, rest) = some_first (λ m. behind m (v ∷ us)) (step s u) n e in
    finishes (v ∷ us) m n h rest

pub whole_is_spelled : (text : Bytes) (n : State) → behind START (tokens text) ≡ Some n → is_finished n.0 ≡ true →
    (x : Tree) × (n.0 ≡ finished x) × SpellsText (tokens text) x n.2
whole_is_spelled text (finished x, fs, os) h f = (x, refl, spelled (tokens text) x fs os h)
whole_is_spelled text (want, fs, os) h f = absurd (cc)

-- tokens at the front of a text, which may be all, begin a spelled text where the machine takes them
pub front_viable : (text : Bytes) (us ts : List Token) (n : State) → IsUtf8 text → tokens text ≡ us ++ ts →
    behind START us ≡ Some n → IsViable us
front_viable text us [] n utf8 split goes =
    let all : tokens text ≡ us = split ∙ append-nil us in
    let last : LastEnd us = subst LastEnd all (tokens_end text 0) in
    let (x, e, h) = whole_is_spelled text n (ap (behind START) all ∙ goes) (finishes us START n last goes) in
    record { text = text; after = []; tree = x; offsets = n.2; utf8 = utf8; split = split; spelled = h }
front_viable text us (t ∷ ts) n utf8 split goes = goes_viable text us t ts n utf8 split goes
