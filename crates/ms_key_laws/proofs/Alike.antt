-- Two texts whose tokens are one, but for keys, are read alike.
use Rattle.std.proofs.Common.{◌≡◌, ℕ, ◌≤◌, List, length, refl, ap, ◌∙◌, subst, arith}
use Rattle.std.specs.Str.{IsUtf8}
use Rattle.def_script.specs.Bytes.{Bytes}
use Rattle.def_tree.specs.Tree.{Tree}
use Rattle.def_text.specs.declared.TextFault.TheVariants.{Syntax, TooDeep}
use Rattle.def_text.specs.Token.{Token, word, offset, tokens}
use Rattle.def_text.specs.Spells.{SpellsText}
use Rattle.def_text.specs.Refusal.{MOST_BYTES, TextReads}
use Rattle.def_text.specs.Scaffolding.Reader.{State, START, step, is_deep, Outcome, tree_outcome, syntax_outcome, deep_outcome, next_outcome, outcome}
use Rattle.def_text.proofs.Complete.{one_tree}
use Rattle.def_text.proofs.Report.{Reports, report}
use Rattle.def_text.proofs.OneAnswer.{none_beside_tree}
use Rattle.ms_key_laws.specs.WithoutKeys.{without_keys}
use Rattle.ms_key_laws.proofs.Words.{alike}
use Rattle.ms_key_laws.proofs.Tokens.{AreAlike, no_token, word_alike, same_token}
use Rattle.ms_key_laws.proofs.Machine.{state_without, outcome_without, same_step, step_alike, same_deep, deep_alike, last_alike, next_alike}

-- ---- from two states that are one but for keys

outcomes : {ts us : List Token} → AreAlike ts us → (s n : State) → state_without s ≡ state_without n
    → outcome_without (outcome s ts) ≡ outcome_without (outcome n us)
outcomes no_token s n e = last_alike s n e
outcomes (word_alike a {w = w} {v = v} {ts = ts} {us = us} x h) s n e =
    next_alike (is_deep s (word a w)) a (step s (word a w)) (step n (word a v)) (λ m. outcome m ts) (λ m. outcome m us) (step_alike s n a (alike x) e) (outcomes h)
    ∙ ap (λ b. outcome_without (next_outcome b a (step n (word a v)) (λ m. outcome m us))) (deep_alike s n a (alike x) e)
outcomes (same_token t {ts = ts} {us = us} h) s n e =
    next_alike (is_deep s t) (offset t) (step s t) (step n t) (λ m. outcome m ts) (λ m. outcome m us) (same_step s n t e) (outcomes h)
    ∙ ap (λ b. outcome_without (next_outcome b (offset t) (step n t) (λ m. outcome m us))) (same_deep s n t e)

-- ---- whole texts

-- the machine answers the tree of a text that is read
tree_by : (text : Bytes) (x : Tree) (os : List ℕ) (o : Outcome) → IsUtf8 text → TextReads text x os → Reports text o → o ≡ tree_outcome x os
tree_by text x os (tree_outcome y ps) utf8 reads h =
    let (tree, offsets) = one_tree h.0 reads.spelled in
    ap (λ z. tree_outcome z ps) tree ∙ ap (tree_outcome x) offsets
tree_by text x os (syntax_outcome p) utf8 reads h = absurd (none_beside_tree text x os (Syntax p) utf8 reads (reads.short, h))
tree_by text x os (deep_outcome p) utf8 reads h = absurd (none_beside_tree text x os (TooDeep p) utf8 reads (reads.short, h))

-- a tree that is one with another but for keys
pub record ReadsAs (text : Bytes) (x : Tree) (os : List ℕ) : Type 0 where
  pub tree : Tree
  pub reads : TextReads text tree os
  pub same : without_keys tree ≡ without_keys x

same_tree : (x y : Tree) (os ps : List ℕ) → tree_outcome y ps ≡ tree_outcome x os → (y ≡ x) × (ps ≡ os)
same_tree x y os ps e = (grind arith, grind arith)

reads_by : (text : Bytes) (x : Tree) (os : List ℕ) (o : Outcome) → length text ≤ MOST_BYTES → Reports text o
    → outcome_without o ≡ tree_outcome (without_keys x) os → ReadsAs text x os
reads_by text x os (tree_outcome y ps) short h e =
    let (tree, offsets) = same_tree (without_keys x) (without_keys y) os ps e in
    record { tree = y; reads = record { short = short; spelled = subst (λ z. SpellsText (tokens text) y z) offsets h.0; none_deep = h.1 }; same = tree }
reads_by text x os (syntax_outcome p) short h e = absurd (cc)
reads_by text x os (deep_outcome p) short h e = absurd (cc)

pub reads_alike : (text other : Bytes) (x : Tree) (os : List ℕ) → IsUtf8 text → IsUtf8 other → length other ≡ length text → AreAlike (tokens other) (tokens text)
    → TextReads text x os → ReadsAs other x os
reads_alike text other x os utf8 other_utf8 size h reads =
    let short : length text ≤ MOST_BYTES = reads.short in
    reads_by other x os (outcome START (tokens other)) (omega arith) (report other other_utf8)
    (outcomes h START START refl ∙ ap outcome_without (tree_by text x os (outcome START (tokens text)) utf8 reads (report text utf8)))
