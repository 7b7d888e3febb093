-- The text with the letter that fits is read, and the node breaks no rule.
use Rattle.std.proofs.Common.{◌≡◌, inl, inr, ◌⊎◌, ℕ, ◌+◌, ◌-◌, ◌==◌, true, not, List, [], ◌∷◌, ◌++◌, map, slice_get, slice_index, find, Some, refl, sym, ap, ◌∙◌, subst, arith}
use Rattle.std.specs.Str.{IsUtf8}
use Rattle.std.proofs.lemmas.Bool.{and_parts}
use Rattle.std.proofs.lemmas.List.{append_assoc, map-append}
use Rattle.def_script.specs.Bytes.{Bytes}
use Rattle.def_tree.specs.Children.{children}
use Rattle.def_tree.specs.Nodes.{all_nodes}
use Rattle.def_tree.specs.Size.{nodes, nodes_of}
use Rattle.def_tree.specs.Tree.{Tree, Trees, just_0, just_1, pk_k, pk_h, older, after, hash, and_or, two, thresh, multi, wrap}
use Rattle.def_text.specs.declared.TextFault.{TextFault}
use Rattle.def_text.specs.declared.TextFault.TheVariants.{TooLong, Syntax, TooDeep, Memory}
use Rattle.def_text.specs.Token.{Token, word, colon, end, tokens}
use Rattle.def_text.specs.Letter.{Letter, letter_of_wrapper, letter_t, letter_l, letter_u, letter_byte, letter_tree}
use Rattle.def_text.specs.Spells.{Spells, SpellsText, text_whole}
use Rattle.def_text.specs.Refusal.{TextReads, TextRefusal}
use Rattle.def_text.proofs.Complete.{one_tree}
use Rattle.def_text.proofs.OneAnswer.{some_answer}
use Rattle.def_types.specs.Correctness.{correctness_of}
use Rattle.def_outline.specs.Fits.{trials, over, has_type, fits, fit_of}
use Rattle.ms_outline_laws.specs.Letters.{with_letter, added, LetterLetsPass}
use Rattle.ms_outline_laws.proofs.Moved.{moved, SpellsTree}
use Rattle.ms_outline_laws.proofs.Holes.{Hole, letter_is_word}
use Rattle.ms_outline_laws.proofs.Within.{found, got, Lettered, first_lettered, later_lettered, some_node, tried}
use Rattle.ms_outline_laws.proofs.Putting.{Child, childless}
use Rattle.ms_outline_laws.proofs.Lettering.{letter_found}
use Rattle.ms_outline_laws.proofs.Texts.{put}

-- ---- how many nodes the letter adds

letter_nodes : (l : Letter) (x : Tree) → nodes (letter_tree l x) ≡ nodes x + added l
letter_nodes (letter_of_wrapper w) x = omega arith
letter_nodes letter_t x = omega arith
letter_nodes letter_l x = omega arith
letter_nodes letter_u x = omega arith

trees_nodes : {L : Letter} {xs others : Trees} {b : ℕ} {y : Tree} → Lettered L xs b y others → nodes_of others ≡ nodes_of xs + added L
trees_nodes {L = L} (first_lettered {y = y}) = omega (arith, letter_nodes L y)
trees_nodes (later_lettered h) = omega (arith, trees_nodes h)

over_nodes : {L : Letter} (x : Tree) {others : Trees} {b : ℕ} {y : Tree} → Lettered L (children x) b y others → nodes (over x others) ≡ nodes x + added L
over_nodes {L = L} (and_or x y z) first_lettered = omega (arith, letter_nodes L x)
over_nodes {L = L} (and_or x y z) (later_lettered first_lettered) = omega (arith, letter_nodes L y)
over_nodes {L = L} (and_or x y z) (later_lettered (later_lettered first_lettered)) = omega (arith, letter_nodes L z)
over_nodes (and_or x y z) (later_lettered (later_lettered (later_lettered h))) = absurd (childless h refl)
over_nodes {L = L} (two kind x y) first_lettered = omega (arith, letter_nodes L x)
over_nodes {L = L} (two kind x y) (later_lettered first_lettered) = omega (arith, letter_nodes L y)
over_nodes (two kind x y) (later_lettered (later_lettered h)) = absurd (childless h refl)
over_nodes (thresh k xs) h = omega (arith, trees_nodes h)
over_nodes {L = L} (wrap w x) first_lettered = omega (arith, letter_nodes L x)
over_nodes (wrap w x) (later_lettered h) = absurd (childless h refl)
over_nodes just_0 h = absurd (childless h refl)
over_nodes just_1 h = absurd (childless h refl)
over_nodes (pk_k key) h = absurd (childless h refl)
over_nodes (pk_h key) h = absurd (childless h refl)
over_nodes (older n) h = absurd (childless h refl)
over_nodes (after n) h = absurd (childless h refl)
over_nodes (hash kind value) h = absurd (childless h refl)
over_nodes (multi k keys) h = absurd (childless h refl)

-- ---- what is spelled is read, or too long or too deep

abbrev Answered : Bytes → Tree → Type 0
Answered text x = ((os : List ℕ) × TextReads text x os) ⊎ (TextRefusal text TooLong ⊎ ((place : ℕ) × TextRefusal text (TooDeep place)))

spelled_answer : (text : Bytes) (x : Tree) (os : List ℕ) → IsUtf8 text → SpellsText (tokens text) x os → Answered text x
spelled_answer text x os utf8 s = elim (some_answer text utf8) [
  | inl (y, ps, reads) ↦ let same = (one_tree reads.spelled s).0 in inl (ps, subst (λ t. TextReads text t ps) same reads)
  | inr (e, refused) ↦ refusal e refused
]
  where
    refusal : (e : TextFault) → TextRefusal text e → Answered text x
    refusal TooLong h = inr (inl h)
    refusal (TooDeep p) h = inr (inr (p, h))
    refusal Memory h = absurd h
    refusal (Syntax p) h =
        let at = h.1 in
        let split : tokens text ≡ (at.place.before ++ at.place.token ∷ []) ++ at.place.after = at.place.split ∙ sym (append_assoc at.place.before (at.place.token ∷ []) at.place.after) in
        absurd (at.ends (record { text = text; after = at.place.after; tree = x; offsets = os; utf8 = utf8; split = split; spelled = s }))

-- ---- the law

differ : (p q : ℕ) → not (p == q) ≡ true → ¬ (p ≡ q)
differ p q h e = grind (arith, h, e)

-- a text with a letter before a byte of a word of an expression
record Lets (L : Letter) (text : Bytes) (at : ℕ) (x : Tree) : Type 0 where
  pub utf8 : IsUtf8 (with_letter at L text)
  pub offsets : List ℕ
  pub spelled : SpellsText (tokens (with_letter at L text)) x offsets

lets : {L : Letter} {ts : List Token} {at : ℕ} {x : Tree} (text : Bytes) (e : ℕ) → IsUtf8 text → tokens text ≡ ts ++ end e ∷ [] → Hole L ts at (SpellsTree x) → Lets L text at x
lets {L = L} {at = at} {x = x} text e utf8 is h =
    let mid = word h.start (h.pre ++ h.first ∷ h.rest) in
    let split : tokens text ≡ h.front ++ mid ∷ (h.back ++ end e ∷ []) = is ∙ (ap (λ r. r ++ end e ∷ []) h.split ∙ append_assoc h.front (mid ∷ h.back) (end e ∷ [])) in
    let p = put text (letter_byte L) h.first h.rest h.front h.start h.pre (h.back ++ end e ∷ []) at utf8 (letter_is_word L) h.letters h.apart h.place split in
    let (os, g) = h.wanted (at + 1) in
    let new : List Token = word h.start (h.pre ++ letter_byte L ∷ []) ∷ colon (at + 1) ∷ word (at + 2) (h.first ∷ h.rest) ∷ map (moved 2) h.back in
    let both : map (moved 2) (h.back ++ end e ∷ []) ≡ map (moved 2) h.back ++ end (e + 2) ∷ [] = map-append (moved 2) h.back (end e ∷ []) in
    let all : (h.front ++ new) ++ end (e + 2) ∷ [] ≡ tokens (with_letter at L text) =
    append_assoc h.front new (end (e + 2) ∷ [])
    ∙ (ap (λ r. h.front ++ word h.start (h.pre ++ letter_byte L ∷ []) ∷ colon (at + 1) ∷ word (at + 2) (h.first ∷ h.rest) ∷ r) (sym both) ∙ sym p.same) in
    record { utf8 = p.utf8; offsets = os; spelled = subst (λ ts. SpellsText ts x os) all (text_whole (e + 2) g) }

-- the tokens of a text are those of an expression, and the end
whole : {us : List Token} {x : Tree} {os : List ℕ} → SpellsText us x os → (ts : List Token) × (e : ℕ) × (us ≡ ts ++ end e ∷ []) × Spells ts x os
whole (text_whole {ts = ts} e h) = (ts, e, refl, h)

pub letter_lets_pass : LetterLetsPass
letter_lets_pass text tree node offsets at t utf8 reads is_node is_fit =
    let first = find (fits offsets at.node node) (trials (at.node + 1 - nodes node) (children node)) in
    let chosen : first ≡ Some t = sym (ap (fit_of offsets at.node) is_node) ∙ is_fit in
    let (test, tries) = tried (at.node + 1 - nodes node) (children node) (fits offsets at.node node) t chosen in
    let (b, y, lettered, number) = tries in
    let (other_place, passes) = and_parts (not (slice_index offsets t.child == slice_index offsets at.node)) (has_type (correctness_of (over node t.children))) test in
    let (n, w, own) = found tree at.node node is_node in
    let some = some_node y in
    let some_own = some_node node in
    let child : Child t.letter node t.children (b + nodes y - 1) (nodes node - 1) =
    record { before = b; child = y; lettered = lettered; number = omega (arith, some); own = omega (arith, some_own) } in
    let child_is : n + (b + nodes y - 1) ≡ t.child = omega (arith, some, number, own) in
    let own_is : n + (nodes node - 1) ≡ at.node = omega (arith, some_own, own) in
    let apart = differ (slice_index offsets t.child) (slice_index offsets at.node) other_place in
    let (ts, e, is, spelled) = whole reads.spelled in
    let res = letter_found child spelled n w (λ same. apart (sym (ap (slice_index offsets) child_is) ∙ (same ∙ ap (slice_index offsets) own_is))) in
    let hole = subst (λ m. Hole t.letter ts (slice_index offsets m) (SpellsTree res.new)) child_is res.hole in
    let new = lets {L = t.letter} {ts = ts} {at = slice_index offsets t.child} {x = res.new} text e utf8 is hole in
    let there : slice_get (all_nodes res.new) (at.node + added t.letter) ≡ Some (over node t.children) =
    got res.inside (at.node + added t.letter) (omega (arith, own, over_nodes node lettered)) in (
      new.utf8,
      elim (spelled_answer (with_letter (slice_index offsets t.child) t.letter text) res.new new.offsets new.utf8 new.spelled) [
        | inl (os, reads_new) ↦ inl (record { tree = res.new; offsets = os; reads = reads_new; there = there; passes = passes })
        | inr refused ↦ inr refused
      ],
    )
