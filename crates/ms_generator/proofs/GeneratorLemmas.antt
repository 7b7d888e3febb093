-- What the generator makes: keys, signatures and texts by their number, the assets one child after the other, and what
-- is shown of both satisfactions.
use Rattle.std.proofs.Common.{◌≡◌, ℕ, zero, suc, ◌+◌, ◌-◌, ◌%◌, ◌^◌, ◌<◌, ◌≤◌, true, false, List, [], ◌∷◌, ◌++◌, length, map, slice_index, codes, Option, Some, None, Result, Ok, Err, OnOk, IsSome, unwrap_or, append_assoc, refl, sym, ap, ◌∙◌, subst, arith}
use Rattle.std.specs.Prelude.{⊤}
use Rattle.std.specs.List.{range_with_len, list_any}
use Rattle.std.specs.Str.{bytes_eq, IsUtf8}
use Rattle.std.proofs.lemmas.Bool.{le-leb, lt-leb, false_from_ne_true}
use Rattle.std.proofs.lemmas.List.{length-replicate}
use Rattle.std.proofs.lemmas.List.FromFn.{length-map-range_with_len, get_or-map-range_with_len, map-range_with_len_more}
use Rattle.std.proofs.lemmas.Slice.Eq.{bytes_eq-Decides}
use Rattle.def_script.specs.Bytes.{Bytes}
use Rattle.def_tree.specs.Range.{IsKey}
use Rattle.def_tree.specs.InRange.{IsInRange}
use Rattle.def_tree.specs.Tree.{Tree}
use Rattle.def_text.specs.declared.TextFault.{TextFault}
use Rattle.def_text.specs.Refusal.{TextReads, TextRefusal}
use Rattle.def_text.proofs.Complete.{one_tree}
use Rattle.def_text.proofs.OneAnswer.{none_beside_tree}
use Rattle.def_assets.specs.Assets.{Assets, AreAssets}
use Rattle.def_files.specs.AssetFile.{is_signature}
use Rattle.def_sane.specs.TheLimits.{the_limits}
use Rattle.def_sane.specs.declared.Rules.TheVariants.{Policy, Consensus}
use Rattle.def_sane.specs.Unfit.{IsSane, IsSaneUnder, IsValidUnder}
use Rattle.def_sane.proofs.Meanings.{sane_under_consensus}
use Rattle.def_satisfaction.specs.Satisfaction.{Sat}
use Rattle.def_choice.specs.Cheapest.{cheapest}
use Rattle.def_choice.specs.Strict.{strict}
use Rattle.def_choice.proofs.Chosen.{strict_is_canonical}
use Rattle.def_answer.specs.Generated.{threshold_of, generated_key, generated_sig, generated_preimage, generated_assets, child_text, children_text, generated_text, generated_tree}
use Rattle.def_answer.specs.Gen.{gen_report, strict_line, cheapest_line, children_line}
use Rattle.def_answer.specs.Lines.{limits_line}
use Rattle.def_answer.specs.Satisfy.{outcome_with}
use Rattle.ms_answer_laws.proofs.GeneratedRead.{generated_is_read}
use Rattle.ms_answer_laws.proofs.GeneratedHeld.{generated_are_assets}
use Rattle.ms_answer_laws.proofs.GeneratedSane.{generated_is_sane}
use Rattle.ms_answer_laws.proofs.GeneratedChosen.{generated_is_satisfied}
use Rattle.ms_held.specs.Adding.{sig_stop, Answers}
use Rattle.ms_held.specs.declared.assets.AddStop.{AddStop}
use Rattle.def_script.specs.Witness.{weight}
use Rattle.ms_row_laws.proofs.WithinLimits.{light_stack}

-- ---- the assets, one child after the other

abbrev pair_of : ℕ → Bytes × Bytes
pair_of i = (generated_key i, generated_sig i)

-- each key is one, and each signature passes
pub is_key : (i : ℕ) → i < 30 → IsKey (generated_key i)
is_key i h =
    let held = generated_are_assets (i + 1) (omega arith) in
    let there : i < length (map pair_of (range_with_len 0 (i + 1))) =
    let size = length-map-range_with_len pair_of 0 (i + 1) in omega arith in
    subst (λ pair. IsKey pair.0) (get_or-map-range_with_len pair_of 0 (i + 1) i i (pair_of i) (omega arith) (omega arith)) (held.keys i (pair_of i) there)

sig_passes : (i : ℕ) → is_signature (generated_sig i) ≡ true
sig_passes i =
    let size = length-replicate (70 + i % 4) i in
    let some = le-leb 1 (length (generated_sig i)) (omega arith) in
    let few = le-leb (length (generated_sig i)) 73 (omega arith) in
    rw (some, few) refl

-- a later key isn't an earlier one
other_key : (i j : ℕ) → j < i → bytes_eq (generated_key i) (generated_key j) ≡ false
other_key i j h = false_from_ne_true (bytes_eq (generated_key i) (generated_key j)) (λ same.
    let e = (bytes_eq-Decides (generated_key i) (generated_key j)).0 same in
    let n : i + 1 ≡ j + 1 = ap (λ (key : Bytes). slice_index key 1) e in
    omega arith)

new_key : (i a n : ℕ) → a + n ≤ i → list_any (λ (pair : Bytes × Bytes). bytes_eq (generated_key i) pair.0) (map pair_of (range_with_len a n)) ≡ false
new_key i a zero h = refl
new_key i a (suc n) h = rw (other_key i a (omega arith), new_key i (a + 1) n (omega arith)) refl

-- nothing is against the next signature, or the next preimage
no_sig_stop : (i : ℕ) → i < 30 → sig_stop (generated_assets i) (generated_key i) (generated_sig i) ≡ None
no_sig_stop i h =
    let size = length-map-range_with_len pair_of 0 i in
    let room = lt-leb 256 (length (map pair_of (range_with_len 0 i))) (omega arith) in
    rw (sig_passes i, room, new_key i 0 i (omega arith)) refl

pub sig_added : (assets : Assets) (i : ℕ) (key sig : Bytes) (r : Result ⊤ AddStop) → i < 30 → assets ≡ generated_assets i → key ≡ generated_key i
    → sig ≡ generated_sig i → Answers (sig_stop assets key sig) r → Answers None r
sig_added assets i key sig r h held is_key is_sig answer =
    let none : sig_stop assets key sig ≡ None = rw (held, is_key, is_sig) (no_sig_stop i h) in
    subst (λ stop. Answers stop r) none answer

-- with the signature and the preimage of a child more
pub child_added : {E : Type 0} (i : ℕ) (first second third : Assets) (key sig preimage : Bytes) (p q : Result ⊤ AddStop) (r : Result ⊤ E)
    → first ≡ generated_assets i → key ≡ generated_key i → sig ≡ generated_sig i → preimage ≡ generated_preimage i
    → OnOk p (second ≡ record first { pairs = first.pairs ++ (key, sig) ∷ [] }) → p ≡ Ok tt
    → OnOk q (third ≡ record second { preimages = second.preimages ++ preimage ∷ [] }) → OnOk r (q ≡ Ok tt)
    → OnOk r (third ≡ generated_assets (i + 1))
child_added i first second third key sig preimage p q (Err e) held is_key is_sig is_preimage signed p_ok known q_ok = tt
child_added i first second third key sig preimage p q (Ok x) held is_key is_sig is_preimage signed p_ok known q_ok =
    let signed : second ≡ record first { pairs = first.pairs ++ (key, sig) ∷ [] } =
    subst (λ (o : Result ⊤ AddStop). OnOk o (second ≡ record first { pairs = first.pairs ++ (key, sig) ∷ [] })) p_ok signed in
    let known : third ≡ record second { preimages = second.preimages ++ preimage ∷ [] } =
    subst (λ (o : Result ⊤ AddStop). OnOk o (third ≡ record second { preimages = second.preimages ++ preimage ∷ [] })) q_ok known in
    let pairs = map-range_with_len_more pair_of 0 i i (omega arith) in
    let preimages = map-range_with_len_more generated_preimage 0 i i (omega arith) in
    rw (known, signed, held, is_key, is_sig, is_preimage, pairs, preimages) refl

-- ---- the text, one child after the other

children_step : (n i : ℕ) → i < n → children_text (n - i) i ≡ codes "," ++ child_text i ++ children_text (n - (i + 1)) (i + 1)
children_step n i h = let e : n - i ≡ suc (n - (i + 1)) = omega arith in ap (λ m. children_text m i) e

pub one_more_child : (before with_comma after child all : Bytes) (n i : ℕ) → i < n → with_comma ≡ before ++ codes "," → after ≡ with_comma ++ child
    → child ≡ child_text i → before ++ children_text (n - i) i ≡ all → after ++ children_text (n - (i + 1)) (i + 1) ≡ all
one_more_child before with_comma after child all n i h comma adds is e =
    rw (adds, comma, is) (simp append_assoc (rw (children_step n i h) at e))

-- ---- the tree

pub is_generated : (n : ℕ) (text : Bytes) (tree : Tree) (offsets : List ℕ) → 1 ≤ n → n ≤ 30 → text ≡ generated_text n → TextReads text tree offsets
    → tree ≡ generated_tree n
is_generated n text tree offsets some few is reads =
    let own = generated_is_read n some few in
    let same : TextReads (generated_text n) tree offsets = subst (λ t. TextReads t tree offsets) is reads in
    (one_tree same.spelled own.1.spelled).0

-- the text isn't refused
pub no_refusal : (n : ℕ) (text : Bytes) (e : TextFault) → 1 ≤ n → n ≤ 30 → text ≡ generated_text n → IsUtf8 text → TextRefusal text e → ⊥
no_refusal n text e some few is utf8 refused =
    let own = generated_is_read n some few in
    none_beside_tree text (generated_tree n) own.0 e utf8 (subst (λ t. TextReads t (generated_tree n) own.0) (sym is) own.1) refused

-- ---- both satisfactions

pub generated_sane : (n : ℕ) (tree : Tree) → 1 ≤ n → n ≤ 30 → tree ≡ generated_tree n → IsSaneUnder Consensus tree
generated_sane n tree some few is = sane_under_consensus Policy tree (subst IsSane (sym is) (generated_is_sane n some few))

-- the tree has both
pub both_found : (n : ℕ) (tree : Tree) (assets : Assets) → 1 ≤ n → n ≤ 30 → tree ≡ generated_tree n → assets ≡ generated_assets n
    → IsSome (cheapest tree assets) × IsSome (strict tree assets)
both_found n tree assets some few is_tree are_assets = rw (is_tree, are_assets) (generated_is_satisfied n some few)

-- the strict one is canonical
pub strict_sat : (tree : Tree) (assets : Assets) (answer : Option (List Bytes)) (stack : List Bytes) → IsInRange tree → AreAssets assets
    → answer ≡ strict tree assets → answer ≡ Some stack → Sat tree assets stack
strict_sat tree assets answer stack in_range held is some = strict_is_canonical tree assets stack in_range.writable held (sym is ∙ some)

-- the weight of a satisfaction is small
pub light : (tree : Tree) (assets : Assets) (stack : List Bytes) → IsInRange tree → IsValidUnder Consensus tree → AreAssets assets → Sat tree assets stack
    → weight stack ≤ 2 ^ 40
light tree assets stack in_range valid held sat = light_stack tree assets stack in_range.writable valid held sat

pub found : (choice answer : Option (List Bytes)) (stack : List Bytes) → answer ≡ choice → answer ≡ Some stack → unwrap_or choice [] ≡ stack
found choice answer stack is some = ap (λ o. unwrap_or o []) (sym is ∙ some)

-- the lines of the report, one after the other
pub gen_lines : (n : ℕ) (tree : Tree) (assets : Assets) (children limits strict_text cheapest_text first second all : Bytes)
    → tree ≡ generated_tree n → assets ≡ generated_assets n → children ≡ children_line n (threshold_of n) → limits ≡ limits_line (the_limits tree)
    → strict_text ≡ strict_line (unwrap_or (strict tree assets) []) (outcome_with tree assets (unwrap_or (strict tree assets) []))
    → cheapest_text ≡ cheapest_line (unwrap_or (cheapest tree assets) [])
    → first ≡ children ++ limits → second ≡ first ++ strict_text → all ≡ second ++ cheapest_text
    → all ≡ gen_report n (unwrap_or (strict (generated_tree n) (generated_assets n)) []) (unwrap_or (cheapest (generated_tree n) (generated_assets n)) [])
unfolding gen_report
gen_lines n tree assets children limits strict_text cheapest_text first second all is_tree are_assets is_children are_limits is_strict is_cheapest e1 e2 e3 =
    rw (e3, e2, e1, is_children, are_limits, is_strict, is_cheapest, is_tree, are_assets) refl
