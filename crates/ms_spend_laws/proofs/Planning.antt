-- What is promised of the plan of an input.
use Rattle.std.proofs.Common.{◌≡◌, ℕ, ◌≤◌, false, IsSome, List, [], ◌∷◌, length, map, reverse, Contains, Option, Some, None, inl, inr, refl, sym, ap, subst, ◌∙◌, arith}
use Rattle.std.specs.List.{AllByRecursion, IsDistinct}
use Rattle.std.specs.Option.{option_map}
use Rattle.std.specs.Str.{bytes_eq}
use Rattle.std.proofs.lemmas.Bool.{false≢true, cases_Bool, false_from_ne_true}
use Rattle.std.proofs.lemmas.Option.{none-some}
use Rattle.std.proofs.lemmas.List.{length-map, reverse-reverse}
use Rattle.std.proofs.lemmas.List.Elements.{All-map, All-weaker, All-contains, Contains-append_right}
use Rattle.std.proofs.lemmas.Slice.Eq.{bytes_eq-Decides}
use Rattle.def_script.specs.Bytes.{Bytes}
use Rattle.def_script.specs.Signature.{MAX_SIGNATURE_SIZE}
use Rattle.def_script.specs.Witness.{weight}
use Rattle.def_machine.specs.Stacks.{Stack}
use Rattle.def_tree.specs.Tree.{Key, Tree}
use Rattle.def_tree.specs.Range.{IsKey, IsWritable}
use Rattle.def_emit.specs.Emit.{script_of}
use Rattle.def_assets.specs.Assets.{Assets, IsSignature, AreAssets, sig_of}
use Rattle.def_sane.specs.Keys.{keys, AreDistinct}
use Rattle.def_sane.specs.Unfit.{IsSane, IsSaneUnder}
use Rattle.def_sane.specs.declared.Rules.TheVariants.{Policy, Consensus}
use Rattle.def_sane.proofs.Meanings.{sane_means, valid_means, sane_under_consensus}
use Rattle.def_satisfaction.specs.Satisfaction.{Sat}
use Rattle.def_satisfaction.proofs.Held.{held_is_good}
use Rattle.def_choice.specs.Strict.{strict, strict_of}
use Rattle.def_choice.specs.Tight.{TightSat, Tight}
use Rattle.ms_strict_laws.proofs.StrictChoiceExists.{lightest_of_tight, tight_of_canonical}
use Rattle.def_plan.specs.Lengths.{Lengths, AreLengths, length_of, IsLike, estimated}
use Rattle.def_plan.specs.Laws.{IsInput}
use Rattle.def_plan.specs.Plan.{plan_of}
use Rattle.def_plan.specs.Taken.{taken}
use Rattle.ms_plan_laws.proofs.Enough.{taken_enough}
use Rattle.ms_plan_laws.proofs.Found.{some_or_none, held_of, length_is, like_with, like_both, estimate_exists}
use Rattle.ms_plan_laws.proofs.Moved.{with_pairs}
use Rattle.ms_plan_laws.proofs.Order.{first_or_other, taken_in}
use Rattle.def_spend.specs.Asking.{length_by, lengths_of, plan_with}
use Rattle.ms_spend_laws.proofs.KeyCount.{written_keys, keys_take_room}

-- ---- the lengths of the signatures of all keys

length_some : (assets : Assets) (key : Key) (o : Option Bytes) → AreAssets assets → sig_of assets key ≡ o → (1 ≤ length_by o) × (length_by o ≤ MAX_SIGNATURE_SIZE)
length_some assets key None are e = (omega arith, omega arith)
length_some assets key (Some sig) are e =
    let s : IsSignature sig = All-contains (λ pair. IsSignature pair.1) assets.pairs (key, sig) are.signatures (held_of assets key sig e) in
    (s.some, s.few)

-- keys with lengths of their own
abbrev with_lengths : (size : Key → ℕ) → List Key → Lengths
with_lengths size ks = map (λ key. (key, size key)) ks

their_keys : (size : Key → ℕ) (ks : List Key) → map (λ entry. entry.0) (with_lengths size ks) ≡ ks
their_keys size [] = refl
their_keys size (key ∷ ks) = ap (λ rest. key ∷ rest) (their_keys size ks)

others_differ : (key : Key) (ks : List Key) → ¬ Contains ks key → AllByRecursion (λ other. bytes_eq key other ≡ false) ks
others_differ key [] h = tt
others_differ key (other ∷ ks) h = (
  false_from_ne_true _ (λ e. h (0, omega arith, sym ((bytes_eq-Decides key other).0 e))),
  others_differ key ks (λ i. h (Contains-append_right (other ∷ []) ks key i)),
)

distinct : (ks : List Key) → AreDistinct ks → IsDistinct bytes_eq ks
unfolding IsDistinct
distinct [] h = tt
distinct (key ∷ ks) h = (others_differ key ks h.0, distinct ks h.1)

pub listed : (size : Key → ℕ) (ks : List Key) (key : Key) → Contains ks key → length_of (with_lengths size ks) key ≡ Some (size key)
listed size [] key i = absurd (let low = i.1 in omega (arith, low))
listed size (first ∷ ks) key i = elim (cases_Bool (bytes_eq first key)) [
  | inl e ↦ rw e (ap (λ k. Some (size k)) ((bytes_eq-Decides first key).0 e))
  | inr e ↦ elim (first_or_other first ks key i) [
    | inl same ↦ absurd (false≢true (sym e ∙ (bytes_eq-Decides first key).1 (sym same)))
    | inr other ↦ rw e (listed size ks key other)
  ]
]

-- they are lengths of signatures
pub are_lengths : (tree : Tree) (assets : Assets) → IsWritable tree → IsSane tree → AreAssets assets → AreLengths (lengths_of tree assets)
are_lengths tree assets writable sane are =
    let means = (sane_means tree).0 sane in
    let valid = (valid_means tree).0 means.0 in
    let room = keys_take_room tree writable in
    let bound : length (script_of tree) ≤ 3600 = valid.2 in
    let few : length (keys tree) ≤ 171 = omega (arith, room, bound) in
    let all = written_keys tree writable in
    record {
      few = omega (arith, length-map {B = Key × ℕ} (keys tree) (λ key. (key, length_by (sig_of assets key))), few);
      keys = All-map (λ entry. IsKey entry.0) (λ key. (key, length_by (sig_of assets key))) (keys tree) all;
      distinct = subst (IsDistinct bytes_eq) (sym (their_keys (λ key. length_by (sig_of assets key)) (keys tree))) (distinct (keys tree) means.4);
      some = All-map (λ entry. 1 ≤ entry.1) (λ key. (key, length_by (sig_of assets key))) (keys tree)
          (All-weaker IsKey (λ key. 1 ≤ length_by (sig_of assets key)) (λ key is. (length_some assets key (sig_of assets key) are refl).0) (keys tree) all);
      short = All-map (λ entry. entry.1 ≤ MAX_SIGNATURE_SIZE) (λ key. (key, length_by (sig_of assets key))) (keys tree)
          (All-weaker IsKey (λ key. length_by (sig_of assets key) ≤ MAX_SIGNATURE_SIZE) (λ key is. (length_some assets key (sig_of assets key) are refl).1) (keys tree) all);
    }

-- so the plan has what plans are promised for
pub is_input : (tree : Tree) (assets : Assets) → IsWritable tree → IsSane tree → AreAssets assets → IsInput tree assets (lengths_of tree assets)
is_input tree assets writable sane are = record { writable = writable; sane = sane; held = are; lengths = are_lengths tree assets writable sane are }

-- ---- where there is no plan

pub reversed_some : (o : Option Stack) (stack : List Bytes) → option_map reverse o ≡ Some stack → (w : Stack) × (o ≡ Some w)
reversed_some None stack e = absurd (none-some stack e)
reversed_some (Some w) stack e = (w, refl)

not_planned : (tree : Tree) (assets : Assets) (table : Lengths) (stack : List Bytes) → plan_of tree assets table ≡ None → strict tree (estimated assets table) ≡ Some stack → ⊥
not_planned tree assets table stack none e =
    none-some _ (sym none ∙ ap (option_map (λ (s : List Bytes). record { keys = taken (estimated assets table) tree; weight = weight s })) e)

pub no_plan : (tree : Tree) (assets : Assets) → IsInput tree assets (lengths_of tree assets) → plan_with tree assets ≡ None → (other : Assets) (stack : List Bytes)
    → AreAssets other → IsLike assets other → ¬ Sat tree other stack
no_plan tree assets input none other stack are like sat =
    let table : Lengths = lengths_of tree assets in
    let found : Assets = estimated assets table in
    let exists = estimate_exists assets table input.held input.lengths in
    let sane : IsSaneUnder Consensus tree = sane_under_consensus Policy tree input.sane in
    let t = tight_of_canonical tree other stack input.writable sane are sat in
    let s = lightest_of_tight tree other t.0 input.writable sane are t.1 in
    let w = reversed_some (strict_of other tree) s.0 s.1 in
    let x = taken_enough ⊥ other found.pairs are tree input.writable
    (λ key i sig h.
    let n = listed (λ k. length_by (sig_of assets k)) (keys tree) key (taken_in other tree key i) in
    let g = some_or_none (sig_of found key) (some_length (sig_of found key) _ (sym (length_is assets table input.lengths found exists.0 key) ∙ n)) in
    (g.0, held_is_good found exists.1 key g.0 g.1, λ never. absurd never)) w.0 w.1 in
    let tight : Tight tree found (reverse x.0) =
    subst (λ a. TightSat a tree (reverse (reverse x.0))) (sym (like_with other found (like_both assets other found like exists.0.like)))
    (subst (TightSat (with_pairs other found.pairs) tree) (sym (reverse-reverse x.0)) x.1) in
    let chosen = lightest_of_tight tree found (reverse x.0) input.writable sane exists.1 tight in
    not_planned tree assets table chosen.0 none chosen.1
  where
    some_length : (o : Option Bytes) (n : ℕ) → option_map length o ≡ Some n → IsSome o
    some_length None n e = absurd (none-some n e)
    some_length (Some g) n e = refl
