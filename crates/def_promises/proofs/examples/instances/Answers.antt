-- The examples: what the promises presuppose is met.
use Rattle.def_promises.proofs.examples.instances.Goals as goal
use Rattle.std.proofs.Common.{◌≡◌, ◌≢◌, ℕ, zero, suc, ◌&&◌, ◌||◌, not, Bool, true, false, replicate, List, [], ◌∷◌, length, refl, sym, ◌∙◌, ap, subst, ◌⊎◌, inl, inr, IsTrue, All, arith}
use Rattle.std.specs.List.{IsDistinct}
use Rattle.std.specs.Str.{bytes_eq}
use Rattle.std.proofs.lemmas.List.Elements.{All-nil, All-from_recursion}
use Rattle.std.proofs.lemmas.Option.{none-some}
use Rattle.std.proofs.lemmas.Bool.{false≢true, and_parts}
use Rattle.std.proofs.lemmas.Slice.Eq.{bytes_eq-Decides}
use Rattle.def_script.specs.Bytes.{Bytes, IsBytes}
use Rattle.def_machine.specs.Samples.{key_a, key_b, sig_a, sig_b}
use Rattle.def_machine.specs.Stacks.{Stack, Pairs, member, is_empty}
use Rattle.def_types.specs.Typed.{IsTyped}
use Rattle.def_types.proofs.Rows.{correctness_rows, malleability_rows}
use Rattle.def_machine.specs.Run.{run, accepted}
use Rattle.def_tree.specs.Tree.{Tree, hash}
use Rattle.def_tree.specs.Range.{IsKey, IsWritable}
use Rattle.def_types.specs.Samples.{pk, or_i, sha256 as sha256_of}
use Rattle.def_emit.specs.Emit.{script_of}
use Rattle.def_assets.specs.Assets.{Assets, AreAssets, IsSignature, IsPreimage, known}
use Rattle.def_limits.proofs.Greatest.{limits_are_computed, limits_exist}
use Rattle.def_sane.specs.declared.Rules.TheVariants.{Consensus}
use Rattle.def_sane.specs.TheLimits.{the_limits}
use Rattle.def_sane.proofs.Meanings.{valid_means_under}
use Rattle.def_height.proofs.Found.{as_computed}
use Rattle.def_satisfaction.specs.Rows.{EMPTY, IsNoPreimageOf, row}
use Rattle.def_satisfaction.specs.Setting.{any, only}
use Rattle.def_satisfaction.specs.Satisfaction.{given_of, Sat, FullSat, full}
use Rattle.def_satisfaction.specs.Samples.{pair_a, pair_b, preimage_1, preimage_2, preimage_3, hash_1, hash_2, hash_3, after_two_hashes, key_and_key_or_hashes, keys_and_preimages}
use Rattle.def_satisfaction.proofs.Computing.{computing}
use Rattle.def_satisfaction.proofs.Computed.{right_branch, left_branch}
use Rattle.def_satisfaction.proofs.Canonical.{sat_is_full_sat, only_is_any}
use Rattle.def_satisfaction.proofs.OfBytes.{sat_is_of_bytes}
use Rattle.def_choice.specs.NonMalleable.{IsAccepted, HasNewPair, Fresh, IsTableOfBytes, given_with}
use Rattle.def_promises.specs.Examples.{by_key, by_preimages, longest_key_a, only_key_b, chain}
use Rattle.def_promises.specs.Reached.{HasLongest}
use Rattle.def_satisfaction.proofs.EqualParts.{first_same}
use Rattle.def_satisfaction.proofs.Forms.{bytes, never_both, one_of_both, key_form, digest_form, signature_form, preimage_form}

key_a_form : IsKey key_a
key_a_form = key_form key_a refl refl

key_b_form : IsKey key_b
unfolding computing
key_b_form = key_form key_b refl refl

writable : IsWritable key_and_key_or_hashes
unfolding computing
writable = (
  key_b_form,
  (
    key_a_form,
    (digest_form _ hash_1 refl refl, (digest_form _ hash_2 refl refl, digest_form _ hash_3 refl refl)),
  ),
)

signature_a : IsSignature sig_a
signature_a = signature_form sig_a refl refl refl

signature_b : IsSignature sig_b
signature_b = signature_form sig_b refl refl refl

assets_form : AreAssets keys_and_preimages
unfolding computing IsDistinct
assets_form = record {
  keys = All-from_recursion (λ pair. IsKey pair.0) (pair_a ∷ pair_b ∷ []) (key_a_form, (key_b_form, tt));
  signatures = All-from_recursion (λ pair. IsSignature pair.1) (pair_a ∷ pair_b ∷ []) (signature_a, (signature_b, tt));
  distinct = ((refl, tt), (tt, tt));
  preimages =
      All-from_recursion IsPreimage (preimage_1 ∷ preimage_2 ∷ preimage_3 ∷ [])
      (preimage_form preimage_1 refl refl, (preimage_form preimage_2 refl refl, (preimage_form preimage_3 refl refl, tt)));
  version = omega arith;
  sequence = omega arith;
  locktime = omega arith;
}

-- a canonical satisfaction among all satisfactions
full_only : (tree : Tree) (assets : Assets) (stack : List Bytes) → Sat tree assets stack → FullSat tree (given_of assets) (only (known assets)) stack
full_only tree assets stack sat = sat_is_full_sat tree assets (member assets.pairs) stack (λ key sig h. h) sat

full_any : (tree : Tree) (assets : Assets) (stack : List Bytes) → Sat tree assets stack → FullSat tree (given_of assets) any stack
full_any tree assets stack sat = (only_is_any tree (given_of assets) (known assets) stack).0 (full_only tree assets stack sat)

run_by_preimages : run (given_of keys_and_preimages) (script_of key_and_key_or_hashes) by_preimages ≡ accepted 17 6 (pair_b ∷ [])
unfolding computing
run_by_preimages = refl

run_by_key : run (given_of keys_and_preimages) (script_of key_and_key_or_hashes) by_key ≡ accepted 17 4 (pair_b ∷ pair_a ∷ [])
unfolding computing
run_by_key = refl

has_type : IsTyped key_and_key_or_hashes
unfolding the_limits limits_exist computing correctness_rows malleability_rows
has_type = let means = (valid_means_under Consensus key_and_key_or_hashes).0 refl in means.0

pub returns-clause-acceptance : goal.returns-clause-acceptance
unfolding the_limits limits_exist computing correctness_rows malleability_rows
returns-clause-acceptance c =
    let r = right_branch in
    record {
      writable = writable;
      valid = refl;
      are_limits = limits_are_computed key_and_key_or_hashes;
      assets = assets_form;
      holds = λ key sig h. h;
      sat = r.sat;
      full = full_any key_and_key_or_hashes keys_and_preimages by_preimages r.sat;
      accepted = record {
        ops = 17;
        peak = 6;
        checks = pair_b ∷ [];
        run = run_by_preimages;
        few_ops = omega arith;
        few_items = omega arith;
        light = omega arith;
        low = λ height is. let e : height ≡ 6 = as_computed key_and_key_or_hashes height has_type is in omega (arith, e);
      };
    }

by_key_differs : by_key ≢ by_preimages
by_key_differs h =
    let e : 71 ≡ 32 = ap length (first_same sig_a preimage_3 _ _ h) in
    omega (arith, e)

accepted_by_key : IsAccepted key_and_key_or_hashes (given_of keys_and_preimages) by_key (pair_b ∷ pair_a ∷ [])
accepted_by_key = record { ops = 17; peak = 4; run = run_by_key }

accepted_by_preimages : IsAccepted key_and_key_or_hashes (given_of keys_and_preimages) by_preimages (pair_b ∷ [])
accepted_by_preimages = record { ops = 17; peak = 6; run = run_by_preimages }

pub returns-clause-strict : goal.returns-clause-strict
unfolding the_limits limits_exist computing correctness_rows malleability_rows
returns-clause-strict c = record {
  sane = refl;
  chosen = refl;
  checks = pair_b ∷ [];
  accepted = accepted_by_preimages;
  others = pair_b ∷ pair_a ∷ [];
  other = accepted_by_key;
  differs = by_key_differs;
  more = (key_a, sig_a, refl, false≢true);
}

checks_same : (ops peak o p : ℕ) (checks those : Pairs) → accepted ops peak checks ≡ accepted o p those → checks ≡ those
checks_same ops peak o p checks those h = cc

-- what the run by the preimages finds good, the run by the key does
no_new_pair : (checks : Pairs) → pair_b ∷ pair_a ∷ [] ≡ checks → HasNewPair (pair_b ∷ []) checks → ⊥
no_new_pair checks same h =
    h.3 (subst (λ c. IsTrue (member c h.0 h.1)) same (one_of_both (bytes_eq key_b h.0 && bytes_eq sig_b h.1) (member (pair_a ∷ []) h.0 h.1) h.2))

table_of_bytes : IsTableOfBytes keys_and_preimages.pairs
table_of_bytes =
    All-from_recursion (λ pair. IsBytes pair.0 × IsBytes pair.1) (pair_a ∷ pair_b ∷ [])
    ((key_a_form.bytes, signature_a.bytes), ((key_b_form.bytes, signature_b.bytes), tt))

by_preimages_bytes : All IsBytes by_preimages
by_preimages_bytes = sat_is_of_bytes key_and_key_or_hashes keys_and_preimages by_preimages writable assets_form right_branch.sat

pub returns-clause-key_can_be_changed : goal.returns-clause-key_can_be_changed
returns-clause-key_can_be_changed c =
    let l = left_branch in (
      l.sat,
      λ n.
          let r = n keys_and_preimages.pairs table_of_bytes (λ key sig h. h) in
          let a = r.1 in
          let same = checks_same 17 4 a.ops a.peak (pair_b ∷ pair_a ∷ []) r.0 (sym run_by_key ∙ a.run) in
          go r.0 same (r.2 by_preimages (pair_b ∷ []) by_preimages_bytes accepted_by_preimages (λ e. by_key_differs (sym e))),
    )
  where
    go : (checks : Pairs) → pair_b ∷ pair_a ∷ [] ≡ checks → HasNewPair (pair_b ∷ []) checks ⊎ Fresh key_and_key_or_hashes keys_and_preimages (member keys_and_preimages.pairs) by_preimages → ⊥
    go checks same (inl h) = no_new_pair checks same h
    go checks same (inr h) = let r = right_branch in h.1 (full_only key_and_key_or_hashes keys_and_preimages by_preimages r.sat)

only_b_form : AreAssets only_key_b
unfolding computing IsDistinct
only_b_form = record {
  keys = All-from_recursion (λ pair. IsKey pair.0) (pair_b ∷ []) (key_b_form, tt);
  signatures = All-from_recursion (λ pair. IsSignature pair.1) (pair_b ∷ []) (signature_b, tt);
  distinct = (tt, tt);
  preimages = All-nil IsPreimage;
  version = omega arith;
  sequence = omega arith;
  locktime = omega arith;
}

-- with the key B alone neither branch is satisfied
no_branch : (stack : Stack) → (row (full (given_with only_key_b (member only_key_b.pairs)) (only (known only_key_b))) (or_i (pk key_a) (after_two_hashes (sha256_of hash_3)))).sat stack → ⊥
unfolding computing
no_branch stack (inl h) = never_both (not (is_empty h.2.0)) h.2.1
no_branch stack (inr h) = let k = h.2.3 in none-some k.0 k.1.1

fresh : Fresh key_and_key_or_hashes only_key_b (member only_key_b.pairs) by_preimages
unfolding computing
fresh = (
  (
    EMPTY ∷ preimage_1 ∷ preimage_2 ∷ preimage_3 ∷ [],
    sig_b ∷ [],
    inr (
      preimage_1 ∷ preimage_2 ∷ preimage_3 ∷ [],
      EMPTY ∷ [],
      (
        preimage_2 ∷ preimage_3 ∷ [],
        preimage_1 ∷ [],
        (preimage_3 ∷ [], preimage_2 ∷ [], (preimage_3, ((refl, refl), tt), refl), (preimage_2, ((refl, refl), tt), refl), refl),
        (preimage_1, ((refl, refl), tt), refl),
        refl,
      ),
      refl,
      refl,
    ),
    (sig_b, refl, refl),
    refl,
  ),
  λ h. no_branch h.0 h.2,
)

pub returns-clause-nothing : goal.returns-clause-nothing
unfolding the_limits limits_exist computing correctness_rows malleability_rows
returns-clause-nothing c = record {
  assets = only_b_form;
  none = refl;
  checks = pair_b ∷ [];
  accepted = record { ops = 17; peak = 6; run = refl };
  fresh = fresh;
}

pub returns-clause-key_has_letters : goal.returns-clause-key_has_letters
unfolding the_limits limits_exist computing correctness_rows malleability_rows
returns-clause-key_has_letters c = (record { writable = key_a_form; valid = refl; among = (1, omega arith, refl); correctness_of = refl; malleability_of = refl }, (sig_a, refl, refl), refl)

pub returns-clause-one_has_letters : goal.returns-clause-one_has_letters
unfolding the_limits limits_exist computing correctness_rows malleability_rows
returns-clause-one_has_letters c = (record { writable = tt; valid = refl; among = (0, omega arith, refl); correctness_of = refl; malleability_of = refl }, refl)

chain_writable : (n : ℕ) → IsWritable (chain n)
chain_writable zero = key_a_form
chain_writable (suc n) = (chain_writable n, tt)

pub returns-clause-deep_has_letters : goal.returns-clause-deep_has_letters
unfolding the_limits limits_exist correctness_rows malleability_rows
returns-clause-deep_has_letters c = record {
  deep = omega arith;
  letters = record { writable = chain_writable 150; valid = refl; among = (451, omega arith, refl); correctness_of = refl; malleability_of = refl };
}

-- the tree, where it is a hash, can be missed
abbrev IsMissed : Tree → Type 0
IsMissed (hash kind value) = (bytes : Bytes) × IsBytes bytes × IsNoPreimageOf kind value bytes
IsMissed other = Unit {0}

preimage_2_bytes : IsBytes preimage_2
preimage_2_bytes = bytes preimage_2 refl

hash_1_missed : IsMissed (sha256_of hash_1)
unfolding computing
hash_1_missed = (preimage_2, preimage_2_bytes, (refl, λ h. let e : 0x9f ≡ 0x02 = first_same _ _ _ _ h in omega (arith, e)))

pub returns-clause-hash_is_missed : goal.returns-clause-hash_is_missed
returns-clause-hash_is_missed c kind value (zero, below, e) = subst IsMissed e hash_1_missed
returns-clause-hash_is_missed c kind value (suc k, below, e) = absurd (omega arith)

pub returns-clause-all : goal.returns-clause-all
unfolding computing
returns-clause-all c = (
  (sig_b, refl),
  (
    (sig_a, refl),
    (
      (preimage_1, refl, (refl, refl), (refl, λ h. let e : 0x66 ≡ 0x02 = first_same _ _ _ _ h in omega (arith, e))),
      (
        (preimage_2, refl, (refl, refl), (refl, λ h. let e : 0x66 ≡ 0x9f = first_same _ _ _ _ h in omega (arith, e))),
        (preimage_3, refl, (refl, refl), (refl, λ h. let e : 0x66 ≡ 0xde = first_same _ _ _ _ h in omega (arith, e))),
      ),
    ),
  ),
)

-- a signature of 73 bytes
signature_long : IsSignature (replicate 73 0xaa)
signature_long = signature_form (replicate 73 0xaa) refl refl refl

longest_form : AreAssets longest_key_a
unfolding computing IsDistinct
longest_form = record {
  keys = All-from_recursion (λ pair. IsKey pair.0) ((key_a, replicate 73 0xaa) ∷ []) (key_a_form, tt);
  signatures = All-from_recursion (λ pair. IsSignature pair.1) ((key_a, replicate 73 0xaa) ∷ []) (signature_long, tt);
  distinct = (tt, tt);
  preimages = All-nil IsPreimage;
  version = omega arith;
  sequence = omega arith;
  locktime = omega arith;
}

or_none : (b : Bool) → (b || false) ≡ true → b ≡ true
or_none true e = refl
or_none false e = e

-- the one signature that is held
only_long : HasLongest longest_key_a
only_long key sig h =
    let held = and_parts (not (is_empty sig)) (member longest_key_a.pairs key sig) h in
    let both = and_parts (bytes_eq key_a key) (bytes_eq (replicate 73 0xaa) sig) (or_none (bytes_eq key_a key && bytes_eq (replicate 73 0xaa) sig) held.1) in
    ap length (sym ((bytes_eq-Decides (replicate 73 0xaa) sig).0 both.1))

pub returns-clause-longest : goal.returns-clause-longest
unfolding the_limits limits_exist computing correctness_rows malleability_rows
returns-clause-longest c = record {
  writable = key_a_form;
  valid = refl;
  assets = longest_form;
  all = (replicate 73 0xaa, refl);
  longest = only_long;
  formal = refl;
}
