-- The examples of satisfactions without signatures, of tight ones, and of a larger table.
use Rattle.def_choice.proofs.examples.tightness.Goals as goal
use Rattle.std.proofs.Common.{◌≡◌, ◌&&◌, not, [], ◌∷◌, ◌++◌, length, replicate, zero, suc, ℕ, refl, sym, ◌∙◌, ap, inl, inr, IsTrue, arith}
use Rattle.std.specs.Str.{bytes_eq}
use Rattle.std.proofs.lemmas.Bool.{false≢true}
use Rattle.std.proofs.lemmas.List.Elements.{All-from_recursion}
use Rattle.std.proofs.lemmas.Option.{none-some}
use Rattle.def_script.specs.Bytes.{Bytes, IsBytes}
use Rattle.def_machine.specs.Stacks.{Stack, member, is_empty}
use Rattle.def_machine.specs.Samples.{key_a, key_b, sig_a, sig_b}
use Rattle.def_hash.specs.declared.HashKind.TheVariants.{Sha256}
use Rattle.def_tree.specs.Tree.{older}
use Rattle.def_types.specs.Samples.{pk, sha256, a, or_d, trees}
use Rattle.def_assets.specs.Assets.{Assets}
use Rattle.def_satisfaction.specs.StackSet.{Is, Both}
use Rattle.def_satisfaction.specs.Rows.{EMPTY, ONE, ZEROS, IsNoPreimageOf}
use Rattle.def_satisfaction.specs.Satisfaction.{Sat}
use Rattle.def_satisfaction.specs.Samples.{pair_a, pair_b, preimage_1, hash_1, with_sequence}
use Rattle.def_satisfaction.proofs.Computing.{computing}
use Rattle.def_satisfaction.proofs.EqualParts.{first_same, never_empty}
use Rattle.def_satisfaction.proofs.Forms.{bytes, never_both, one_of_both}
use Rattle.def_choice.specs.NonMalleable.{IsTableOfBytes}
use Rattle.def_choice.specs.Tight.{HasOne, free_row, signed_row, TightParts, Tight}
use Rattle.def_choice.specs.TightExamples.{with_preimage, without_preimage, key_or_hash, one_of_two, either_key, larger}

-- the key has no satisfaction without a signature
key_needs_one : (assets : Assets) → HasOne (free_row assets (pk key_a)).sat → ⊥
key_needs_one assets h = never_both (not (is_empty h.1.0)) h.1.1

begins_otherwise : (x y : Bytes) (xs below above : Stack) → (x ≡ y → ⊥) → above ≡ y ∷ [] → x ∷ xs ≡ above ++ below → ⊥
begins_otherwise x y xs below above differ e h = differ (first_same x y xs below (h ∙ ap (λ items. items ++ below) e))

-- 32 zero bytes don't hash to the value
zeros_miss : IsNoPreimageOf Sha256 hash_1 ZEROS
unfolding computing
zeros_miss = (refl, λ h. let e : 0x66 ≡ 0x02 = first_same _ _ _ _ h in omega (arith, e))

-- the preimage satisfies the hash without a signature
hash_free : (free_row with_preimage (sha256 hash_1)).sat (preimage_1 ∷ [])
unfolding computing
hash_free = (preimage_1, ((refl, refl), refl), refl)

hash_tight : (signed_row with_preimage (sha256 hash_1)).sat (preimage_1 ∷ [])
unfolding computing
hash_tight = (preimage_1, ((refl, refl), refl), refl)

no_preimage : HasOne (free_row without_preimage (sha256 hash_1)).sat → ⊥
no_preimage h = none-some h.1.0 h.1.1.1

free_branch : (free_row with_preimage key_or_hash).sat (EMPTY ∷ preimage_1 ∷ [])
free_branch = inr (_, _, hash_free, refl, refl)

no_free_branch : (w : Stack) → (free_row without_preimage key_or_hash).sat w → ⊥
no_free_branch w (inl h) = key_needs_one without_preimage (h.0, h.2)
no_free_branch w (inr h) = no_preimage (h.0, h.2)

signature_of_a : (assets : Assets) → IsTrue (member assets.pairs key_a sig_a) → (signed_row assets (pk key_a)).sat (sig_a ∷ [])
signature_of_a assets held = (sig_a, held, refl)

pub returns-clause-hash_needs_none : goal.returns-clause-hash_needs_none
returns-clause-hash_needs_none c = ((preimage_1 ∷ EMPTY ∷ [], free_branch), λ h. no_free_branch _ h.1)

pub returns-clause-lock_needs_none : goal.returns-clause-lock_needs_none
unfolding computing
returns-clause-lock_needs_none c = ((EMPTY ∷ [], inr (_, _, (refl, refl), refl, refl)), λ h. go _ h.1)
  where
    go : (w : Stack) → (free_row (with_sequence 143 (pair_a ∷ [])) (or_d (pk key_a) (older 144))).sat w → ⊥
    go w (inl h) = key_needs_one (with_sequence 143 (pair_a ∷ [])) (w, h)
    go w (inr h) = false≢true h.2.0

pub returns-clause-branches : goal.returns-clause-branches
returns-clause-branches c = record {
  preimage = inr ((_, _, hash_tight, refl, refl), λ one. free_branch_only);
  canonical = inl (_, _, signature_of_a with_preimage refl, refl, refl);
  signature = go;
  alone = inl ((_, _, signature_of_a without_preimage refl, refl, refl), λ one. absurd (no_free_branch one.0 one.1));
}
  where
    free_branch_only : Both (free_row with_preimage (sha256 hash_1)).sat (Is EMPTY) (EMPTY ∷ preimage_1 ∷ [])
    free_branch_only = (_, _, hash_free, refl, refl)

    go : Tight key_or_hash with_preimage (sig_a ∷ ONE ∷ []) → ⊥
    go (inl h) = let free = h.1 (_, free_branch) in key_needs_one with_preimage (free.0, free.2)
    go (inr h) = let o = h.0 in begins_otherwise ONE EMPTY (sig_a ∷ []) o.0 o.1 (λ e. never_empty 1 [] (sym e)) o.3 o.4

pub returns-clause-children : goal.returns-clause-children
returns-clause-children c = record {
  preimage =
      inr (
        _,
        _,
        inl (0, refl, (_, _, (refl, refl), (hash_tight, λ one. hash_free), refl)),
        (key_needs_one with_preimage, refl),
        refl,
      );
  canonical = inl (0, refl, (_, _, inr (_, _, (refl, refl), inl (zeros_miss, refl), refl), signature_of_a with_preimage refl, refl));
  signature = go;
  alone =
      inl (
        0,
        refl,
        (
          _,
          _,
          inr (_, _, (refl, refl), (no_preimage, inl (zeros_miss, refl)), refl),
          (signature_of_a without_preimage refl, λ one. absurd (key_needs_one without_preimage one)),
          refl,
        ),
      );
}
  where
    hash_left : (n : ℕ) (w : Stack) → 1 ≡ suc n → TightParts with_preimage (trees (a (sha256 hash_1) ∷ [])) n w → ⊥
    hash_left zero w e (inl h) = absurd (let i = h.1 in omega (arith, i))
    hash_left zero w e (inr h) = h.3.0 (_, hash_free)
    hash_left (suc n) w e h = absurd (omega (arith, e))

    go : Tight one_of_two with_preimage (ZEROS ∷ sig_a ∷ []) → ⊥
    go (inl h) = hash_left h.0 h.2.0 h.1 h.2.2
    go (inr h) = begins_otherwise sig_a EMPTY (ZEROS ∷ []) h.0 h.1 (λ e. never_empty 0xaa (replicate 70 0xaa) (sym e)) h.3.1 h.4

larger_of_bytes : IsTableOfBytes larger
unfolding computing
larger_of_bytes =
    All-from_recursion (λ pair. IsBytes pair.0 × IsBytes pair.1) (pair_a ∷ pair_b ∷ [])
    ((bytes key_a refl, bytes sig_a refl), ((bytes key_b refl, bytes sig_b refl), tt))

pub returns-clause-other_signs : goal.returns-clause-other_signs
unfolding computing
returns-clause-other_signs c = record {
  bytes = larger_of_bytes;
  holds = λ key sig h. one_of_both (bytes_eq key_a key && bytes_eq sig_a sig) (member (pair_b ∷ []) key sig) h;
  chosen = (refl, refl);
  accepted = record { ops = 5; peak = 2; run = refl };
  other = record { ops = 5; peak = 3; run = refl };
  new = (key_b, sig_b, refl, false≢true);
  known = λ fresh. fresh.1 (inr (_, _, (sig_b, refl, refl), refl, refl));
  not_held = go;
}
  where
    too_many : (item : Bytes) → EMPTY ∷ sig_b ∷ [] ≡ item ∷ [] → ⊥
    too_many item h = let e : 2 ≡ 1 = ap length h in omega (arith, e)

    go : Sat either_key without_preimage (sig_b ∷ EMPTY ∷ []) → ⊥
    go (inl h) = too_many h.0 h.2
    go (inr h) = let one = h.2 in never_both (not (is_empty one.0)) one.1
