-- The examples.
use Rattle.std.proofs.Common.{◌≡◌, true, false, refl, sym, ◌∙◌, ap, inl, inr, ℕ, [], ◌∷◌, ◌++◌, replicate, arith}
use Rattle.std.specs.List.{IsDistinct}
use Rattle.std.proofs.lemmas.List.Elements.{All-nil, All-from_recursion}
use Rattle.std.proofs.lemmas.Option.{none-some}
use Rattle.std.proofs.lemmas.Bool.{false≢true}
use Rattle.def_machine.specs.Samples.{key_a, sig_a, sig_b, sig_c}
use Rattle.def_script.specs.Bytes.{Bytes}
use Rattle.def_machine.specs.Stacks.{Stack}
use Rattle.def_tree.specs.Range.{IsKey}
use Rattle.def_assets.specs.Assets.{AreAssets, IsSignature, IsPreimage}
use Rattle.def_satisfaction.proofs.Computing.{computing}
use Rattle.def_satisfaction.proofs.Forms.{key_form, signature_form}
use Rattle.def_satisfaction.specs.Samples.{preimage_1, preimage_2, preimage_3, pair_a, pair_short_a, with_preimages, key_or_key}
use Rattle.def_satisfaction.specs.Satisfaction.{Sat}
use Rattle.def_satisfaction.specs.Examples.{both_signatures, two_of_one_key, ByPreimages, RightBranch, LeftBranch, ZerosAreNoMiss}

pub by_preimages : ByPreimages
unfolding computing
by_preimages = record {
  sat = inl (
    1,
    refl,
    (
      _,
      _,
      inl (0, refl, (_, _, inr (_, _, (refl, refl), refl, refl), (sig_a, refl, refl), refl)),
      (
        _,
        _,
        (_, _, (_, _, refl, (preimage_3, ((refl, refl), refl), refl), refl), (preimage_2, ((refl, refl), refl), refl), refl),
        (preimage_1, ((refl, refl), refl), refl),
        refl,
      ),
      refl,
    ),
  );
  weight = refl;
  checks = _;
  run = refl;
}

pub right_branch : RightBranch
unfolding computing
right_branch = record {
  sat = (
    _,
    _,
    inr (
      _,
      _,
      (
        _,
        _,
        (_, _, (preimage_3, ((refl, refl), refl), refl), (preimage_2, ((refl, refl), refl), refl), refl),
        (preimage_1, ((refl, refl), refl), refl),
        refl,
      ),
      refl,
      refl,
    ),
    (sig_b, refl, refl),
    refl,
  );
  weight = refl;
  checks = _;
  run = refl;
}

pub left_branch : LeftBranch
unfolding computing
left_branch = record {
  sat = (_, _, inl (_, _, (sig_a, refl, refl), refl, refl), (sig_b, refl, refl), refl);
  weight = refl;
  checks = _;
  run = refl;
}

not_empty : (byte : ℕ) (bytes : Bytes) → byte ∷ bytes ≡ [] → ⊥
not_empty byte bytes h = cc

pub zeros_are_no_miss : ZerosAreNoMiss
unfolding computing
zeros_are_no_miss stack (inl h) = none-some h.2.3.0 h.2.3.1.1
zeros_are_no_miss stack (inr (below, above, p, inl q, e)) = q.0.1 refl
zeros_are_no_miss stack (inr (below, above, p, inr q, e)) = false≢true q.0

key_a_form : IsKey key_a
key_a_form = key_form key_a refl refl

pub two_of_one_key_form : AreAssets two_of_one_key
unfolding computing IsDistinct
two_of_one_key_form = record {
  keys = All-from_recursion (λ pair. IsKey pair.0) (pair_a ∷ pair_short_a ∷ []) (key_a_form, (key_a_form, tt));
  signatures =
      All-from_recursion (λ pair. IsSignature pair.1) (pair_a ∷ pair_short_a ∷ [])
      (signature_form sig_a refl refl refl, (signature_form sig_c refl refl refl, tt));
  distinct = ((refl, tt), (tt, tt));
  preimages = All-nil IsPreimage;
  version = omega arith;
  sequence = omega arith;
  locktime = omega arith;
}

pub twice_no_form : ¬ AreAssets (with_preimages [] (pair_a ∷ pair_a ∷ []))
unfolding computing IsDistinct
twice_no_form are = let differs : true ≡ false = are.distinct.0.0 in false≢true (sym differs)

-- where two items are one item on one other, the lower one is the other
lower : (a b x y : Bytes) (above below : Stack) → above ≡ x ∷ [] → below ≡ y ∷ [] → a ∷ b ∷ [] ≡ above ++ below → b ≡ y
lower a b x y above below p q e =
    let whole : a ∷ b ∷ [] ≡ x ∷ y ∷ [] = e ∙ ap (λ v. v ++ below) p ∙ ap (λ v. x ∷ v) q in
    cc

upper : (a b x y : Bytes) (above below : Stack) → above ≡ x ∷ [] → below ≡ y ∷ [] → a ∷ b ∷ [] ≡ above ++ below → a ≡ x
upper a b x y above below p q e =
    let whole : a ∷ b ∷ [] ≡ x ∷ y ∷ [] = e ∙ ap (λ v. v ++ below) p ∙ ap (λ v. x ∷ v) q in
    cc

pub not_canonical : ¬ Sat key_or_key both_signatures (sig_b ∷ sig_a ∷ [])
unfolding computing
not_canonical (inl (below, above, p, q, e)) =
    not_empty 0xbb (replicate 71 0xbb) (lower sig_a sig_b q.0 [] above below q.2 p e)
not_canonical (inr (inl (below, above, p, q, e))) =
    not_empty 0xaa (replicate 70 0xaa) (upper sig_a sig_b [] p.0 above below q p.2 e)
not_canonical (inr (inr h)) = false≢true h.0
