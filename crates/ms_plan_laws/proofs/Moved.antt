-- Tight satisfactions under other signatures: where each key that signs also signs there, a tight stack has another
-- beside it, which weighs no more where no signature is longer.
use Rattle.std.proofs.Common.{◌≡◌, ℕ, suc, ◌≤◌, true, List, [], ◌∷◌, ◌++◌, length, reverse, refl, ◌∙◌, ap, inl, inr, arith}
use Rattle.std.proofs.lemmas.Bool.{false≢true}
use Rattle.def_script.specs.Bytes.{Bytes}
use Rattle.def_machine.specs.Stacks.{Stack, Pairs, member}
use Rattle.def_machine.specs.MultiSig.{is_good}
use Rattle.def_tree.specs.declared.Two.TheVariants as kind
use Rattle.def_tree.specs.declared.Wrapper.TheVariants as wrapper
use Rattle.def_tree.specs.Tree.{Tree, Trees, Key, pk_k, pk_h, and_or, two, thresh, multi, wrap, none, more}
use Rattle.def_assets.specs.Assets.{Assets}
use Rattle.def_script.specs.Witness.{weight}
use Rattle.def_satisfaction.specs.StackSet.{StackSet, Both}
use Rattle.def_satisfaction.specs.Rows.{AreSignatures, Signature, PartsOf}
use Rattle.def_satisfaction.specs.Satisfaction.{canonical}
use Rattle.def_satisfaction.proofs.Wider.{Within, same}
use Rattle.def_satisfaction.proofs.Bare.{dsat_within}
use Rattle.def_choice.specs.Tight.{HasOne, FreeFirst, required, signed_row, free_row, TightSat, TightParts}
use Rattle.def_choice.proofs.Weights.{weight-append}
use Rattle.def_choice.proofs.TightFree.{tight_free, free_dsat}
use Rattle.def_choice.proofs.StrictTight.{below_free, always}

-- the same assets with other signatures
abbrev pub with_pairs : Assets → Pairs → Assets
with_pairs assets pairs = record assets { pairs = pairs }

module _ (Light : Type 0) where
  -- beside each stack of the one set is one of the other
  abbrev pub Beside : StackSet → StackSet → Type 0
  Beside P Q = (w : Stack) → P w → (v : Stack) × Q v × (Light → weight v ≤ weight w)

  same_beside : (P Q : StackSet) → Within P Q → Beside P Q
  same_beside P Q p w h = (w, p w h, λ light. omega arith)

  both_beside : (P P' Q Q' : StackSet) → Beside P P' → Beside Q Q' → Beside (Both P Q) (Both P' Q')
  both_beside P P' Q Q' p q w (below, above, i, j, e) =
      let x = p below i in
      let y = q above j in (
        y.0 ++ x.0,
        (x.0, y.0, x.1, y.1, refl),
        λ light.
            let f : weight w ≡ weight (above ++ below) = ap weight e in
            let a = x.2 light in
            let b = y.2 light in
            omega (arith, f, a, b, weight-append above below, weight-append y.0 x.0),
      )

  first_beside : (F G P Q P' Q' : StackSet) → Beside P P' → Beside Q Q' → (HasOne F → Within P' F) → (HasOne G → Within Q' G) → Beside (FreeFirst F G P Q) (FreeFirst F G P' Q')
  first_beside F G P Q P' Q' p q pf qg w (inl h) =
      let x = p w h.0 in
      (x.0, inl (x.1, λ one. pf (w, h.1 one) x.0 x.1), x.2)
  first_beside F G P Q P' Q' p q pf qg w (inr h) =
      let x = q w h.0 in
      (x.0, inr (x.1, λ one. qg (w, h.1 one) x.0 x.1), x.2)

  parts_beside : (F D D' S S' : StackSet) (P P' : ℕ → StackSet) → Within D D' → Beside S S' → (HasOne F → Within S' F) → ((n : ℕ) → Beside (P n) (P' n)) →
      (n : ℕ) → Beside (PartsOf (required F (record { dsat = D; sat = S })) P n) (PartsOf (required F (record { dsat = D'; sat = S' })) P' n)
  parts_beside F D D' S S' P P' d s free rest n w (inl (m, e, h)) =
      let x = both_beside (P m) (P' m) (required F (record { dsat = D; sat = S })).sat (required F (record { dsat = D'; sat = S' })).sat (rest m) child w h in
      (x.0, inl (m, e, x.1), x.2)
    where
      child : Beside (required F (record { dsat = D; sat = S })).sat (required F (record { dsat = D'; sat = S' })).sat
      child v g = let y = s v g.0 in (y.0, (y.1, λ one. free one y.0 y.1), y.2)
  parts_beside F D D' S S' P P' d s free rest n w (inr h) =
      let x = both_beside (P n) (P' n) (required F (record { dsat = D; sat = S })).dsat (required F (record { dsat = D'; sat = S' })).dsat (rest n)
      (same_beside _ _ (λ v g. (g.0, d v g.1))) w h in
      (x.0, inr x.1, x.2)

module _ (assets : Assets) (pairs : Pairs) (Light : Type 0) (moved : (key sig : Bytes) → is_good (member assets.pairs) key sig ≡ true → (g : Bytes)
    × (is_good (member pairs) key g ≡ true) × (Light → length g ≤ length sig)) where
  abbrev there : Assets
  there = with_pairs assets pairs

  signature_moved : (key : Key) → Beside Light (Signature (canonical assets) key) (Signature (canonical there) key)
  signature_moved key w (sig, good, e) =
      let x = moved key sig good in
      (x.0 ∷ [], (x.0, x.1, refl), λ light. let f : weight w ≡ weight (sig ∷ []) = ap weight e in let a = x.2 light in omega (arith, f, a))

  signatures_moved : (keys : List Key) (sigs : Stack) → AreSignatures (member assets.pairs) keys sigs →
      (v : Stack) × AreSignatures (member pairs) keys v × (length v ≡ length sigs) × (Light → weight v ≤ weight sigs)
  signatures_moved keys [] h = ([], tt, refl, λ light. omega arith)
  signatures_moved [] (sig ∷ sigs) h = absurd h
  signatures_moved (key ∷ keys) (sig ∷ sigs) (inl h) =
      let x = moved key sig h.0 in
      let y = signatures_moved keys sigs h.1 in
      (x.0 ∷ y.0, inl (x.1, y.1), ap suc y.2, λ light. let a = x.2 light in let b = y.3 light in omega (arith, a, b))
  signatures_moved (key ∷ keys) (sig ∷ sigs) (inr h) =
      let y = signatures_moved keys (sig ∷ sigs) h in
      (y.0, more y.0 y.1, y.2, y.3)
    where
      more : (v : Stack) → AreSignatures (member pairs) keys v → AreSignatures (member pairs) (key ∷ keys) v
      more [] h = tt
      more (g ∷ v) h = inr h

  dsat_moved : (x : Tree) → Within (signed_row assets x).dsat (signed_row there x).dsat
  dsat_moved x = dsat_within (canonical assets) (canonical there) false≢true (λ key other h. h) x

  mutual
    pub tight_moved : (t : Tree) → Beside Light (TightSat assets t) (TightSat there t)
    tight_moved (pk_k key) = signature_moved key
    tight_moved (pk_h key) =
        λ w h.
        let x = both_beside Light _ _ _ _ (signature_moved h.0) (same_beside Light _ _ (same _)) w h.4 in
        (x.0, (h.0, h.1, h.2, h.3, x.1), x.2)
    tight_moved (and_or x y z) =
        first_beside Light _ _ _ _ _ _
        (both_beside Light _ _ _ _ (tight_moved y) (tight_moved x))
        (both_beside Light _ _ _ _ (tight_moved z) (same_beside Light _ _ (dsat_moved x)))
        (below_free _ _ _ _ (tight_free there y) (tight_free there x))
        (below_free _ _ _ _ (tight_free there z) (always _ _ (free_dsat there x)))
    tight_moved (two kind.AndV x y) = both_beside Light _ _ _ _ (tight_moved y) (tight_moved x)
    tight_moved (two kind.AndB x y) = both_beside Light _ _ _ _ (tight_moved y) (tight_moved x)
    tight_moved (two kind.OrB x z) =
        first_beside Light _ _ _ _ _ _
        (both_beside Light _ _ _ _ (same_beside Light _ _ (dsat_moved z)) (tight_moved x))
        (both_beside Light _ _ _ _ (tight_moved z) (same_beside Light _ _ (dsat_moved x)))
        (below_free _ _ _ _ (always _ _ (free_dsat there z)) (tight_free there x))
        (below_free _ _ _ _ (tight_free there z) (always _ _ (free_dsat there x)))
    tight_moved (two kind.OrI x z) =
        first_beside Light _ _ _ _ _ _
        (both_beside Light _ _ _ _ (tight_moved x) (same_beside Light _ _ (same _)))
        (both_beside Light _ _ _ _ (tight_moved z) (same_beside Light _ _ (same _)))
        (below_free _ _ _ _ (tight_free there x) (always _ _ (same _)))
        (below_free _ _ _ _ (tight_free there z) (always _ _ (same _)))
    tight_moved (two which x z) =
        first_beside Light _ _ _ _ _ _
        (tight_moved x)
        (both_beside Light _ _ _ _ (tight_moved z) (same_beside Light _ _ (dsat_moved x)))
        (tight_free there x)
        (below_free _ _ _ _ (tight_free there z) (always _ _ (free_dsat there x)))
    tight_moved (thresh k xs) = parts_moved xs k
    tight_moved (multi k keys) =
        λ w h.
        let y = signatures_moved (reverse keys) h.1 h.3.1 in (
          y.0 ++ h.0,
          (h.0, y.0, h.2, (y.2 ∙ h.3.0, y.1), refl),
          λ light.
              let f : weight w ≡ weight (h.1 ++ h.0) = ap weight h.4 in
              let a = y.3 light in
              omega (arith, f, a, weight-append h.1 h.0, weight-append y.0 h.0),
        )
    tight_moved (wrap wrapper.D x) = both_beside Light _ _ _ _ (tight_moved x) (same_beside Light _ _ (same _))
    tight_moved (wrap letter x) = tight_moved x
    tight_moved tree = same_beside Light _ _ (same _)

    parts_moved : (xs : Trees) (n : ℕ) → Beside Light (TightParts assets xs n) (TightParts there xs n)
    parts_moved none n = same_beside Light _ _ (same _)
    parts_moved (more x xs) n =
        parts_beside Light (free_row assets x).sat (signed_row assets x).dsat (signed_row there x).dsat (TightSat assets x) (TightSat there x) (TightParts assets xs) (TightParts there xs)
        (dsat_moved x) (tight_moved x) (tight_free there x) (parts_moved xs) n
