-- Tight satisfactions are canonical; and where a satisfaction without a signature exists, every tight one is
-- such a one.
use Rattle.std.proofs.Common.{◌≡◌, ℕ, ◌≤◌, true, List, [], ◌∷◌, length, reverse, refl, ap, inl, inr, arith}
use Rattle.std.proofs.lemmas.Bool.{false≢true}
use Rattle.def_script.specs.Bytes.{Bytes}
use Rattle.def_machine.specs.Stacks.{Stack, member}
use Rattle.def_machine.specs.MultiSig.{is_good}
use Rattle.def_tree.specs.declared.Two.TheVariants as kind
use Rattle.def_tree.specs.declared.Wrapper.TheVariants as wrapper
use Rattle.def_tree.specs.Tree.{Tree, Trees, Key, pk_k, pk_h, and_or, two, thresh, multi, wrap, none, more}
use Rattle.def_assets.specs.Assets.{Assets, unsigned}
use Rattle.def_satisfaction.specs.StackSet.{StackSet, Both, Either}
use Rattle.def_satisfaction.specs.Rows.{AreSignatures, NotCanonical, Row, PartsOf, PartsOfNone, parts}
use Rattle.def_satisfaction.specs.Satisfaction.{canonical}
use Rattle.def_satisfaction.proofs.Wider.{Within, both_within, same, parts_of_within}
use Rattle.def_satisfaction.proofs.Bare.{dsat_within}
use Rattle.def_choice.specs.Tight.{HasOne, FreeFirst, required, signed_row, free_row, TightSat, TightParts}

-- the rule for options forgotten
any_option : (F G P Q P' Q' : StackSet) → Within P P' → Within Q Q' → Within (FreeFirst F G P Q) (Either P' Q')
any_option F G P Q P' Q' p q stack (inl h) = inl (p stack h.0)
any_option F G P Q P' Q' p q stack (inr h) = inr (q stack h.0)

then : (P Q R : StackSet) → Within P Q → Within Q R → Within P R
then P Q R p q stack h = q stack (p stack h)

third : (P Q R : StackSet) → Within (Either P Q) (Either P (Either Q R))
third P Q R stack (inl h) = inl h
third P Q R stack (inr h) = inr (inl h)

module _ (assets : Assets) where
  mutual
    pub tight_within : (tree : Tree) → Within (TightSat assets tree) (signed_row assets tree).sat
    tight_within (and_or x y z) =
        any_option _ _ _ _ _ _ (both_within _ _ _ _ (tight_within y) (tight_within x)) (both_within _ _ _ _ (tight_within z) (same _))
    tight_within (two kind.OrB x z) =
        then _ _ _
        (any_option _ _ _ _ _ _ (both_within _ _ _ _ (same _) (tight_within x)) (both_within _ _ _ _ (tight_within z) (same _)))
        (third _ _ _)
    tight_within (two kind.OrC x z) = any_option _ _ _ _ _ _ (tight_within x) (both_within _ _ _ _ (tight_within z) (same _))
    tight_within (two kind.OrD x z) = any_option _ _ _ _ _ _ (tight_within x) (both_within _ _ _ _ (tight_within z) (same _))
    tight_within (two kind.OrI x z) =
        any_option _ _ _ _ _ _ (both_within _ _ _ _ (tight_within x) (same _)) (both_within _ _ _ _ (tight_within z) (same _))
    tight_within (two which x y) = both_within _ _ _ _ (tight_within y) (tight_within x)
    tight_within (thresh k xs) = tight_parts_within xs k
    tight_within (wrap wrapper.D x) = both_within _ _ _ _ (tight_within x) (same _)
    tight_within (wrap letter x) = tight_within x
    tight_within tree = same _

    pub tight_parts_within : (xs : Trees) (n : ℕ) → Within (TightParts assets xs n) (parts (canonical assets) xs n)
    tight_parts_within none n = same _
    tight_parts_within (more x xs) n =
        parts_of_within _ _ _ _ (record { dsat = λ w h. h.1; sat = λ w h. tight_within x w h.0 }) (tight_parts_within xs) n

  abbrev bare : Tree → Row
  bare tree = free_row assets tree

  pub free_dsat : (tree : Tree) → Within (signed_row assets tree).dsat (bare tree).dsat
  free_dsat tree = dsat_within (canonical assets) (canonical (unsigned assets)) false≢true (λ key other h. h) tree

-- no signature is good under no table
bare_good : (key sig : Bytes) → is_good (member []) key sig ≡ true → ⊥
bare_good key [] h = false≢true h
bare_good key (b ∷ sig) h = false≢true h

bare_signatures : (keys : List Key) (sigs : Stack) → AreSignatures (member []) keys sigs → sigs ≡ []
bare_signatures keys [] h = refl
bare_signatures [] (sig ∷ sigs) h = absurd h
bare_signatures (key ∷ keys) (sig ∷ sigs) (inl h) = absurd (bare_good key sig h.0)
bare_signatures (key ∷ keys) (sig ∷ sigs) (inr h) = bare_signatures keys (sig ∷ sigs) h

none_signed : (keys : List Key) (sigs : Stack) → length sigs ≡ 0 → AreSignatures (member []) keys sigs
none_signed keys [] h = tt
none_signed keys (sig ∷ sigs) h = absurd (omega arith)

has_below : (P Q : StackSet) → HasOne (Both P Q) → HasOne P
has_below P Q h = (h.1.0, h.1.2)

has_above : (P Q : StackSet) → HasOne (Both P Q) → HasOne Q
has_above P Q h = (h.1.1, h.1.3)

-- a tight option where an option is free
free_option : (F G P Q : StackSet) → HasOne (Either F G) → Within (FreeFirst F G P Q) (Either F G)
free_option F G P Q one stack (inl h) = inl (h.1 one)
free_option F G P Q one stack (inr h) = inr (h.1 one)

pub not_third : (P Q R : StackSet) (assets : Assets) → HasOne (Either P (Either Q (NotCanonical (canonical assets) R))) → HasOne (Either P Q)
not_third P Q R assets (stack, inl h) = (stack, inl h)
not_third P Q R assets (stack, inr (inl h)) = (stack, inr h)
not_third P Q R assets (stack, inr (inr h)) = absurd (false≢true h.0)

-- k signatures of no table: k is 0
free_multi : (assets : Assets) (k : ℕ) (keys : List Key) → HasOne (free_row assets (multi k keys)).sat → Within (signed_row assets (multi k keys)).sat (free_row assets (multi k keys)).sat
free_multi assets k keys one w (below, above, p, h, e) =
    let s = one.1.3 in
    let none : one.1.1 ≡ [] = bare_signatures (reverse keys) one.1.1 s.1 in
    let long : length one.1.1 ≡ 0 = ap length none in
    (below, above, p, (h.0, none_signed (reverse keys) above (omega (arith, h.0, s.0, long))), e)

-- for each number of children: T satisfies as many as P, and where as many, by stacks of P
abbrev Covers : (P T : ℕ → StackSet) → Type 0
Covers P T = (m n : ℕ) (v w : Stack) → P m v → T n w → (m ≤ n) × (m ≡ n → P n w)

none_covers : Covers PartsOfNone PartsOfNone
none_covers m n v w p t = (omega (arith, p.0, t.0), λ e. t)

more_covers : (free child : Row) (P T : ℕ → StackSet) → Within child.dsat free.dsat → Covers P T → Covers (PartsOf free P) (PartsOf (required free.sat child) T)
more_covers free child P T dsat covers m n v w (inl (m', e, (below, above, p, q, i))) (inl (n', f, (lower, upper, t, u, j))) =
    let c = covers m' n' below lower p t in
    (omega (arith, e, f, c.0), λ same. inl (n', f, (lower, upper, c.1 (omega (arith, e, f, same)), u.1 (above, q), j)))
more_covers free child P T dsat covers m n v w (inl (m', e, (below, above, p, q, i))) (inr (lower, upper, t, u, j)) =
    absurd (u.0 (above, q))
more_covers free child P T dsat covers m n v w (inr (below, above, p, q, i)) (inl (n', f, (lower, upper, t, u, j))) =
    let c = covers m n' below lower p t in
    (omega (arith, f, c.0), λ same. absurd (omega (arith, f, c.0, same)))
more_covers free child P T dsat covers m n v w (inr (below, above, p, q, i)) (inr (lower, upper, t, u, j)) =
    let c = covers m n below lower p t in
    (c.0, λ same. inr (lower, upper, c.1 same, dsat upper u.1, j))

module _ (assets : Assets) where
  mutual
    pub tight_free : (tree : Tree) → HasOne (free_row assets tree).sat → Within (TightSat assets tree) (free_row assets tree).sat
    tight_free (pk_k key) one = absurd (bare_good key one.1.0 one.1.1)
    tight_free (pk_h key) one = let s = one.1.4.2 in absurd (bare_good one.1.0 s.0 s.1)
    tight_free (and_or x y z) one = free_option _ _ _ _ one
    tight_free (two kind.OrB x z) one = then _ _ _ (free_option _ _ _ _ (not_third _ _ _ (unsigned assets) one)) (third _ _ _)
    tight_free (two kind.OrC x z) one = free_option _ _ _ _ one
    tight_free (two kind.OrD x z) one = free_option _ _ _ _ one
    tight_free (two kind.OrI x z) one = free_option _ _ _ _ one
    tight_free (two which x y) one =
        both_within _ _ _ _ (tight_free y (has_below _ _ one)) (tight_free x (has_above _ _ one))
    tight_free (thresh k xs) one = λ stack h. (tight_count xs k k one.0 stack one.1 h).1 refl
    tight_free (multi k keys) one = free_multi assets k keys one
    tight_free (wrap wrapper.D x) one = both_within _ _ _ _ (tight_free x (has_below _ _ one)) (same _)
    tight_free (wrap letter x) one = tight_free x one
    tight_free tree one = same _

    -- a tight choice satisfies as many children as any choice without signatures
    tight_count : (xs : Trees) → Covers (parts (canonical (unsigned assets)) xs) (TightParts assets xs)
    tight_count none = none_covers
    tight_count (more x xs) =
        more_covers (free_row assets x) (record { dsat = (signed_row assets x).dsat; sat = TightSat assets x }) _ _
        (free_dsat assets x) (tight_count xs)
