-- Where there is a satisfaction with what assets hold, there is a canonical one; and one without signatures, where
-- none of the miniscript's keys has one.
use Rattle.std.proofs.Common.{◌≡◌, ℕ, true, IsTrue, List, [], ◌∷◌, ◌++◌, reverse, Contains, inl, inr, refl, sym, ◌∙◌, arith}
use Rattle.std.proofs.lemmas.Bool.{false≢true, and_parts}
use Rattle.std.proofs.lemmas.List.Elements.{Contains-append_left, Contains-append_right}
use Rattle.def_hash.specs.Hash.{hash160}
use Rattle.def_hash.specs.declared.HashKind.{HashKind}
use Rattle.def_script.specs.Bytes.{Bytes}
use Rattle.def_machine.specs.Stacks.{Stack}
use Rattle.def_machine.specs.MultiSig.{is_good}
use Rattle.def_machine.specs.Locks.{older_holds, after_holds}
use Rattle.def_tree.specs.declared.Two.TheVariants as kind
use Rattle.def_tree.specs.declared.Wrapper.TheVariants as wrapper
use Rattle.def_tree.specs.Tree.{Tree, Trees, Key, just_0, just_1, pk_k, pk_h, older, after, hash, and_or, two, thresh, multi, wrap, none, more}
use Rattle.def_tree.specs.Range.{IsWritable, AreWritable}
use Rattle.def_types.specs.Typed.{IsTyped, AreTyped, properties_of, all_properties_of, IsMalleabilityTyped, AreMalleabilityTyped}
use Rattle.def_types.proofs.Rows.{malleability_rows}
use Rattle.def_assets.specs.Assets.{Assets, known}
use Rattle.def_sane.specs.Keys.{keys, keys_of_all}
use Rattle.def_satisfaction.specs.StackSet.{StackSet, Is, Both, Either}
use Rattle.def_satisfaction.specs.Setting.{Setting, only, CountsAsPreimage, CountsAsKey}
use Rattle.def_table.specs.Table.{or_b_row}
use Rattle.def_satisfaction.specs.Rows.{Row, EMPTY, ONE, PartsOf, AreSignatures, pk_h_row, row, parts, stacks}
use Rattle.def_satisfaction.specs.Satisfaction.{canonical, full, given_of}
use Rattle.def_choice.specs.Tight.{HasOne}
use Rattle.def_choice.proofs.Weights.{contains-reverse}
use Rattle.ms_row_laws.proofs.NeededSignatures.{NoKeys, counts_itself}
use Rattle.ms_row_laws.proofs.UniqueDissatisfaction.{one_both, free_dsat, all_e}

-- the locks and preimages of the one setting are those of the other
pub record HasAssets (s t : Setting) : Type 0 where
  pub older : (n : ℕ) → IsTrue (older_holds n s.given.locks) → IsTrue (older_holds n t.given.locks)
  pub after : (n : ℕ) → IsTrue (after_holds n s.given.locks) → IsTrue (after_holds n t.given.locks)
  pub preimages : (kind : HashKind) (value preimage : Bytes) → CountsAsPreimage s.mode kind value preimage → CountsAsPreimage t.mode kind value preimage

-- where there is a stack of the one set, there is one of the other
abbrev pub Gives : StackSet → StackSet → Type 0
Gives P Q = (w : Stack) → P w → HasOne Q

both_gives : (P P' Q Q' : StackSet) → Gives P P' → Gives Q Q' → Gives (Both P Q) (Both P' Q')
both_gives P P' Q Q' p q w r = one_both P' Q' (p r.0 r.2) (q r.1 r.3)

below_gives : (P P' Q Q' : StackSet) → Gives P P' → HasOne Q' → Gives (Both P Q) (Both P' Q')
below_gives P P' Q Q' p q w r = one_both P' Q' (p r.0 r.2) q

is_given : (item : Bytes) → Gives (Is item) (Is item)
is_given item w r = (w, r)

either_gives : (P P' Q Q' : StackSet) → Gives P P' → Gives Q Q' → (w : Stack) → Either P Q w → HasOne (Either P' Q')
either_gives P P' Q Q' p q w (inl r) = let one = p w r in (one.0, inl one.1)
either_gives P P' Q Q' p q w (inr r) = let one = q w r in (one.0, inr one.1)

or_b_gives : (s t : Setting) (x z x' z' : Row) → Gives x.sat x'.sat → Gives z.sat z'.sat → HasOne x'.dsat → HasOne z'.dsat → Gives (or_b_row (stacks s) x z).sat (or_b_row (stacks t) x' z').sat
or_b_gives s t x z x' z' i k x_dsat z_dsat w (inl r) = let one = one_both z'.dsat x'.sat z_dsat (i r.1 r.3) in (one.0, inl one.1)
or_b_gives s t x z x' z' i k x_dsat z_dsat w (inr (inl r)) = let one = one_both z'.sat x'.dsat (k r.0 r.2) x_dsat in (one.0, inr (inl one.1))
or_b_gives s t x z x' z' i k x_dsat z_dsat w (inr (inr (fact, r))) = let one = one_both z'.dsat x'.sat z_dsat (i r.1 r.3) in (one.0, inl one.1)

parts_give : (x x' : Row) (P P' : ℕ → StackSet) → Gives x.sat x'.sat → HasOne x'.dsat → ((n : ℕ) → Gives (P n) (P' n)) → (n : ℕ) → Gives (PartsOf x P n) (PartsOf x' P' n)
parts_give x x' P P' i x_dsat j n w (inl (m, e, r)) = let one = one_both (P' m) x'.sat (j m r.0 r.2) (i r.1 r.3) in (one.0, inl (m, e, one.1))
parts_give x x' P P' i x_dsat j n w (inr r) = let one = one_both (P' n) x'.dsat (j n r.0 r.2) x_dsat in (one.0, inr one.1)

-- a good signature of these keys, or of one that counts for them, is one in the other setting too
abbrev pub KeysGive : (s t : Setting) → List Key → Type 0
KeysGive s t keys =
    (key other : Key) (sig : Bytes) → Contains keys key → hash160 other ≡ hash160 key → CountsAsKey s.mode key other →
    IsTrue (is_good s.given.checker other sig) → CountsAsKey t.mode key other × IsTrue (is_good t.given.checker other sig)

give_left : (s t : Setting) (a b : List Key) → KeysGive s t (a ++ b) → KeysGive s t a
give_left s t a b h key other sig i = h key other sig (Contains-append_left a b key i)

give_right : (s t : Setting) (a b : List Key) → KeysGive s t (a ++ b) → KeysGive s t b
give_right s t a b h key other sig i = h key other sig (Contains-append_right a b key i)

first_key : (key : Key) → Contains (key ∷ []) key
first_key key = (0, omega arith, refl)

pk_h_gives : (s t : Setting) (key : Key) → KeysGive s t (key ∷ []) → Gives (pk_h_row s key).sat (pk_h_row t key).sat
pk_h_gives s t key h w (other, form, same, counts, (below, above, (sig, good, e), at_top, eq)) =
    let g = h key other sig (first_key key) same counts good in
    (w, (other, form, same, g.0, (below, above, (sig, g.1, e), at_top, eq)))

signatures_give : (s t : Setting) (own : List Key) → KeysGive s t own → (sigs : Stack) → AreSignatures s.given.checker own sigs → AreSignatures t.given.checker own sigs
signatures_give s t own h [] r = tt
signatures_give s t [] h (sig ∷ sigs) r = r
signatures_give s t (key ∷ own) h (sig ∷ sigs) (inl r) =
    inl ((h key key sig (Contains-append_left (key ∷ []) own key (first_key key)) refl (counts_itself s.mode key) r.0).1, signatures_give s t own (give_right s t (key ∷ []) own h) sigs r.1)
signatures_give s t (key ∷ own) h (sig ∷ sigs) (inr r) = inr (signatures_give s t own (give_right s t (key ∷ []) own h) (sig ∷ sigs) r)

module _ (s t : Setting) (has : HasAssets s t) where
  mutual
    unfolding malleability_rows

    pub sat_gives : (tree : Tree) → IsWritable tree → IsTyped tree → IsMalleabilityTyped tree → KeysGive s t (keys tree) → Gives (row s tree).sat (row t tree).sat
    sat_gives just_0 k typed safe h = λ w r. absurd r
    sat_gives just_1 k typed safe h = λ w r. (w, r)
    sat_gives (pk_k key) k typed safe h = λ w r. (w, (r.0, (h key key r.0 (first_key key) refl (counts_itself s.mode key) r.1).1, r.2))
    sat_gives (pk_h key) k typed safe h = λ w r. pk_h_gives s t key h w r
    sat_gives (older n) k typed safe h = λ w r. (w, (has.older n r.0, r.1))
    sat_gives (after n) k typed safe h = λ w r. (w, (has.after n r.0, r.1))
    sat_gives (hash kind value) k typed safe h = λ w r. (w, (r.0, (r.1.0, has.preimages kind value r.0 r.1.1), r.2))
    sat_gives (and_or x y z) k typed safe h =
        let h_xy = give_left s t (keys x ++ keys y) (keys z) h in
        either_gives _ _ _ _
        (both_gives _ _ _ _ (sat_gives y k.1 typed.1 safe.1 (give_right s t (keys x) (keys y) h_xy)) (sat_gives x k.0 typed.0 safe.0 (give_left s t (keys x) (keys y) h_xy)))
        (below_gives _ _ _ _ (sat_gives z k.2 typed.2 safe.2 (give_right s t (keys x ++ keys y) (keys z) h)) (free_dsat t x k.0 safe.0 safe.3.0))
    sat_gives (two kind.AndV x y) k typed safe h =
        both_gives _ _ _ _ (sat_gives y k.1 typed.1 safe.1 (give_right s t (keys x) (keys y) h)) (sat_gives x k.0 typed.0 safe.0 (give_left s t (keys x) (keys y) h))
    sat_gives (two kind.AndB x y) k typed safe h =
        both_gives _ _ _ _ (sat_gives y k.1 typed.1 safe.1 (give_right s t (keys x) (keys y) h)) (sat_gives x k.0 typed.0 safe.0 (give_left s t (keys x) (keys y) h))
    sat_gives (two kind.OrB x z) k typed safe h =
        let p = and_parts (properties_of x).e (properties_of z).e safe.2.0 in
        or_b_gives s t (row s x) (row s z) (row t x) (row t z)
        (sat_gives x k.0 typed.0 safe.0 (give_left s t (keys x) (keys z) h)) (sat_gives z k.1 typed.1 safe.1 (give_right s t (keys x) (keys z) h))
        (free_dsat t x k.0 safe.0 p.0) (free_dsat t z k.1 safe.1 p.1)
    sat_gives (two kind.OrI x z) k typed safe h =
        either_gives _ _ _ _
        (both_gives _ _ _ _ (sat_gives x k.0 typed.0 safe.0 (give_left s t (keys x) (keys z) h)) (is_given ONE))
        (both_gives _ _ _ _ (sat_gives z k.1 typed.1 safe.1 (give_right s t (keys x) (keys z) h)) (is_given EMPTY))
    sat_gives (two which x z) k typed safe h =
        either_gives _ _ _ _
        (sat_gives x k.0 typed.0 safe.0 (give_left s t (keys x) (keys z) h))
        (below_gives _ _ _ _ (sat_gives z k.1 typed.1 safe.1 (give_right s t (keys x) (keys z) h)) (free_dsat t x k.0 safe.0 safe.2.0))
    sat_gives (thresh n xs) k typed safe h = parts_sat_give xs k.2 typed.0 safe.0 h safe.1.0 n
    sat_gives (multi n own) k typed safe h = λ w r. (w, (r.0, r.1, r.2, (r.3.0, signatures_give s t (reverse own) (λ key other sig i. h key other sig (contains-reverse own key i)) r.1 r.3.1), r.4))
    sat_gives (wrap wrapper.D x) k typed safe h = both_gives _ _ _ _ (sat_gives x k typed.0 safe.0 h) (is_given ONE)
    sat_gives (wrap letter x) k typed safe h = sat_gives x k typed.0 safe.0 h

    pub parts_sat_give : (xs : Trees) → AreWritable xs → AreTyped xs → AreMalleabilityTyped xs → KeysGive s t (keys_of_all xs) → all_e (all_properties_of xs) ≡ true → (n : ℕ)
        → Gives (parts s xs n) (parts t xs n)
    parts_sat_give none k typed safe h e n = λ w r. (w, r)
    parts_sat_give (more x xs) k typed safe h e n =
        let p = and_parts (properties_of x).e (all_e (all_properties_of xs)) e in
        parts_give (row s x) (row t x) (parts s xs) (parts t xs)
        (sat_gives x k.0 typed.0 safe.0 (give_left s t (keys x) (keys_of_all xs) h)) (free_dsat t x k.0 safe.0 p.0)
        (parts_sat_give xs k.1 typed.1 safe.1 (give_right s t (keys x) (keys_of_all xs) h) p.1) n

-- where the table has none of the miniscript's keys
pub free_sat : (s t : Setting) → HasAssets s t → (tree : Tree) → IsWritable tree → IsTyped tree → IsMalleabilityTyped tree → NoKeys s (keys tree) → Gives (row s tree).sat (row t tree).sat
free_sat s t has tree k typed safe h =
    sat_gives s t has tree k typed safe (λ key other sig i same counts good. absurd (false≢true (sym (h key other sig i same counts) ∙ good)))

-- where it is the table of the assets
pub canonical_sat : (assets : Assets) (tree : Tree) → IsWritable tree → IsTyped tree → IsMalleabilityTyped tree
    → Gives (row (full (given_of assets) (only (known assets))) tree).sat (row (canonical assets) tree).sat
canonical_sat assets tree k typed safe =
    let s = full (given_of assets) (only (known assets)) in
    let has : HasAssets s (canonical assets) = record { older = λ n h. h; after = λ n h. h; preimages = λ kind value preimage h. h } in
    sat_gives s (canonical assets) has tree k typed safe (λ key other sig i same counts good. (counts, good))
