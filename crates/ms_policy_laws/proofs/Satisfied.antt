-- The policy of a sane miniscript is true exactly where it has a canonical satisfaction.
use Rattle.std.proofs.Common.{◌≡◌, ℕ, ◌≤◌, true, [], reverse, refl, sym, ◌∙◌, subst, arith}
use Rattle.std.proofs.lemmas.Bool.{false≢true, and_parts, leb-true, le-leb}
use Rattle.std.proofs.lemmas.List.{reverse-reverse}
use Rattle.def_machine.specs.Stacks.{Stack}
use Rattle.def_tree.specs.declared.Two.TheVariants as kind
use Rattle.def_tree.specs.declared.Wrapper.TheVariants as wrapper
use Rattle.def_tree.specs.Tree.{Tree, Trees, just_0, just_1, pk_k, pk_h, older, after, hash, and_or, two, thresh, multi, wrap, none, more}
use Rattle.def_tree.specs.Range.{IsWritable, AreWritable}
use Rattle.def_types.specs.Typed.{properties_of, all_properties_of, IsMalleabilityTyped, AreMalleabilityTyped}
use Rattle.def_types.proofs.Rows.{malleability_rows}
use Rattle.def_assets.specs.Assets.{Assets, AreAssets}
use Rattle.def_sane.proofs.Meanings.{sane_means}
use Rattle.def_satisfaction.specs.Setting.{Setting}
use Rattle.def_satisfaction.specs.Rows.{ONE, row, parts}
use Rattle.def_satisfaction.specs.Satisfaction.{canonical}
use Rattle.def_choice.specs.Tight.{HasOne}
use Rattle.def_policy.specs.Plain.{plain, plain_each}
use Rattle.def_policy.specs.Truth.{Facts, facts_of, how_many, is_true, truths}
use Rattle.def_policy.specs.Laws.{PolicyOfSane}
use Rattle.def_policy.proofs.Truths.{simple_keeps_truth}
use Rattle.ms_row_laws.proofs.UniqueDissatisfaction.{free_dsat, all_e}
use Rattle.ms_policy_laws.proofs.Says.{Says, says_both, says_below}
use Rattle.ms_policy_laws.proofs.Joined.{says_and_or, says_or_b, says_or_d, says_or_i}
use Rattle.ms_policy_laws.proofs.Counted.{one_more, no_more}
use Rattle.ms_policy_laws.proofs.Atoms.{says_key, says_key_hash, says_hash, says_multi}

module _ (assets : Assets) (are : AreAssets assets) where
  abbrev s : Setting
  s = canonical assets

  abbrev facts : Facts
  facts = facts_of assets

  mutual
    unfolding malleability_rows

    -- of each miniscript that meets the requirements of malleability
    pub says : (t : Tree) → IsWritable t → IsMalleabilityTyped t → Says (is_true facts (plain t)) (row s t).sat
    says just_0 k safe = record { to = λ e. absurd (false≢true e); from = λ w. absurd w.1 }
    says just_1 k safe = record { to = λ e. ([], refl); from = λ w. refl }
    says (pk_k key) k safe = says_key assets are key
    says (pk_h key) k safe = says_key_hash assets are key k
    says (older n) k safe = record { to = λ e. ([], (e, refl)); from = λ w. w.1.0 }
    says (after n) k safe = record { to = λ e. ([], (e, refl)); from = λ w. w.1.0 }
    says (hash kind value) k safe = says_hash assets are kind value
    says (and_or x y z) k safe =
        says_and_or assets _ _ _ (row s x) (row s y) (row s z)
        (says x k.0 safe.0) (says y k.1 safe.1) (says z k.2 safe.2) (free_dsat s x k.0 safe.0 safe.3.0)
    says (two kind.AndV x y) k safe = says_both _ _ (row s x).sat (row s y).sat (says x k.0 safe.0) (says y k.1 safe.1)
    says (two kind.AndB x y) k safe = says_both _ _ (row s x).sat (row s y).sat (says x k.0 safe.0) (says y k.1 safe.1)
    says (two kind.OrB x z) k safe =
        let e = and_parts (properties_of x).e (properties_of z).e safe.2.0 in
        says_or_b assets _ _ (row s x) (row s z)
        (says x k.0 safe.0) (says z k.1 safe.1) (free_dsat s x k.0 safe.0 e.0) (free_dsat s z k.1 safe.1 e.1)
    says (two kind.OrC x z) k safe =
        says_or_d assets _ _ (row s x) (row s z) (says x k.0 safe.0) (says z k.1 safe.1) (free_dsat s x k.0 safe.0 safe.2.0)
    says (two kind.OrD x z) k safe =
        says_or_d assets _ _ (row s x) (row s z) (says x k.0 safe.0) (says z k.1 safe.1) (free_dsat s x k.0 safe.0 safe.2.0)
    says (two kind.OrI x z) k safe = says_or_i assets _ _ (row s x) (row s z) (says x k.0 safe.0) (says z k.1 safe.1)
    says (thresh n xs) k safe = record {
      to = λ e. so_many xs k.2 safe.0 safe.1.0 n (leb-true _ _ e);
      from = λ w. le-leb _ _ (at_most xs k.2 safe.0 n w.0 w.1);
    }
    says (multi n keys) k safe = says_multi assets are n keys
    says (wrap wrapper.D x) k safe = says_below _ (row s x).sat ONE (says x k safe.0)
    says (wrap kind x) k safe = says x k safe.0

    -- where so many children can be satisfied, so many of them are, and the others dissatisfied
    so_many : (xs : Trees) → AreWritable xs → AreMalleabilityTyped xs → all_e (all_properties_of xs) ≡ true →
        (n : ℕ) → n ≤ how_many (truths facts (plain_each xs)) → HasOne (parts s xs n)
    so_many none k safe e n h = ([], (omega arith, refl))
    so_many (more x xs) k safe e n h =
        let p = and_parts (properties_of x).e (all_e (all_properties_of xs)) e in
        one_more _ _ (row s x) (parts s xs)
        (says x k.0 safe.0) (free_dsat s x k.0 safe.0 p.0) (so_many xs k.1 safe.1 p.1) n h

    -- no more children are satisfied than have true policies
    at_most : (xs : Trees) → AreWritable xs → AreMalleabilityTyped xs → (n : ℕ) (w : Stack) → parts s xs n w → n ≤ how_many (truths facts (plain_each xs))
    at_most none k safe n w p = let e = p.0 in omega arith
    at_most (more x xs) k safe n w p = no_more _ _ (row s x) (parts s xs) (says x k.0 safe.0) (at_most xs k.1 safe.1) n w p

-- of a sane one, and of its policy made simple
pub policy_of_sane : PolicyOfSane
policy_of_sane tree writable sane assets are =
    let says = says assets are tree writable ((sane_means tree).0 sane).1 in
    let same = simple_keeps_truth (facts_of assets) (plain tree) in (
      λ e. let one = says.to (sym same ∙ e) in (reverse one.0, subst (row (canonical assets) tree).sat (sym (reverse-reverse one.0)) one.1),
      λ w. same ∙ says.from (reverse w.0, w.1),
    )
