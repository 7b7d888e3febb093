-- The fragments of keys and hash values: their atoms say whether they can be satisfied.
use Rattle.std.proofs.Common.{◌≡◌, ℕ, ◌≤◌, Bool, true, nat_le, List, [], ◌∷◌, length, map, reverse, Option, Some, refl, sym, ◌∙◌, ap, subst, arith}
use Rattle.std.specs.Option.{is_some}
use Rattle.std.proofs.lemmas.Bool.{leb-true, le-leb}
use Rattle.std.proofs.lemmas.Simd.{map-map}
use Rattle.def_hash.specs.declared.HashKind.{HashKind}
use Rattle.def_script.specs.Bytes.{Bytes}
use Rattle.def_tree.specs.Range.{IsKey}
use Rattle.def_tree.specs.Tree.{Key}
use Rattle.def_assets.specs.Assets.{Assets, AreAssets, sig_of, known}
use Rattle.def_satisfaction.specs.StackSet.{Is}
use Rattle.def_satisfaction.specs.Setting.{Setting}
use Rattle.def_satisfaction.specs.Rows.{EMPTY, Signatures, pk_k_row, pk_h_row, hash_row, multi_row}
use Rattle.def_satisfaction.specs.Satisfaction.{canonical}
use Rattle.def_satisfaction.proofs.Held.{held_is_good, good_is_held, known_is_preimage}
use Rattle.def_policy.specs.Policy as policy
use Rattle.def_policy.specs.Policy.{policies_of}
use Rattle.def_policy.specs.Truth.{facts_of, how_many, is_true, truths}
use Rattle.def_policy.proofs.Truths.{truths-policies_of}
use Rattle.ms_row_laws.proofs.UniqueDissatisfaction.{one_both}
use Rattle.ms_policy_laws.proofs.Says.{Says}
use Rattle.ms_policy_laws.proofs.Signers.{signs, signers, signers-reverse, enough, at_most}

-- what is there
some_of : {A : Type 0} (o : Option A) → is_some o ≡ true → (x : A) × (o ≡ Some x)
some_of o e = grind arith

module _ (assets : Assets) (are : AreAssets assets) where
  abbrev s : Setting
  s = canonical assets

  -- `pk_k`
  pub says_key : (key : Key) → Says (signs assets key) (pk_k_row s key).sat
  says_key key = record {
    to = λ e. let x = some_of (sig_of assets key) e in (x.0 ∷ [], (x.0, held_is_good assets are key x.0 x.1, refl));
    from = λ w. let held = good_is_held assets key w.1.0 w.1.1 in ap is_some held.1;
  }

  -- `pk_h`
  pub says_key_hash : (key : Key) → IsKey key → Says (signs assets key) (pk_h_row s key).sat
  says_key_hash key form = record {
    to = λ e.
        let x = some_of (sig_of assets key) e in
        let good = held_is_good assets are key x.0 x.1 in
        (key ∷ x.0 ∷ [], (key, form.form, refl, refl, (x.0 ∷ [], key ∷ [], (x.0, good, refl), refl, refl)));
    from = λ w.
        let held = good_is_held assets w.1.0 w.1.4.2.0 w.1.4.2.1 in
        ap is_some (subst (λ k. sig_of assets k ≡ Some held.0) w.1.3 held.1);
  }

  -- the hash locks
  pub says_hash : (kind : HashKind) (value : Bytes) → Says (is_some (known assets kind value)) (hash_row s kind value).sat
  says_hash kind value = record {
    to = λ e.
        let x = some_of (known assets kind value) e in
        let is = known_is_preimage assets are kind value x.0 x.1 in
        (x.0 ∷ [], (x.0, ((is.0.length, is.1), x.1), refl));
    from = λ w. ap is_some w.1.1.1;
  }

  -- which keys sign
  truths-keys : (keys : List Key) → truths (facts_of assets) (policies_of (map policy.key keys)) ≡ map (signs assets) keys
  truths-keys keys = truths-policies_of (facts_of assets) (map policy.key keys) ∙ map-map (is_true (facts_of assets)) policy.key keys

  -- `multi`: so many of the keys sign
  pub says_multi : (k : ℕ) (keys : List Key) → Says (nat_le k (how_many (truths (facts_of assets) (policies_of (map policy.key keys))))) (multi_row s k keys).sat
  says_multi k keys =
      let truths : List Bool = truths (facts_of assets) (policies_of (map policy.key keys)) in
      let count : how_many truths ≡ signers assets (reverse keys) = ap how_many (truths-keys keys) ∙ sym (signers-reverse assets keys) in
      record {
        to = λ e.
            let few : k ≤ how_many truths = leb-true _ _ e in
            let some = enough assets are (reverse keys) k (omega arith) in
            one_both (Is EMPTY) (Signatures s k keys) (EMPTY ∷ [], refl) (some.sigs, (some.count, some.good));
        from = λ w.
            let few = at_most assets are (reverse keys) w.1.1 w.1.3.1 in
            let so_many : length w.1.1 ≡ k = w.1.3.0 in
            le-leb k (how_many truths) (omega arith);
      }
