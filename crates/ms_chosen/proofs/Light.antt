-- What either rule chooses weighs at most 128 times the measure, and so does the dissatisfaction.
use Rattle.std.proofs.Common.{◌≡◌, ℕ, zero, suc, ◌+◌, ◌*◌, [], ◌∷◌, Option, Some, None, length, is_some, sym, subst, arith}
use Rattle.std.specs.Str.{bytes_eq}
use Rattle.def_hash.specs.Hash.{digest_of}
use Rattle.def_machine.specs.Locks.{older_holds, after_holds}
use Rattle.def_machine.specs.Stacks.{Stack}
use Rattle.def_script.proofs.KeyLemmas.{key_length}
use Rattle.def_tree.specs.Tree.{Tree, Trees, multi, none, more}
use Rattle.def_tree.specs.Range.{IsWritable}
use Rattle.def_tree.specs.InRange.{IsInRange, measure, measure_of}
use Rattle.def_types.specs.Typed.{IsTyped}
use Rattle.def_assets.specs.Assets.{Assets, AreAssets}
use Rattle.def_satisfaction.specs.Rows.{EMPTY, ZEROS}
use Rattle.def_choice.specs.Chosen.{Choices, chosen}
use Rattle.def_choice.specs.Cheapest.{all_dissatisfied, cheapest_of, cheapest_children, signatures}
use Rattle.def_choice.specs.Dissatisfaction.{dissatisfaction}
use Rattle.def_choice.specs.Strict.{free_first}
use Rattle.def_choice.specs.Free.{free}
use Rattle.ms_work.proofs.Enough.{multi_enough}
use Rattle.ms_rows.proofs.Within.{AreWithin, IsBounded, within}
use Rattle.ms_choice.specs.declared.children.Costs.{Costs}
use Rattle.ms_choice.specs.Numbers.{IsLight}
use Rattle.ms_chosen.specs.Scaffolding.Costs.{weight_of}
use Rattle.def_choice.specs.declared.choice.Choice.{Choice as Rule}
use Rattle.def_choice.specs.declared.choice.Choice.TheVariants.{Cheapest, Strict}
use Rattle.ms_chosen.specs.Rule.{stack_by, child_by}
use Rattle.ms_chosen.proofs.Chosen.{choose}
use Rattle.ms_chosen.proofs.Rules.{strict_choice, choice_more}
use Rattle.ms_chosen.proofs.Bounds.{Within, weaker, within_both, within_two, within_counted, within_if, sig_within, known_within, signatures_within, thresh_choose, weight-replicate, light_option}

-- one of two options
within_first : (n : ℕ) (f g o p : Option Stack) → Within n o → Within n p → Within n (free_first f g o p)
within_first n f g o p a b = within_if n (is_some f) o _ a (within_if n (is_some g) p _ b (within_two n o p a b))

module _ (assets : Assets) (are : AreAssets assets) where
  -- both choices
  abbrev Chosen : ℕ → Choices → Type 0
  Chosen n c = Within n (c.cheapest assets) × Within n (c.strict assets)

  -- that all children are dissatisfied; the choice of k of them, by each rule
  all_within : (xs : Trees) → AreWithin chosen Within Chosen xs → Within (128 * measure_of xs) (all_dissatisfied xs)
  all_within none h = omega arith
  all_within (more x xs) h = weaker (128 * measure_of xs + 128 * measure x) _ _ (omega arith) (within_both _ _ _ _ (all_within xs h.1) h.0.0)

  cheapest_within : (xs : Trees) → AreWithin chosen Within Chosen xs → (k : ℕ) → Within (128 * measure_of xs) (choose (cheapest_children assets xs) k)
  cheapest_within none h zero = omega arith
  cheapest_within none h (suc k) = tt
  cheapest_within (more x xs) h k =
      weaker (128 * measure_of xs + 128 * measure x) (128 * measure_of (more x xs)) _ (omega arith)
      (within_counted _ _ (cheapest_of assets x) (dissatisfaction x) (choose (cheapest_children assets xs)) k h.0.1.0 h.0.0 (cheapest_within xs h.1))

  strict_within : (xs : Trees) → AreWithin chosen Within Chosen xs → (k : ℕ) → Within (128 * measure_of xs) (strict_choice assets xs k)
  strict_within none h zero = omega arith
  strict_within none h (suc k) = tt
  strict_within (more x xs) h k =
      let child = child_by Strict assets x in
      subst (Within (128 * measure_of (more x xs))) (sym (choice_more assets x xs k))
      (weaker (128 * measure_of xs + 128 * measure x) (128 * measure_of (more x xs)) _ (omega arith)
      (within_counted _ _ child.sat child.dsat (strict_choice assets xs) k
      h.0.1.1 (within_if _ (is_some (free assets x)) None (dissatisfaction x) tt h.0.0) (strict_within xs h.1)))

  -- one stack by both rules
  both_choose : (n : ℕ) (o : Option Stack) → Within n o → Within n o × Within n o
  both_choose n o h = (h, h)

  bounded : IsBounded chosen Within Chosen
  bounded = record {
    weaker_dsat = weaker;
    weaker = λ m n c le h. (weaker m n _ le h.0, weaker m n _ le h.1);
    never = λ n. (tt, (tt, tt));
    nothing = λ n. (omega arith, (omega arith, omega arith));
    empty = (omega arith, (omega arith, omega arith));
    one = (omega arith, (omega arith, omega arith));
    both_dsat = within_both;
    both = λ m n a b p q. (within_both m n _ _ p.0 q.0, within_both m n _ _ p.1 q.1);
    either_dsat = within_two;
    either = λ n a b p q. (within_two n _ _ p.0 q.0, within_first n _ _ _ _ p.1 q.1);
    still = λ n d h. (h, h);
    extra = λ n s. tt;
    beside_dsat = λ n d s h. h;
    beside = λ n a b h. h;
    pk_k = λ key w. (omega arith, both_choose 128 _ (weaker 74 128 _ (omega arith) (sig_within assets are key)));
    pk_h = λ key w.
        let long = key_length key w.form in
        (omega (arith, long), both_choose 128 _ (weaker (74 + 34) 128 _ (omega arith) (within_both 74 34 _ _ (sig_within assets are key) (omega (arith, long)))));
    older = λ n. (tt, both_choose 128 _ (within_if 128 (older_holds n assets.locks) (Some []) None (omega arith) tt));
    after = λ n. (tt, both_choose 128 _ (within_if 128 (after_holds n assets.locks) (Some []) None (omega arith) tt));
    hash = λ kind value. (
      within_if 128 (bytes_eq (digest_of kind ZEROS) value) None (Some (ZEROS ∷ [])) tt (omega arith),
      both_choose 128 _ (weaker 33 128 _ (omega arith) (known_within assets are kind value)),
    );
    multi = λ k keys typed.
        let enough = multi_enough k keys typed in (
          omega (arith, enough, weight-replicate (k + 1)),
          both_choose _ _ (weaker (2 + 74 * length keys) (128 * measure (multi k keys)) _ (omega arith)
              (within_both 2 (74 * length keys) (Some (EMPTY ∷ [])) (signatures assets k keys) (omega arith) (signatures_within assets are k keys))),
        );
    thresh = λ k xs h. (all_within xs h, (subst (Within (128 * measure_of xs)) (sym (thresh_choose assets xs k)) (cheapest_within xs h k), strict_within xs h k));
  }

  chosen_within : (rule : Rule) (t : Tree) → IsWritable t → IsTyped t → Within (128 * measure t) (stack_by rule assets t)
  chosen_within Cheapest t w h = (within chosen Within Chosen bounded t w h).1.0
  chosen_within Strict t w h = (within chosen Within Chosen bounded t w h).1.1

-- so the weights of a tree are below 2^32
pub light_by : (rule : Rule) (assets : Assets) (t : Tree) (c : Costs) → IsInRange t → IsTyped t → AreAssets assets → c.sat ≡ weight_of (stack_by rule assets t)
    → c.dsat ≡ weight_of (dissatisfaction t) → IsLight c
light_by rule assets t c range typed are sat dsat = record {
  sat = light_option (128 * measure t) c.sat (stack_by rule assets t) (omega (arith, range.measure)) sat (chosen_within assets are rule t range.writable typed);
  dsat = light_option (128 * measure t) c.dsat (dissatisfaction t) (omega (arith, range.measure)) dsat
      (within chosen Within (Chosen assets are) (bounded assets are) t range.writable typed).0;
}
