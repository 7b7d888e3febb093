-- What is promised of a plan that was found.
use Rattle.std.proofs.Common.{◌≡◌, Option, Some, sym, ◌∙◌, subst}
use Rattle.def_tree.specs.Tree.{Tree}
use Rattle.def_tree.specs.Range.{IsWritable}
use Rattle.def_assets.specs.Assets.{Assets, AreAssets}
use Rattle.def_sane.specs.Unfit.{IsSane}
use Rattle.def_plan.specs.Lengths.{Lengths, AreLengths}
use Rattle.def_plan.specs.Plan.{Plan, plan_of, NoneIsExact, Suffices, WeighsAtMost, IsLeast, AsksListed, AsksNoneInVain, AsksInOrder, LengthsDecide}
use Rattle.def_plan.specs.Laws.{IsInput}
use Rattle.ms_plan_laws.proofs.Plans.{none_holds, lengths_decide, suffices_always, weighs_at_most_always, least_always, listed_always, none_in_vain_ever, in_order_always}

-- the facts of the call, and what it answers
pub record Made (tree : Tree) (assets : Assets) (table : Lengths) (found : Option Plan) : Type 0 where
  pub input : IsInput tree assets table
  pub is : found ≡ plan_of tree assets table

pub made : (tree : Tree) (assets : Assets) (table other : Lengths) (found : Option Plan) → IsWritable tree → IsSane tree → AreAssets assets → AreLengths table →
    other ≡ table → found ≡ plan_of tree assets other → Made tree assets table found
made tree assets table other found writable sane are lengths e is = record {
  input = record { writable = writable; sane = sane; held = are; lengths = lengths };
  is = subst (λ t. found ≡ plan_of tree assets t) e is;
}

module _ (tree : Tree) (assets : Assets) (table : Lengths) (found : Option Plan) (m : Made tree assets table found) where
  pub made_none : NoneIsExact tree assets table found
  made_none = subst (NoneIsExact tree assets table) (sym m.is) (none_holds tree assets table m.input)

  pub made_lengths : LengthsDecide tree assets table found
  made_lengths = subst (LengthsDecide tree assets table) (sym m.is) (lengths_decide tree assets table m.input)

  pub made_suffices : (plan : Plan) → found ≡ Some plan → Suffices tree assets plan
  made_suffices plan e = suffices_always tree assets table plan m.input (sym m.is ∙ e)

  pub made_weight : (plan : Plan) → found ≡ Some plan → WeighsAtMost tree assets table plan
  made_weight plan e = weighs_at_most_always tree assets table plan m.input (sym m.is ∙ e)

  pub made_least : (plan : Plan) → found ≡ Some plan → IsLeast tree assets table plan
  made_least plan e = least_always tree assets table plan m.input (sym m.is ∙ e)

  pub made_listed : (plan : Plan) → found ≡ Some plan → AsksListed table plan
  made_listed plan e = listed_always tree assets table plan m.input (sym m.is ∙ e)

  pub made_none_in_vain : (plan : Plan) → found ≡ Some plan → AsksNoneInVain tree assets plan
  made_none_in_vain plan e = none_in_vain_ever tree assets table plan m.input (sym m.is ∙ e)

  pub made_in_order : (plan : Plan) → found ≡ Some plan → AsksInOrder tree plan
  made_in_order plan e = in_order_always tree assets table plan m.input (sym m.is ∙ e)
