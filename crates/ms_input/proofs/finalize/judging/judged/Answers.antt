use Rattle.std.proofs.Common.{◌++◌, take, ap, ◌∙◌}
use Rattle.def_machine.specs.Stacks.{Pairs}
use Rattle.def_assets.specs.Assets.{Assets}
use Rattle.def_spend.specs.Good.{is_good}
use Rattle.ms_input.specs.Settled.{word_for, good_for}
use Rattle.ms_input.proofs.Room.{pair_room}
use Rattle.ms_input.proofs.finalize.judging.judged.Goals as goal

pub add_good-requires : goal.add_good-requires
add_good-requires c =
    pair_room (record c.args.unsigned { pairs = c.args.pairs.now }) c.pairs.assets (λ pair. is_good (word_for c.args.hash.now pair)) c.pairs.pair-index c.pair-item.result
    c.requires.few c.pairs-test.true c.pair-item.is
    (ap (λ (a : Assets). a.pairs) c.pairs.invariant.0 ∙ ap (λ (l : Pairs). l ++ good_for c.args.hash.now (take c.pairs.pair-index c.args.pairs.now)) c.requires.none)
