use Rattle.std.proofs.Common.{◌≡◌, take, ap, subst, ◌∙◌, rules}
use Rattle.def_machine.specs.Stacks.{Pairs}
use Rattle.def_assets.specs.Assets.{Assets}
use Rattle.def_files.specs.Laws.{AreFewAssets}
use Rattle.ms_input.specs.Held.{all_assets}
use Rattle.ms_input.proofs.Room.{next_room}
use Rattle.ms_input.proofs.fields.Fields.assets.Goals as goal

pub add_pair-requires : goal.add_pair-requires
add_pair-requires c =
    let all = all_assets c.args.locks c.args.self.now in
    let items = c.deref-pair-items.result.now in
    let same : all.pairs ≡ items = search rules in
    next_room (record all { pairs = items }) c.pairs.assets c.pairs.pair-index c.pair-item.result
    (subst (λ (l : Pairs). AreFewAssets (record all { pairs = l })) same c.requires) c.pairs-test.true c.pair-item.is
    (ap (λ (a : Assets). a.pairs) c.pairs.invariant ∙ ap (take c.pairs.pair-index) same)
