use Rattle.std.proofs.Common.{◌≡◌, take}
use Rattle.ms_input.specs.Held.{all_assets}
use Rattle.ms_input.proofs.fields.Fields.assets.Given as goal

abbrev pub invariant-pairs : goal.invariant-pairs
invariant-pairs l = l.assets ≡ record (all_assets l.fn.locks l.fn.self) { pairs = take l.pair-index l.fn.self.pairs }
