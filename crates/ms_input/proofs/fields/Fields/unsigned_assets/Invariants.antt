use Rattle.std.proofs.Common.{◌≡◌, [], take, map}
use Rattle.ms_input.specs.Held.{all_assets}
use Rattle.ms_input.proofs.fields.Fields.unsigned_assets.Given as goal

abbrev pub invariant-preimages : goal.invariant-preimages
invariant-preimages l = l.assets ≡ record (all_assets l.fn.locks l.fn.self) { pairs = []; preimages = map (λ b. b.now) (take l.preimage-index l.preimage-items) }
