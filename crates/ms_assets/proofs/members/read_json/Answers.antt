use Rattle.std.proofs.Common.{inr, refl}
use Rattle.ms_assets.proofs.Json.{reading_some, reading_none}
use Rattle.ms_assets.proofs.members.read_json.Goals as goal

pub returns-in-Ok : goal.returns-in-Ok
returns-in-Ok g c = reading_some _ _ c.in-Ok.ensures.ok.0 c.in-Ok.ensures.ok.1

pub returns-in-Err-2 : goal.returns-in-Err-2
returns-in-Err-2 g c =
    inr (refl, reading_none _ (c.in-Err.ensures.err (λ memory. let yes = c.is_memory.ensures.0 in let said = c.if-is_memory.false in let held = c.is_memory.ensures.1 memory in cc)))
