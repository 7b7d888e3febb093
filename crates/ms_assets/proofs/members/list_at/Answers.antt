use Rattle.ms_assets.proofs.Json.{elements_seen}
use Rattle.ms_assets.proofs.members.list_at.Goals as goal

pub returns-in_ok-elements-in-Some : goal.returns-in_ok-elements-in-Some
returns-in_ok-elements-in-Some c = elements_seen _ _ _ _ c.in-Some.ensures c.in_ok-elements-in-Some.ensures c.as_slice.ensures.value
