-- A text that has a tree isn't refused.
use Rattle.std.proofs.Common.{◌≡◌, subst}
use Rattle.def_script.specs.Bytes.{Bytes}
use Rattle.def_text.specs.Refusal.{TextRefusal}
use Rattle.def_text.proofs.OneAnswer.{none_beside_tree}
use Rattle.ms_outputs.proofs.given.script_in.Goals as goal

pub unreachable-requires-in_default-why : goal.unreachable-requires-in_default-why
unreachable-requires-in_default-why c =
    let read = c.requires.read in
    let same : c.in-Ok.words.now ≡ c.args.text.now = c.in-Ok.ensures.cases.0 in
    none_beside_tree c.args.text.now read.0 read.1 c.in-Err.why c.requires.utf8 read.2
    (subst (λ (z : Bytes). TextRefusal z c.in-Err.why) same (c.in-Err.ensures.refused c.in_default-why.not-Memory))
