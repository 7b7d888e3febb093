use Rattle.std.proofs.Common.{true, refl, sym, ap, subst, ◌∙◌}
use Rattle.std.specs.Option.{option_map}
use Rattle.def_spend.specs.States.{state_of}
use Rattle.ms_input.specs.Seen.{input_seen}
use Rattle.ms_psbt_report.proofs.Judged.{AreJudged, words_judged, told_verified, untold_unverified}
use Rattle.ms_psbt_report.proofs.inputs.words_of.Goals as goal

pub returns-in-Unverified : goal.returns-in-Unverified
returns-in-Unverified c = untold_unverified true c.args.input.now.spend (c.requires.verification ∙ c.in-Unverified.is)

pub returns-in-Some : goal.returns-in-Some
returns-in-Some c =
    let input = c.args.input.now in
    let words = c.in-Some.words.now in
    subst (λ b. AreJudged b input.spend words) c.requires.sane
    (words_judged (state_of (input_seen input)) input.spend words (ap (option_map (λ w. w.now)) (sym c.in-Some.is) ∙ c.words.ensures))

pub returns-in-None : goal.returns-in-None
returns-in-None c =
    (c.requires.table, told_verified true c.args.input.now.spend refl (c.requires.verification ∙ c.in-Verified.is))
