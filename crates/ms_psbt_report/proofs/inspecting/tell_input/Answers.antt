use Rattle.std.proofs.Common.{ℕ, ◌*◌, take, sym, subst, ◌∙◌}
use Rattle.std.proofs.lemmas.Result.{on_ok_weaker}
use Rattle.def_psbt.specs.Transaction.{Transaction}
use Rattle.ms_input.specs.Verified.{IsVerifying, verification_of}
use Rattle.ms_input.specs.Seen.{input_seen}
use Rattle.ms_psbt_report.proofs.InputLines.{most_more}
use Rattle.ms_psbt_report.proofs.Loops.{told_more}
use Rattle.ms_psbt_report.proofs.inspecting.tell_input.Goals as goal

pub returns-clause-told : goal.returns-clause-told
returns-clause-told c inputs are told =
    on_ok_weaker c.add_input.result
    (told_more c.args.transaction.now (verification_of c.args.verifying) c.args.psbt.now inputs c.args.number (input_seen c.in_ok-input.input) c.add_input.new.told are
    c.in_ok-input.ensures.spend c.in_ok-input.ensures.reading)
    (c.add_input.ensures.told c.args.transaction.now (take c.args.number inputs) told)

pub returns-clause-most : goal.returns-clause-most
returns-clause-most c =
    on_ok_weaker c.add_input.result (most_more c.add_input.new.told.spent.satoshis c.args.number)
    (c.add_input.ensures.most (c.args.number * 0xffff_ffff_ffff_ffff) c.requires.most)

pub add_input-requires-clause-verifying : goal.add_input-requires-clause-verifying
add_input-requires-clause-verifying c =
    let spend = c.in_ok-input.input.spend in
    let own = c.in_ok-input.ensures.transaction ∙ sym c.requires.transaction in (
      sym c.in_ok-input.ensures.verification,
      subst (λ (n : ℕ). IsVerifying c.args.verifying spend.transaction n) (sym c.in_ok-input.ensures.number)
          (subst (λ (t : Transaction). IsVerifying c.args.verifying t c.args.number) (sym own) c.requires.verifying),
    )
