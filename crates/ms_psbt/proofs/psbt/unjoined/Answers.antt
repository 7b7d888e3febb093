use Rattle.std.proofs.Common.{ℕ, [], List, get_or, length, ◌<◌, ◌^◌, option_map, ap, ◌∙◌, arith}
use Rattle.def_script.specs.Bytes.{IsBytes}
use Rattle.def_psbt.specs.Forms.{has_no_script_sig, outpoint_texts}
use Rattle.def_psbt.specs.Transaction.{TransactionInput}
use Rattle.std.specs.List.{list_all}
use Rattle.ms_psbt.specs.Scaffolding.Outpoints.{first_repeated}
use Rattle.ms_psbt.proofs.Joining.{no_script_sigs, repeated_is, unjoined_is}
use Rattle.ms_psbt.proofs.psbt.unjoined.Goals as goal

pub returns : goal.returns
returns c = λ at inputs made placed there is.
    let fits : IsBytes c.args.psbt.now = λ i. omega (arith, c.type_inv.psbt i) in
    let small : length c.args.psbt.now < 2 ^ 64 = omega (arith, c.requires) in
    let number = c.in_ok-number.ensures made there (ap (λ (i : List TransactionInput). list_all has_no_script_sig i) is ∙ no_script_sigs inputs) in
    let repeated = c.numbered-repeated.ensures ∙ ap (option_map (λ (n : ℕ). get_or c.args.places.now n 0)) (number ∙ ap (λ (i : List TransactionInput). first_repeated [] (outpoint_texts i)) is)
    ∙ repeated_is c.args.psbt.now fits small [] at c.args.places.now inputs placed in
    c.refusal_at.ensures ∙ unjoined_is at inputs c.numbered-repeated.result c.unserved-lacking.result repeated (c.unserved-lacking.ensures at inputs placed)
