use Rattle.std.proofs.Common.{◌≡◌, ◌<◌, ◌^◌, ◌∙◌, sym, rules}
use Rattle.ms_lines.proofs.PlainLemmas.{decimal_found}
use Rattle.ms_lines.proofs.plain.decimal_id.Goals as goal

pub returns : goal.returns
returns c =
    let same : c.format.result.now ≡ c.args.text.now = search rules in
    let small : c.in-Ok.n < 2 ^ 64 = search rules in
    decimal_found c.args.text.now c.in-Ok.n c.id_number.result small (sym same ∙ c.format.ensures.text) c.id_number.ensures
