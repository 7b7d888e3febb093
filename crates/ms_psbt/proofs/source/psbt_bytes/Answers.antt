use Rattle.std.proofs.Common.{refl, ◌∙◌, sym, arith}
use Rattle.ms_psbt.proofs.Sourcing.{decoded_short}
use Rattle.ms_psbt.proofs.source.psbt_bytes.Goals as goal

pub returns-then-has_magic-2-clause-short : goal.returns-then-has_magic-2-clause-short
returns-then-has_magic-2-clause-short c =
    let short = decoded_short c.args.source.now c.in_ok-text.text.items c.in-Ok.bytes.items c.in_ok-text.ensures (sym c.as_slice.ensures.value ∙ c.in-Ok.ensures.exact (refl, refl)) in
    omega arith
