use Rattle.std.proofs.Common.{rules, ◌≡◌, ◌↔◌}
use Rattle.std.specs.Prelude.{IsTrue, codes}
use Rattle.ms_frame.proofs.FrameLemmas.{alone_same}
use Rattle.ms_frame.proofs.asking.is_lines.Goals as goal

pub returns : goal.returns
returns c =
    let same : IsTrue c.eq.result ↔ (c.args.word.now ≡ codes "lines") = search rules in
    alone_same c.args.word.now (codes "lines") c.eq.result same
