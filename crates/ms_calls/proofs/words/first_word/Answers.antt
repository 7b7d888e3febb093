use Rattle.std.proofs.Common.{sym, subst}
use Rattle.ms_calls.specs.Words.{HasNoNul}
use Rattle.ms_calls.proofs.WordLemmas.{no_word, free_front, other_word}
use Rattle.ms_calls.proofs.words.first_word.Goals as goal

pub returns-in_err-end-clause-first : goal.returns-in_err-end-clause-first
returns-in_err-end-clause-first c =
    rw c.from_residual.ensures (λ word rest utf8 free. no_word c.args.bytes.now c.memchr.result c.in_err-end.was c.memchr.ensures word rest)

pub returns-in_default-clause-first : goal.returns-in_default-clause-first
returns-in_default-clause-first c =
    other_word c.args.bytes.now c.in_ok-end.end c.memchr.result c.in_ok-end.was c.memchr.ensures c.in_default.ensures.cases.0

pub returns-clause-no_nul : goal.returns-clause-no_nul
returns-clause-no_nul c =
    subst HasNoNul (sym c.in-Ok.ensures.cases.0) (free_front c.args.bytes.now c.in_ok-end.end c.memchr.result c.in_ok-end.was c.memchr.ensures)
