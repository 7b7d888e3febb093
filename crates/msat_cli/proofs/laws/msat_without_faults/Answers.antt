use Rattle.std.proofs.Common.{◌≡◌, ◌⊎◌, inl, inr, refl, arith}
use Rattle.def_answer.specs.declared.status.Status.TheVariants as status
use Rattle.ms_io.specs.Sides.{Rose}
use Rattle.msat_cli.proofs.EndLemmas.{unless_fault}
use Rattle.msat_cli.proofs.laws.msat_without_faults.Goals as goal

pub returns-clause-answered : goal.returns-clause-answered
returns-clause-answered c s report answer =
    unless_fault s c.msat.result _ _ (λ rose. omega (arith, rose)) (λ rose. omega (arith, rose)) (c.msat.ensures.promises.answered _ s report (inr refl) answer)

pub returns-clause-usage : goal.returns-clause-usage
returns-clause-usage c none = by (c.msat.ensures.promises.usage none)
  where
    by : (c.msat.result ≡ status.Usage) ⊎ ((c.msat.result ≡ status.WriteFault) × Rose 0 0) → c.msat.result ≡ status.Usage
    by (inl is) = is
    by (inr fault) = let rose = fault.1 in absurd (omega (arith, rose))

pub returns-clause-front : goal.returns-clause-front
returns-clause-front c = c.msat.ensures.promises.front

pub returns-clause-unread : goal.returns-clause-unread
returns-clause-unread c is_no_reader = let left = (c.msat.ensures.promises.unread is_no_reader).left in cc
