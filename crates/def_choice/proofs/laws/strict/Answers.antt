use Rattle.def_choice.proofs.laws.strict.Goals as goal
use Rattle.def_choice.proofs.Chosen.{tight_is_canonical, tight_is_unsigned, strict_is_tight, strict_is_canonical}

pub returns : goal.returns
returns c = record {
  tight_is_canonical = tight_is_canonical;
  tight_is_unsigned = tight_is_unsigned;
  tight = strict_is_tight;
  canonical = strict_is_canonical;
}
