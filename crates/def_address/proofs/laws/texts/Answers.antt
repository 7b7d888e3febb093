use Rattle.def_address.proofs.Base58.{base58_check_is_read, base58_check_is_only}
use Rattle.def_address.proofs.laws.texts.Goals as goal

pub returns-clause-read : goal.returns-clause-read
returns-clause-read c = base58_check_is_read

pub returns-clause-only : goal.returns-clause-only
returns-clause-only c = base58_check_is_only
