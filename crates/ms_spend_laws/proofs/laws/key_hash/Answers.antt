use Rattle.ms_spend_laws.proofs.laws.key_hash.Goals as goal
use Rattle.ms_spend_laws.proofs.KeyHash.{key_hash_is_pkh, key_hash_is_read_as_pkh, pkh_stack}

pub returns : goal.returns
returns c = record { script = key_hash_is_pkh; reading = key_hash_is_read_as_pkh; stack = pkh_stack }
