use Rattle.ms_decode_laws.proofs.laws.decoding.Goals as goal
use Rattle.ms_decode_laws.proofs.Decoding.{each_is_decoded, one_is_decoded, decoded_is_alike}
use Rattle.ms_decode_laws.proofs.ReadText.{decoded_is_read_back}

pub returns : goal.returns
returns c = record { each = each_is_decoded; one = one_is_decoded; alike = decoded_is_alike; read_back = decoded_is_read_back }
