-- The bytes of a source, as contracts see them.
use Rattle.def_script.specs.Bytes.{Bytes}
use Rattle.ms_psbt.specs.declared.source.PsbtBytes.{PsbtBytes}
use Rattle.ms_psbt.specs.declared.source.PsbtBytes.TheVariants.{Given, Decoded}

-- the bytes of the PSBT, in whichever form it came
abbrev pub bytes_of : PsbtBytes → Bytes
bytes_of (Given bytes) = bytes.now
bytes_of (Decoded bytes) = bytes.items
