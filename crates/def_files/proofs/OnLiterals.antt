-- What a proof unfolds so that a file that is written out computes.
use Rattle.std.specs.Prelude.{⊤}
use Rattle.std.specs.Str.{is_utf8, chars}
use lib.Utf8.{encode}
use Rattle.hex.specs.Hex.{decode_pairs, encode_with}
use Rattle.def_files.specs.AssetFile.{assets_of}
use Rattle.def_files.specs.RunFile.{run_of}
use Rattle.serde_json.proofs.OnLiterals.{serde_json_on_literals}

unfoldable pub files_on_literals : ⊤
unfolding assets_of run_of is_utf8 chars encode decode_pairs encode_with serde_json_on_literals
files_on_literals = tt
