-- Keys at places.
use Rattle.std.proofs.Common.{◌≡◌, ℕ, ◌<◌, [], length, drop, refl, arith}
use Rattle.std.proofs.lemmas.List.{drop_all}
use Rattle.def_script.specs.Bytes.{Bytes}
use Rattle.def_script.specs.Sizes.{read_size}
use Rattle.def_psbt.specs.Reading.{size_at, string_at}
use Rattle.ms_psbt.specs.Scaffolding.Repeats.{key_read}

-- past the end there is none
pub no_key : (bytes : Bytes) (place : ℕ) → length bytes < place → [] ≡ key_read (string_at bytes place)
unfolding string_at size_at read_size
no_key bytes place past =
    let none : drop place bytes ≡ [] = drop_all place bytes (omega arith) in
    rw none refl
