-- A size that was written is read back.
use Rattle.std.proofs.Common.{◌≡◌, ℕ, ◌^◌, ◌<◌, ◌++◌, length, Ok, subst, sym}
use Rattle.def_script.specs.Bytes.{Bytes}
use Rattle.def_script.specs.Sizes.{size_bytes, read_size}
use Rattle.def_script.proofs.Sizing.{size_is_read_back}

pub size_read_back : (size : ℕ) (bytes : Bytes) → size < 2 ^ 64 → bytes ≡ size_bytes size → (rest : Bytes) → read_size (bytes ++ rest) ≡ Ok (size, length bytes)
size_read_back size bytes small is rest =
    let Reads : Bytes → Type 0 = λ written. read_size (written ++ rest) ≡ Ok (size, length written) in
    subst Reads (sym is) (size_is_read_back size rest small)
