-- What is read of sizes, as contracts see it.
use Rattle.std.specs.Prelude.{ℕ, ◌+◌, Result, Ok, Err}
use Rattle.def_script.specs.declared.SizeFault.{SizeFault}
use Rattle.def_script.specs.Sizes.{SizeReading}
use Rattle.ms_script.specs.declared.sizes.Size.{Size}

-- a size that begins at a place, and where what follows begins
abbrev pub size_at : (from : ℕ) → SizeReading → Result (ℕ × ℕ) SizeFault
size_at from (Ok read) = Ok (read.0, from + read.1)
size_at from (Err fault) = Err fault

-- a size as a pair
abbrev pub size_seen : Result Size SizeFault → SizeReading
size_seen (Ok size) = Ok (size.value, size.taken)
size_seen (Err fault) = Err fault
