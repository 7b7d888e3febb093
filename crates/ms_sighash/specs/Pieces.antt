-- What lies at one place in each input of a transaction without scriptSigs.
use Rattle.std.specs.Prelude.{ℕ, zero, suc, ◌+◌, ◌*◌, [], ◌++◌, take, drop}
use Rattle.def_script.specs.Bytes.{Bytes}

-- so many bytes from a place on in the inputs of lesser numbers
abbrev pub pieces : (from size : ℕ) → (count : ℕ) → (inputs : Bytes) → Bytes
pieces from size zero inputs = []
pieces from size (suc count) inputs = pieces from size count inputs ++ take size (drop (41 * count + from) inputs)
