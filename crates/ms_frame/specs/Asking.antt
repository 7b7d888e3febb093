-- The words that ask for the answers to lines.
use Rattle.std.specs.Prelude.{◌≡◌, List, [], ◌∷◌, codes}
use Rattle.def_script.specs.Bytes.{Bytes}

-- the one word `lines`
abbrev pub AsksLines : (words : List Bytes) → Type 0
AsksLines words = words ≡ codes "lines" ∷ []
