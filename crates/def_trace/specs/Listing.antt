-- How the instructions of a script are listed: a line for each.
use Rattle.std.specs.Prelude.{ℕ, List, [], ◌∷◌, ◌++◌, codes, decimal, drop}
use Rattle.def_script.specs.Bytes.{Bytes}
use Rattle.def_trace.specs.Placed.{Placed}
use Rattle.def_trace.specs.Written.{instruction_text, line_end}

-- an instruction: the offset of its first byte, what a trace calls it, and the place of the node that wrote it, where it is given
abbrev pub listed : (places : List ℕ) → Placed → Bytes
listed places p = codes "at " ++ decimal p.offset ++ codes " " ++ instruction_text p.item p.first ++ line_end places

-- instructions in order, each with the place of the node that wrote it, as far as places are given
unfoldable pub listing : (places : List ℕ) → List Placed → Bytes
listing places [] = []
listing places (p ∷ ps) = listed places p ++ listing (drop 1 places) ps
