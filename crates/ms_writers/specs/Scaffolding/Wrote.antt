-- What the code keeps of the instructions so far: who wrote each, and whether the last one has a form that does VERIFY too.
use Rattle.std.specs.Prelude.{ℕ, Bool, false, List, [], ◌∷◌, ◌++◌, is_some, if◌then◌else◌}
use Rattle.def_trace.specs.Writers.{Attributed, form_of}

pub record Wrote : Type 0 where
  pub nodes : List ℕ
  pub fuses : Bool

abbrev pub wrote : Wrote → Attributed → Wrote
wrote w a = record { nodes = w.nodes ++ a.writer ∷ []; fuses = is_some (form_of a.instruction) }

abbrev pub wrote_push : (node : ℕ) → Wrote → Wrote
wrote_push node w = record { nodes = w.nodes ++ node ∷ []; fuses = false }

abbrev pub wrote_verify : (node : ℕ) → Wrote → Wrote
wrote_verify node w = if w.fuses then record w { fuses = false } else record { nodes = w.nodes ++ node ∷ []; fuses = false }

abbrev pub wrote_all : Wrote → List Attributed → Wrote
wrote_all w [] = w
wrote_all w (a ∷ rest) = wrote_all (wrote w a) rest
