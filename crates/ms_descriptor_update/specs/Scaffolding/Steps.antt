-- The steps on the way to the outputs of a descriptor.
use Rattle.std.specs.Prelude.{◌≡◌, ℕ, ◌-◌, ◌/◌, ◌%◌, List, [], ◌∷◌, ◌++◌, length, Option, Some, None, Result, Ok, Err, if◌then◌else◌}
use Rattle.std.specs.Option.{option_or}
use Rattle.std.specs.Str.{bytes_eq}
use Rattle.std.specs.declared.vec.Vec.{Vec}
use Rattle.std.specs.declared.alloc.Global.{Global}
use Rattle.def_script.specs.Bytes.{Bytes}
use Rattle.def_emit.specs.Emit.{script_of}
use Rattle.def_descriptor.specs.Gives.{key_program, tree_program}
use Rattle.def_descriptor.specs.Answer.{Descriptor}
use Rattle.def_update.specs.Known.{Known}
use Rattle.def_descriptor_answer.specs.Places.{Reason, Place, of_key, of_tree, nothing, IsAt}
use Rattle.def_descriptor_answer.specs.Lines.{reason_line}
use Rattle.def_descriptor_answer.specs.Update.{known_at, KnowsFrom}
use Rattle.ms_descriptor_update.specs.Book.{Places, place_of, first_place}

-- what is known of a place
abbrev pub IsKnownOf : Descriptor → (branch index : ℕ) → Place → Known → Type 0
IsKnownOf d branch index (of_key key) one = one ≡ known_at d branch index (key_program key) None (key ∷ [])
IsKnownOf d branch index (of_tree keys tree) one = one ≡ known_at d branch index (tree_program tree) (Some (script_of tree)) keys
IsKnownOf d branch index (nothing reason) one = ⊥

-- and at a branch and an index
abbrev pub KnowsOne : Descriptor → (branch index : ℕ) → Known → Type 0
KnowsOne d branch index one = (place : Place) × IsAt d.body branch index place × IsKnownOf d branch index place one

-- an output's script was put behind those of earlier places, and the reason that was found
abbrev pub PutsPlace : Descriptor → (count place : ℕ) → (before after : Places) → Option (Vec ℕ Global) → Type 0
PutsPlace d count place before after None =
    (one : Known) × KnowsOne d (place / count) (place % count) one
    × ((script : Bytes) → place_of script after ≡ option_or (place_of script before) (if bytes_eq script one.output then Some place else None))
PutsPlace d count place before after (Some reason) =
    (why : Reason) × IsAt d.body (place / count) (place % count) (nothing why) × (reason.items ≡ reason_line why)

-- what is known so far, before what is known later
abbrev pub known_behind : List Known → Result (List Known) Bytes → Result (List Known) Bytes
known_behind known (Ok later) = Ok (known ++ later)
known_behind known (Err line) = Err line

-- so many places are in, and with those that are left all are
pub record IsFilled (d : Descriptor) (count total number : ℕ) (places : Places) : Type 0 where
  pub known : List Known
  pub long : length known ≡ number
  pub goes : (later : Result (List Known) Bytes) → KnowsFrom d count (total - number) number later → KnowsFrom d count total 0 (known_behind known later)
  pub found : (script : Bytes) → place_of script places ≡ first_place script 0 known
