-- The places of a descriptor's outputs, and what is known at each.
use Rattle.std.specs.Prelude.{◌≡◌, ℕ, ◌+◌, ◌<◌, List, [], ◌∷◌, Option, Some, None, Ok, if◌then◌else◌}
use Rattle.std.specs.Str.{bytes_eq}
use Rattle.std.specs.Ordering.{nat_cmp}
use Rattle.std.specs.Cmp.Lexicographic.{slice_cmp}
use Rattle.std.specs.BTreeMap.{BTreeMap, get_by}
use Rattle.std.specs.declared.vec.Vec.{Vec}
use Rattle.std.specs.declared.alloc.Global.{Global}
use Rattle.def_script.specs.Bytes.{Bytes}
use Rattle.def_descriptor.specs.Answer.{Answers}
use Rattle.def_update.specs.Known.{Known}
use Rattle.ms_descriptor.specs.declared.parts.Descriptor.{Descriptor}
use Rattle.ms_descriptor.specs.Bodies.{descriptor_at, BodyWithin}
use Rattle.ms_descriptor_update.specs.Known.{KnowsAll}

abbrev pub Places : Type 0
Places = BTreeMap (Vec ℕ Global) ℕ

-- the place that is kept of a script
abbrev pub place_of : (script : Bytes) → Places → Option ℕ
place_of script places = get_by (λ key. slice_cmp nat_cmp script key.items) places

-- the number of the first output with a script, from a number on
abbrev pub first_place : (script : Bytes) → (from : ℕ) → List Known → Option ℕ
first_place script from [] = None
first_place script from (one ∷ rest) = if bytes_eq script one.output then Some from else first_place script (from + 1) rest

-- a descriptor of a text, whose outputs are known at so many indices of each branch, each found by its script
pub record IsBook (text : Bytes) (own : Descriptor) (count : ℕ) (places : Places) (known : List Known) : Type 0 where
  pub within : BodyWithin text own.body
  pub read : Answers text (Ok (descriptor_at text own))
  pub some : 0 < count
  pub knows : KnowsAll (descriptor_at text own) count known
  pub found : (script : Bytes) → place_of script places ≡ first_place script 0 known
