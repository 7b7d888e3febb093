-- All that is known of the outputs of a descriptor.
use Rattle.std.specs.Prelude.{ℕ, ◌*◌, List, Ok}
use Rattle.def_descriptor.specs.Gives.{branch_count}
use Rattle.def_descriptor.specs.Answer.{Descriptor}
use Rattle.def_update.specs.Known.{Known}
use Rattle.def_descriptor_answer.specs.Update.{KnowsFrom}
use Rattle.ms_descriptor_update.specs.Scaffolding.Once.{one_list}

-- at each branch, and there at so many indices
abbrev pub KnowsAll : Descriptor → (count : ℕ) → List Known → Type 0
KnowsAll d count known = KnowsFrom d count (branch_count d.body * count) 0 (Ok known)

-- each place has a sane tree or a key: then one list is known
abbrev pub IsKnown : Descriptor → (count : ℕ) → Type 0
IsKnown d count = (known : List Known) × ∥ KnowsAll d count known ∥₁

pub IsKnown-prop : (d : Descriptor) (count : ℕ) → IsProp (IsKnown d count)
IsKnown-prop d count = one_list d count
