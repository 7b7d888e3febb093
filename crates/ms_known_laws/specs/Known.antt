-- What a descriptor says of its outputs is what may be known of outputs.
use Rattle.std.specs.Prelude.{ℕ, List, All, Ok}
use Rattle.def_script.specs.Bytes.{Bytes}
use Rattle.def_descriptor.specs.Answer.{Descriptor, Answers}
use Rattle.def_descriptor_answer.specs.Update.{Knows}
use Rattle.def_update.specs.Known.{Known}
use Rattle.ms_update_laws.specs.Updated.{IsKnown}

-- all that a descriptor says of its outputs: Scripts that can be spelled, and keys of which none stands twice, each with an origin that can be spelled
abbrev pub KnowsKnown : Type 0
KnowsKnown = (text : Bytes) (own : Descriptor) (count : ℕ) (known : List Known) → Answers text (Ok own) → Knows own count (Ok known) → All IsKnown known
