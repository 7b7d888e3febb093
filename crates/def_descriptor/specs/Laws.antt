-- Laws of the definitions: each text in UTF-8 has exactly one answer.
use Rattle.std.specs.Prelude.{◌≡◌, IsUtf8, Result}
use Rattle.def_script.specs.Bytes.{Bytes}
use Rattle.def_descriptor.specs.declared.DescriptorFault.{DescriptorFault}
use Rattle.def_descriptor.specs.Answer.{Descriptor, Answers}

-- a text has at most one answer: a descriptor or a refusal
abbrev pub OneAnswer : Type 0
OneAnswer = (text : Bytes) (a b : Result Descriptor DescriptorFault) → IsUtf8 text → Answers text a → Answers text b → a ≡ b

-- and it has one
abbrev pub SomeAnswer : Type 0
SomeAnswer = (text : Bytes) → IsUtf8 text → (a : Result Descriptor DescriptorFault) × Answers text a
