-- What is so of the text of a descriptor.
use Rattle.std.specs.Prelude.{◌≡◌, ◌≤◌, ◌++◌, IsUtf8, length, take, codes, Some, Ok}
use Rattle.def_script.specs.Bytes.{Bytes}
use Rattle.def_text.specs.Refusal.{MOST_BYTES}
use Rattle.def_address.specs.DescriptorSum.{descriptor_sum}
use Rattle.def_descriptor.specs.Answer.{Descriptor, Answers}

-- each text that is read has a checksum: all its characters are of BIP 380's set
abbrev pub TextsHaveSums : Type 0
TextsHaveSums = (text : Bytes) (own : Descriptor) → IsUtf8 text → Answers text (Ok own) → (sum : Bytes) × (descriptor_sum (take own.length text) ≡ Some sum)

-- with `#` and its checksum behind it, it is read as the same descriptor, where it isn't too long then
abbrev pub TextsAreReadWithSums : Type 0
TextsAreReadWithSums =
    (text : Bytes) (own : Descriptor) (sum : Bytes) → IsUtf8 text → Answers text (Ok own) → descriptor_sum (take own.length text) ≡ Some sum →
    length (take own.length text ++ codes "#" ++ sum) ≤ MOST_BYTES → Answers (take own.length text ++ codes "#" ++ sum) (Ok own)
