-- Examples of the definitions: what words ask, and whole answers.
use Rattle.std.specs.Prelude.{◌≡◌, [], ◌∷◌, codes, Some, None}
use Rattle.def_address.specs.declared.Network.TheVariants.{Test}
use Rattle.def_answer.specs.Lines.{line}
use Rattle.def_descriptor_answer.specs.declared.status.Status.TheVariants as status
use Rattle.def_descriptor_answer.specs.Words.{derive, update, command_of}
use Rattle.def_descriptor_answer.specs.Answer.{Answer}

-- a branch is named, and no descriptor
abbrev pub NoDescriptor : Type 0
NoDescriptor = command_of (codes "derive" ∷ codes "--branch" ∷ codes "0" ∷ []) ≡ None

-- the second index would be 2 ^ 31
abbrev pub LastIndexTooLarge : Type 0
LastIndexTooLarge = command_of (codes "derive" ∷ codes "wpkh(x)" ∷ codes "2147483647" ∷ codes "2" ∷ []) ≡ None

-- a leading zero
abbrev pub LeadingZero : Type 0
LeadingZero = command_of (codes "derive" ∷ codes "wpkh(x)" ∷ codes "01" ∷ []) ≡ None

-- an option that stands behind another one's place is a descriptor
abbrev pub OptionsInOrder : Type 0
OptionsInOrder =
    command_of (codes "derive" ∷ codes "--testnet" ∷ codes "--branch" ∷ codes "1" ∷ codes "--testnet" ∷ codes "5" ∷ codes "2" ∷ []) ≡
    Some (derive (record { network = Some Test; branch = 1; text = codes "--testnet"; index = 5; count = 2 }))

-- `update` wants a count, of at most 10,000, and has no option
abbrev pub UpdateWords : Type 0
UpdateWords =
    (command_of (codes "update" ∷ codes "wpkh(x)" ∷ codes "10000" ∷ []) ≡ Some (update (codes "wpkh(x)") 10000))
    × (command_of (codes "update" ∷ codes "wpkh(x)" ∷ codes "10001" ∷ []) ≡ None)
    × (command_of (codes "update" ∷ codes "wpkh(x)" ∷ []) ≡ None)
    × (command_of (codes "update" ∷ codes "--testnet" ∷ codes "wpkh(x)" ∷ codes "1" ∷ []) ≡ None)

-- words without a form, and a text that is none of a descriptor
abbrev pub NoForm : Type 0
NoForm = Answer (codes "check" ∷ []) [] status.Usage (line (codes "refused usage"))

-- a source isn't read where the text is refused before
abbrev pub NoTextToUpdate : Type 0
NoTextToUpdate = Answer (codes "update" ∷ codes "x" ∷ codes "1" ∷ []) [] status.Refused (line (codes "refused descriptor Syntax at 0"))

abbrev pub NoText : Type 0
NoText = Answer (codes "check" ∷ codes "x" ∷ []) [] status.Refused (line (codes "refused descriptor Syntax at 0"))
