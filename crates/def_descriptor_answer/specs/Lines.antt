-- The lines of reports. Bytes are printed as lower-case digits, numbers in decimal.
use Rattle.std.specs.Prelude.{ℕ, ◌-◌, nat_lt, Bool, true, false, List, [], ◌∷◌, ◌++◌, length, take, drop, codes, decimal, if◌then◌else◌, flat_map, Option, unwrap_or}
use Rattle.hex.specs.Hex.{encode_lower}
use Rattle.def_script.specs.Bytes.{Bytes}
use Rattle.def_tree.specs.Tree.{Key, Tree}
use Rattle.def_types.specs.Typed.{type_of, properties_of}
use Rattle.def_emit.specs.Emit.{script_of}
use Rattle.def_sane.specs.declared.Rules.TheVariants.{Policy}
use Rattle.def_answer.specs.Lines.{line, script_line, tree_limits_line, unfit_line}
use Rattle.def_answer.specs.Check.{type_letters}
use Rattle.def_address.specs.DescriptorSum.{descriptor_sum}
use Rattle.def_address.specs.declared.Network.{Network}
use Rattle.def_descriptor.specs.declared.DescriptorFault.{DescriptorFault}
use Rattle.def_descriptor.specs.declared.DescriptorFault.TheVariants as fault
use Rattle.def_descriptor.specs.Expression.{Origin, Expression}
use Rattle.def_descriptor.specs.Steps.{HARDENED}
use Rattle.def_descriptor.specs.Parts.{Body, miniscript, sorted, single}
use Rattle.def_descriptor.specs.Gives.{expressions_of, is_ranged, branch_count, origin_at, text_of, output_of, address_at}
use Rattle.def_descriptor.specs.Answer.{Descriptor}
use Rattle.def_descriptor_answer.specs.Places.{Reason, no_key, unfit, Place, of_key, of_tree, nothing}

-- ---- refusals

-- a place is a byte offset in the descriptor. Want of memory has no name
abbrev pub named_at : (name : Bytes) → (at : ℕ) → Bytes
named_at name at = name ++ (codes " at " ++ decimal at)

abbrev pub fault_name : DescriptorFault → Bytes
fault_name fault.TooLong = codes "TooLong"
fault_name (fault.Syntax at) = named_at (codes "Syntax") at
fault_name (fault.TooDeep at) = named_at (codes "TooDeep") at
fault_name (fault.Other at) = named_at (codes "Other") at
fault_name (fault.Private at) = named_at (codes "Private") at
fault_name (fault.Key at) = named_at (codes "Key") at
fault_name (fault.Point at) = named_at (codes "Point") at
fault_name (fault.Network at) = named_at (codes "Network") at
fault_name (fault.Depth at) = named_at (codes "Depth") at
fault_name (fault.Hardened at) = named_at (codes "Hardened") at
fault_name (fault.Multipath at) = named_at (codes "Multipath") at
fault_name (fault.Checksum at) = named_at (codes "Checksum") at
fault_name fault.Memory = []

abbrev pub refused_line : (name : Bytes) → Bytes
refused_line name = line (codes "refused descriptor " ++ name)

abbrev pub fault_line : DescriptorFault → Bytes
fault_line why = refused_line (fault_name why)

abbrev pub no_branch_line : Bytes
no_branch_line = refused_line (codes "NoBranch")

abbrev pub not_ranged_line : Bytes
not_ranged_line = refused_line (codes "NotRanged")

-- why there is no sane tree, with the end of its line: as `msat check` has it behind these words, but with places in the descriptor
abbrev pub BEHIND : Bytes
BEHIND = codes "refused text "

abbrev pub reason_line : Reason → Bytes
reason_line (no_key at) = line (codes "NoKey at " ++ decimal at)
reason_line (unfit offsets why) = drop (length BEHIND) (unfit_line offsets why)

-- at a branch and an index
abbrev pub place_refused_line : (branch index : ℕ) → Reason → Bytes
place_refused_line branch index reason =
    codes "refused branch " ++ (decimal branch ++ (codes " index " ++ (decimal index ++ (codes " " ++ reason_line reason))))

-- ---- `check`

-- the text without its checksum as it came, and its checksum
abbrev pub descriptor_line : (text : Bytes) → (length : ℕ) → Bytes
descriptor_line text length =
    line (codes "descriptor " ++ (take length text ++ (codes "#" ++ unwrap_or (descriptor_sum (take length text)) [])))

-- the name of a kind of descriptor
abbrev pub form_name : Body → Bytes
form_name (miniscript ps) = codes "wsh"
form_name (sorted ps) = codes "wsh"
form_name (single expression) = codes "wpkh"

abbrev pub kind_name : (under : Bool) → Body → Bytes
kind_name true body = codes "sh(" ++ (form_name body ++ codes ")")
kind_name false body = form_name body

abbrev pub yes_or_no : Bool → Bytes
yes_or_no true = codes "yes"
yes_or_no false = codes "no"

abbrev pub kind_line : (under : Bool) → Body → Bytes
kind_line under body = line (codes "kind " ++ kind_name under body)

-- how many key expressions stand in it, whether one goes by the index, and how many branches it has
abbrev pub keys_line : Body → Bytes
keys_line body = line (codes "keys " ++ decimal (length (expressions_of body)))

abbrev pub ranged_line : Body → Bytes
ranged_line body = line (codes "ranged " ++ yes_or_no (is_ranged body))

abbrev pub branches_line : Body → Bytes
branches_line body = line (codes "branches " ++ decimal (branch_count body))

abbrev pub shape_lines : (under : Bool) → Body → Bytes
shape_lines under body = kind_line under body ++ (keys_line body ++ (ranged_line body ++ branches_line body))

-- the type and the limits of a sane tree, or the reason why there is none; of a single key nothing
abbrev pub judgement_lines : Place → Bytes
judgement_lines (of_key key) = []
judgement_lines (of_tree keys tree) = line (codes "type " ++ type_letters (type_of tree) (properties_of tree)) ++ tree_limits_line Policy tree
judgement_lines (nothing reason) = codes "unfit " ++ reason_line reason

abbrev pub check_report : (text : Bytes) → Descriptor → Place → Bytes
check_report text d place = descriptor_line text d.length ++ (shape_lines d.under d.body ++ judgement_lines place)

-- ---- `derive`

-- a step of a path, with `h` behind a hardened one
abbrev pub step_text : ℕ → Bytes
step_text n = if nat_lt n HARDENED then codes "/" ++ decimal n else codes "/" ++ (decimal (n - HARDENED) ++ codes "h")

abbrev pub path_text : Origin → Bytes
path_text origin = encode_lower origin.print ++ flat_map step_text origin.steps

abbrev pub key_line : Key → Origin → Bytes
key_line key origin = line (codes "key " ++ (encode_lower key ++ (codes " " ++ path_text origin)))

-- of each expression its key, and where that comes from
abbrev pub key_lines : (branch index : ℕ) → List Expression → List Key → Bytes
key_lines branch index [] keys = []
key_lines branch index (expression ∷ rest) [] = []
key_lines branch index (expression ∷ rest) (key ∷ keys) =
    key_line key (origin_at branch index expression) ++ key_lines branch index rest keys

-- of the kinds `sh(..)` the output's script
abbrev pub output_line : (under : Bool) → (output : Bytes) → Bytes
output_line true output = line (codes "output " ++ encode_lower output)
output_line false output = []

-- the address, the output's script and the program
abbrev pub output_lines : (address : Bytes) → (under : Bool) → (output program : Bytes) → Bytes
output_lines address under output program =
    line (codes "address " ++ address) ++ (output_line under output ++ line (codes "program " ++ encode_lower program))

-- what is given at a branch and an index on a network: of the P2WSH kinds with lines of the condition
abbrev pub index_lines : Option Network → (branch : ℕ) → Descriptor → (index : ℕ) → (program condition : Bytes) → (keys : List Key) → Bytes
index_lines network branch d index program condition keys =
    let output = output_of d.under program in
    line (codes "index " ++ decimal index)
    ++ (output_lines (unwrap_or (address_at network d.body output) []) d.under output program
    ++ (condition
    ++ key_lines branch index (expressions_of d.body) keys))

-- the Script of a tree, and the text that `msat` takes
abbrev pub condition_lines : Body → (keys : List Key) → Tree → Bytes
condition_lines body keys tree = script_line (script_of tree) ++ line (codes "text " ++ text_of body keys)
