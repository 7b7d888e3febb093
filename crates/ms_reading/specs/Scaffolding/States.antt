-- The reader's state as the code keeps it, seen as that of the reader of `ms_decode_laws`.
use Rattle.std.specs.Prelude.{◌≡◌, ℕ, List, [], ◌∷◌, map, reverse, Option, Some, None}
use Rattle.def_script.specs.Instruction.{Instruction, push, code}
use Rattle.def_tree.specs.Tree as tree
use Rattle.ms_tree.specs.Shape.{shapes}
use Rattle.ms_decode_laws.specs.Scaffolding.Frame as model_frame
use Rattle.ms_decode_laws.specs.Scaffolding.Want as model_want
use Rattle.ms_decode_laws.specs.Scaffolding.Reader.{State, at}
use Rattle.ms_reading.specs.declared.children.Children.{Children}
use Rattle.ms_reading.specs.declared.children.Numeral.{Numeral}
use Rattle.ms_reading.specs.declared.codes.Code.{Code}
use Rattle.ms_reading.specs.declared.codes.Code.TheVariants as a_code
use Rattle.ms_reading.specs.declared.frame.Frame.{Frame}
use Rattle.ms_reading.specs.declared.frame.Frame.TheVariants as frame
use Rattle.ms_reading.specs.declared.want.Want.{Want}
use Rattle.ms_reading.specs.declared.want.Want.TheVariants as want
use Rattle.ms_reading.specs.Scaffolding.Parts.{tree_of}

-- an instruction, and those of a Script, the last one first
abbrev pub instruction_of : Code → Instruction
instruction_of (a_code.Push bytes) = push bytes.now
instruction_of (a_code.Op op) = code op

abbrev pub backwards : List Code → List Instruction
backwards codes = reverse (map instruction_of codes)

-- children that were read from the last one on
abbrev pub children_of : Children → tree.Trees
children_of c = shapes (reverse c.trees.items)

abbrev pub number_of : Option Numeral → Option ℕ
number_of None = None
number_of (Some n) = Some n.value

abbrev pub frame_of : Frame → model_frame.Frame
frame_of (frame.Under w) = model_frame.under w
frame_of frame.Chain = model_frame.chain
frame_of (frame.FirstOf kind y) = model_frame.first_of kind (tree_of y)
frame_of (frame.SecondOf kind) = model_frame.second_of kind
frame_of frame.Ended = model_frame.ended
frame_of (frame.ElseSeen y) = model_frame.else_seen (tree_of y)
frame_of (frame.Condition y z) = model_frame.condition (tree_of y) (tree_of z)
frame_of frame.AltStack = model_frame.alt_stack
frame_of frame.Swapped = model_frame.swapped
frame_of (frame.Further k ys) = model_frame.further k.value (children_of ys)
frame_of (frame.First k ys) = model_frame.first k.value (children_of ys)

-- the frames, the innermost first
abbrev pub frames_of : List Frame → List model_frame.Frame
frames_of fs = reverse (map frame_of fs)

-- the first of what is seen of some values, where there is one, and what is left
abbrev pub popped_frame : Option Frame → (before after : List model_frame.Frame) → Type 0
popped_frame None before after = (before ≡ []) × (after ≡ [])
popped_frame (Some f) before after = before ≡ frame_of f ∷ after

abbrev pub popped_code : Option Code → (before after : List Instruction) → Type 0
popped_code None before after = (before ≡ []) × (after ≡ [])
popped_code (Some c) before after = before ≡ instruction_of c ∷ after

abbrev pub want_of : Want → model_want.Want
want_of want.Single = model_want.single
want_of want.Side = model_want.side
want_of (want.After x) = model_want.after (tree_of x)
want_of want.Relative = model_want.relative
want_of want.Absolute = model_want.absolute
want_of want.Target = model_want.target
want_of (want.Given bytes) = model_want.given bytes.now
want_of (want.Hash160Of bytes) = model_want.hash160_of bytes.now
want_of (want.Compared x) = model_want.compared (tree_of x)
want_of (want.Sized x) = model_want.sized (tree_of x)
want_of (want.Measured x) = model_want.measured (tree_of x)
want_of (want.Next k ys) = model_want.next k.value (children_of ys)
want_of want.Count = model_want.count
want_of (want.Keys s) = model_want.keys s.left (reverse s.keys.items)
want_of (want.IfSeen x) = model_want.if_seen (tree_of x)
want_of (want.NotIfSeen x) = model_want.not_if_seen (tree_of x)

-- what comes next, where there is such, with these frames
abbrev pub state_of : Option Want → List Frame → Option State
state_of None fs = None
state_of (Some w) fs = Some (at (want_of w) (frames_of fs))
