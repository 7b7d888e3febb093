-- The steps on the way to a reply. No public clause cites it, so it need not be believed.
use Rattle.std.specs.Prelude.{◌≡◌, ℕ, List, [], ◌∷◌, ◌++◌, map, Option, Some, None, Result}
use Rattle.def_script.specs.Bytes.{Bytes}
use Rattle.def_tree.specs.Tree.{Tree}
use Rattle.def_text.specs.Refusal.{TextReads}
use Rattle.def_emit.specs.Emit.{script_of}
use Rattle.def_sane.specs.declared.Unfit.{Unfit}
use Rattle.def_sane.specs.Unfit.{first_unfit}
use Rattle.std.specs.declared.vec.Vec.{Vec}
use Rattle.std.specs.declared.alloc.Global.{Global}
use Rattle.def_address.specs.declared.Network.{Network}
use Rattle.def_descriptor.specs.Pieces.{Piece, place_of}
use Rattle.def_descriptor.specs.Gives.{key_program, tree_program}
use Rattle.def_descriptor.specs.Answer.{Descriptor}
use Rattle.def_descriptor_answer.specs.Places.{Place, of_key, of_tree, nothing, unfit, IsAt}
use Rattle.def_descriptor_answer.specs.Lines.{reason_line, condition_lines, index_lines}
use Rattle.def_descriptor_answer.specs.Words.{Derivation}
use Rattle.def_descriptor_answer.specs.Reply.{Reply, Lists, listed_reply}
use Rattle.ms_descriptor_replies.specs.declared.judging.Place.{Place as Own}
use Rattle.ms_descriptor_replies.specs.declared.judging.Judgement.{Judgement}
use Rattle.ms_descriptor_replies.specs.declared.judging.Judgement.TheVariants as own
use Rattle.ms_descriptor_replies.specs.Found.{IsMeasured, IsFound}

-- a text has a tree
abbrev pub HasTree : (text : Bytes) → Type 0
HasTree text = (tree : Tree) × (offsets : List ℕ) × TextReads text tree offsets

-- what is told of a tree whose nodes have these offsets
abbrev pub TellsOfTree : List Piece → Tree → (offsets : List ℕ) → Judgement → Type 0
TellsOfTree pieces tree offsets (own.Sane measures script) = (first_unfit tree ≡ None) × IsMeasured tree measures × (script ≡ script_of tree)
TellsOfTree pieces tree offsets (own.Unfit reason) =
    (why : Unfit) × (first_unfit tree ≡ Some why) × (reason.items ≡ reason_line (unfit (map (place_of 0 pieces) offsets) why))

-- and of that of a text
abbrev pub TellsOf : (text : Bytes) → List Piece → Judgement → Type 0
TellsOf text pieces judgement =
    (tree : Tree) × (offsets : List ℕ) × TextReads text tree offsets × TellsOfTree pieces tree offsets judgement

-- what there is at a branch and an index
abbrev pub Finds : Option Network → Descriptor → (branch index : ℕ) → Own → Type 0
Finds network d branch index found = (place : Place) × IsAt d.body branch index place × IsFound network d place found

-- what was added of a place, and the reason that was found
abbrev pub AddsPlace : Option Network → (branch : ℕ) → Descriptor → (index : ℕ) → Place → (before after : Bytes) → Option (Vec ℕ Global) → Type 0
AddsPlace network branch d index (of_key key) before after None = after ≡ before ++ index_lines network branch d index (key_program key) [] (key ∷ [])
AddsPlace network branch d index (of_tree keys tree) before after None =
    after ≡ before ++ index_lines network branch d index (tree_program tree) (condition_lines d.body keys tree) keys
AddsPlace network branch d index (nothing why) before after None = ⊥
AddsPlace network branch d index (of_key key) before after (Some reason) = ⊥
AddsPlace network branch d index (of_tree keys tree) before after (Some reason) = ⊥
AddsPlace network branch d index (nothing why) before after (Some reason) = reason.items ≡ reason_line why

-- a place is the one that there is, and it was added
abbrev pub AddsIndex : Option Network → (branch : ℕ) → Descriptor → (index : ℕ) → (before after : Bytes) → Option (Vec ℕ Global) → Type 0
AddsIndex network branch d index before after found =
    (place : Place) × IsAt d.body branch index place × AddsPlace network branch d index place before after found

-- the lines of all indices, or the first refusal
abbrev pub RepliesByList : Descriptor → Derivation → Reply → Type 0
RepliesByList d asked r = (listed : Result Bytes Bytes) × Lists d asked asked.count asked.index listed × (r ≡ listed_reply listed)
