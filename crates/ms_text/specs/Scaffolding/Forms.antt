-- What reading a form answers, in the words of the machine that reads a text: what was read is what it reads from that place, and a
-- fault is its answer. `old` are the offsets before, and `new` those behind.
use Rattle.std.specs.Prelude.{◌≡◌, ℕ, ◌+◌, List, [], ◌∷◌, ◌++◌, length, Some, Result}
use Rattle.def_script.specs.Bytes.{Bytes}
use Rattle.def_tree.specs.Tree as tree
use Rattle.def_text.specs.declared.TextFault.{TextFault}
use Rattle.def_text.specs.Letter.{Letter}
use Rattle.def_text.specs.Token.{Token}
use Rattle.def_text.specs.Scaffolding.Reader.{Want, expression, colon_next, leaf_open, thresh_comma, multi_comma, ended, Frame, State, letters_of, run_frames, run_offsets, begin_form, leaf_of as spelled_by, Outcome, outcome}
use Rattle.ms_tree.specs.declared.tree.Tree.{Tree}
use Rattle.ms_tree.specs.declared.tree.Leaf.{Leaf}
use Rattle.ms_tree.specs.Shape.{shape, shapes}
use Rattle.ms_text.specs.declared.arguments.Spelled.{Spelled}
use Rattle.ms_text.specs.declared.arguments.Keys.{Keys}
use Rattle.ms_text.specs.declared.expressions.Children.{Children}
use Rattle.ms_text.specs.declared.forms.Part.{Part}
use Rattle.ms_text.specs.declared.names.Form.{Form}
use Rattle.ms_text.specs.declared.names.LeafName.{LeafName}
use Rattle.ms_text.specs.declared.tokens.Mark.{Mark}
use Rattle.ms_text.specs.Scaffolding.Leaves.{leaf_tree}
use Rattle.ms_text.specs.Scaffolding.Marks.{mark_read}
use Rattle.ms_text.specs.Scaffolding.Names.{form_of, leaf_of}
use Rattle.ms_text.specs.Scaffolding.Place.{Answers, Takes, word_read, machine_from, machine_behind}

-- a tree has ended at its place, behind these frames
abbrev pub part_ended : List Frame → (new : List ℕ) → Bytes → Part → Outcome
part_ended fs new text part = machine_from (ended (shape part.tree), fs, new) text part.end

-- a tree is read from a state on
abbrev pub ReadsTree : State → List Frame → (new : List ℕ) → Bytes → (at : ℕ) → Result Part TextFault → Type 0
ReadsTree s fs new text at result = Answers (machine_from s text at) result (part_ended fs new text)

-- a tree is read where this is wanted, behind so many frames of any kind
abbrev pub ReadsWanted : Want → (depth : ℕ) → (old new : List ℕ) → Bytes → (at : ℕ) → Result Part TextFault → Type 0
ReadsWanted want depth old new text at result = (fs : List Frame) → length fs ≡ depth → ReadsTree (want, fs, old) fs new text at result

-- the same behind any frames
abbrev pub ReadsAnywhere : Want → (old new : List ℕ) → Bytes → (at : ℕ) → Result Part TextFault → Type 0
ReadsAnywhere want old new text at result = (fs : List Frame) → ReadsTree (want, fs, old) fs new text at result

-- the rest of a form is read behind its name, behind so many frames of any kind
abbrev pub ReadsForm : Form → (name : ℕ) → (depth : ℕ) → (old new : List ℕ) → Bytes → (at : ℕ) → Result Part TextFault → Type 0
ReadsForm form name depth old new text at result =
    (fs : List Frame) → length fs ≡ depth → Answers (machine_behind (begin_form (form_of form) name fs old) name text at) result (part_ended fs new text)

-- the same of a colon and an expression, behind a run of letters
abbrev pub ReadsLetters : (run : Bytes) → (name : ℕ) → (depth : ℕ) → (old new : List ℕ) → Bytes → (at : ℕ) → Result Part TextFault → Type 0
ReadsLetters run name depth old new text at result =
    (ls : List Letter) (fs : List Frame) → letters_of run ≡ Some ls → length fs ≡ depth
    → ReadsTree (colon_next, run_frames name ls fs, run_offsets name ls old) fs new text at result

-- the same of a mark and the expression behind it, from each state that takes this mark alone
abbrev pub ReadsBehind : Mark → (depth : ℕ) → (old new : List ℕ) → Bytes → (at : ℕ) → Result Part TextFault → Type 0
ReadsBehind mark depth old new text at result =
    (s : State) (fs : List Frame) → Takes (mark_read mark) s (λ u. (expression, fs, old)) → length fs ≡ depth → ReadsTree s fs new text at result

-- the `)` of a form is read behind its last child, for which this frame waited, behind any others
abbrev pub ReadsClosed : Want → Frame → (old new : List ℕ) → Bytes → (at : ℕ) → Result Part TextFault → Type 0
ReadsClosed want frame old new text at result = (fs : List Frame) → ReadsTree (want, frame ∷ fs, old) fs new text at result

-- the children of a `thresh` are read, behind its number
abbrev pub ReadsChildren : (depth : ℕ) → (old new : List ℕ) → Bytes → (at : ℕ) → Result Children TextFault → Type 0
ReadsChildren depth old new text at result =
    (k name : ℕ) (fs : List Frame) → length fs + 1 ≡ depth
    → Answers (machine_from (thresh_comma k name, fs, old) text at) result
    (λ r. machine_from (ended (tree.thresh k (shapes r.trees.items)), fs, new ++ name ∷ []) text r.end)

-- the argument of a fragment of one word is read, from each state that takes it alone
abbrev pub ReadsLeaf : LeafName → Bytes → (at : ℕ) → Result (Spelled Leaf) TextFault → Type 0
ReadsLeaf name text at result =
    (s : State) (next : tree.Tree → State) → Takes (word_read (spelled_by (leaf_of name))) s next
    → Answers (machine_from s text at) result (λ r. machine_from (next (leaf_tree name r.value)) text r.end)

-- the same in parentheses, from the name on
abbrev pub ReadsMarkedLeaf : LeafName → Bytes → (at : ℕ) → Result (Spelled Leaf) TextFault → Type 0
ReadsMarkedLeaf name text at result =
    (fs : List Frame) (os : List ℕ)
    → Answers (machine_from (leaf_open (leaf_of name), fs, os) text at) result (λ r. machine_from (ended (leaf_tree name r.value), fs, os) text r.end)

-- the keys of a `multi` are read, behind its number
abbrev pub ReadsKeys : Bytes → (at : ℕ) → Result Keys TextFault → Type 0
ReadsKeys text at result =
    (k : ℕ) (fs : List Frame) (os : List ℕ)
    → Answers (machine_from (multi_comma k, fs, os) text at) result (λ r. machine_from (ended (tree.multi k r.keys.items), fs, os) text r.end)

-- a tree is an expression with the letters of a run before it: the machine goes on from both alike
abbrev pub HasLetters : (run : Bytes) → (name : ℕ) → (x : tree.Tree) → (old new : List ℕ) → Tree → Type 0
HasLetters run name x old new made =
    (ls : List Letter) (fs : List Frame) (ts : List Token) → letters_of run ≡ Some ls
    → outcome (ended x, run_frames name ls fs, old) ts ≡ outcome (ended (shape made), fs, new) ts
