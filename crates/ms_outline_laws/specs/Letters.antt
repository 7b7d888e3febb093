-- What the letter that fits does to its text.
use Rattle.std.specs.Prelude.{◌≡◌, ◌⊎◌, ℕ, ◌+◌, ◌-◌, IsTrue, IsUtf8, List, ◌∷◌, ◌++◌, Some, slice_get, slice_index, take, drop}
use Rattle.std.specs.Str.{byte}
use Rattle.def_script.specs.Bytes.{Bytes}
use Rattle.def_tree.specs.Nodes.{all_nodes}
use Rattle.def_tree.specs.Size.{nodes}
use Rattle.def_tree.specs.Tree.{Tree, just_0}
use Rattle.def_text.specs.declared.TextFault.TheVariants.{TooLong, TooDeep}
use Rattle.def_text.specs.Letter.{Letter, letter_byte, letter_tree}
use Rattle.def_text.specs.Refusal.{TextReads, TextRefusal}
use Rattle.def_types.specs.declared.rule.RuleAt.{RuleAt}
use Rattle.def_types.specs.Correctness.{correctness_of}
use Rattle.def_outline.specs.Fits.{Trial, over, has_type, fit}

-- a text with a letter and a colon put in at a byte offset
abbrev pub with_letter : (at : ℕ) → Letter → Bytes → Bytes
with_letter at letter text = take at text ++ letter_byte letter ∷ byte ":" ∷ drop at text

-- how many nodes a letter adds
abbrev pub added : Letter → ℕ
added letter = nodes (letter_tree letter just_0) - 1

-- a text is read, its node of this number is this one, and neither it nor a node below it breaks a rule of the types
pub record ReadsWith (text : Bytes) (number : ℕ) (node : Tree) : Type 0 where
  pub tree : Tree
  pub offsets : List ℕ
  pub reads : TextReads text tree offsets
  pub there : slice_get (all_nodes tree) number ≡ Some node
  pub passes : IsTrue (has_type (correctness_of node))

-- where a letter fits before a child of a node, the text with it is read, if it isn't too long or too deep, and the
-- node, its other children as they were, breaks no rule
abbrev pub LetterLetsPass : Type 0
LetterLetsPass =
    (text : Bytes) (tree node : Tree) (offsets : List ℕ) (at : RuleAt) (t : Trial) → IsUtf8 text → TextReads text tree offsets →
    slice_get (all_nodes tree) at.node ≡ Some node → fit offsets tree at ≡ Some t →
    IsUtf8 (with_letter (slice_index offsets t.child) t.letter text)
    × (ReadsWith (with_letter (slice_index offsets t.child) t.letter text) (at.node + added t.letter) (over node t.children)
    ⊎ (TextRefusal (with_letter (slice_index offsets t.child) t.letter text) TooLong
    ⊎ ((place : ℕ) × TextRefusal (with_letter (slice_index offsets t.child) t.letter text) (TooDeep place))))
