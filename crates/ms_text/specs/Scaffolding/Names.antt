-- Names and letters as the machine that reads a text has them.
use Rattle.std.specs.Prelude.{◌≡◌, Bool, false, List, [], ◌∷◌, Some, is_some}
use Rattle.def_script.specs.Bytes.{Bytes}
use Rattle.def_text.specs.Letter as letters
use Rattle.def_text.specs.Scaffolding.Reader as reader
use Rattle.ms_text.specs.declared.names.LeafName.{LeafName}
use Rattle.ms_text.specs.declared.names.LeafName.TheVariants as leaf
use Rattle.ms_text.specs.declared.names.Pair.{Pair}
use Rattle.ms_text.specs.declared.names.Pair.TheVariants as pair
use Rattle.ms_text.specs.declared.names.Form.{Form}
use Rattle.ms_text.specs.declared.names.Form.TheVariants as form
use Rattle.ms_text.specs.declared.names.Letter.{Letter}
use Rattle.ms_text.specs.declared.names.Letter.TheVariants as letter
use Rattle.ms_text.specs.declared.names.Head.{Head}
use Rattle.ms_text.specs.declared.names.Head.TheVariants as head

abbrev pub leaf_of : LeafName → reader.Leaf
leaf_of leaf.PkK = reader.leaf_pk_k
leaf_of leaf.PkH = reader.leaf_pk_h
leaf_of leaf.Pk = reader.leaf_pk
leaf_of leaf.Pkh = reader.leaf_pkh
leaf_of leaf.Older = reader.leaf_older
leaf_of leaf.After = reader.leaf_after
leaf_of (leaf.Hash kind) = reader.leaf_hash kind

abbrev pub pair_of : Pair → reader.Pair
pair_of (pair.Two kind) = reader.pair_two kind
pair_of pair.AndN = reader.pair_and_n

abbrev pub form_of : Form → reader.Form
form_of form.Zero = reader.form_0
form_of form.One = reader.form_1
form_of (form.Leaf name) = reader.form_leaf (leaf_of name)
form_of form.AndOr = reader.form_andor
form_of (form.Pair name) = reader.form_pair (pair_of name)
form_of form.Thresh = reader.form_thresh
form_of form.Multi = reader.form_multi

abbrev pub letter_of : Letter → letters.Letter
letter_of (letter.Wrapper wrapper) = letters.letter_of_wrapper wrapper
letter_of letter.T = letters.letter_t
letter_of letter.L = letters.letter_l
letter_of letter.U = letters.letter_u

-- whether a letter begins the bytes
abbrev pub starts_letter : Bytes → Bool
starts_letter [] = false
starts_letter (b ∷ bytes) = is_some (reader.first_letter b reader.LETTERS)

-- a word is one or more letters
pub record IsLetters (w : Bytes) : Type 0 where
  pub first : letters.Letter
  pub others : List letters.Letter
  pub spells : reader.letters_of w ≡ Some (first ∷ others)
  pub is : reader.head_of w ≡ reader.run first others

-- what a word is where an expression may begin
abbrev pub HeadIs : Head → Bytes → Type 0
HeadIs (head.Name name) w = reader.head_of w ≡ reader.named (form_of name)
HeadIs head.Letters w = IsLetters w
HeadIs head.Neither w = reader.head_of w ≡ reader.neither
