-- The letters before a colon (BIP 379): the wrappers, and the sugar `t:`, `l:` and `u:`.
use Rattle.std.specs.Prelude.{ℕ, ◌+◌, List, [], ◌∷◌, ◌++◌, map}
use Rattle.std.specs.Str.{byte}
use Rattle.def_script.specs.Bytes.{Bytes}
use Rattle.def_tree.specs.declared.Wrapper.{Wrapper}
use Rattle.def_tree.specs.declared.Wrapper.TheVariants.{A, S, C, D, V, J, N}
use Rattle.def_tree.specs.declared.Two.TheVariants.{AndV, OrI}
use Rattle.def_tree.specs.Tree.{Tree, just_0, just_1, two, wrap}

pub data Letter : Type 0 where
  letter_of_wrapper : (wrapper : Wrapper) → Letter
  letter_t letter_l letter_u : Letter

-- the letter of a wrapper
abbrev pub wrapper_byte : Wrapper → ℕ
wrapper_byte A = byte "a"
wrapper_byte S = byte "s"
wrapper_byte C = byte "c"
wrapper_byte D = byte "d"
wrapper_byte V = byte "v"
wrapper_byte J = byte "j"
wrapper_byte N = byte "n"

abbrev pub letter_byte : Letter → ℕ
letter_byte (letter_of_wrapper wrapper) = wrapper_byte wrapper
letter_byte letter_t = byte "t"
letter_byte letter_l = byte "l"
letter_byte letter_u = byte "u"

-- the word that letters make
abbrev pub letter_word : List Letter → Bytes
letter_word = map letter_byte

-- the tree of an expression with a letter before it: `t:x` is `and_v(x,1)`, `l:x` is `or_i(0,x)` and
-- `u:x` is `or_i(x,0)`
abbrev pub letter_tree : Letter → Tree → Tree
letter_tree (letter_of_wrapper wrapper) x = wrap wrapper x
letter_tree letter_t x = two AndV x just_1
letter_tree letter_l x = two OrI just_0 x
letter_tree letter_u x = two OrI x just_0

-- the offsets of its nodes, where the letter stands at an offset: both nodes that sugar adds have that
-- one, and the `0` of `l:` comes before the expression's nodes
abbrev pub letter_offsets : (at : ℕ) → Letter → List ℕ → List ℕ
letter_offsets at (letter_of_wrapper wrapper) offsets = offsets ++ at ∷ []
letter_offsets at letter_t offsets = offsets ++ at ∷ at ∷ []
letter_offsets at letter_l offsets = at ∷ (offsets ++ at ∷ [])
letter_offsets at letter_u offsets = offsets ++ at ∷ at ∷ []

-- the same for a group of letters, of which the last one is applied first
abbrev pub letters_tree : List Letter → Tree → Tree
letters_tree [] x = x
letters_tree (letter ∷ letters) x = letter_tree letter (letters_tree letters x)

abbrev pub letters_offsets : (at : ℕ) → List Letter → List ℕ → List ℕ
letters_offsets at [] offsets = offsets
letters_offsets at (letter ∷ letters) offsets = letter_offsets at letter (letters_offsets (at + 1) letters offsets)
