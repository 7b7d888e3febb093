-- The report of `tree`: a line for each node, with its type; of a tree that isn't sane the reason, and which letter fits.
use Rattle.std.specs.Prelude.{ℕ, List, [], ◌∷◌, ◌++◌, codes, decimal, flat_map, false, Option, Some, None, Result, Ok, Err}
use Rattle.hex.specs.Hex.{encode_lower}
use Rattle.def_script.specs.Bytes.{Bytes}
use Rattle.def_tree.specs.Tree.{Key, Tree, just_0, just_1, pk_k, pk_h, older, after, hash, and_or, two, thresh, multi, wrap}
use Rattle.def_text.specs.Letter.{wrapper_byte, letter_byte}
use Rattle.def_text.specs.Word.{hash_name, two_name}
use Rattle.def_types.specs.declared.CorrectnessType.{CorrectnessType}
use Rattle.def_types.specs.declared.MalleabilityProperties.{MalleabilityProperties}
use Rattle.def_types.specs.declared.rule.RuleAt.{RuleAt}
use Rattle.def_types.specs.Correctness.{correctness_of}
use Rattle.def_types.specs.Malleable.{malleability_of}
use Rattle.def_sane.specs.declared.Unfit.{Unfit}
use Rattle.def_sane.specs.declared.Unfit.TheVariants as unfit
use Rattle.def_outline.specs.Outline.{Node, outline}
use Rattle.def_outline.specs.Fits.{Trial, fit}
use Rattle.def_answer.specs.Lines.{line, offset_of, unfit_line}
use Rattle.def_answer.specs.Check.{type_letters}

-- ---- types

-- the letters of correctness alone: those of malleability are left out
abbrev pub correctness_letters : CorrectnessType → Bytes
correctness_letters ty = type_letters ty (record { s = false; f = false; e = false })

-- a part's type: `-` where a rule is broken; `?` behind the correctness type where a requirement of malleability is false
abbrev pub part_type : Result CorrectnessType RuleAt → Result MalleabilityProperties RuleAt → Bytes
part_type (Err at) properties = codes "-"
part_type (Ok ty) (Err at) = correctness_letters ty ++ codes "?"
part_type (Ok ty) (Ok properties) = type_letters ty properties

-- ---- nodes

-- a key behind a space
abbrev pub key_text : Key → Bytes
key_text key = codes " " ++ encode_lower key

-- the name of a fragment, or a letter, and the arguments that are no expressions
abbrev pub head_text : Tree → Bytes
head_text just_0 = codes "0"
head_text just_1 = codes "1"
head_text (pk_k key) = codes "pk_k" ++ key_text key
head_text (pk_h key) = codes "pk_h" ++ key_text key
head_text (older n) = codes "older " ++ decimal n
head_text (after n) = codes "after " ++ decimal n
head_text (hash kind value) = hash_name kind ++ codes " " ++ encode_lower value
head_text (and_or x y z) = codes "andor"
head_text (two kind x y) = two_name kind
head_text (thresh k xs) = codes "thresh " ++ decimal k
head_text (multi k keys) = codes "multi " ++ decimal k ++ flat_map key_text keys
head_text (wrap wrapper x) = wrapper_byte wrapper ∷ []

-- a node: its place, its depth, the type of what stands below it alone, and what it is
abbrev pub node_line : (offsets : List ℕ) → Node → Bytes
node_line offsets n =
    line (codes "node " ++ offset_of offsets n.number ++ codes " " ++ decimal n.depth ++ codes " "
    ++ part_type (correctness_of n.tree) (malleability_of n.tree) ++ codes " " ++ head_text n.tree)

unfoldable pub outline_report : (offsets : List ℕ) → Tree → Bytes
outline_report offsets tree = flat_map (node_line offsets) (outline 0 0 tree)

-- ---- what fits

abbrev pub trial_line : (offsets : List ℕ) → Option Trial → Bytes
trial_line offsets None = []
trial_line offsets (Some t) = line (codes "fits " ++ letter_byte t.letter ∷ codes " at " ++ offset_of offsets t.child)

-- the letter that lets the node pass that breaks a rule
abbrev pub fits_line : (offsets : List ℕ) → Tree → Unfit → Bytes
fits_line offsets tree (unfit.Rule at) = trial_line offsets (fit offsets tree at)
fits_line offsets tree other = []

-- the reason against a tree, behind its nodes
unfoldable pub unfit_report : (offsets : List ℕ) → Tree → Unfit → Bytes
unfit_report offsets tree reason = outline_report offsets tree ++ unfit_line offsets reason ++ fits_line offsets tree reason
