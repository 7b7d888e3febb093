-- What the code finds at a branch and an index.
use Rattle.std.specs.Prelude.{◌≡◌, List, [], ◌∷◌, ◌++◌, codes, Option, Some, None, unwrap_or}
use Rattle.def_script.specs.Bytes.{Bytes}
use Rattle.def_tree.specs.Tree.{Key, Tree}
use Rattle.def_types.specs.Typed.{type_of, properties_of}
use Rattle.def_sane.specs.TheLimits.{the_limits}
use Rattle.def_answer.specs.Lines.{line, script_line}
use Rattle.def_address.specs.declared.Network.{Network}
use Rattle.def_descriptor.specs.Gives.{key_program, tree_program, output_of, address_at}
use Rattle.def_descriptor.specs.Answer.{Descriptor}
use Rattle.def_descriptor_answer.specs.Places.{Place, of_key, of_tree, nothing}
use Rattle.def_descriptor_answer.specs.Lines.{reason_line, condition_lines}
use Rattle.ms_outputs.specs.declared.given.Given.{Given}
use Rattle.ms_descriptor_replies.specs.declared.measures.Measures.{Measures}
use Rattle.ms_descriptor_replies.specs.declared.judging.Place.{Place as Own}
use Rattle.ms_descriptor_replies.specs.declared.judging.Place.TheVariants as own

-- what is told of a tree
pub record IsMeasured (tree : Tree) (measures : Measures) : Type 0 where
  pub ty : measures.ty ≡ type_of tree
  pub malleability_of : measures.malleability_of ≡ properties_of tree
  pub limits : measures.limits ≡ the_limits tree

-- the lines of a Script, if there is one, and of a text
abbrev pub condition_of : (script : Option Bytes) → (text : Bytes) → Bytes
condition_of None text = []
condition_of (Some script) text = script_line script ++ line (codes "text " ++ text)

-- the output of a program on a network, its keys, and the lines of its condition
pub record IsOutput (network : Option Network) (d : Descriptor) (own lines : Bytes) (all : List Key) (given : Given) : Type 0 where
  pub address : unwrap_or (address_at network d.body (output_of d.under own)) [] ≡ given.address.items
  pub output : given.output.items ≡ output_of d.under own
  pub program : given.program.items ≡ own
  pub condition : condition_of given.script given.text.items ≡ lines
  pub keys : given.keys.items ≡ all

-- what there is
abbrev pub IsFound : Option Network → Descriptor → Place → Own → Type 0
IsFound network d (of_key key) (own.Key given) = IsOutput network d (key_program key) [] (key ∷ []) given
IsFound network d (of_key key) (own.Tree given measures) = ⊥
IsFound network d (of_key key) (own.Nothing reason) = ⊥
IsFound network d (of_tree keys tree) (own.Key given) = ⊥
IsFound network d (of_tree keys tree) (own.Tree given measures) =
    IsOutput network d (tree_program tree) (condition_lines d.body keys tree) keys given × IsMeasured tree measures
IsFound network d (of_tree keys tree) (own.Nothing reason) = ⊥
IsFound network d (nothing why) (own.Key given) = ⊥
IsFound network d (nothing why) (own.Tree given measures) = ⊥
IsFound network d (nothing why) (own.Nothing reason) = reason.items ≡ reason_line why
