-- What a call of `msat` for `tree TEXT` shows.
use Rattle.std.specs.Prelude.{◌≡◌, ℕ, ◌++◌, List, flat_map, Some, None}
use Rattle.std.specs.Io.KnownBytes.{Appends}
use Rattle.def_script.specs.Bytes.{Bytes}
use Rattle.def_tree.specs.Tree.{Tree}
use Rattle.def_text.specs.Refusal.{TextReads}
use Rattle.def_sane.specs.declared.Rules.{Rules}
use Rattle.def_sane.specs.declared.Unfit.{Unfit}
use Rattle.def_sane.specs.Unfit.{first_unfit_under}
use Rattle.def_outline.specs.Outline.{outline as outline_of}
use Rattle.def_answer.specs.declared.status.Status.TheVariants as status
use Rattle.def_answer.specs.Lines.{unfit_line}
use Rattle.def_answer.specs.Outline.{node_line, fits_line}
use Rattle.def_answer.specs.Words.{outline, IsForm}
use Rattle.ms_io.specs.Sides.{Side}
use Rattle.msat_cli.specs.Calls.{Call, EndsAs}

-- the words ask for the tree of a text, which is read as this one, with these places of its nodes
pub record AsksTree (rules : Rules) (call : Call) (tree : Tree) (offsets : List ℕ) : Type 0 where
  pub text : Bytes
  pub form : IsForm call.words (outline rules text)
  pub reads : TextReads text tree offsets

-- a line for each node of the tree, in order: its place, its depth, the type of what stands below it alone, and what it is
abbrev pub nodes_text : (offsets : List ℕ) → Tree → Bytes
nodes_text offsets tree = flat_map (node_line offsets) (outline_of 0 0 tree)

-- what the sink got of a tree that isn't sane: its nodes, the first reason against it, as `check` tells it, and, where a node
-- breaks a rule of the types and a letter lets it pass, which one fits
pub record PrintsUnfit (rules : Rules) (sink : Side) (tree : Tree) (offsets : List ℕ) : Type 0 where
  pub unfit : Unfit
  pub first : first_unfit_under rules tree ≡ Some unfit
  pub written : Appends sink.old sink.new (nodes_text offsets tree ++ unfit_line offsets unfit ++ fits_line offsets tree unfit)

-- faults and want of memory aside, the call is done exactly where the tree is sane, and refuses the text exactly where it isn't
pub record Outlined (rules : Rules) (call : Call) (tree : Tree) (offsets : List ℕ) : Type 0 where
  pub where_sane : first_unfit_under rules tree ≡ None → EndsAs status.Done call
  pub where_unfit : (unfit : Unfit) → first_unfit_under rules tree ≡ Some unfit → EndsAs status.TextRefused call
  pub done : call.status ≡ status.Done →
      (first_unfit_under rules tree ≡ None) × Appends call.sink.old call.sink.new (nodes_text offsets tree)
  pub refused : call.status ≡ status.TextRefused → PrintsUnfit rules call.sink tree offsets

abbrev pub ShowsTree : Call → Type 0
ShowsTree call =
    (rules : Rules) (tree : Tree) (offsets : List ℕ) → AsksTree rules call tree offsets → Outlined rules call tree offsets
