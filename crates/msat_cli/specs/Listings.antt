-- What a call of `msat` for `asm TEXT` shows.
use Rattle.std.specs.Prelude.{◌≡◌, ℕ, List, map, None}
use Rattle.std.specs.Io.KnownBytes.{Appends}
use Rattle.def_script.specs.Bytes.{Bytes}
use Rattle.def_tree.specs.Tree.{Tree}
use Rattle.def_emit.specs.Emit.{emit, script_of}
use Rattle.def_text.specs.Refusal.{TextReads}
use Rattle.def_sane.specs.declared.Rules.{Rules}
use Rattle.def_sane.specs.Unfit.{first_unfit_valid_under}
use Rattle.def_trace.specs.Placed.{placed}
use Rattle.def_trace.specs.Listing.{listing}
use Rattle.def_trace.specs.Writers.{Attributed, attributed, places_of}
use Rattle.def_answer.specs.declared.status.Status.TheVariants as status
use Rattle.def_answer.specs.Words.{asm, IsForm}
use Rattle.ms_answer_laws.specs.Laws.{Stand}
use Rattle.ms_io.specs.Sides.{Side}
use Rattle.msat_cli.specs.Calls.{Call, EndsAs}

-- the words ask for the instructions of a text, which is read as this tree, a valid one under these rules, with these places
-- of its nodes
pub record AsksListing (rules : Rules) (call : Call) (tree : Tree) (offsets : List ℕ) : Type 0 where
  pub text : Bytes
  pub form : IsForm call.words (asm rules text)
  pub reads : TextReads text tree offsets
  pub valid : first_unfit_valid_under rules tree ≡ None

-- what the sink got: a line for each instruction of the Script, with the place of the node that wrote it. The instructions are
-- those of the translation; each stands at its offset in its shortest spelling, and these make up the Script; and they have
-- as many writers
pub record PrintsListing (sink : Side) (tree : Tree) (offsets : List ℕ) : Type 0 where
  pub stand : Stand (script_of tree) 0 (placed (script_of tree)) (emit tree)
  pub writers : map (λ (a : Attributed). a.instruction) (attributed 0 tree) ≡ emit tree
  pub written : Appends sink.old sink.new (listing (places_of offsets tree) (placed (script_of tree)))

-- faults and want of memory aside, the call is done, and shows the instructions
abbrev pub ShowsListing : Call → Type 0
ShowsListing call =
    (rules : Rules) (tree : Tree) (offsets : List ℕ) → AsksListing rules call tree offsets →
    EndsAs status.Done call × (call.status ≡ status.Done → PrintsListing call.sink tree offsets)
