-- What a call of `msat` for `satisfy TEXT` or `satisfy --malleable TEXT`, by policy or with `--consensus`, shows of a
-- satisfaction.
use Rattle.std.specs.Prelude.{◌≡◌, ◌↔◌, ℕ, ◌≤◌, ◌∷◌, ◌++◌, List, length, flat_map, codes, decimal, None, Some, Ok}
use Rattle.std.specs.Io.KnownBytes.{Appends}
use Rattle.hex.specs.Hex.{encode_lower}
use Rattle.def_hash.specs.Hash.{sha256}
use Rattle.def_script.specs.Bytes.{Bytes}
use Rattle.def_script.specs.Witness.{witness_text, weight}
use Rattle.def_machine.specs.Stacks.{Pairs, Checker}
use Rattle.def_machine.specs.Machine.{Given}
use Rattle.def_machine.specs.Program.{program_of}
use Rattle.def_machine.specs.Run.{run, accepted}
use Rattle.def_tree.specs.Tree.{Tree}
use Rattle.def_emit.specs.Emit.{script_of}
use Rattle.def_text.specs.declared.TextFault.{TextFault}
use Rattle.def_text.specs.Refusal.{TextReads, TextRefusal}
use Rattle.def_sane.specs.declared.Rules.{Rules}
use Rattle.def_sane.specs.declared.Unfit.{Unfit}
use Rattle.def_assets.specs.Assets.{Assets}
use Rattle.def_files.specs.AssetFile.{assets_of}
use Rattle.def_limits.specs.Limits.{AreLimits}
use Rattle.def_sane.specs.TheLimits.{the_limits}
use Rattle.def_height.specs.Height.{IsHeight}
use Rattle.def_answer.specs.TheHeight.{the_height}
use Rattle.def_satisfaction.specs.Satisfaction.{given_of, Sat, Holds}
use Rattle.def_choice.specs.declared.choice.Choice.{Choice}
use Rattle.def_choice.specs.declared.choice.Choice.TheVariants as choice
use Rattle.def_answer.specs.Satisfy.{chosen_by, satisfy_words, reason_by, item_line, satisfy_report}
use Rattle.def_choice.specs.NonMalleable.{NonMalleable, given_with}
use Rattle.def_choice.specs.Tight.{Tight}
use Rattle.def_promises.specs.Accepted.{IsAcceptedWithin, Unchangeable, HasNothingToAccept}
use Rattle.def_answer.specs.declared.status.Status.TheVariants as status
use Rattle.def_answer.specs.Lines.{line, text_line, unfit_line, tree_limits_line, MOST_FILE}
use Rattle.ms_witness.specs.Replaying.{replay, ran}
use Rattle.ms_io.specs.Sides.{Side}
use Rattle.msat_cli.specs.Calls.{Call, EndsAs}

-- ---- what is asked, and what is shown

-- the words ask for a satisfaction of a text, which is read as this tree against which there is no reason; and the
-- source tells an asset file, which is read as these assets
pub record IsAsked (choice : Choice) (rules : Rules) (call : Call) (tree : Tree) (assets : Assets) : Type 0 where
  pub text : Bytes
  pub form : call.words ≡ satisfy_words choice rules text
  pub offsets : List ℕ
  pub reads : TextReads text tree offsets
  pub fit : reason_by choice rules tree ≡ None
  pub bytes : Bytes
  pub told : call.source.old ≡ Some bytes
  pub short : length bytes ≤ MOST_FILE
  pub file : assets_of bytes ≡ Ok assets

-- the stack is the one that is chosen, and its report was written whole
pub record ShowsStack (choice : Choice) (rules : Rules) (call : Call) (tree : Tree) (assets : Assets) (stack : List Bytes) : Type 0 where
  pub chosen : chosen_by choice tree assets ≡ Some stack
  pub written : Appends call.sink.old call.sink.new (satisfy_report rules tree assets stack)

-- a call that was asked for a satisfaction and is done shows a stack, of which this holds
abbrev pub ShowsSuch : Choice → Rules → Call → (Tree → Assets → List Bytes → Type 0) → Type 0
ShowsSuch choice rules call P =
    (tree : Tree) (assets : Assets) → IsAsked choice rules call tree assets → call.status ≡ status.Done →
    (stack : List Bytes) × ShowsStack choice rules call tree assets stack × P tree assets stack

-- ---- other texts are refused

-- faults and want of memory aside, the text is refused, and this line was written
pub record RefusesText (call : Call) (refusal : Bytes) : Type 0 where
  pub ends : EndsAs status.TextRefused call
  pub written : call.status ≡ status.TextRefused → Appends call.sink.old call.sink.new refusal

-- by its place, or by the first reason against its tree
abbrev pub RefusesOtherTexts : Call → Type 0
RefusesOtherTexts call =
    (choice : Choice) (rules : Rules) (text : Bytes) → call.words ≡ satisfy_words choice rules text →
    ((fault : TextFault) → TextRefusal text fault → RefusesText call (text_line fault))
    × ((tree : Tree) (offsets : List ℕ) (unfit : Unfit) → TextReads text tree offsets → reason_by choice rules tree ≡ Some unfit →
    RefusesText call (unfit_line offsets unfit))

-- ---- exactly where one exists

-- faults and want of memory aside, the call is done exactly where a canonical satisfaction exists, and ends with
-- the other status exactly where none does
pub record IsExact (call : Call) (tree : Tree) (assets : Assets) : Type 0 where
  pub where_some : (stack : List Bytes) → Sat tree assets stack → EndsAs status.Done call
  pub where_none : ((stack : List Bytes) → ¬ Sat tree assets stack) → EndsAs status.NoSatisfaction call
  pub some : call.status ≡ status.Done → (stack : List Bytes) × Sat tree assets stack
  pub none : call.status ≡ status.NoSatisfaction → (stack : List Bytes) → ¬ Sat tree assets stack

abbrev pub FindsWhereOneExists : Call → Type 0
FindsWhereOneExists call =
    (choice : Choice) (rules : Rules) (tree : Tree) (assets : Assets) → IsAsked choice rules call tree assets → IsExact call tree assets

-- ---- what is shown is a canonical satisfaction, as a witness

abbrev pub ShowsCanonical : Call → Type 0
ShowsCanonical call = (choice : Choice) (rules : Rules) → ShowsSuch choice rules call Sat

-- what the sink got: the Script, its program, the limits, the items, the witness of them and of the Script, and the
-- counts of the run of it under the assets' own signatures, which is accepted
pub record Prints (rules : Rules) (sink : Side) (tree : Tree) (assets : Assets) (stack : List Bytes) : Type 0 where
  pub ops : ℕ
  pub peak : ℕ
  pub checks : Pairs
  pub run : run (given_of assets) (script_of tree) stack ≡ accepted ops peak checks
  pub written : Appends sink.old sink.new (
      line (codes "script " ++ encode_lower (script_of tree))
      ++ line (codes "program " ++ encode_lower (0x00 ∷ 0x20 ∷ sha256 (script_of tree)))
      ++ tree_limits_line rules tree
      ++ flat_map item_line stack
      ++ line (codes "witness " ++ encode_lower (witness_text stack (script_of tree)))
      ++ line (codes "replay ops " ++ decimal ops ++ codes " items " ++ decimal (length stack)
      ++ codes " weight " ++ decimal (weight stack) ++ codes " peak " ++ decimal peak))

abbrev pub ShowsWitness : Call → Type 0
ShowsWitness call = (choice : Choice) (rules : Rules) → ShowsSuch choice rules call (Prints rules call.sink)

-- ---- the interpreter accepts it

-- the bytes of the witness, under the program of the tree's Script, replay as a run that is accepted with these counts
abbrev pub ReplaysAs : Tree → Given → (stack : List Bytes) → (ops peak : ℕ) → Type 0
ReplaysAs tree given stack ops peak =
    (checks : Pairs) × (replay given (program_of (script_of tree)) (witness_text stack (script_of tree)) ≡ ran (accepted ops peak checks))

-- the limits that were printed are the tree's, and so is the height, which `--consensus` prints; the counts that were printed
-- are within them. Where the assets' signatures are good, whatever others are, the witness replays with these counts, and the
-- run is within the limits
pub record IsAcceptedByAll (rules : Rules) (sink : Side) (tree : Tree) (assets : Assets) (stack : List Bytes) : Type 0 where
  pub prints : Prints rules sink tree assets stack
  pub limits : AreLimits tree (the_limits tree)
  pub height : IsHeight tree (the_height tree)
  pub few_ops : prints.ops ≤ (the_limits tree).ops
  pub few_items : length stack ≤ (the_limits tree).items
  pub light : weight stack ≤ (the_limits tree).weight
  pub low : prints.peak ≤ the_height tree
  pub replayed : (checker : Checker) → Holds checker assets → ReplaysAs tree (given_with assets checker) stack prints.ops prints.peak
  pub within : (checker : Checker) → Holds checker assets → IsAcceptedWithin tree (the_limits tree) (given_with assets checker) stack

abbrev pub ShowsAccepted : Call → Type 0
ShowsAccepted call = (choice : Choice) (rules : Rules) → ShowsSuch choice rules call (IsAcceptedByAll rules call.sink)

-- ---- nobody can change it

-- every other stack that is accepted passes a check that this one doesn't, or is fresh and has an unknown preimage or
-- another key with the same hash
abbrev pub ShowsNonMalleable : Call → Type 0
ShowsNonMalleable call = (rules : Rules) → ShowsSuch choice.Strict rules call Unchangeable

-- where there is none, what is accepted under the assets' own signatures is fresh
abbrev pub FindsNothingToAccept : Call → Type 0
FindsNothingToAccept call =
    (rules : Rules) (tree : Tree) (assets : Assets) → IsAsked choice.Strict rules call tree assets → call.status ≡ status.NoSatisfaction →
    HasNothingToAccept tree assets

-- ---- it is the lightest

-- no canonical satisfaction weighs less
abbrev pub WeighsLeast : Tree → Assets → (stack : List Bytes) → Type 0
WeighsLeast tree assets stack = (other : List Bytes) → Sat tree assets other → weight stack ≤ weight other

abbrev pub ShowsLightest : Call → Type 0
ShowsLightest call = (rules : Rules) → ShowsSuch choice.Cheapest rules call WeighsLeast

-- ---- of those that nobody can change

-- it is tight
abbrev pub ShowsTight : Call → Type 0
ShowsTight call = (rules : Rules) → ShowsSuch choice.Strict rules call Tight

-- nobody can change a canonical satisfaction exactly where it is tight
abbrev pub UnchangedIsTight : Tree → Assets → Type 0
UnchangedIsTight tree assets =
    (stack : List Bytes) → Sat tree assets stack → NonMalleable tree assets stack ↔ Tight tree assets stack

-- however the call ends
abbrev pub TellsUnchanged : Call → Type 0
TellsUnchanged call =
    (rules : Rules) (tree : Tree) (assets : Assets) → IsAsked choice.Strict rules call tree assets → UnchangedIsTight tree assets

-- no canonical satisfaction that nobody can change weighs less
abbrev pub WeighsLeastUnchanged : Tree → Assets → (stack : List Bytes) → Type 0
WeighsLeastUnchanged tree assets stack =
    (other : List Bytes) → Sat tree assets other → NonMalleable tree assets other → weight stack ≤ weight other

abbrev pub ShowsLightestUnchanged : Call → Type 0
ShowsLightestUnchanged call = (rules : Rules) → ShowsSuch choice.Strict rules call WeighsLeastUnchanged
