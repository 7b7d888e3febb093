-- What `satisfy` is asked by, and its report.
use Rattle.std.specs.Prelude.{ℕ, List, [], ◌∷◌, ◌++◌, length, codes, decimal, flat_map, Option}
use Rattle.hex.specs.Hex.{encode_lower}
use Rattle.def_script.specs.Bytes.{Bytes}
use Rattle.def_script.specs.Witness.{witness_text, weight}
use Rattle.def_machine.specs.Run.{Outcome, accepted, refused, run}
use Rattle.def_tree.specs.Tree.{Tree}
use Rattle.def_emit.specs.Emit.{script_of}
use Rattle.def_assets.specs.Assets.{Assets}
use Rattle.def_sane.specs.declared.Rules.{Rules}
use Rattle.def_sane.specs.declared.Rules.TheVariants.{Policy, Consensus}
use Rattle.def_sane.specs.declared.Unfit.{Unfit}
use Rattle.def_sane.specs.Unfit.{first_unfit_under, first_unfit_valid_under}
use Rattle.def_satisfaction.specs.Satisfaction.{given_of}
use Rattle.def_choice.specs.declared.choice.Choice.{Choice}
use Rattle.def_choice.specs.declared.choice.Choice.TheVariants as choice
use Rattle.def_choice.specs.Cheapest.{cheapest}
use Rattle.def_choice.specs.Strict.{strict}
use Rattle.def_answer.specs.Lines.{line, script_line, program_line, tree_limits_line}

-- ---- what is asked

-- the rules of consensus are asked for by a word, those of policy by none
abbrev pub rules_words : Rules → List Bytes
rules_words Policy = []
rules_words Consensus = codes "--consensus" ∷ []

-- the cheapest satisfaction is asked for by a word, the strict one by none
abbrev pub satisfy_words : Choice → Rules → (text : Bytes) → List Bytes
satisfy_words choice.Strict rules text = codes "satisfy" ∷ (rules_words rules ++ text ∷ [])
satisfy_words choice.Cheapest rules text = codes "satisfy" ∷ codes "--malleable" ∷ (rules_words rules ++ text ∷ [])

-- the first reason against a text's tree: it has to be sane for a strict satisfaction, and valid for a cheapest one
abbrev pub reason_by : Choice → Rules → Tree → Option Unfit
reason_by choice.Strict = first_unfit_under
reason_by choice.Cheapest = first_unfit_valid_under

-- the satisfaction that is chosen, or none
abbrev pub chosen_by : Choice → Tree → Assets → Option (List Bytes)
chosen_by choice.Strict = strict
chosen_by choice.Cheapest = cheapest

-- ---- what is reported

-- an item of a stack; an empty one is `-`
abbrev pub item_digits : Bytes → Bytes
item_digits [] = codes "-"
item_digits (byte ∷ bytes) = encode_lower (byte ∷ bytes)

abbrev pub item_line : Bytes → Bytes
item_line item = line (codes "item " ++ item_digits item)

abbrev pub witness_line : (stack : List Bytes) → (script : Bytes) → Bytes
witness_line stack script = line (codes "witness " ++ encode_lower (witness_text stack script))

-- the opcodes and the greatest height of an accepted run. The run of a satisfaction is never refused
abbrev pub ops_of : Outcome → ℕ
ops_of (accepted ops peak checks) = ops
ops_of (refused fault place) = 0

abbrev pub peak_of : Outcome → ℕ
peak_of (accepted ops peak checks) = peak
peak_of (refused fault place) = 0

abbrev pub replay_line : (stack : List Bytes) → Outcome → Bytes
replay_line stack outcome =
    line (codes "replay ops " ++ decimal (ops_of outcome) ++ codes " items " ++ decimal (length stack)
    ++ codes " weight " ++ decimal (weight stack) ++ codes " peak " ++ decimal (peak_of outcome))

-- the run of a stack on a tree's Script under the locks and signatures of the assets
abbrev pub outcome_with : Tree → Assets → (stack : List Bytes) → Outcome
outcome_with tree assets stack = run (given_of assets) (script_of tree) stack

-- the stack's items are printed bottom first
unfoldable pub satisfy_report : Rules → Tree → Assets → (stack : List Bytes) → Bytes
satisfy_report rules tree assets stack =
    script_line (script_of tree)
    ++ program_line (script_of tree)
    ++ tree_limits_line rules tree
    ++ flat_map item_line stack
    ++ witness_line stack (script_of tree)
    ++ replay_line stack (outcome_with tree assets stack)
