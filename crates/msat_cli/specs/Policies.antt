-- What a call of `msat` for `policy TEXT` shows.
use Rattle.std.specs.Prelude.{◌≡◌, ℕ, ◌≤◌, [], ◌∷◌, ◌++◌, List, length, codes, Option, Ok, IsTrue, IsUtf8, ◌↔◌}
use Rattle.std.specs.Io.KnownBytes.{Appends}
use Rattle.def_script.specs.Bytes.{Bytes}
use Rattle.def_tree.specs.Tree.{Tree}
use Rattle.def_text.specs.Refusal.{TextReads}
use Rattle.def_sane.specs.Unfit.{IsSane}
use Rattle.def_assets.specs.Assets.{Assets}
use Rattle.def_files.specs.AssetFile.{assets_of}
use Rattle.def_policy.specs.Plain.{plain}
use Rattle.def_policy.specs.Simple.{simple}
use Rattle.def_policy.specs.Print.{printed}
use Rattle.def_policy.specs.Keys.{AreLeastKeys}
use Rattle.def_policy.specs.Laws.{SaysSatisfiable, IsSimple, WantsKey}
use Rattle.def_policy.specs.Truth.{is_true, facts_of}
use Rattle.def_answer.specs.declared.status.Status.TheVariants as status
use Rattle.def_answer.specs.Answer.{Answer}
use Rattle.def_answer.specs.Lines.{line, MOST_FILE}
use Rattle.def_answer.specs.Policy.{number_or_none}
use Rattle.def_answer.specs.Words.{policy, IsForm}
use Rattle.ms_io.specs.Sides.{Side}
use Rattle.msat_cli.specs.Calls.{Call, EndsAs}

-- the words ask for the policy of a text, which is read as this tree, a sane one
pub record AsksPolicy (call : Call) (tree : Tree) : Type 0 where
  pub text : Bytes
  pub form : IsForm call.words (policy text)
  pub offsets : List ℕ
  pub reads : TextReads text tree offsets
  pub sane : IsSane tree

-- what the sink got: the policy of the tree, made simple, and the least number of keys that make it true where every hash
-- and lock is met, or `none` where no keys do. The policy is true of assets exactly where they make a canonical
-- satisfaction; each All and Any joins two parts at least, and a threshold wants more than one and not all; the number is 1
-- at least
pub record PrintsPolicy (sink : Side) (tree : Tree) : Type 0 where
  pub least : Option ℕ
  pub is_least : AreLeastKeys (simple (plain tree)) least
  pub satisfiable : SaysSatisfiable tree (simple (plain tree))
  pub form : IsSimple (simple (plain tree))
  pub signed : WantsKey (simple (plain tree))
  pub written : Appends sink.old sink.new (
      line (codes "policy " ++ printed (simple (plain tree))) ++ line (codes "keys " ++ number_or_none least))

-- faults and want of memory aside, the call is done, and shows the policy
abbrev pub ShowsPolicy : Call → Type 0
ShowsPolicy call =
    (tree : Tree) → AsksPolicy call tree →
    EndsAs status.Done call × (call.status ≡ status.Done → PrintsPolicy call.sink tree)

-- the policy of a sane text is true of what a readable file holds exactly where `satisfy TEXT` is done over that file
abbrev pub TellsSatisfied : Type 0
TellsSatisfied =
    (text : Bytes) (tree : Tree) (offsets : List ℕ) (bytes : Bytes) (assets : Assets) → IsUtf8 text →
    TextReads text tree offsets → IsSane tree → length bytes ≤ MOST_FILE → assets_of bytes ≡ Ok assets →
    (IsTrue (is_true (facts_of assets) (simple (plain tree)))
    ↔ ((report : Bytes) × Answer (codes "satisfy" ∷ text ∷ []) bytes status.Done report))
