-- What is replied to a descriptor: a status and a report.
use Rattle.std.specs.Prelude.{◌≡◌, ℕ, zero, suc, ◌+◌, ◌&&◌, not, nat_le, nat_lt, if◌then◌else◌, [], ◌∷◌, ◌++◌, codes, Option, Some, None, Result, Ok, Err}
use Rattle.def_script.specs.Bytes.{Bytes}
use Rattle.def_answer.specs.Lines.{line}
use Rattle.def_descriptor.specs.Gives.{is_ranged, branch_count, key_program, tree_program}
use Rattle.def_descriptor.specs.declared.DescriptorFault.{DescriptorFault}
use Rattle.def_descriptor.specs.Answer.{Descriptor, Answers}
use Rattle.def_descriptor_answer.specs.declared.status.Status.{Status}
use Rattle.def_descriptor_answer.specs.declared.status.Status.TheVariants as status
use Rattle.def_descriptor_answer.specs.Words.{Derivation}
use Rattle.def_descriptor_answer.specs.Places.{Place, of_key, of_tree, nothing, IsAt}
use Rattle.def_descriptor_answer.specs.Lines.{fault_line, no_branch_line, not_ranged_line, place_refused_line, check_report, index_lines, condition_lines}

pub record Reply : Type 0 where
  pub status : Status
  pub report : Bytes

abbrev pub reply : Status → (report : Bytes) → Reply
reply status report = record { status = status; report = report }

abbrev pub usage_line : Bytes
usage_line = line (codes "refused usage")

abbrev pub usage_reply : Reply
usage_reply = reply status.Usage usage_line

-- ---- `check`

-- by what there is at branch 0 and index 0
abbrev pub check_status : Place → Status
check_status (of_key key) = status.Done
check_status (of_tree keys tree) = status.Done
check_status (nothing reason) = status.Unfit

abbrev pub RepliesToCheck : (text : Bytes) → Descriptor → Reply → Type 0
RepliesToCheck text d r = (place : Place) × IsAt d.body 0 0 place × (r ≡ reply (check_status place) (check_report text d place))

-- ---- `derive`

-- no branch has this number, or the descriptor goes by no index and has index 0 alone
abbrev pub bar_of : Descriptor → Derivation → Option Bytes
bar_of d asked =
    if nat_le (branch_count d.body) asked.branch then Some no_branch_line
    else if not (is_ranged d.body) && nat_lt 1 (asked.index + asked.count) then Some not_ranged_line
    else None

-- lines, and those behind them, or a refusal that comes there
abbrev pub followed : (lines : Bytes) → Result Bytes Bytes → Result Bytes Bytes
followed lines (Ok later) = Ok (lines ++ later)
followed lines (Err line) = Err line

-- the lines of an index and of those behind it, or the first refusal
abbrev pub ListsPlace : Descriptor → Derivation → (index : ℕ) → Place → (ListsLater : Result Bytes Bytes → Type 0) → Result Bytes Bytes → Type 0
ListsPlace d asked index (of_key key) ListsLater r =
    (later : Result Bytes Bytes) × ListsLater later
    × (r ≡ followed (index_lines asked.network asked.branch d index (key_program key) [] (key ∷ [])) later)
ListsPlace d asked index (of_tree keys tree) ListsLater r =
    (later : Result Bytes Bytes) × ListsLater later
    × (r ≡ followed (index_lines asked.network asked.branch d index (tree_program tree) (condition_lines d.body keys tree) keys) later)
ListsPlace d asked index (nothing reason) ListsLater r = r ≡ Err (place_refused_line asked.branch index reason)

-- those of so many indices from one on
abbrev pub Lists : Descriptor → Derivation → (count index : ℕ) → Result Bytes Bytes → Type 0
Lists d asked zero index r = r ≡ Ok []
Lists d asked (suc count) index r =
    (place : Place) × IsAt d.body asked.branch index place × ListsPlace d asked index place (Lists d asked count (index + 1)) r

abbrev pub listed_reply : Result Bytes Bytes → Reply
listed_reply (Ok lines) = reply status.Done lines
listed_reply (Err line) = reply status.Refused line

abbrev pub RepliesByBar : Option Bytes → Descriptor → Derivation → Reply → Type 0
RepliesByBar (Some line) d asked r = r ≡ reply status.Refused line
RepliesByBar None d asked r = (listed : Result Bytes Bytes) × Lists d asked asked.count asked.index listed × (r ≡ listed_reply listed)

abbrev pub RepliesToDerive : Derivation → Descriptor → Reply → Type 0
RepliesToDerive asked d r = RepliesByBar (bar_of d asked) d asked r

-- ---- texts

-- the reply to what a text answers: its refusal, or that to its descriptor
abbrev pub RepliesToAnswer : (RepliesTo : Descriptor → Reply → Type 0) → Result Descriptor DescriptorFault → Reply → Type 0
RepliesToAnswer RepliesTo (Ok d) r = RepliesTo d r
RepliesToAnswer RepliesTo (Err why) r = r ≡ reply status.Refused (fault_line why)

abbrev pub RepliesToText : (text : Bytes) → (RepliesTo : Descriptor → Reply → Type 0) → Reply → Type 0
RepliesToText text RepliesTo r = (answer : Result Descriptor DescriptorFault) × Answers text answer × RepliesToAnswer RepliesTo answer r
