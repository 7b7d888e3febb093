-- What is replied to `update`: a PSBT with what a descriptor says of its inputs and outputs (BIP 174, "Updater").
use Rattle.std.specs.Prelude.{◌≡◌, ℕ, zero, suc, ◌+◌, ◌*◌, ◌/◌, ◌%◌, Bool, if◌then◌else◌, List, [], ◌∷◌, ◌++◌, codes, decimal, Option, Some, None, Result, Ok, Err}
use Rattle.def_script.specs.Bytes.{Bytes}
use Rattle.def_tree.specs.Tree.{Key}
use Rattle.def_emit.specs.Emit.{script_of}
use Rattle.def_answer.specs.Lines.{line}
use Rattle.def_descriptor.specs.Expression.{Origin, Expression}
use Rattle.def_descriptor.specs.Gives.{expressions_of, is_ranged, branch_count, origin_at, key_program, tree_program, output_of}
use Rattle.def_descriptor.specs.Answer.{Descriptor}
use Rattle.def_psbt.specs.declared.Refusal.{Refusal}
use Rattle.def_psbt.specs.Map.{Psbt, psbt_text}
use Rattle.def_psbt.specs.Source.{psbt_of}
use Rattle.def_psbt_answer.specs.declared.words.Form.{Form}
use Rattle.def_psbt_answer.specs.Lines.{refusal_line}
use Rattle.def_psbt_answer.specs.Report.{in_form}
use Rattle.def_psbt_answer.specs.Reply.{form_of}
use Rattle.def_update.specs.Known.{Known}
use Rattle.def_update.specs.Updated.{update_of}
use Rattle.def_descriptor_answer.specs.declared.status.Status.{Status}
use Rattle.def_descriptor_answer.specs.declared.status.Status.TheVariants as status
use Rattle.def_descriptor_answer.specs.Places.{Place, of_key, of_tree, nothing, IsAt}
use Rattle.def_descriptor_answer.specs.Lines.{place_refused_line}
use Rattle.def_descriptor_answer.specs.Reply.{Reply, reply}

-- ---- what a descriptor says of its outputs

-- each key with where it comes from
abbrev pub with_origins : (branch index : ℕ) → List Expression → List Key → List (Key × Origin)
with_origins branch index [] keys = []
with_origins branch index (expression ∷ rest) [] = []
with_origins branch index (expression ∷ rest) (key ∷ keys) = (key, origin_at branch index expression) ∷ with_origins branch index rest keys

-- of the output at a branch and an index, which has this program
abbrev pub known_at : Descriptor → (branch index : ℕ) → (program : Bytes) → (witness : Option Bytes) → (keys : List Key) → Known
known_at d branch index program witness keys = record {
  output = output_of d.under program;
  redeem = if d.under then Some program else None;
  witness = witness;
  keys = with_origins branch index (expressions_of d.body) keys;
}

-- what is known, and what is known behind it, or a refusal that comes there
abbrev pub known_before : Known → Result (List Known) Bytes → Result (List Known) Bytes
known_before known (Ok later) = Ok (known ∷ later)
known_before known (Err line) = Err line

abbrev pub KnowsPlace : Descriptor → (branch index : ℕ) → Place → (KnowsLater : Result (List Known) Bytes → Type 0) → Result (List Known) Bytes → Type 0
KnowsPlace d branch index (of_key key) KnowsLater r =
    (later : Result (List Known) Bytes) × KnowsLater later × (r ≡ known_before (known_at d branch index (key_program key) None (key ∷ [])) later)
KnowsPlace d branch index (of_tree keys tree) KnowsLater r =
    (later : Result (List Known) Bytes) × KnowsLater later × (r ≡ known_before (known_at d branch index (tree_program tree) (Some (script_of tree)) keys) later)
KnowsPlace d branch index (nothing reason) KnowsLater r = r ≡ Err (place_refused_line branch index reason)

-- so many places from one on, of which each branch has a number: by the branch and then the index
abbrev pub KnowsFrom : Descriptor → (of_branch : ℕ) → (count from : ℕ) → Result (List Known) Bytes → Type 0
KnowsFrom d of_branch zero from r = r ≡ Ok []
KnowsFrom d of_branch (suc count) from r =
    (place : Place) × IsAt d.body (from / of_branch) (from % of_branch) place
    × KnowsPlace d (from / of_branch) (from % of_branch) place (KnowsFrom d of_branch count (from + 1)) r

-- the indices below a count; without a `*` index 0 is the only one
abbrev pub index_count : Descriptor → (count : ℕ) → ℕ
index_count d count = if is_ranged d.body then count else 1

-- of all its outputs, or the line of the first place without a sane tree
abbrev pub Knows : Descriptor → (count : ℕ) → Result (List Known) Bytes → Type 0
Knows d count r = KnowsFrom d (index_count d count) (branch_count d.body * index_count d count) 0 r

-- ---- the reply

abbrev pub conflict_line : (at : ℕ) → Bytes
conflict_line at = line (codes "refused psbt Conflict at " ++ decimal at)

-- an input is of the descriptor, or none is
abbrev pub update_status : (has_known_input : Bool) → Status
update_status has_known_input = if has_known_input then status.Done else status.NoInput

abbrev pub updated_reply : Form → Result (Psbt × Bool) ℕ → Reply
updated_reply form (Ok whole) = reply (update_status whole.1) (in_form form (psbt_text whole.0.global whole.0.inputs whole.0.outputs))
updated_reply form (Err at) = reply status.PsbtRefused (conflict_line at)

-- to a PSBT that came in a form, and to a source that holds none
abbrev pub psbt_reply : List Known → Form → Result Psbt Refusal → Reply
psbt_reply known form (Ok psbt) = updated_reply form (update_of known psbt)
psbt_reply known form (Err refusal) = reply status.PsbtRefused (refusal_line refusal)

abbrev pub known_reply : (source : Bytes) → Result (List Known) Bytes → Reply
known_reply source (Ok known) = psbt_reply known (form_of source) (psbt_of source)
known_reply source (Err line) = reply status.Refused line

abbrev pub RepliesToUpdate : (count : ℕ) → (source : Bytes) → Descriptor → Reply → Type 0
RepliesToUpdate count source d r = (known : Result (List Known) Bytes) × Knows d count known × (r ≡ known_reply source known)
