-- The characters of the reports of each command, and of all of `msat`.
use Rattle.std.proofs.Common.{ℕ, ◌≡◌, ◌<◌, inl, inr, Bool, true, false, List, [], ◌∷◌, ◌++◌, length, map, Option, Some, None, Result, Ok, Err, refl, sym, ap, subst, arith, if◌then◌else◌}
use Rattle.std.specs.Option.{option_map}
use Rattle.std.specs.Prelude.{◌^◌, nat_lt, codes, decimal, flat_map, unwrap_or}
use Rattle.std.specs.Str.{bytes_eq}
use Rattle.hex.specs.Hex.{encode_lower}
use Rattle.def_hash.specs.declared.HashKind.TheVariants as hash_kind
use Rattle.def_hash.specs.Hash.{sha256}
use Rattle.def_hash.proofs.Lengths.{digest_has_bytes}
use Rattle.def_script.specs.Bytes.{Bytes, IsBytes}
use Rattle.def_script.specs.Witness.{weight, witness_text}
use Rattle.def_machine.specs.Program.{program_of}
use Rattle.def_machine.specs.Machine.{Given}
use Rattle.def_machine.specs.Run.{Outcome, accepted, refused, run}
use Rattle.def_tree.specs.Tree.{Tree}
use Rattle.def_tree.specs.Range.{IsWritable}
use Rattle.def_text.specs.Print.{printed}
use Rattle.def_text.proofs.SpelledWritable.{spelled_writable}
use Rattle.def_types.specs.Typed.{type_of, properties_of}
use Rattle.def_emit.specs.Emit.{script_of}
use Rattle.def_trace.specs.Placed.{placed}
use Rattle.def_trace.specs.Trace.{trace}
use Rattle.def_trace.specs.Writers.{places_of}
use Rattle.def_trace.specs.Written.{written}
use Rattle.def_assets.specs.Assets.{Assets, AreAssets}
use Rattle.def_files.specs.AssetFile.{assets_of}
use Rattle.def_files.specs.RunFile.{RunFile, run_of}
use Rattle.def_files.proofs.Given.{asset_file_gives_assets, run_file_gives_run}
use Rattle.def_sane.specs.declared.Rules.{Rules}
use Rattle.def_sane.specs.declared.Rules.TheVariants.{Policy, Consensus}
use Rattle.def_sane.specs.declared.Unfit.{Unfit}
use Rattle.def_sane.specs.Unfit.{first_unfit, first_unfit_valid, first_unfit_under, first_unfit_valid_under}
use Rattle.def_sane.specs.TheLimits.{the_limits}
use Rattle.def_limits.specs.declared.Limits.{Limits}
use Rattle.def_satisfaction.specs.Satisfaction.{Sat}
use Rattle.def_satisfaction.proofs.OfBytes.{sat_is_of_bytes}
use Rattle.def_audit.specs.declared.Step.{Step}
use Rattle.def_choice.specs.declared.choice.Choice.{Choice}
use Rattle.def_choice.specs.declared.choice.Choice.TheVariants as choice
use Rattle.def_choice.specs.Cheapest.{cheapest}
use Rattle.def_choice.specs.Strict.{strict}
use Rattle.def_choice.proofs.Chosen.{cheapest_is_lightest, strict_is_canonical}
use Rattle.def_plan.specs.Lengths.{estimated}
use Rattle.def_plan.specs.Plan.{Plan, plan_of}
use Rattle.def_plan.specs.PlanFile.{plan_file_of}
use Rattle.def_plan.specs.Taken.{taken}
use Rattle.def_answer.specs.declared.status.Status.{Status}
use Rattle.def_answer.specs.declared.status.Status.TheVariants as status
use Rattle.def_answer.specs.Status.{code_of}
use Rattle.def_answer.specs.TheHeight.{the_height}
use Rattle.def_answer.specs.Lines.{line, script_line, program_line, limits_text, limits_line_under, tree_limits_line, MOST_FILE}
use Rattle.def_answer.specs.Files.{file_line}
use Rattle.def_answer.specs.Reading.{Reading, HasReading}
use Rattle.def_answer.specs.Reading as reading
use Rattle.def_answer.specs.Script.{script_report}
use Rattle.def_answer.specs.Asm.{asm_report}
use Rattle.def_answer.specs.Check.{type_letters, check_report}
use Rattle.def_answer.specs.Satisfy.{item_line, witness_line, replay_line, outcome_with, ops_of, peak_of, satisfy_report, chosen_by, reason_by}
use Rattle.def_answer.specs.Trace.{last_line, trace_report}
use Rattle.def_answer.specs.Plan.{plan_file_line}
use Rattle.def_answer.specs.Generated.{generated_tree, generated_assets}
use Rattle.def_answer.specs.Words.{Command, script, asm, outline, check, satisfy, gen, policy, plan, audit, trace_text, decode}
use Rattle.def_answer.specs.Words as words
use Rattle.def_answer.specs.Reply.{Reply, reply, usage_reply, unless_unfit, text_reply, with_file, file_reply, chosen_reply, satisfy_reply, outcome_reply, given_by, run_reply, audited_reply, witness_reply, audit_reply, traced_reply, trace_reply, text_traced_reply, text_trace_reply, planned_reply, plan_reply}
use Rattle.def_answer.specs.Answer.{gen_reply, script_reply, asm_reply, outlined_reply, tree_reply, no_reason, check_reply, policy_reply, bytes_of, decode_reply, no_reading_reply, RepliesToText, RepliesToScript, RepliesWithPlaces, offsets_of, Replies, RepliesToWords}
use Rattle.def_lines.specs.Msat.{msat_answers}
use Rattle.def_lines.specs.Laws.{ReportsPlainly}
use Rattle.def_lines.proofs.Lists.{Every, from_all}
use Rattle.ms_line_laws.proofs.Scripts.{more_bytes, script_is_bytes}
use Rattle.ms_line_laws.proofs.Machine.{ArePairsFound, run_finds}
use Rattle.ms_line_laws.proofs.Plainly.{AreReported, reported, hex_reported}
use Rattle.ms_line_laws.proofs.Reported.{line_reported, text_line_reported, unfit_line_reported, script_refused_reported, not_accepted_reported, accepted_reported, audit_reported}
use Rattle.ms_line_laws.proofs.Reports.{counted, one_count, file_line_reported, plan_file_line_reported, outcome_reported, plan_reported, items_reported, limits_reported, gen_reported}
use Rattle.ms_line_laws.proofs.Printed.{printed_reported, decode_reported, type_reported}
use Rattle.ms_line_laws.proofs.Policies.{policy_report_reported}
use Rattle.ms_line_laws.proofs.Outlines.{outline_reported, unfit_report_reported}
use Rattle.ms_line_laws.proofs.Traces.{placed_are, listing_reported, trace_reported}
use Rattle.ms_line_laws.proofs.Taken.{taken_are}
use Rattle.ms_line_laws.proofs.Witnesses.{witness_is_bytes}

abbrev IsPlain : Reply → Type 0
IsPlain r = AreReported r.report

by_test : (b : Bool) (r s : Reply) → IsPlain r → IsPlain s → IsPlain (if b then r else s)
by_test true r s p q = p
by_test false r s p q = q

-- ---- Scripts

script_line_reported : (bytes : Bytes) → IsBytes bytes → AreReported (script_line bytes)
script_line_reported bytes h = line_reported (codes "script " ++ encode_lower bytes) (reported (codes "script ") (encode_lower bytes) refl (hex_reported bytes h))

program_is_bytes : (bytes : Bytes) → IsBytes (program_of bytes)
program_is_bytes bytes =
    more_bytes 0x00 (0x20 ∷ sha256 bytes) (omega arith) (more_bytes 0x20 (sha256 bytes) (omega arith) (digest_has_bytes hash_kind.Sha256 bytes))

program_line_reported : (bytes : Bytes) → AreReported (program_line bytes)
program_line_reported bytes =
    line_reported (codes "program " ++ encode_lower (program_of bytes))
    (reported (codes "program ") (encode_lower (program_of bytes)) refl (hex_reported (program_of bytes) (program_is_bytes bytes)))

limits_line_reported : (rules : Rules) (limits : Limits) (height : ℕ) → AreReported (limits_line_under rules limits height)
limits_line_reported Policy limits height = line_reported (limits_text limits) (limits_reported limits)
limits_line_reported Consensus limits height =
    line_reported (limits_text limits ++ codes " height " ++ decimal height) (counted (limits_text limits) (codes " height ") height (limits_reported limits) refl)

script_reported : (tree : Tree) → IsWritable tree → AreReported (script_report tree)
unfolding script_report
script_reported tree w = line_reported (encode_lower (script_of tree)) (hex_reported (script_of tree) (script_is_bytes tree w))

asm_reported : (offsets : List ℕ) (tree : Tree) → IsWritable tree → AreReported (asm_report offsets tree)
unfolding asm_report
asm_reported offsets tree w = listing_reported (places_of offsets tree) (placed (script_of tree)) (placed_are (script_of tree) (script_is_bytes tree w))

check_reported : (rules : Rules) (tree : Tree) → IsWritable tree → AreReported (check_report rules tree)
unfolding check_report
check_reported rules tree w =
    let text = line (codes "text " ++ printed tree) in
    let letters = type_letters (type_of tree) (properties_of tree) in
    let types = line (codes "type " ++ letters) in
    let bytes = script_of tree in
    reported (text ++ types ++ script_line bytes ++ program_line bytes) (tree_limits_line rules tree)
    (reported (text ++ types ++ script_line bytes) (program_line bytes)
    (reported (text ++ types) (script_line bytes)
    (reported text types
    (line_reported (codes "text " ++ printed tree) (reported (codes "text ") (printed tree) refl (printed_reported tree w)))
    (line_reported (codes "type " ++ letters) (reported (codes "type ") letters refl (type_reported (type_of tree) (properties_of tree)))))
    (script_line_reported bytes (script_is_bytes tree w)))
    (program_line_reported bytes))
    (limits_line_reported rules (the_limits tree) (the_height tree))

-- ---- satisfactions

witness_reported : (stack : List Bytes) (bytes : Bytes) → Every IsBytes stack → IsBytes bytes → AreReported (witness_line stack bytes)
witness_reported stack bytes h s =
    let text = encode_lower (witness_text stack bytes) in
    line_reported (codes "witness " ++ text) (reported (codes "witness ") text refl (hex_reported (witness_text stack bytes) (witness_is_bytes stack bytes h s)))

replay_reported : (stack : List Bytes) (outcome : Outcome) → AreReported (replay_line stack outcome)
replay_reported stack outcome =
    let a = codes "replay ops " ++ decimal (ops_of outcome) in
    let b = a ++ codes " items " ++ decimal (length stack) in
    let c = b ++ codes " weight " ++ decimal (weight stack) in
    line_reported (c ++ codes " peak " ++ decimal (peak_of outcome))
    (counted c (codes " peak ") (peak_of outcome)
    (counted b (codes " weight ") (weight stack)
    (counted a (codes " items ") (length stack) (one_count (codes "replay ops ") (ops_of outcome) refl) refl) refl) refl)

satisfy_reported : (rules : Rules) (tree : Tree) (assets : Assets) (stack : List Bytes) → IsWritable tree → Every IsBytes stack → AreReported (satisfy_report rules tree assets stack)
unfolding satisfy_report
satisfy_reported rules tree assets stack w h =
    let bytes = script_of tree in
    let is = script_is_bytes tree w in
    let limits = tree_limits_line rules tree in
    let items = flat_map item_line stack in
    let witness = witness_line stack bytes in
    reported (script_line bytes ++ program_line bytes ++ limits ++ items ++ witness) (replay_line stack (outcome_with tree assets stack))
    (reported (script_line bytes ++ program_line bytes ++ limits ++ items) witness
    (reported (script_line bytes ++ program_line bytes ++ limits) items
    (reported (script_line bytes ++ program_line bytes) limits
    (reported (script_line bytes) (program_line bytes) (script_line_reported bytes is) (program_line_reported bytes))
    (limits_line_reported rules (the_limits tree) (the_height tree)))
    (items_reported stack h))
    (witness_reported stack bytes h is))
    (replay_reported stack (outcome_with tree assets stack))

-- ---- texts

unless_plain : (first_reason : Option Unfit) (offsets : List ℕ) (next : Reply) → IsPlain next → IsPlain (unless_unfit first_reason offsets next)
unless_plain None offsets next h = h
unless_plain (Some unfit) offsets next h = unfit_line_reported offsets unfit

text_plain : (text : Bytes) (first_reason : Tree → Option Unfit) (next : Tree → Reply) (found : Reading) → HasReading text found
    → ((tree : Tree) → IsWritable tree → IsPlain (next tree)) → IsPlain (text_reply first_reason next found)
text_plain text first_reason next (reading.read tree offsets) reads h = unless_plain (first_reason tree) offsets (next tree) (h tree (spelled_writable reads.spelled))
text_plain text first_reason next (reading.refused fault) reads h = text_line_reported fault

replied : (r s : Reply) → r ≡ s → IsPlain s → IsPlain r
replied r s same h = subst IsPlain (sym same) h

text_replied : (text : Bytes) (first_reason : Tree → Option Unfit) (next : Tree → Reply) (r : Reply) → RepliesToText text first_reason next r
    → ((tree : Tree) → IsWritable tree → IsPlain (next tree)) → IsPlain r
text_replied text first_reason next r (found, reads, same) h = replied r _ same (text_plain text first_reason next found reads h)

places_replied : (text : Bytes) (first_reason : Tree → Option Unfit) (next : List ℕ → Tree → Reply) (r : Reply) → RepliesWithPlaces text first_reason next r
    → ((offsets : List ℕ) (tree : Tree) → IsWritable tree → IsPlain (next offsets tree)) → IsPlain r
places_replied text first_reason next r (found, reads, same) h =
    replied r _ same (text_plain text first_reason (next (offsets_of found)) found reads (h (offsets_of found)))

outlined_plain : (offsets : List ℕ) (tree : Tree) (reason : Option Unfit) → IsWritable tree → IsPlain (outlined_reply offsets tree reason)
outlined_plain offsets tree None w = outline_reported offsets tree w
outlined_plain offsets tree (Some unfit) w = unfit_report_reported offsets tree unfit w

-- ---- files

with_plain : {A E : Type 0} (show : E → Bytes) (next : A → Reply) (file : Result A E) → ((fault : E) → AreReported (show fault))
    → ((value : A) → file ≡ Ok value → IsPlain (next value)) → IsPlain (with_file show next file)
with_plain show next (Ok value) faults h = h value refl
with_plain show next (Err fault) faults h = faults fault

file_plain : {A E : Type 0} (show : E → Bytes) (file_of : Bytes → Result A E) (next : A → Reply) (source : Bytes) → ((fault : E) → AreReported (show fault))
    → ((value : A) → file_of source ≡ Ok value → IsPlain (next value)) → IsPlain (file_reply show file_of next source)
file_plain show file_of next source faults h =
    by_test (nat_lt MOST_FILE (length source)) _ (with_file show next (file_of source)) refl (with_plain show next (file_of source) faults h)

-- ---- what is asked with a file

chosen_is_canonical : (how : Choice) (tree : Tree) (assets : Assets) (stack : List Bytes) → IsWritable tree → AreAssets assets
    → chosen_by how tree assets ≡ Some stack → Sat tree assets stack
chosen_is_canonical choice.Strict tree assets stack w held is = strict_is_canonical tree assets stack w held is
chosen_is_canonical choice.Cheapest tree assets stack w held is = (cheapest_is_lightest tree assets w held).is stack is

chosen_plain : (how : Choice) (rules : Rules) (tree : Tree) (assets : Assets) (found : Option (List Bytes)) → IsWritable tree
    → ((stack : List Bytes) → found ≡ Some stack → Every IsBytes stack) → IsPlain (chosen_reply rules tree assets found)
chosen_plain how rules tree assets None w h = refl
chosen_plain how rules tree assets (Some stack) w h = satisfy_reported rules tree assets stack w (h stack refl)

satisfy_plain : (how : Choice) (rules : Rules) (source : Bytes) (tree : Tree) → IsWritable tree → IsPlain (satisfy_reply rules (chosen_by how) source tree)
satisfy_plain how rules source tree w =
    file_plain file_line assets_of (λ assets. chosen_reply rules tree assets (chosen_by how tree assets)) source file_line_reported
    (λ assets read. let held = (asset_file_gives_assets source assets read).held in
    chosen_plain how rules tree assets (chosen_by how tree assets) w
    (λ stack is. from_all IsBytes stack (sat_is_of_bytes tree assets stack w held (chosen_is_canonical how tree assets stack w held is))))

outcome_plain : (outcome : Outcome) → ArePairsFound outcome → IsPlain (outcome_reply outcome)
outcome_plain (accepted ops peak checks) h = outcome_reported (accepted ops peak checks) h
outcome_plain (refused fault place) h = outcome_reported (refused fault place) h

run_plain : (source : Bytes) → IsPlain (run_reply source)
run_plain source =
    file_plain file_line run_of (λ file. outcome_reply (run (given_by file) file.script file.stack)) source file_line_reported
    (λ file read. let is = run_file_gives_run source file read in
    outcome_plain (run (given_by file) file.script file.stack) (run_finds (given_by file) file.script file.stack is.script (from_all IsBytes file.stack is.stack)))

audited_plain : (offsets : List ℕ) (steps : List Step) (outcome : Outcome) → IsPlain (audited_reply offsets steps outcome)
audited_plain offsets steps (accepted ops peak checks) = audit_reported offsets steps ops peak
audited_plain offsets steps (refused fault place) = not_accepted_reported fault place

audit_plain : (offsets : List ℕ) (steps : List Step) (source : Bytes) (tree : Tree) → IsPlain (audit_reply offsets steps source tree)
audit_plain offsets steps source tree =
    file_plain file_line run_of (witness_reply offsets steps tree) source file_line_reported
    (λ file read. by_test (bytes_eq file.script (script_of tree)) (audited_reply offsets steps (run (given_by file) file.script file.stack)) _
    (audited_plain offsets steps (run (given_by file) file.script file.stack)) refl)

last_reported : (outcome : Outcome) → AreReported (last_line outcome)
last_reported (accepted ops peak checks) = accepted_reported ops peak
last_reported (refused fault place) = script_refused_reported fault place

report_of_trace : (places : List ℕ) (given : Given) (bytes : Bytes) (stack : List Bytes) → IsBytes bytes → Every IsBytes stack
    → AreReported (trace_report places given bytes stack)
unfolding trace_report
report_of_trace places given bytes stack s h =
    reported (written places (trace given bytes stack)) (last_line (run given bytes stack)) (trace_reported places given bytes stack s h)
    (last_reported (run given bytes stack))

traced_plain : (places : List ℕ) (source : Bytes) (file : RunFile) → run_of source ≡ Ok file → IsPlain (traced_reply places file)
traced_plain places source file read =
    let is = run_file_gives_run source file read in
    report_of_trace places (given_by file) file.script file.stack is.script (from_all IsBytes file.stack is.stack)

trace_plain : (source : Bytes) → IsPlain (trace_reply source)
trace_plain source = file_plain file_line run_of (traced_reply []) source file_line_reported (traced_plain [] source)

text_trace_plain : (offsets : List ℕ) (source : Bytes) (tree : Tree) → IsPlain (text_trace_reply offsets source tree)
text_trace_plain offsets source tree =
    file_plain file_line run_of (text_traced_reply offsets tree) source file_line_reported
    (λ file read. by_test (bytes_eq file.script (script_of tree)) (traced_reply (places_of offsets tree) file) _
    (traced_plain (places_of offsets tree) source file read) refl)

planned_plain : (found : Option Plan) → ((made : Plan) → found ≡ Some made → Every IsBytes made.keys) → IsPlain (planned_reply found)
planned_plain None h = refl
planned_plain (Some made) h = plan_reported made (h made refl)

abbrev keys_or_none : Option Plan → List Bytes
keys_or_none None = []
keys_or_none (Some made) = made.keys

-- the keys of a plan are those that the strict choice takes
pub plan_keys : (tree : Tree) (assets : Assets) (stack : Option (List Bytes)) (made : Plan) → IsWritable tree
    → option_map (λ (s : List Bytes). record { keys = taken assets tree; weight = weight s }) stack ≡ Some made → Every IsBytes made.keys
plan_keys tree assets None made w is = absurd cc
plan_keys tree assets (Some stack) made w is =
    let same : taken assets tree ≡ made.keys = ap keys_or_none is in subst (Every IsBytes) same (taken_are assets tree w)

plan_plain : (source : Bytes) (tree : Tree) → IsWritable tree → IsPlain (plan_reply source tree)
plan_plain source tree w =
    file_plain plan_file_line plan_file_of (λ file. planned_reply (plan_of tree file.assets file.table)) source plan_file_line_reported
    (λ file read. planned_plain (plan_of tree file.assets file.table)
    (λ made is. plan_keys tree (estimated file.assets file.table) (strict tree (estimated file.assets file.table)) made w is))

-- ---- commands

gen_plain : (n : ℕ) → IsPlain (gen_reply n)
unfolding gen_reply
gen_plain n = gen_reported n (unwrap_or (strict (generated_tree n) (generated_assets n)) []) (unwrap_or (cheapest (generated_tree n) (generated_assets n)) [])

decode_plain : (keys : List Bytes) (bytes : Bytes) (r : Reply) → RepliesToScript keys bytes r → IsPlain r
decode_plain keys bytes r (inl (tree, decoded, same)) = replied r (decode_reply tree) same (decode_reported tree decoded.reading.writable)
decode_plain keys bytes r (inr (none, same)) = replied r no_reading_reply same refl

command_plain : (command : Command) (source : Bytes) (r : Reply) → Replies command source r → IsPlain r
command_plain (script rules text) source r h = text_replied text (first_unfit_valid_under rules) script_reply r h script_reported
command_plain (asm rules text) source r h = places_replied text (first_unfit_valid_under rules) asm_reply r h asm_reported
command_plain (outline rules text) source r h =
    places_replied text no_reason (tree_reply rules) r h (λ offsets tree w. outlined_plain offsets tree (first_unfit_under rules tree) w)
command_plain (check rules text) source r h = text_replied text (first_unfit_under rules) (check_reply rules) r h (check_reported rules)
command_plain (satisfy how rules text) source r h =
    text_replied text (reason_by how rules) (satisfy_reply rules (chosen_by how) source) r h (satisfy_plain how rules source)
command_plain words.run source r h = replied r (run_reply source) h (run_plain source)
command_plain (gen n) source r h = replied r (gen_reply n) h (gen_plain n)
command_plain (policy text) source r h = text_replied text first_unfit policy_reply r h policy_report_reported
command_plain (plan text) source r h = text_replied text first_unfit (plan_reply source) r h (plan_plain source)
command_plain (audit text) source r (found, steps, reads, are, same) =
    replied r _ same
    (text_plain text first_unfit_valid (audit_reply (offsets_of found) steps source) found reads (λ tree w. audit_plain (offsets_of found) steps source tree))
command_plain words.trace source r h = replied r (trace_reply source) h (trace_plain source)
command_plain (trace_text text) source r h =
    places_replied text first_unfit_valid (λ offsets. text_trace_reply offsets source) r h (λ offsets tree w. text_trace_plain offsets source tree)
command_plain (decode digits keys) source r h = decode_plain (map bytes_of keys) (bytes_of digits) r h

words_plain : (words : List Bytes) (source : Bytes) (r : Reply) → RepliesToWords words source r → IsPlain r
words_plain words source r (inl (command, form, replies)) = command_plain command source r replies
words_plain words source r (inr (none, same)) = replied r usage_reply same refl

-- ---- statuses

small : (s : Status) → code_of s < 2 ^ 64
small status.Done = omega arith
small status.Usage = omega arith
small status.TextRefused = omega arith
small status.FileRefused = omega arith
small status.NoSatisfaction = omega arith
small status.ReadFault = omega arith
small status.WriteFault = omega arith
small status.Memory = omega arith
small status.ScriptRefused = omega arith
small status.NotAccepted = omega arith
small status.NoReading = omega arith

pub msat_reports_plainly : ReportsPlainly msat_answers
msat_reports_plainly words source code report (status, answer, is) =
    (subst (λ c. c < 2 ^ 64) (sym is) (small status), words_plain words source (reply status report) answer.replies)
