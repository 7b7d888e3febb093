-- The statuses of answers.
use Rattle.std.proofs.Common.{◌≡◌, ◌⊎◌, inl, inr, ℕ, Bool, true, false, nat_lt, if◌then◌else◌, List, [], Option, Some, None, Result, Ok, Err, length, refl, sym, subst, arith}
use Rattle.std.proofs.lemmas.Bool.{lt-ltb}
use Rattle.std.specs.Str.{bytes_eq}
use Rattle.def_script.specs.Bytes.{Bytes}
use Rattle.def_machine.specs.Run.{Outcome, accepted, refused, run}
use Rattle.def_tree.specs.Tree.{Tree}
use Rattle.def_emit.specs.Emit.{script_of}
use Rattle.def_assets.specs.Assets.{Assets}
use Rattle.def_sane.specs.declared.Rules.{Rules}
use Rattle.def_sane.specs.declared.Unfit.{Unfit}
use Rattle.def_sane.specs.Unfit.{first_unfit, first_unfit_valid, first_unfit_under, first_unfit_valid_under}
use Rattle.def_files.specs.AssetFile.{assets_of}
use Rattle.def_files.specs.RunFile.{RunFile, run_of}
use Rattle.def_audit.specs.declared.Step.{Step}
use Rattle.def_trace.specs.Writers.{places_of}
use Rattle.def_plan.specs.Plan.{plan_of}
use Rattle.def_plan.specs.PlanFile.{plan_file_of}
use Rattle.def_answer.specs.Satisfy.{chosen_by, reason_by}
use Rattle.def_answer.specs.declared.status.Status.{Status}
use Rattle.def_answer.specs.declared.status.Status.TheVariants as status
use Rattle.def_answer.specs.Words.{IsForm, Command, script, asm, outline, check, satisfy, gen, policy, plan, audit, trace, trace_text, decode}
use Rattle.def_answer.specs.Words as words
use Rattle.def_answer.specs.Lines.{MOST_FILE}
use Rattle.def_answer.specs.Files.{file_too_long_line, file_line}
use Rattle.def_answer.specs.Plan.{plan_file_line}
use Rattle.def_answer.specs.Audit.{wrong_script_line}
use Rattle.def_answer.specs.Reading.{Reading, HasReading}
use Rattle.def_answer.specs.Reading as reading
use Rattle.def_answer.specs.Reply.{Reply, reply, unless_unfit, text_reply, with_file, file_reply, chosen_reply, satisfy_reply, outcome_reply, given_by, run_reply, audited_reply, witness_reply, audit_reply, planned_reply, plan_reply, outcome_status, traced_reply, trace_reply, text_traced_reply, text_trace_reply}
use Rattle.def_answer.specs.Answer.{script_reply, asm_reply, outlined_reply, tree_reply, no_reason, check_reply, policy_reply, gen_reply, RepliesToText, offsets_of, RepliesWithPlaces, RepliesToAudit, Replies, RepliesToWords}
use Rattle.def_answer.specs.Sources.{Passes}
use Rattle.ms_answer_laws.specs.Laws.{IsAnswered, AnswersHaveStatus, NoReadingIsOfDecode, NotAcceptedIsOfWitness, LongAssetFile, LongRunFile, LongPlanFile, LongAuditFile, LongTraceFile, LongTextTraceFile}

-- ---- the replies to files and runs

-- a fact of the status of replies
abbrev pub OfStatus : (Status → Type 0) → Reply → Type 0
OfStatus P r = P r.status

module _ (P : Status → Type 0) where
  file_status : {A E : Type 0} (line : E → Bytes) (file_of : Bytes → Result A E) (next : A → Reply) (source : Bytes) →
      P status.FileRefused → ((file : A) → OfStatus P (next file)) → OfStatus P (file_reply line file_of next source)
  file_status {A} {E} line file_of next source refusal after = go (nat_lt MOST_FILE (length source)) (file_of source)
    where
      go : (b : Bool) (read : Result A E) → OfStatus P (if b then reply status.FileRefused file_too_long_line else with_file line next read)
      go true read = refusal
      go false (Ok file) = after file
      go false (Err fault) = refusal

  pub satisfy_status : (rules : Rules) (choice : Tree → Assets → Option (List Bytes)) (source : Bytes) (tree : Tree) →
      P status.FileRefused → P status.Done → P status.NoSatisfaction → OfStatus P (satisfy_reply rules choice source tree)
  satisfy_status rules choice source tree refusal done never =
      file_status file_line assets_of (λ assets. chosen_reply rules tree assets (choice tree assets)) source refusal
      (λ assets. elim (choice tree assets) as (λ o. OfStatus P (chosen_reply rules tree assets o)) [ None ↦ never | Some stack ↦ done ])

  pub run_status : (source : Bytes) → P status.FileRefused → P status.Done → P status.ScriptRefused → OfStatus P (run_reply source)
  run_status source file done refusal =
      file_status file_line run_of (λ f. outcome_reply (run (given_by f) f.script f.stack)) source file
      (λ f. elim (run (given_by f) f.script f.stack) as (λ o. OfStatus P (outcome_reply o)) [ accepted ops peak checks ↦ done | refused fault place ↦ refusal ])

  pub plan_status : (source : Bytes) (tree : Tree) → P status.FileRefused → P status.Done → P status.NoSatisfaction →
      OfStatus P (plan_reply source tree)
  plan_status source tree refusal done never =
      file_status plan_file_line plan_file_of (λ file. planned_reply (plan_of tree file.assets file.table)) source refusal
      (λ file. elim (plan_of tree file.assets file.table) as (λ o. OfStatus P (planned_reply o)) [ None ↦ never | Some found ↦ done ])

  pub audit_status : (offsets : List ℕ) (steps : List Step) (source : Bytes) (tree : Tree) → P status.FileRefused → P status.Done →
      P status.NotAccepted → OfStatus P (audit_reply offsets steps source tree)
  audit_status offsets steps source tree file done refusal =
      file_status file_line run_of (witness_reply offsets steps tree) source file
      (λ f. go (bytes_eq f.script (script_of tree)) (run (given_by f) f.script f.stack))
    where
      go : (b : Bool) (o : Outcome) → OfStatus P (if b then audited_reply offsets steps o else reply status.NotAccepted wrong_script_line)
      go true (accepted ops peak checks) = done
      go true (refused fault place) = refusal
      go false o = refusal

  traced_status : (places : List ℕ) (file : RunFile) → P status.Done → P status.ScriptRefused → OfStatus P (traced_reply places file)
  traced_status places file done refusal =
      elim (run (given_by file) file.script file.stack) as (λ o. P (outcome_status o)) [ accepted ops peak checks ↦ done | refused fault place ↦ refusal ]

  pub trace_status : (source : Bytes) → P status.FileRefused → P status.Done → P status.ScriptRefused → OfStatus P (trace_reply source)
  trace_status source file done refusal = file_status file_line run_of (traced_reply []) source file (λ f. traced_status [] f done refusal)

  pub text_trace_status : (offsets : List ℕ) (source : Bytes) (tree : Tree) → P status.FileRefused → P status.Done → P status.ScriptRefused →
      P status.NotAccepted → OfStatus P (text_trace_reply offsets source tree)
  text_trace_status offsets source tree file done refusal other =
      file_status file_line run_of (text_traced_reply offsets tree) source file (λ f. go f (bytes_eq f.script (script_of tree)))
    where
      go : (f : RunFile) (b : Bool) → OfStatus P (if b then traced_reply (places_of offsets tree) f else reply status.NotAccepted wrong_script_line)
      go f true = traced_status (places_of offsets tree) f done refusal
      go f false = other

  -- a text that passes is replied to by what comes next, and the others are refused
  pub text_status : (text : Bytes) (reason : Tree → Option Unfit) (next : Tree → Reply) (r : Reply) → P status.TextRefused →
      ((passes : Passes reason text) → OfStatus P (next passes.0)) → RepliesToText text reason next r → OfStatus P r
  text_status text reason next r refusal after (found, has, e) = subst (OfStatus P) (sym e) (go found has)
    where
      by_reason : (tree : Tree) (offsets : List ℕ) (o : Option Unfit) → HasReading text (reading.read tree offsets) → reason tree ≡ o →
          OfStatus P (unless_unfit o offsets (next tree))
      by_reason tree offsets None has none = after (tree, offsets, has, none)
      by_reason tree offsets (Some unfit) has some = refusal

      go : (found : Reading) → HasReading text found → OfStatus P (text_reply reason next found)
      go (reading.read tree offsets) has = by_reason tree offsets (reason tree) has refl
      go (reading.refused fault) has = refusal

  pub audited_status : (text source : Bytes) (r : Reply) → P status.TextRefused →
      ((passes : Passes first_unfit_valid text) (offsets : List ℕ) (steps : List Step) → OfStatus P (audit_reply offsets steps source passes.0)) →
      RepliesToAudit text source r → OfStatus P r
  audited_status text source r refusal after (found, steps, has, are, e) =
      text_status text first_unfit_valid (audit_reply (offsets_of found) steps source) r refusal
      (λ passes. after passes (offsets_of found) steps) (found, has, e)

  pub placed_status : (text : Bytes) (reason : Tree → Option Unfit) (next : List ℕ → Tree → Reply) (r : Reply) → P status.TextRefused →
      ((passes : Passes reason text) (offsets : List ℕ) → OfStatus P (next offsets passes.0)) →
      RepliesWithPlaces text reason next r → OfStatus P r
  placed_status text reason next r refusal after (found, has, e) =
      text_status text reason (next (offsets_of found)) r refusal (λ passes. after passes (offsets_of found)) (found, has, e)

  -- the nodes of a tree are told, and it is refused where it isn't sane
  pub tree_status : (rules : Rules) (offsets : List ℕ) (tree : Tree) → P status.Done → P status.TextRefused → OfStatus P (tree_reply rules offsets tree)
  tree_status rules offsets tree done refusal =
      elim (first_unfit_under rules tree) as (λ o. OfStatus P (outlined_reply offsets tree o)) [ None ↦ done | Some unfit ↦ refusal ]

-- ---- the replies to words

module _ (ws : List Bytes) where
  -- only `decode` is replied to by that there is no reading, and only `audit` and `trace TEXT` by that a
  -- stack isn't accepted
  abbrev StatusOf : Status → Type 0
  StatusOf status.NoReading = (digits : Bytes) × (keys : List Bytes) × IsForm ws (decode digits keys)
  StatusOf status.NotAccepted = (text : Bytes) × (IsForm ws (audit text) ⊎ IsForm ws (trace_text text))
  StatusOf s = IsAnswered s

  reply_status : (c : Command) (source : Bytes) (r : Reply) → IsForm ws c → Replies c source r → OfStatus StatusOf r
  unfolding gen_reply
  reply_status (script rules text) source r form h = text_status StatusOf text (first_unfit_valid_under rules) script_reply r tt (λ passes. tt) h
  reply_status (asm rules text) source r form h =
      placed_status StatusOf text (first_unfit_valid_under rules) asm_reply r tt (λ passes offsets. tt) h
  reply_status (outline rules text) source r form h =
      placed_status StatusOf text no_reason (tree_reply rules) r tt (λ passes offsets. tree_status StatusOf rules offsets passes.0 tt tt) h
  reply_status (check rules text) source r form h = text_status StatusOf text (first_unfit_under rules) (check_reply rules) r tt (λ passes. tt) h
  reply_status (satisfy choice rules text) source r form h =
      text_status StatusOf text (reason_by choice rules) (satisfy_reply rules (chosen_by choice) source) r tt
      (λ passes. satisfy_status StatusOf rules (chosen_by choice) source passes.0 tt tt tt) h
  reply_status words.run source r form h = subst (OfStatus StatusOf) (sym h) (run_status StatusOf source tt tt tt)
  reply_status (gen n) source r form h = subst (OfStatus StatusOf) (sym h) tt
  reply_status (policy text) source r form h = text_status StatusOf text first_unfit policy_reply r tt (λ passes. tt) h
  reply_status (plan text) source r form h =
      text_status StatusOf text first_unfit (plan_reply source) r tt (λ passes. plan_status StatusOf source passes.0 tt tt tt) h
  reply_status (audit text) source r form h =
      audited_status StatusOf text source r tt (λ passes offsets steps. audit_status StatusOf offsets steps source passes.0 tt tt (text, inl form)) h
  reply_status trace source r form h = subst (OfStatus StatusOf) (sym h) (trace_status StatusOf source tt tt tt)
  reply_status (trace_text text) source r form h =
      placed_status StatusOf text first_unfit_valid (λ offsets. text_trace_reply offsets source) r tt (λ passes offsets. text_trace_status StatusOf offsets source passes.0 tt tt tt (text, inr form)) h
  reply_status (decode digits keys) source r form (inl h) = subst (OfStatus StatusOf) (sym h.2) tt
  reply_status (decode digits keys) source r form (inr h) = subst (OfStatus StatusOf) (sym h.1) (digits, keys, form)

  words_status : (source : Bytes) (r : Reply) → RepliesToWords ws source r → OfStatus StatusOf r
  words_status source r (inl (c, form, h)) = reply_status c source r form h
  words_status source r (inr h) = subst (OfStatus StatusOf) (sym h.1) tt

  is_answered : (s : Status) → StatusOf s → IsAnswered s
  is_answered s h = grind arith

pub answers_have_status : AnswersHaveStatus
answers_have_status ws source s p h = is_answered ws s (words_status ws source (reply s p) h.replies)

pub no_reading_is_of_decode : NoReadingIsOfDecode
no_reading_is_of_decode ws source p h = words_status ws source (reply status.NoReading p) h.replies

pub not_accepted_is_of_witness : NotAcceptedIsOfWitness
not_accepted_is_of_witness ws source p h = words_status ws source (reply status.NotAccepted p) h.replies

-- ---- files that are too long

pub long_asset_file : LongAssetFile
long_asset_file rules choice source tree long = rw (lt-ltb MOST_FILE (length source) long)

pub long_run_file : LongRunFile
long_run_file source long = rw (lt-ltb MOST_FILE (length source) long)

pub long_plan_file : LongPlanFile
long_plan_file source tree long = rw (lt-ltb MOST_FILE (length source) long)

pub long_audit_file : LongAuditFile
long_audit_file offsets steps source tree long = rw (lt-ltb MOST_FILE (length source) long)

pub long_trace_file : LongTraceFile
long_trace_file source long = rw (lt-ltb MOST_FILE (length source) long)

pub long_text_trace_file : LongTextTraceFile
long_text_trace_file offsets source tree long = rw (lt-ltb MOST_FILE (length source) long)
