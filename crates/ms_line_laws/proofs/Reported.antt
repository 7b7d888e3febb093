-- The characters of lines of reports.
use Rattle.std.proofs.Common.{ℕ, Bool, true, false, List, [], ◌∷◌, ◌++◌, refl}
use Rattle.std.specs.Prelude.{codes, decimal, flat_map, slice_index, if◌then◌else◌}
use Rattle.std.specs.List.{list_any}
use Rattle.def_script.specs.Bytes.{Bytes}
use Rattle.def_machine.specs.declared.ScriptFault.{ScriptFault}
use Rattle.def_machine.specs.declared.ScriptFault.TheVariants as fault
use Rattle.def_text.specs.declared.TextFault.{TextFault}
use Rattle.def_text.specs.declared.TextFault.TheVariants as text_fault
use Rattle.def_types.specs.declared.rule.Rule.{Rule}
use Rattle.def_types.specs.declared.rule.Rule.TheVariants as rule
use Rattle.def_sane.specs.declared.Unfit.{Unfit}
use Rattle.def_sane.specs.declared.Unfit.TheVariants as unfit
use Rattle.def_audit.specs.declared.Step.{Step}
use Rattle.def_answer.specs.Lines.{line, text_line, rule_name, unfit_line}
use Rattle.def_answer.specs.Run.{script_fault_name, script_refused_line, accepted_line}
use Rattle.def_answer.specs.Audit.{not_accepted_line, step_line, canonical_line, audit_report}
use Rattle.ms_line_laws.proofs.Plainly.{AreReported, reported, all_reported, decimal_reported}

pub line_reported : (text : Bytes) → AreReported text → AreReported (line text)
line_reported text all = reported text (10 ∷ []) all refl

-- a line of a word and what follows
pub worded : (word text : Bytes) → AreReported word → AreReported text → AreReported (line (word ++ text))
worded word text p q = line_reported (word ++ text) (reported word text p q)

-- ---- names

pub rule_reported : (r : Rule) → AreReported (rule_name r)
rule_reported rule.OlderRange = refl
rule_reported rule.AfterRange = refl
rule_reported rule.AndOrX = refl
rule_reported rule.AndOrYZ = refl
rule_reported rule.AndVX = refl
rule_reported rule.AndVY = refl
rule_reported rule.AndBX = refl
rule_reported rule.AndBY = refl
rule_reported rule.OrBX = refl
rule_reported rule.OrBZ = refl
rule_reported rule.OrCX = refl
rule_reported rule.OrCZ = refl
rule_reported rule.OrDX = refl
rule_reported rule.OrDZ = refl
rule_reported rule.OrIXZ = refl
rule_reported rule.ThreshRange = refl
rule_reported rule.ThreshFirst = refl
rule_reported rule.ThreshOther = refl
rule_reported rule.MultiRange = refl
rule_reported rule.WrapA = refl
rule_reported rule.WrapS = refl
rule_reported rule.WrapC = refl
rule_reported rule.WrapD = refl
rule_reported rule.WrapV = refl
rule_reported rule.WrapJ = refl
rule_reported rule.WrapN = refl
rule_reported rule.AndOrE = refl
rule_reported rule.AndOrS = refl
rule_reported rule.OrBE = refl
rule_reported rule.OrBS = refl
rule_reported rule.OrCE = refl
rule_reported rule.OrCS = refl
rule_reported rule.OrDE = refl
rule_reported rule.OrDS = refl
rule_reported rule.OrIS = refl
rule_reported rule.ThreshE = refl
rule_reported rule.ThreshS = refl

pub fault_reported : (f : ScriptFault) → AreReported (script_fault_name f)
fault_reported fault.ScriptSize = refl
fault_reported fault.ElementSize = refl
fault_reported fault.Truncated = refl
fault_reported fault.NonMinimalPush = refl
fault_reported fault.Unsupported = refl
fault_reported fault.OpCount = refl
fault_reported fault.StackUnderflow = refl
fault_reported fault.AltUnderflow = refl
fault_reported fault.Unbalanced = refl
fault_reported fault.MinimalIf = refl
fault_reported fault.Verify = refl
fault_reported fault.NumberForm = refl
fault_reported fault.NegativeLock = refl
fault_reported fault.UnmetLock = refl
fault_reported fault.KeyForm = refl
fault_reported fault.NullFail = refl
fault_reported fault.NullDummy = refl
fault_reported fault.KeyCount = refl
fault_reported fault.SigCount = refl
fault_reported fault.StackSize = refl
fault_reported fault.CleanStack = refl
fault_reported fault.EvalFalse = refl

-- ---- refusals

pub text_line_reported : (f : TextFault) → AreReported (text_line f)
text_line_reported text_fault.TooLong = refl
text_line_reported (text_fault.Syntax at) = worded (codes "refused text Syntax at ") (decimal at) refl (decimal_reported at)
text_line_reported (text_fault.TooDeep at) = worded (codes "refused text TooDeep at ") (decimal at) refl (decimal_reported at)
text_line_reported text_fault.Memory = refl

named_at : (word name : Bytes) (n : ℕ) → AreReported word → AreReported name → AreReported (line (word ++ name ++ codes " at " ++ decimal n))
named_at word name n p q =
    worded (word ++ name ++ codes " at ") (decimal n) (reported (word ++ name) (codes " at ") (reported word name p q) refl) (decimal_reported n)

counted : (word : Bytes) (n : ℕ) → AreReported word → AreReported (line (word ++ decimal n))
counted word n p = worded word (decimal n) p (decimal_reported n)

pub unfit_line_reported : (offsets : List ℕ) (u : Unfit) → AreReported (unfit_line offsets u)
unfit_line_reported offsets (unfit.Rule at) = named_at (codes "refused text Rule ") (rule_name at.rule) (slice_index offsets at.node) refl (rule_reported at.rule)
unfit_line_reported offsets unfit.TopNotB = refl
unfit_line_reported offsets (unfit.Size n) = counted (codes "refused text Size ") n refl
unfit_line_reported offsets (unfit.Ops n) = counted (codes "refused text Ops ") n refl
unfit_line_reported offsets (unfit.Items n) = counted (codes "refused text Items ") n refl
unfit_line_reported offsets (unfit.Malleable at) = named_at (codes "refused text Malleable ") (rule_name at.rule) (slice_index offsets at.node) refl (rule_reported at.rule)
unfit_line_reported offsets unfit.NoSignature = refl
unfit_line_reported offsets (unfit.MixedLocks node) = counted (codes "refused text MixedLocks at ") (slice_index offsets node) refl
unfit_line_reported offsets (unfit.RepeatedKey node) = counted (codes "refused text RepeatedKey at ") (slice_index offsets node) refl

pub script_refused_reported : (f : ScriptFault) (place : ℕ) → AreReported (script_refused_line f place)
script_refused_reported f place = named_at (codes "refused script ") (script_fault_name f) place refl (fault_reported f)

pub not_accepted_reported : (f : ScriptFault) (place : ℕ) → AreReported (not_accepted_line f place)
not_accepted_reported f place = named_at (codes "not accepted ") (script_fault_name f) place refl (fault_reported f)

-- ---- audits

pub accepted_reported : (ops peak : ℕ) → AreReported (accepted_line ops peak)
accepted_reported ops peak =
    line_reported (codes "accepted ops " ++ decimal ops ++ codes " peak " ++ decimal peak)
    (reported (codes "accepted ops " ++ decimal ops ++ codes " peak ") (decimal peak)
    (reported (codes "accepted ops " ++ decimal ops) (codes " peak ") (reported (codes "accepted ops ") (decimal ops) refl (decimal_reported ops)) refl)
    (decimal_reported peak))

one_of : (b : Bool) (one two : Bytes) → AreReported one → AreReported two → AreReported (if b then one else two)
one_of true one two p q = p
one_of false one two p q = q

step_reported : (offsets : List ℕ) (step : Step) → AreReported (step_line offsets step)
step_reported offsets step =
    line_reported
    (codes "node " ++ decimal (slice_index offsets step.node) ++ (if step.sat then codes " sat" else codes " dsat") ++ (if step.extra then codes " extra" else []))
    (reported (codes "node " ++ decimal (slice_index offsets step.node) ++ (if step.sat then codes " sat" else codes " dsat")) (if step.extra then codes " extra" else [])
    (reported (codes "node " ++ decimal (slice_index offsets step.node)) (if step.sat then codes " sat" else codes " dsat")
    (reported (codes "node ") (decimal (slice_index offsets step.node)) refl (decimal_reported (slice_index offsets step.node)))
    (one_of step.sat (codes " sat") (codes " dsat") refl refl))
    (one_of step.extra (codes " extra") [] refl refl))

canonical_reported : (steps : List Step) → AreReported (canonical_line steps)
canonical_reported steps =
    line_reported (codes "canonical " ++ (if list_any (λ step. step.extra) steps then codes "no" else codes "yes"))
    (reported (codes "canonical ") (if list_any (λ step. step.extra) steps then codes "no" else codes "yes") refl
    (one_of (list_any (λ step. step.extra) steps) (codes "no") (codes "yes") refl refl))

pub audit_reported : (offsets : List ℕ) (steps : List Step) (ops peak : ℕ) → AreReported (audit_report offsets steps ops peak)
unfolding audit_report
audit_reported offsets steps ops peak =
    reported (accepted_line ops peak ++ flat_map (step_line offsets) steps) (canonical_line steps)
    (reported (accepted_line ops peak) (flat_map (step_line offsets) steps) (accepted_reported ops peak) (all_reported (step_line offsets) (step_reported offsets) steps))
    (canonical_reported steps)
