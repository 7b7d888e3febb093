-- The steps of an audit: the walk finds them, and there are no others.
use Rattle.std.proofs.Common.{◌≡◌, inl, inr, ℕ, true, if◌then◌else◌, List, [], Ok, Err, refl, sym, ◌∙◌, ap, subst, nat_lt, length}
use Rattle.std.specs.Prelude.{Result, unwrap_or}
use Rattle.std.specs.Str.{bytes_eq}
use Rattle.std.proofs.lemmas.Bool.{cases_Bool}
use Rattle.std.proofs.lemmas.Slice.Eq.{bytes_eq-Decides}
use Rattle.def_script.specs.Bytes.{Bytes}
use Rattle.def_machine.specs.Stacks.{Pairs}
use Rattle.def_machine.specs.Machine.{Given}
use Rattle.def_machine.specs.Run.{Outcome, accepted, refused, run}
use Rattle.def_tree.specs.Tree.{Tree}
use Rattle.def_emit.specs.Emit.{script_of}
use Rattle.def_sane.specs.declared.Rules.TheVariants.{Policy}
use Rattle.def_sane.specs.Unfit.{IsValid}
use Rattle.def_sane.proofs.Meanings.{valid_under_consensus}
use Rattle.def_files.specs.declared.AssetFault.{AssetFault}
use Rattle.def_files.specs.RunFile.{RunFile, run_of}
use Rattle.def_audit.specs.declared.Step.{Step}
use Rattle.def_audit.specs.Derives.{Derives}
use Rattle.ms_audit_laws.proofs.WalkTrees.{walk_is_trail, trail_is_unique, accepted_has_trail}
use Rattle.def_answer.specs.declared.status.Status.TheVariants as status
use Rattle.def_answer.specs.Lines.{MOST_FILE}
use Rattle.def_answer.specs.Files.{file_too_long_line, file_line}
use Rattle.def_answer.specs.Reply.{reply, given_by, audited_reply, witness_reply, audit_reply, with_file}
use Rattle.def_answer.specs.Answer.{AreSteps}
use Rattle.ms_answer_laws.specs.Laws.{walked, steps_in, WalkedAreSteps}

-- ---- the walk finds them

pub walked_are_steps : WalkedAreSteps
walked_are_steps tree source writable valid file ops peak checks read is =
    let wide = valid_under_consensus Policy tree valid in
    let given = given_by file in
    let trail = accepted_has_trail tree given file.stack checks writable wide (record { ops = ops; peak = peak; run = is }) in
    let same : walked tree source ≡ trail.0 = ap (steps_in tree) read ∙ ap (λ o. unwrap_or o []) trail.1 in
    subst (λ s. Derives tree given true s file.stack) (sym same) ((walk_is_trail tree given trail.0 file.stack wide).0 trail.1)

-- ---- they are the only ones

one_outcome : (tree : Tree) (offsets : List ℕ) (given : Given) (stack : List Bytes) (a b : List Step) (o : Outcome) → run given (script_of tree) stack ≡ o
    → ((ops peak : ℕ) (checks : Pairs) → run given (script_of tree) stack ≡ accepted ops peak checks → a ≡ b)
    → audited_reply offsets a o ≡ audited_reply offsets b o
one_outcome tree offsets given stack a b (accepted ops peak checks) is same = ap (λ s. audited_reply offsets s (accepted ops peak checks)) (same ops peak checks is)
one_outcome tree offsets given stack a b (refused fault place) is same = refl

one_witness : (tree : Tree) (offsets : List ℕ) (file : RunFile) (a b : List Step)
    → ((ops peak : ℕ) (checks : Pairs) → run (given_by file) (script_of tree) file.stack ≡ accepted ops peak checks → a ≡ b)
    → witness_reply offsets a tree file ≡ witness_reply offsets b tree file
one_witness tree offsets file a b same = elim (cases_Bool (bytes_eq file.script (script_of tree))) [
  | inl e ↦
      let is = (bytes_eq-Decides file.script (script_of tree)).0 e in
      rw (e, is) (one_outcome tree offsets (given_by file) file.stack a b (run (given_by file) (script_of tree) file.stack) refl same)
  | inr e ↦ rw e refl
]

one_file : (offsets : List ℕ) (tree : Tree) (read : Result RunFile AssetFault) (a b : List Step)
    → ((file : RunFile) → read ≡ Ok file → witness_reply offsets a tree file ≡ witness_reply offsets b tree file)
    → with_file file_line (witness_reply offsets a tree) read ≡ with_file file_line (witness_reply offsets b tree) read
one_file offsets tree (Ok file) a b same = same file refl
one_file offsets tree (Err fault) a b same = refl

pub one_audit : (offsets : List ℕ) (tree : Tree) (source : Bytes) (a b : List Step) → IsValid tree → AreSteps tree source a → AreSteps tree source b
    → audit_reply offsets a source tree ≡ audit_reply offsets b source tree
one_audit offsets tree source a b valid h k =
    ap (λ r. if nat_lt MOST_FILE (length source) then reply status.FileRefused file_too_long_line else r)
    (one_file offsets tree (run_of source) a b (λ file read. one_witness tree offsets file a b
    (λ ops peak checks is. trail_is_unique tree (given_by file) a b file.stack (valid_under_consensus Policy tree valid)
    (h file ops peak checks read is) (k file ops peak checks read is))))
