-- What the policy of a text tells of `satisfy TEXT`.
use Rattle.std.proofs.Common.{◌≡◌, ℕ, ◌≤◌, List, [], ◌∷◌, length, codes, Ok, Some, None, inl, inr, refl, sym, ap, subst, ◌∙◌}
use Rattle.std.specs.Prelude.{Option}
use Rattle.std.specs.Str.{IsUtf8}
use Rattle.def_script.specs.Bytes.{Bytes}
use Rattle.def_tree.specs.Tree.{Tree}
use Rattle.def_text.specs.Refusal.{TextReads}
use Rattle.def_text.proofs.SpelledInRange.{spelled_in_range}
use Rattle.def_sane.specs.declared.Rules.TheVariants.{Policy}
use Rattle.def_sane.specs.Unfit.{first_unfit, IsSane}
use Rattle.def_sane.proofs.Meanings.{sane_under_consensus}
use Rattle.def_assets.specs.Assets.{Assets}
use Rattle.def_files.specs.AssetFile.{assets_of}
use Rattle.def_files.proofs.Given.{asset_file_gives_assets}
use Rattle.def_choice.specs.declared.choice.Choice.TheVariants.{Strict}
use Rattle.def_choice.specs.Strict.{strict}
use Rattle.ms_strict_laws.proofs.StrictChoiceExists.{strict_exists}
use Rattle.ms_policy_laws.proofs.Satisfied.{policy_of_sane}
use Rattle.def_answer.specs.declared.status.Status.TheVariants as status
use Rattle.def_answer.specs.Answer.{Replies, RepliesToWords, Answer}
use Rattle.def_answer.specs.Reading.{read}
use Rattle.def_answer.specs.Reply.{Reply, reply, unless_unfit, chosen_reply, satisfy_reply}
use Rattle.def_answer.specs.Lines.{MOST_FILE}
use Rattle.def_answer.specs.Satisfy.{satisfy_report}
use Rattle.def_answer.specs.Words.{satisfy, IsForm}
use Rattle.ms_answer_laws.proofs.Sources.{passed_text}
use Rattle.ms_answer_laws.proofs.Unique.{one_form}
use Rattle.msat_cli.specs.Policies.{TellsSatisfied}
use Rattle.msat_cli.proofs.SatisfactionLemmas.{read_reply}

-- a sane text, and a file that is read
record Given (text : Bytes) (tree : Tree) (offsets : List ℕ) (bytes : Bytes) (assets : Assets) : Type 0 where
  utf8 : IsUtf8 text
  reads : TextReads text tree offsets
  sane : IsSane tree
  short : length bytes ≤ MOST_FILE
  file : assets_of bytes ≡ Ok assets

abbrev words : (text : Bytes) → List Bytes
words text = codes "satisfy" ∷ text ∷ []

form : (text : Bytes) → IsForm (words text) (satisfy Strict Policy text)
form text = record { same = refl; in_range = tt }

-- the reply to them
replied : (text : Bytes) (tree : Tree) (offsets : List ℕ) (bytes : Bytes) (assets : Assets) → Given text tree offsets bytes assets
    → satisfy_reply Policy strict bytes tree ≡ chosen_reply Policy tree assets (strict tree assets)
replied text tree offsets bytes assets g = read_reply Policy strict bytes tree assets g.short g.file

-- is done where a stack is chosen
done_with : (text : Bytes) (tree : Tree) (offsets : List ℕ) (bytes : Bytes) (assets : Assets) (stack : List Bytes) → Given text tree offsets bytes assets
    → strict tree assets ≡ Some stack → Answer (words text) bytes status.Done (satisfy_report Policy tree assets stack)
done_with text tree offsets bytes assets stack g is =
    let whole = ap (λ o. unless_unfit o offsets (satisfy_reply Policy strict bytes tree)) g.sane ∙ replied text tree offsets bytes assets g ∙ ap (chosen_reply Policy tree assets) is in
    record { replies = inl (satisfy Strict Policy text, form text, (read tree offsets, g.reads, sym whole)) }

-- and there alone
chosen_of : (tree : Tree) (assets : Assets) (report : Bytes) (o : Option (List Bytes)) → reply status.Done report ≡ chosen_reply Policy tree assets o
    → (stack : List Bytes) × (o ≡ Some stack)
chosen_of tree assets report None e = let other = ap (λ (r : Reply). r.status) e in cc other
chosen_of tree assets report (Some stack) e = (stack, refl)

done_by : (text : Bytes) (tree : Tree) (offsets : List ℕ) (bytes : Bytes) (assets : Assets) (report : Bytes) → Given text tree offsets bytes assets
    → Answer (words text) bytes status.Done report → (stack : List Bytes) × (strict tree assets ≡ Some stack)
done_by text tree offsets bytes assets report g a = go a.replies
  where
    go : RepliesToWords (words text) bytes (reply status.Done report) → (stack : List Bytes) × (strict tree assets ≡ Some stack)
    go (inl h) =
        let same = one_form (words text) h.0 (satisfy Strict Policy text) h.1 (form text) in
        let own = subst (λ c. Replies c bytes (reply status.Done report)) same h.2 in
        let is = passed_text text first_unfit (satisfy_reply Policy strict bytes) (reply status.Done report) g.utf8 (tree, offsets, g.reads, g.sane) own in
        chosen_of tree assets report (strict tree assets) (is ∙ replied text tree offsets bytes assets g)
    go (inr h) = absurd (h.0 (satisfy Strict Policy text) (form text))

pub tells_satisfied : TellsSatisfied
tells_satisfied text tree offsets bytes assets utf8 reads sane short file =
    let g : Given text tree offsets bytes assets = record { utf8 = utf8; reads = reads; sane = sane; short = short; file = file } in
    let writes = (spelled_in_range text tree offsets utf8 reads).writable in
    let held = (asset_file_gives_assets bytes assets file).held in
    let says = policy_of_sane tree writes sane assets held in
    let exists = strict_exists tree assets writes (sane_under_consensus Policy tree sane) held in (
      λ true. let found = exists.1 (says.0 true) in (satisfy_report Policy tree assets found.0, done_with text tree offsets bytes assets found.0 g found.1),
      λ done. says.1 (exists.0 (done_by text tree offsets bytes assets done.0 g done.1)),
    )
