-- What a call for a satisfaction shows.
use Rattle.std.proofs.Common.{◌≡◌, ℕ, ◌≤◌, inl, inr, List, ◌++◌, Ok, None, Some, Bool, true, false, nat_lt, if◌then◌else◌, length, refl, sym, ap, subst, ◌∙◌}
use Rattle.std.specs.Prelude.{Option}
use Rattle.std.specs.List.{flat_map}
use Rattle.std.specs.Io.KnownBytes.{Appends}
use Rattle.std.specs.Str.{IsUtf8}
use Rattle.std.proofs.lemmas.Bool.{le-ltb}
use Rattle.def_script.specs.Bytes.{Bytes}
use Rattle.def_machine.specs.Stacks.{Pairs, Checker, member}
use Rattle.def_machine.specs.Run.{Outcome, accepted, run}
use Rattle.def_tree.specs.Tree.{Tree}
use Rattle.def_tree.specs.Range.{IsWritable}
use Rattle.def_tree.specs.InRange.{IsInRange}
use Rattle.def_emit.specs.Emit.{script_of}
use Rattle.def_text.specs.Refusal.{TextReads}
use Rattle.def_text.proofs.SpelledInRange.{spelled_in_range}
use Rattle.def_assets.specs.Assets.{Assets, AreAssets}
use Rattle.def_files.specs.AssetFile.{assets_of}
use Rattle.def_files.specs.Laws.{AreFewAssets}
use Rattle.def_files.proofs.Given.{asset_file_gives_assets}
use Rattle.def_sane.specs.declared.Unfit.{Unfit}
use Rattle.def_sane.specs.TheLimits.{the_limits}
use Rattle.def_sane.proofs.TheLimits.{they_are_limits}
use Rattle.def_sane.specs.declared.Rules.{Rules}
use Rattle.def_sane.specs.declared.Rules.TheVariants.{Consensus}
use Rattle.def_sane.specs.Unfit.{IsValidUnder, IsSaneUnder}
use Rattle.def_sane.proofs.Meanings.{valid_means_under, sane_means_under, valid_under_consensus, sane_under_consensus}
use Rattle.def_answer.specs.TheHeight.{the_height}
use Rattle.def_answer.proofs.TheHeight.{it_is_height}
use Rattle.def_script.specs.Witness.{weight}
use Rattle.def_satisfaction.specs.Satisfaction.{given_of, Sat, Holds}
use Rattle.def_choice.specs.declared.choice.Choice.{Choice}
use Rattle.def_choice.specs.declared.choice.Choice.TheVariants as choice
use Rattle.def_answer.specs.Satisfy.{chosen_by, item_line, witness_line, satisfy_report, outcome_with, replay_line, reason_by, satisfy_words}
use Rattle.def_choice.specs.NonMalleable.{given_with}
use Rattle.def_choice.specs.Tight.{Tight}
use Rattle.def_choice.specs.Cheapest.{cheapest}
use Rattle.def_choice.specs.Strict.{strict}
use Rattle.def_choice.proofs.Chosen.{cheapest_is_lightest, strict_is_canonical, strict_is_tight}
use Rattle.def_promises.specs.Accepted.{IsAcceptedWithin, Unchangeable}
use Rattle.ms_strict_laws.proofs.StrictChoiceExists.{strict_exists}
use Rattle.ms_strict_laws.proofs.TightIsUnchangeable.{strict_is_unchangeable, nothing_to_accept, tight_is_non_malleable}
use Rattle.ms_strict_laws.proofs.UnchangeableIsTight.{strict_is_lightest}
use Rattle.def_answer.specs.Answer.{RepliesToText, Replies, RepliesToWords, Answer}
use Rattle.def_answer.specs.Lines.{script_line, program_line, MOST_FILE, tree_limits_line}
use Rattle.def_answer.specs.Files.{file_line}
use Rattle.def_answer.specs.Reading.{read}
use Rattle.def_answer.specs.Reply.{Reply, reply, unless_unfit, with_file, chosen_reply, satisfy_reply}
use Rattle.def_answer.specs.Words.{satisfy, IsForm}
use Rattle.def_answer.specs.declared.status.Status.{Status}
use Rattle.def_answer.specs.declared.status.Status.TheVariants as status
use Rattle.ms_answer_laws.proofs.Sources.{passed_text}
use Rattle.ms_answer_laws.proofs.Unique.{one_form}
use Rattle.ms_replay.proofs.Accepted.{Satisfies, is_within, fits_witness}
use Rattle.ms_witness.specs.Replaying.{ran}
use Rattle.ms_witness.proofs.Witnesses.{witness_is_replayed}
use Rattle.ms_words.specs.Commands.{HaveUtf8}
use Rattle.ms_io.specs.Sides.{Side}
use Rattle.msat_cli.specs.Ends.{HasAnswer, Ends}
use Rattle.msat_cli.specs.Calls.{Call, EndsAs}
use Rattle.msat_cli.specs.Satisfactions.{IsAsked, ShowsStack, ShowsSuch, ReplaysAs, IsAcceptedByAll, WeighsLeast, WeighsLeastUnchanged, FindsWhereOneExists, ShowsCanonical, Prints, ShowsWitness, ShowsAccepted, ShowsNonMalleable, FindsNothingToAccept, ShowsLightest, ShowsTight, TellsUnchanged, ShowsLightestUnchanged}
use Rattle.msat_cli.proofs.EndLemmas.{told_answer, ends_as_answered}
use Rattle.msat_cli.proofs.MoreSignatures.{run_stays}

-- ---- what is asked

-- the words are those of the command
pub is_form : (choice : Choice) (rules : Rules) (text : Bytes) (words : List Bytes) → words ≡ satisfy_words choice rules text
    → IsForm words (satisfy choice rules text)
is_form choice rules text words is = record { same = is; in_range = tt }

asked_form : (choice : Choice) (rules : Rules) (call : Call) (tree : Tree) (assets : Assets) (asked : IsAsked choice rules call tree assets)
    → IsForm call.words (satisfy choice rules asked.text)
asked_form choice rules call tree assets asked = is_form choice rules asked.text call.words asked.form

text_utf8 : (choice : Choice) (rules : Rules) (call : Call) (tree : Tree) (assets : Assets) → HaveUtf8 call.words
    → (asked : IsAsked choice rules call tree assets) → IsUtf8 asked.text
text_utf8 choice rules call tree assets utf8 asked = utf8 (satisfy choice rules asked.text) (asked_form choice rules call tree assets asked)

in_range : (choice : Choice) (rules : Rules) (call : Call) (tree : Tree) (assets : Assets) → HaveUtf8 call.words → IsAsked choice rules call tree assets → IsInRange tree
in_range choice rules call tree assets utf8 asked = spelled_in_range asked.text tree asked.offsets (text_utf8 choice rules call tree assets utf8 asked) asked.reads

writable : (choice : Choice) (rules : Rules) (call : Call) (tree : Tree) (assets : Assets) → HaveUtf8 call.words → IsAsked choice rules call tree assets → IsWritable tree
writable choice rules call tree assets utf8 asked = (in_range choice rules call tree assets utf8 asked).writable

are_few : {choice : Choice} {rules : Rules} {call : Call} {tree : Tree} {assets : Assets} → IsAsked choice rules call tree assets → AreFewAssets assets
are_few asked = asset_file_gives_assets _ _ asked.file

are_held : {choice : Choice} {rules : Rules} {call : Call} {tree : Tree} {assets : Assets} → IsAsked choice rules call tree assets → AreAssets assets
are_held asked = (are_few asked).held

-- what is sane or valid by any rules is so by consensus
pub is_sane : (rules : Rules) (tree : Tree) → reason_by choice.Strict rules tree ≡ None → IsSaneUnder Consensus tree
is_sane = sane_under_consensus

pub is_valid : (choice : Choice) (rules : Rules) (tree : Tree) → reason_by choice rules tree ≡ None → IsValidUnder Consensus tree
is_valid choice.Strict rules tree sane = ((sane_means_under Consensus tree).0 (is_sane rules tree sane)).0
is_valid choice.Cheapest rules tree valid = valid_under_consensus rules tree valid

-- ---- the stack that is chosen

chosen_is_canonical : (choice : Choice) (tree : Tree) (assets : Assets) (stack : List Bytes) → IsWritable tree → AreAssets assets
    → chosen_by choice tree assets ≡ Some stack → Sat tree assets stack
chosen_is_canonical choice.Strict tree assets stack writes held is = strict_is_canonical tree assets stack writes held is
chosen_is_canonical choice.Cheapest tree assets stack writes held is = (cheapest_is_lightest tree assets writes held).is stack is

chosen_where_some : (choice : Choice) (rules : Rules) (tree : Tree) (assets : Assets) (stack : List Bytes) → IsWritable tree → reason_by choice rules tree ≡ None
    → AreAssets assets → Sat tree assets stack → (found : List Bytes) × (chosen_by choice tree assets ≡ Some found)
chosen_where_some choice.Strict rules tree assets stack writes sane held sat = (strict_exists tree assets writes (is_sane rules tree sane) held).1 (stack, sat)
chosen_where_some choice.Cheapest rules tree assets stack writes valid held sat =
    let found = (cheapest_is_lightest tree assets writes held).lightest stack sat in (found.0, found.1)

none_is_chosen : (choice : Choice) (tree : Tree) (assets : Assets) → IsWritable tree → AreAssets assets
    → ((stack : List Bytes) → ¬ Sat tree assets stack) → chosen_by choice tree assets ≡ None
none_is_chosen choice tree assets writes held never = go (chosen_by choice tree assets) refl
  where
    go : (o : Option (List Bytes)) → chosen_by choice tree assets ≡ o → o ≡ None
    go None is = refl
    go (Some stack) is = absurd (never stack (chosen_is_canonical choice tree assets stack writes held is))

none_where_none : (choice : Choice) (rules : Rules) (tree : Tree) (assets : Assets) (stack : List Bytes) → IsWritable tree → reason_by choice rules tree ≡ None
    → AreAssets assets → chosen_by choice tree assets ≡ None → ¬ Sat tree assets stack
none_where_none choice rules tree assets stack writes fit held is sat =
    let found = chosen_where_some choice rules tree assets stack writes fit held sat in cc (sym is ∙ found.1)

-- ---- the answer to what is asked

pub second_of_two : (b : Bool) (r s : Reply) → b ≡ false → (if b then r else s) ≡ s
second_of_two true r s e = cc e
second_of_two false r s e = refl

-- the reply to a short file that is read
pub read_reply : (rules : Rules) (choose : Tree → Assets → Option (List Bytes)) (source : Bytes) (tree : Tree) (assets : Assets) → length source ≤ MOST_FILE
    → assets_of source ≡ Ok assets → satisfy_reply rules choose source tree ≡ chosen_reply rules tree assets (choose tree assets)
read_reply rules choose source tree assets short file =
    second_of_two (nat_lt MOST_FILE (length source)) _ _ (le-ltb MOST_FILE (length source) short)
    ∙ ap (with_file file_line (λ assets. chosen_reply rules tree assets (choose tree assets))) file

-- so it is the one reply to a text that passes
one_reply : (choice : Choice) (rules : Rules) (call : Call) (tree : Tree) (assets : Assets) (r : Reply) (asked : IsAsked choice rules call tree assets) → HaveUtf8 call.words
    → Replies (satisfy choice rules asked.text) asked.bytes r → r ≡ chosen_reply rules tree assets (chosen_by choice tree assets)
one_reply choice rules call tree assets r asked utf8 h =
    passed_text asked.text (reason_by choice rules) (satisfy_reply rules (chosen_by choice) asked.bytes) r (text_utf8 choice rules call tree assets utf8 asked)
    (tree, asked.offsets, asked.reads, asked.fit) h
    ∙ read_reply rules (chosen_by choice) asked.bytes tree assets asked.short asked.file

one_answer : (choice : Choice) (rules : Rules) (call : Call) (tree : Tree) (assets : Assets) (s : Status) (report : Bytes) (asked : IsAsked choice rules call tree assets)
    → HaveUtf8 call.words → Answer call.words asked.bytes s report → reply s report ≡ chosen_reply rules tree assets (chosen_by choice tree assets)
one_answer choice rules call tree assets s report asked utf8 a = go a.replies
  where
    go : RepliesToWords call.words asked.bytes (reply s report) → reply s report ≡ chosen_reply rules tree assets (chosen_by choice tree assets)
    go (inl h) =
        let same = one_form call.words h.0 (satisfy choice rules asked.text) h.1 (asked_form choice rules call tree assets asked) in
        one_reply choice rules call tree assets (reply s report) asked utf8 (subst (λ c. Replies c asked.bytes (reply s report)) same h.2)
    go (inr h) = absurd (h.0 (satisfy choice rules asked.text) (asked_form choice rules call tree assets asked))

-- and it is a reply
some_reply : (rules : Rules) (reason : Tree → Option Unfit) (choose : Tree → Assets → Option (List Bytes)) (text source : Bytes) (tree : Tree) (offsets : List ℕ)
    (assets : Assets) (r : Reply) → TextReads text tree offsets → reason tree ≡ None → length source ≤ MOST_FILE → assets_of source ≡ Ok assets
    → r ≡ chosen_reply rules tree assets (choose tree assets) → RepliesToText text reason (satisfy_reply rules choose source) r
some_reply rules reason choose text source tree offsets assets r reads fit short file is = (
  read tree offsets,
  reads,
  is ∙ sym (read_reply rules choose source tree assets short file)
      ∙ sym (ap (λ o. unless_unfit o offsets (satisfy_reply rules choose source tree)) fit),
)

asked_reply : (choice : Choice) (rules : Rules) (call : Call) (tree : Tree) (assets : Assets) (r : Reply) (asked : IsAsked choice rules call tree assets)
    → r ≡ chosen_reply rules tree assets (chosen_by choice tree assets) → Replies (satisfy choice rules asked.text) asked.bytes r
asked_reply choice rules call tree assets r asked is =
    some_reply rules (reason_by choice rules) (chosen_by choice) asked.text asked.bytes tree asked.offsets assets r asked.reads asked.fit asked.short asked.file is

-- so the call ends as the choice tells
asked_ends : (choice : Choice) (rules : Rules) (call : Call) (tree : Tree) (assets : Assets) (o : Option (List Bytes)) → HaveUtf8 call.words → Ends call
    → IsAsked choice rules call tree assets → chosen_by choice tree assets ≡ o → EndsAs (chosen_reply rules tree assets o).status call
asked_ends choice rules call tree assets o utf8 e asked is =
    let r = chosen_reply rules tree assets o in
    let replies = asked_reply choice rules call tree assets r asked (ap (chosen_reply rules tree assets) (sym is)) in
    ends_as_answered call utf8 e asked.bytes r.status r.report (inr asked.told)
    (record { replies = inl (satisfy choice rules asked.text, asked_form choice rules call tree assets asked, replies) })

-- what was written of it
written_reply : (choice : Choice) (rules : Rules) (call : Call) (tree : Tree) (assets : Assets) (report : Bytes) → HaveUtf8 call.words
    → HasAnswer call.words call.source call.status report → IsAsked choice rules call tree assets
    → reply call.status report ≡ chosen_reply rules tree assets (chosen_by choice tree assets)
written_reply choice rules call tree assets report utf8 a asked =
    one_answer choice rules call tree assets call.status report asked utf8
    (told_answer call.words call.source asked.bytes call.status report (inr asked.told) a)

-- ---- a stack is shown, or nothing is found

stack_written : (choice : Choice) (rules : Rules) (call : Call) (tree : Tree) (assets : Assets) (report : Bytes) (o : Option (List Bytes)) → chosen_by choice tree assets ≡ o
    → reply call.status report ≡ chosen_reply rules tree assets o → Appends call.sink.old call.sink.new report
    → call.status ≡ status.Done → (stack : List Bytes) × ShowsStack choice rules call tree assets stack
stack_written choice rules call tree assets report None is e w done =
    let nothing : call.status ≡ status.NoSatisfaction = ap (λ (r : Reply). r.status) e in absurd (cc (sym done ∙ nothing))
stack_written choice rules call tree assets report (Some stack) is e w done =
    let shown : report ≡ satisfy_report rules tree assets stack = ap (λ (r : Reply). r.report) e in
    (stack, record { chosen = is; written = subst (Appends call.sink.old call.sink.new) shown w })

shown_stack : (choice : Choice) (rules : Rules) (call : Call) (tree : Tree) (assets : Assets) → HaveUtf8 call.words → Ends call → IsAsked choice rules call tree assets
    → call.status ≡ status.Done → (stack : List Bytes) × ShowsStack choice rules call tree assets stack
shown_stack choice rules call tree assets utf8 (inl (report, a, w)) asked done =
    stack_written choice rules call tree assets report (chosen_by choice tree assets) refl (written_reply choice rules call tree assets report utf8 a asked) w done
shown_stack choice rules call tree assets utf8 (inr (inl w)) asked done = absurd (cc (sym w.0 ∙ done))
shown_stack choice rules call tree assets utf8 (inr (inr (inl r))) asked done = absurd (cc (sym r.0 ∙ done))
shown_stack choice rules call tree assets utf8 (inr (inr (inr m))) asked done = absurd (cc (sym m.0 ∙ done))

-- what holds of each stack that is shown holds of the one that is
shows_such : (choice : Choice) (rules : Rules) (call : Call) (P : Tree → Assets → List Bytes → Type 0) → HaveUtf8 call.words → Ends call
    → ((tree : Tree) (assets : Assets) (stack : List Bytes) → IsAsked choice rules call tree assets → ShowsStack choice rules call tree assets stack → P tree assets stack)
    → ShowsSuch choice rules call P
shows_such choice rules call P utf8 e holds tree assets asked done =
    let found = shown_stack choice rules call tree assets utf8 e asked done in
    (found.0, found.1, holds tree assets found.0 asked found.1)

none_written : (rules : Rules) (call : Call) (tree : Tree) (assets : Assets) (report : Bytes) (o : Option (List Bytes))
    → reply call.status report ≡ chosen_reply rules tree assets o → call.status ≡ status.NoSatisfaction → o ≡ None
none_written rules call tree assets report None e is = refl
none_written rules call tree assets report (Some stack) e is =
    let done : call.status ≡ status.Done = ap (λ (r : Reply). r.status) e in absurd (cc (sym is ∙ done))

nothing_chosen : (choice : Choice) (rules : Rules) (call : Call) (tree : Tree) (assets : Assets) → HaveUtf8 call.words → Ends call → IsAsked choice rules call tree assets
    → call.status ≡ status.NoSatisfaction → chosen_by choice tree assets ≡ None
nothing_chosen choice rules call tree assets utf8 (inl (report, a, w)) asked is =
    none_written rules call tree assets report (chosen_by choice tree assets) (written_reply choice rules call tree assets report utf8 a asked) is
nothing_chosen choice rules call tree assets utf8 (inr (inl w)) asked is = absurd (cc (sym w.0 ∙ is))
nothing_chosen choice rules call tree assets utf8 (inr (inr (inl r))) asked is = absurd (cc (sym r.0 ∙ is))
nothing_chosen choice rules call tree assets utf8 (inr (inr (inr m))) asked is = absurd (cc (sym m.0 ∙ is))

-- ---- what is shown

is_canonical : (choice : Choice) (rules : Rules) (call : Call) (tree : Tree) (assets : Assets) (stack : List Bytes) → HaveUtf8 call.words → IsAsked choice rules call tree assets
    → ShowsStack choice rules call tree assets stack → Sat tree assets stack
is_canonical choice rules call tree assets stack utf8 asked shown =
    chosen_is_canonical choice tree assets stack (writable choice rules call tree assets utf8 asked) (are_held asked) shown.chosen

pub shows_canonical : (call : Call) → HaveUtf8 call.words → Ends call → ShowsCanonical call
shows_canonical call utf8 e choice rules =
    shows_such choice rules call Sat utf8 e (λ tree assets stack. is_canonical choice rules call tree assets stack utf8)

pub finds_where_one_exists : (call : Call) → HaveUtf8 call.words → Ends call → FindsWhereOneExists call
finds_where_one_exists call utf8 e choice rules tree assets asked =
    let writes = writable choice rules call tree assets utf8 asked in
    let held = are_held asked in
    record {
      where_some = λ stack sat.
          let found = chosen_where_some choice rules tree assets stack writes asked.fit held sat in
          asked_ends choice rules call tree assets (Some found.0) utf8 e asked found.1;
      where_none = λ never.
          asked_ends choice rules call tree assets None utf8 e asked (none_is_chosen choice tree assets writes held never);
      some = λ done.
          let shown = shows_canonical call utf8 e choice rules tree assets asked done in (shown.0, shown.2);
      none = λ is stack.
          none_where_none choice rules tree assets stack writes asked.fit held (nothing_chosen choice rules call tree assets utf8 e asked is);
    }

is_satisfied : (choice : Choice) (rules : Rules) (call : Call) (tree : Tree) (assets : Assets) (stack : List Bytes) → HaveUtf8 call.words → IsAsked choice rules call tree assets
    → ShowsStack choice rules call tree assets stack → Satisfies tree assets stack
is_satisfied choice rules call tree assets stack utf8 asked shown = record {
  in_range = in_range choice rules call tree assets utf8 asked;
  valid = is_valid choice rules tree asked.fit;
  few = are_few asked;
  sat = is_canonical choice rules call tree assets stack utf8 asked shown;
}

-- the lines of the report, with the counts of the run
lines : (rules : Rules) (old new : Option Bytes) (tree : Tree) (assets : Assets) (stack : List Bytes) (outcome : Outcome) → outcome_with tree assets stack ≡ outcome
    → Appends old new (satisfy_report rules tree assets stack)
    → Appends old new (script_line (script_of tree) ++ program_line (script_of tree) ++ tree_limits_line rules tree
    ++ flat_map item_line stack ++ witness_line stack (script_of tree) ++ replay_line stack outcome)
unfolding satisfy_report
lines rules old new tree assets stack outcome same h =
    subst (λ o. Appends old new (script_line (script_of tree) ++ program_line (script_of tree) ++ tree_limits_line rules tree
    ++ flat_map item_line stack ++ witness_line stack (script_of tree) ++ replay_line stack o)) same h

prints : (choice : Choice) (rules : Rules) (call : Call) (tree : Tree) (assets : Assets) (stack : List Bytes) → HaveUtf8 call.words → IsAsked choice rules call tree assets
    → ShowsStack choice rules call tree assets stack → Prints rules call.sink tree assets stack
prints choice rules call tree assets stack utf8 asked shown =
    let here = is_satisfied choice rules call tree assets stack utf8 asked shown in
    let own = is_within tree assets stack here (the_limits tree) (member assets.pairs) (they_are_limits tree) (λ key sig held. held) in
    record {
      ops = own.ops;
      peak = own.peak;
      checks = own.checks;
      run = own.run;
      written = lines rules call.sink.old call.sink.new tree assets stack (accepted own.ops own.peak own.checks) own.run shown.written;
    }

pub shows_witness : (call : Call) → HaveUtf8 call.words → Ends call → ShowsWitness call
shows_witness call utf8 e choice rules =
    shows_such choice rules call (Prints rules call.sink) utf8 e (λ tree assets stack. prints choice rules call tree assets stack utf8)

-- ---- it is accepted

same_counts : (ops peak most height : ℕ) (checks others : Pairs) → accepted ops peak checks ≡ accepted most height others → (ops ≡ most) × (peak ≡ height)
same_counts ops peak most height checks others e = (cc, cc)

-- the witness is replayed as the run, with the same counts where more signatures are good
replays : (tree : Tree) (assets : Assets) (stack : List Bytes) (ops peak : ℕ) (checks : Pairs) → Satisfies tree assets stack
    → run (given_of assets) (script_of tree) stack ≡ accepted ops peak checks → (checker : Checker) → Holds checker assets
    → ReplaysAs tree (given_with assets checker) stack ops peak
replays tree assets stack ops peak checks satisfies ran_so checker holds =
    let other = run_stays (member assets.pairs) checker holds assets.locks (script_of tree) stack ops peak checks ran_so in (
      other.0,
      witness_is_replayed (given_with assets checker) stack (script_of tree) (fits_witness tree assets stack satisfies) ∙ ap ran other.1,
    )

-- what was printed of a canonical satisfaction is within the limits and the height, whatever further signatures are good
accepted_by_all : (rules : Rules) (sink : Side) (tree : Tree) (assets : Assets) (stack : List Bytes) → Satisfies tree assets stack
    → Prints rules sink tree assets stack → IsAcceptedByAll rules sink tree assets stack
accepted_by_all rules sink tree assets stack satisfies printed =
    let within : (checker : Checker) → Holds checker assets → IsAcceptedWithin tree (the_limits tree) (given_with assets checker) stack
    = λ checker holds. is_within tree assets stack satisfies (the_limits tree) checker (they_are_limits tree) holds in
    let own = within (member assets.pairs) (λ key sig held. held) in
    let same = same_counts own.ops own.peak printed.ops printed.peak own.checks printed.checks (sym own.run ∙ printed.run) in
    let height = it_is_height tree ((valid_means_under Consensus tree).0 satisfies.valid).0 in
    record {
      prints = printed;
      limits = they_are_limits tree;
      height = height;
      few_ops = subst (λ n. n ≤ (the_limits tree).ops) same.0 own.few_ops;
      few_items = own.few_items;
      light = own.light;
      low = subst (λ n. n ≤ the_height tree) same.1 (own.low (the_height tree) height);
      replayed = replays tree assets stack printed.ops printed.peak printed.checks satisfies printed.run;
      within = within;
    }

is_accepted : (choice : Choice) (rules : Rules) (call : Call) (tree : Tree) (assets : Assets) (stack : List Bytes) → HaveUtf8 call.words → IsAsked choice rules call tree assets
    → ShowsStack choice rules call tree assets stack → IsAcceptedByAll rules call.sink tree assets stack
is_accepted choice rules call tree assets stack utf8 asked shown =
    accepted_by_all rules call.sink tree assets stack (is_satisfied choice rules call tree assets stack utf8 asked shown)
    (prints choice rules call tree assets stack utf8 asked shown)

pub shows_accepted : (call : Call) → HaveUtf8 call.words → Ends call → ShowsAccepted call
shows_accepted call utf8 e choice rules =
    shows_such choice rules call (IsAcceptedByAll rules call.sink) utf8 e (λ tree assets stack. is_accepted choice rules call tree assets stack utf8)

-- ---- nobody can change it

pub shows_non_malleable : (call : Call) → HaveUtf8 call.words → Ends call → ShowsNonMalleable call
shows_non_malleable call utf8 e rules =
    shows_such choice.Strict rules call Unchangeable utf8 e (λ tree assets stack asked shown.
    strict_is_unchangeable tree assets stack (writable choice.Strict rules call tree assets utf8 asked) (is_sane rules tree asked.fit) (are_held asked) shown.chosen)

pub finds_nothing_to_accept : (call : Call) → HaveUtf8 call.words → Ends call → FindsNothingToAccept call
finds_nothing_to_accept call utf8 e rules tree assets asked is =
    nothing_to_accept tree assets (writable choice.Strict rules call tree assets utf8 asked) (is_sane rules tree asked.fit) (are_held asked)
    (nothing_chosen choice.Strict rules call tree assets utf8 e asked is)

-- the weight of the one that was chosen
weighs : (chosen : Option (List Bytes)) (stack : List Bytes) (most : ℕ) → chosen ≡ Some stack
    → ((found : List Bytes) × (chosen ≡ Some found) × (weight found ≤ most)) → weight stack ≤ most
weighs chosen stack most is found =
    let same : found.0 ≡ stack = cc (sym found.1 ∙ is) in subst (λ (s : List Bytes). weight s ≤ most) same found.2

pub shows_lightest : (call : Call) → HaveUtf8 call.words → Ends call → ShowsLightest call
shows_lightest call utf8 e rules =
    shows_such choice.Cheapest rules call WeighsLeast utf8 e (λ tree assets stack asked shown other sat.
    let best = cheapest_is_lightest tree assets (writable choice.Cheapest rules call tree assets utf8 asked) (are_held asked) in
    weighs (cheapest tree assets) stack (weight other) shown.chosen (best.lightest other sat))

-- ---- of those that nobody can change

pub shows_tight : (call : Call) → HaveUtf8 call.words → Ends call → ShowsTight call
shows_tight call utf8 e rules =
    shows_such choice.Strict rules call Tight utf8 e (λ tree assets stack asked shown.
    strict_is_tight tree assets stack (writable choice.Strict rules call tree assets utf8 asked) (are_held asked) shown.chosen)

pub tells_unchanged : (call : Call) → HaveUtf8 call.words → TellsUnchanged call
tells_unchanged call utf8 rules tree assets asked stack sat =
    tight_is_non_malleable tree assets stack (writable choice.Strict rules call tree assets utf8 asked) (is_sane rules tree asked.fit) (are_held asked) sat

pub shows_lightest_unchanged : (call : Call) → HaveUtf8 call.words → Ends call → ShowsLightestUnchanged call
shows_lightest_unchanged call utf8 e rules =
    shows_such choice.Strict rules call WeighsLeastUnchanged utf8 e (λ tree assets stack asked shown other sat unchanged.
    weighs (strict tree assets) stack (weight other) shown.chosen
    (strict_is_lightest tree assets other (writable choice.Strict rules call tree assets utf8 asked) (is_sane rules tree asked.fit) (are_held asked) sat unchanged))
