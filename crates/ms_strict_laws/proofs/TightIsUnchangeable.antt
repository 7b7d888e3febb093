-- Nobody can change a tight satisfaction; and where there is no canonical one, all that is accepted is fresh.
use Rattle.std.proofs.Common.{◌≡◌, ◌≢◌, Bool, true, false, IsTrue, List, None, [], ◌∷◌, reverse, refl, sym, ◌∙◌, ap, subst, ◌⊎◌, inl, inr}
use Rattle.std.proofs.lemmas.Bool.{false≢true}
use Rattle.std.proofs.lemmas.List.{reverse-reverse}
use Rattle.std.proofs.lemmas.Option.{none-some}
use Rattle.def_script.specs.Bytes.{Bytes}
use Rattle.def_machine.specs.Stacks.{Stack, Pairs, Checker, member}
use Rattle.def_machine.specs.MultiSig.{is_good}
use Rattle.def_tree.specs.Tree.{Tree}
use Rattle.def_tree.specs.Range.{IsWritable}
use Rattle.def_assets.specs.Assets.{Assets, AreAssets, known}
use Rattle.def_sane.specs.Keys.{keys}
use Rattle.def_limits.specs.Scaffolding.Most.{limits_of}
use Rattle.def_sane.specs.declared.Rules.TheVariants.{Consensus}
use Rattle.def_sane.specs.Unfit.{IsSaneUnder}
use Rattle.def_sane.proofs.Meanings.{valid_means_under, sane_means_under}
use Rattle.def_limits.proofs.Greatest.{limits_are_computed}
use Rattle.def_satisfaction.specs.Setting.{only}
use Rattle.def_satisfaction.specs.Rows.{row}
use Rattle.def_satisfaction.specs.Satisfaction.{canonical, full}
use Rattle.def_choice.proofs.Chosen.{strict_is_tight, strict_is_canonical}
use Rattle.def_choice.specs.NonMalleable.{IsAccepted, HasNewPair, Fresh, given_with}
use Rattle.def_choice.specs.Strict.{strict}
use Rattle.def_promises.specs.Accepted.{AcceptsFreshAlone}
use Rattle.def_promises.specs.Promises.{StrictIsNonMalleable, StrictIsUnchangeable, NothingToAccept, TightIsNonMalleable, TightIsUnchangeable}
use Rattle.def_promises.proofs.FreshItems.{fresh_has_item}
use Rattle.def_promises.proofs.Unchangeable.{unchangeable_is_non_malleable}
use Rattle.ms_row_laws.proofs.RowLogs.{sat_log}
use Rattle.ms_row_laws.proofs.ConsensusLimits.{IsWithinConsensus, valid_consensus}
use Rattle.ms_acceptance_laws.proofs.Accepted.{accounted, accepts_row, accepted_short, satisfied}
use Rattle.ms_acceptance_laws.proofs.ScriptRuns.{run_accepted}
use Rattle.ms_strict_laws.proofs.OwnPairsSuffice.{sat_kept}
use Rattle.ms_strict_laws.proofs.PairSets.{Has, has_left, has_right, has_one, first_or_later}
use Rattle.ms_strict_laws.proofs.MultisigPairs.{Covered, covered_itself}
use Rattle.ms_row_laws.proofs.RowTops.{good_is_some}
use Rattle.ms_strict_laws.proofs.TightOptions.{at, under}
use Rattle.ms_row_laws.proofs.DecidableRows.{sat_or_not}
use Rattle.ms_strict_laws.proofs.TightIsUnique.{only_sat}
use Rattle.ms_strict_laws.proofs.CanonicalExists.{canonical_sat}
use Rattle.ms_strict_laws.proofs.StrictChoiceExists.{strict_exists}
use Rattle.ms_strict_laws.proofs.UnchangeableIsTight.{tight_if_non_malleable}
use Rattle.ms_acceptance_laws.proofs.StackEffects.{left}
use Rattle.ms_row_laws.proofs.Outcomes.{same_ok}

-- all pairs of the one list stand in the other, or one doesn't
all_or_new : (these those : Pairs) → ((key sig : Bytes) → Has these key sig → Has those key sig) ⊎ HasNewPair these those
all_or_new [] those = inl (λ key sig h. absurd (false≢true h))
all_or_new (pair ∷ rest) those = go (member those pair.0 pair.1) refl (all_or_new rest those)
  where
    go : (b : Bool) → member those pair.0 pair.1 ≡ b → ((key sig : Bytes) → Has rest key sig → Has those key sig) ⊎ HasNewPair rest those
        → ((key sig : Bytes) → Has (pair ∷ rest) key sig → Has those key sig) ⊎ HasNewPair (pair ∷ rest) those
    go false e h = inr (pair.0, pair.1, has_left (pair ∷ []) rest pair.0 pair.1 (has_one pair.0 pair.1), λ i. false≢true (sym e ∙ i))
    go true e (inl all) = inl (λ key sig h. elim (first_or_later pair.0 pair.1 rest key sig h) [
      | inl same ↦ subst (λ k. Has those k sig) same.0 (subst (λ g. Has those pair.0 g) same.1 e)
      | inr later ↦ all key sig later
    ])
    go true e (inr n) = inr (n.0, n.1, has_right (pair ∷ []) rest n.0 n.1 n.2, n.3)

-- what a run passes doesn't depend on the row
same_checks : (tree : Tree) (assets : Assets) (checker : Checker) (stack : List Bytes) (checks : Pairs) → IsWritable tree → IsWithinConsensus tree
    → IsAccepted tree (given_with assets checker) stack checks → (r : (row (full (given_with assets checker) (only (known assets))) tree).sat (reverse stack))
    → (sat_log (full (given_with assets checker) (only (known assets))) tree (reverse stack) r).checks ≡ checks
same_checks tree assets checker stack checks writable consensus is r =
    let s = full (given_with assets checker) (only (known assets)) in
    let short = accepted_short tree (given_with assets checker) stack checks writable consensus is in
    let ends = satisfied s tree writable consensus (reverse stack) short r in
    let ran = run_accepted (given_with assets checker) tree stack is.ops is.peak checks writable is.run in
    let same = same_ok (left (ends.0 ∷ []) (sat_log s tree (reverse stack) r)) ran.0 (sym ends.1 ∙ ran.2) in
    ap (λ z. z.log.checks) same ∙ sym ran.6

-- where the pairs of its own run are good and no others the stack is the only one
abbrev IsOnly : Assets → Tree → (checks : Pairs) → Stack → Type 0
IsOnly assets tree checks w =
    (other : Checker) → Covered other (keys tree) checks → (v : Stack) → (row (under assets other) tree).sat v → v ≡ w

against : (tree : Tree) (assets : Assets) (checker : Checker) (stack : List Bytes) (checks : Pairs) → IsWritable tree → IsWithinConsensus tree
    → IsOnly assets tree checks (reverse stack) → (other : List Bytes) (others : Pairs) → IsAccepted tree (given_with assets checker) other others
    → other ≢ stack → HasNewPair others checks ⊎ Fresh tree assets checker other
against tree assets checker stack checks writable consensus unique other others is differs =
    elim (all_or_new others checks) [
      | inr new ↦ inl new
      | inl all ↦ elim (sat_or_not (under assets checker) tree (reverse other)) [
        | inr unsat ↦ inr ((accounted tree (given_with assets checker) other others writable consensus is).row, unsat)
        | inl own ↦ absurd (differs (sym (reverse-reverse other) ∙ ap reverse (unique (member checks) (covered_itself checks (keys tree)) (reverse other) (kept own all)) ∙ reverse-reverse stack))
      ]
    ]
  where
    kept : (r : (row (under assets checker) tree).sat (reverse other)) → ((key sig : Bytes) → Has others key sig → Has checks key sig) → (row (under assets (member checks)) tree).sat (reverse other)
    kept r all =
        let same = same_checks tree assets checker other others writable consensus is r in
        let k = sat_kept (under assets checker) (member checks) tree writable (reverse other) r in
        k.kept (λ key sig h. good_there key sig (all key sig (subst (λ c. Has c key sig) same h)) (k.good key sig h))
      where
        good_there : (key sig : Bytes) → Has checks key sig → IsTrue (is_good checker key sig) → IsTrue (is_good (member checks) key sig)
        good_there key sig held good = rw (good_is_some checker key sig good, held) refl

pub tight_is_unchangeable : TightIsUnchangeable
tight_is_unchangeable tree assets stack writable sane are sat tight checker holds =
    let s = (sane_means_under Consensus tree).0 sane in
    let v = (valid_means_under Consensus tree).0 s.0 in
    let one = only_sat assets checker holds tree writable v.0 s.1 s.4 (reverse stack) tight in
    let run = accepts_row tree (limits_of tree) assets checker stack writable (valid_consensus tree s.0) (limits_are_computed tree) are sat one.0 in
    let checks = (sat_log (at assets checker) tree (reverse stack) one.0).checks in (
      checks,
      record { ops = _; peak = run.peak; run = run.run },
      λ other others is differs. elim (against tree assets checker stack checks writable (valid_consensus tree s.0) one.1 other others is differs) [
        | inl new ↦ inl new
        | inr fresh ↦ inr (fresh, fresh_has_item tree assets checker other fresh)
      ],
    )

-- nobody can change the strict choice
pub strict_is_unchangeable : StrictIsUnchangeable
strict_is_unchangeable tree assets stack writable sane are e =
    tight_is_unchangeable tree assets stack writable sane are
    (strict_is_canonical tree assets stack writable are e) (strict_is_tight tree assets stack writable are e)

pub strict_is_non_malleable : StrictIsNonMalleable
strict_is_non_malleable tree assets stack writable sane are e =
    unchangeable_is_non_malleable tree assets stack (strict_is_unchangeable tree assets stack writable sane are e)

-- where there is no canonical satisfaction, what is accepted is fresh
accepts_fresh_alone : (tree : Tree) (assets : Assets) → IsWritable tree → IsSaneUnder Consensus tree → AreAssets assets → strict tree assets ≡ None
    → AcceptsFreshAlone tree assets
accepts_fresh_alone tree assets writable sane are nowhere stack checks is =
    let s = (sane_means_under Consensus tree).0 sane in
    let v = (valid_means_under Consensus tree).0 s.0 in
    elim (sat_or_not (under assets (member assets.pairs)) tree (reverse stack)) [
      | inr unsat ↦ ((accounted tree (given_with assets (member assets.pairs)) stack checks writable (valid_consensus tree s.0) is).row, unsat)
      | inl own ↦
          let found = canonical_sat assets tree writable v.0 s.1 (reverse stack) own in
          let exists = (strict_exists tree assets writable sane are).1 (reverse found.0, subst (λ w. (row (canonical assets) tree).sat w) (sym (reverse-reverse found.0)) found.1) in
          absurd (none-some exists.0 (sym nowhere ∙ exists.1))
    ]

pub nothing_to_accept : NothingToAccept
nothing_to_accept tree assets writable sane are nowhere = record {
  none = λ stack sat. let exists = (strict_exists tree assets writable sane are).1 (stack, sat) in none-some exists.0 (sym nowhere ∙ exists.1);
  accepted = accepts_fresh_alone tree assets writable sane are nowhere;
  fresh = fresh_has_item tree assets;
}

-- a canonical satisfaction can't be changed exactly where it is tight
pub tight_is_non_malleable : TightIsNonMalleable
tight_is_non_malleable tree assets stack writable sane are sat = (
  tight_if_non_malleable tree assets stack writable sane are sat,
  λ tight. unchangeable_is_non_malleable tree assets stack (tight_is_unchangeable tree assets stack writable sane are sat tight),
)
