-- A canonical satisfaction that nobody can change is tight.
use Rattle.std.proofs.Common.{◌≡◌, ◌≢◌, ℕ, ◌+◌, List, [], ◌∷◌, reverse, sym, ◌∙◌, ap, subst, ◌⊎◌, inl, inr, IsTrue, All, arith}
use Rattle.std.proofs.lemmas.List.{reverse-reverse}
use Rattle.def_script.specs.Bytes.{Bytes, IsBytes}
use Rattle.def_machine.specs.Stacks.{Stack, Pairs, Checker, member}
use Rattle.def_machine.specs.Run.{accepted}
use Rattle.def_tree.specs.Tree.{Tree}
use Rattle.def_tree.specs.Range.{IsWritable}
use Rattle.def_assets.specs.Assets.{Assets, AreAssets}
use Rattle.def_emit.specs.Emit.{emit}
use Rattle.def_script.specs.Instruction.{opcode_count}
use Rattle.def_limits.specs.Scaffolding.Most.{limits_of}
use Rattle.def_sane.specs.declared.Rules.TheVariants.{Consensus}
use Rattle.def_sane.specs.Unfit.{IsSaneUnder}
use Rattle.def_limits.proofs.Greatest.{limits_are_computed}
use Rattle.def_sane.proofs.Meanings.{valid_means_under, sane_means_under}
use Rattle.def_satisfaction.specs.Setting.{Setting}
use Rattle.def_satisfaction.specs.Rows.{row}
use Rattle.def_satisfaction.specs.Satisfaction.{canonical, Sat, Holds}
use Rattle.def_satisfaction.proofs.Canonical.{sat_is_full_sat}
use Rattle.def_satisfaction.proofs.OfBytes.{sat_is_of_bytes}
use Rattle.def_choice.specs.Tight.{Tight}
use Rattle.def_choice.specs.NonMalleable.{NonMalleable, IsAccepted, HasNewPair, Fresh, IsTableOfBytes, given_with}
use Rattle.def_promises.specs.Promises.{StrictIsLightest}
use Rattle.ms_row_laws.proofs.RowLogs.{sat_log}
use Rattle.ms_acceptance_laws.proofs.ForwardBases.{Short}
use Rattle.ms_row_laws.proofs.ConsensusLimits.{IsWithinConsensus, valid_consensus}
use Rattle.ms_row_laws.proofs.WithinLimits.{sized_sat}
use Rattle.ms_acceptance_laws.proofs.Accepted.{satisfied, sat_with, short_items, accepts}
use Rattle.ms_strict_laws.proofs.PairSets.{Fewer}
use Rattle.ms_strict_laws.proofs.CanonicalChecks.{checks}
use Rattle.ms_strict_laws.proofs.TightOrBeaten.{beats}
use Rattle.ms_strict_laws.proofs.StrictChoiceExists.{lightest_of_tight}
use Rattle.ms_acceptance_laws.proofs.StackEffects.{left}
use Rattle.ms_row_laws.proofs.Outcomes.{same_ok}

-- another canonical satisfaction has fewer pairs
pub record IsBeaten (tree : Tree) (assets : Assets) (pairs : Pairs) : Type 0 where
  pub other : List Bytes
  pub sat : Sat tree assets other
  pub fewer : Fewer (checks assets tree (reverse other) sat) pairs

pub tight_or_beaten : (tree : Tree) (assets : Assets) (stack : List Bytes) → IsWritable tree → IsSaneUnder Consensus tree → AreAssets assets → (sat : Sat tree assets stack) →
    Tight tree assets stack ⊎ IsBeaten tree assets (checks assets tree (reverse stack) sat)
tight_or_beaten tree assets stack writable sane are sat =
    let s = (sane_means_under Consensus tree).0 sane in
    let v = (valid_means_under Consensus tree).0 s.0 in
    elim (beats assets are tree writable v.0 s.1 s.4 (reverse stack) sat) [
      | inl tight ↦ inl tight
      | inr b ↦
          let back : (q : (row (canonical assets) tree).sat (reverse (reverse b.0))) × Fewer (checks assets tree (reverse (reverse b.0)) q) (checks assets tree (reverse stack) sat) =
          subst (λ w. (q : (row (canonical assets) tree).sat w) × Fewer (checks assets tree w q) (checks assets tree (reverse stack) sat)) (sym (reverse-reverse b.0)) (b.1, b.2) in
          inr (record { other = reverse b.0; sat = back.0; fewer = back.1 })
    ]

-- what is logged depends on the stack alone
same_log : (s : Setting) (t : Tree) → IsWritable t → IsWithinConsensus t → (w : Stack) → Short w → (r q : (row s t).sat w) → sat_log s t w r ≡ sat_log s t w q
same_log s t writable consensus w short r q =
    let a = satisfied s t writable consensus w short r in
    let b = satisfied s t writable consensus w short q in
    ap (λ z. z.log) (same_ok (left (a.0 ∷ []) (sat_log s t w r)) (left (b.0 ∷ []) (sat_log s t w q)) (sym a.1 ∙ b.1))

same_checks : (n m p q : ℕ) (c d : Pairs) → accepted n p c ≡ accepted m q d → c ≡ d
same_checks n m p q c d h = cc

-- a canonical satisfaction's run, under the assets' own pairs
pub accepts_own : (tree : Tree) (assets : Assets) (stack : List Bytes) → IsWritable tree → IsWithinConsensus tree → AreAssets assets → (sat : Sat tree assets stack) →
    IsAccepted tree (given_with assets (member assets.pairs)) stack (checks assets tree (reverse stack) sat)
accepts_own tree assets stack writable consensus are sat =
    let holds : Holds (member assets.pairs) assets = λ key sig h. h in
    let a = accepts tree (limits_of tree) assets (member assets.pairs) stack writable consensus (limits_are_computed tree) are holds sat in
    let size = sized_sat assets are tree writable (reverse stack) sat in
    let same = same_log (canonical assets) tree writable consensus (reverse stack) (short_items 73 (omega arith) (reverse stack) size.short)
    (sat_with tree assets (member assets.pairs) (reverse stack) holds sat) sat in
    record {
      ops = opcode_count (emit tree) + (sat_log (canonical assets) tree (reverse stack) sat).keys;
      peak = a.peak;
      run = a.run ∙ ap (λ log. accepted (opcode_count (emit tree) + log.keys) a.peak log.checks) same;
    }

-- two runs of one stack pass the same checks
pub one_run : (tree : Tree) (assets : Assets) (checker : Checker) (stack : List Bytes) (c d : Pairs) → IsAccepted tree (given_with assets checker) stack c
    → IsAccepted tree (given_with assets checker) stack d → c ≡ d
one_run tree assets checker stack c d p q = same_checks p.ops q.ops p.peak q.peak c d (sym p.run ∙ q.run)

-- the assets' own pairs are a table of bytes
pairs_of_bytes : (assets : Assets) → AreAssets assets → IsTableOfBytes assets.pairs
pairs_of_bytes assets are k d h = ((are.keys k d h).bytes, (are.signatures k d h).bytes)

pub tight_if_non_malleable : (tree : Tree) (assets : Assets) (stack : List Bytes) → IsWritable tree → IsSaneUnder Consensus tree → AreAssets assets → Sat tree assets stack →
    NonMalleable tree assets stack → Tight tree assets stack
tight_if_non_malleable tree assets stack writable sane are sat non_malleable =
    elim (tight_or_beaten tree assets stack writable sane are sat) [
      | inl tight ↦ tight
      | inr b ↦ absurd (beaten b (non_malleable assets.pairs (pairs_of_bytes assets are) (λ key sig h. h)))
    ]
  where
    consensus : IsWithinConsensus tree
    consensus = let s = (sane_means_under Consensus tree).0 sane in valid_consensus tree s.0

    beaten : IsBeaten tree assets (checks assets tree (reverse stack) sat) →
        ((c : Pairs) × IsAccepted tree (given_with assets (member assets.pairs)) stack c ×
        ((other : List Bytes) (others : Pairs) → All IsBytes other → IsAccepted tree (given_with assets (member assets.pairs)) other others → other ≢ stack →
        HasNewPair others c ⊎ Fresh tree assets (member assets.pairs) other)) → ⊥
    beaten b n =
        let own = accepts_own tree assets stack writable consensus are sat in
        let is = accepts_own tree assets b.other writable consensus are b.sat in
        let others = checks assets tree (reverse b.other) b.sat in
        let same : checks assets tree (reverse stack) sat ≡ n.0 = one_run tree assets (member assets.pairs) stack _ _ own n.1 in
        let fewer : Fewer others n.0 = subst (Fewer others) same b.fewer in
        let missing = fewer.0 in
        let differs : b.other ≢ stack = λ e.
        let at : others ≡ n.0 = one_run tree assets (member assets.pairs) stack _ _ (subst (λ v. IsAccepted tree (given_with assets (member assets.pairs)) v others) e is) n.1 in
        missing.3 (subst (λ c. IsTrue (member c missing.0 missing.1)) (sym at) missing.2) in
        elim (n.2 b.other others (sat_is_of_bytes tree assets b.other writable are b.sat) is differs) [
          | inl new ↦ new.3 (fewer.1 new.0 new.1 new.2)
          | inr fresh ↦ fresh.1 (sat_is_full_sat tree assets (member assets.pairs) b.other (λ key sig h. h) b.sat)
        ]

-- the strict choice weighs no more than any of them
pub strict_is_lightest : StrictIsLightest
strict_is_lightest tree assets other writable sane are sat non_malleable =
    lightest_of_tight tree assets other writable sane are (tight_if_non_malleable tree assets other writable sane are sat non_malleable)
