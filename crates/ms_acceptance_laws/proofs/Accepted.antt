-- The interpreter accepts the canonical satisfactions of a valid miniscript; and what it accepts are satisfactions.
use Rattle.std.proofs.Common.{◌≡◌, ℕ, ◌+◌, ◌^◌, ◌<◌, ◌≤◌, nat_le, IsTrue, Bool, true, false, List, [], ◌∷◌, ◌++◌, length, reverse, All, Ok, refl, sym, ◌∙◌, ap, subst, ◌⊎◌, inl, inr, arith}
use Rattle.std.specs.List.{list_all}
use Rattle.std.proofs.lemmas.Bool.{leb-true, false≢true, and_parts, cases_Bool}
use Rattle.std.proofs.lemmas.List.{append-nil, reverse-reverse, length-reverse}
use Rattle.std.proofs.lemmas.List.Elements.{All-head, All-tail, All-weaker}
use Rattle.def_script.specs.Bytes.{Bytes}
use Rattle.def_script.specs.Signature.{MAX_SIGNATURE_SIZE}
use Rattle.def_script.specs.Decode.{truth}
use Rattle.def_script.specs.Limits.{MAX_SCRIPT_ELEMENT_SIZE}
use Rattle.def_machine.specs.Stacks.{Stack, Pairs, Checker, member}
use Rattle.def_machine.specs.Machine.{Given, State}
use Rattle.def_machine.specs.declared.ScriptFault.{ScriptFault}
use Rattle.def_machine.specs.Run.{Outcome, run, accepted, refused}
use Rattle.def_tree.specs.Tree.{Tree}
use Rattle.def_tree.specs.Range.{IsWritable}
use Rattle.def_types.specs.declared.Base.{Base}
use Rattle.def_types.specs.Typed.{type_of}
use Rattle.def_emit.specs.Emit.{emit, script_of}
use Rattle.def_assets.specs.Assets.{Assets, AreAssets, known}
use Rattle.def_limits.specs.declared.Limits.{Limits}
use Rattle.def_limits.specs.Formal.{Takes, FormalSat as FormalTakes}
use Rattle.def_limits.specs.Limits.{IsGreatest, AreLimits}
use Rattle.def_limits.specs.Scaffolding.Most.{limits_of}
use Rattle.def_script.specs.Instruction.{opcode_count}
use Rattle.def_sane.specs.declared.Rules.TheVariants.{Consensus}
use Rattle.def_sane.specs.Unfit.{IsValidUnder}
use Rattle.def_limits.proofs.Greatest.{limits_are_computed, as_computed as limits_as_computed}
use Rattle.def_height.specs.Formal.{Way, FormalSat}
use Rattle.def_height.specs.Height.{IsHeight, peak}
use Rattle.def_height.specs.Scaffolding.Highest.{height_of}
use Rattle.def_height.specs.Height as height_of_way
use Rattle.def_height.proofs.Found.{height_is_computed}
use Rattle.def_height.proofs.Bounds.{height_is_low}
use Rattle.def_satisfaction.specs.Setting.{Setting, any, only}
use Rattle.def_satisfaction.specs.Rows.{row}
use Rattle.def_satisfaction.specs.Satisfaction.{canonical, full, Sat, FullSat, Holds}
use Rattle.def_satisfaction.proofs.Canonical.{held}
use Rattle.def_satisfaction.proofs.Wider.{IsWider, row_within}
use Rattle.def_choice.specs.NonMalleable.{IsAccepted, given_with}
use Rattle.def_promises.specs.Acceptance.{CanonicalIsAccepted, InversionHolds}
use Rattle.def_promises.specs.Accepted.{IsAcceptedWithin}
use Rattle.def_promises.specs.Courses.{CanonicalHasCourse, HasAll, IsRun, EachFormalIsRun, HeightIsReached}
use Rattle.def_promises.specs.Reached.{HasLongest, IsTaken, EachFormalIsTaken, LimitsAreReached}
use Rattle.def_promises.specs.Limited.{StopsAtLimit}
use Rattle.def_script.specs.Witness.{weight}
use Rattle.def_choice.proofs.Weights.{weight-reverse}
use Rattle.def_satisfaction.proofs.EqualParts.{first_same, rest_same}
use Rattle.ms_acceptance_laws.proofs.TreeEffects.{den}
use Rattle.ms_row_laws.proofs.RowLogs.{sat_log}
use Rattle.ms_acceptance_laws.proofs.StackValues.{Value, truth-natural}
use Rattle.ms_row_laws.proofs.ConsensusLimits.{IsWithinConsensus, valid_consensus, few_children}
use Rattle.ms_acceptance_laws.proofs.ForwardBases.{Short, Ends, EndsB}
use Rattle.ms_acceptance_laws.proofs.ForwardTrees.{sat_ends}
use Rattle.ms_acceptance_laws.proofs.BackwardBases.{Back, BackB, logged, Took}
use Rattle.ms_acceptance_laws.proofs.BackwardTrees.{inverts}
use Rattle.ms_acceptance_laws.proofs.UnlimitedMachine.{reached, free_steps}
use Rattle.ms_acceptance_laws.proofs.RowWays.{sat_way, sat_formal, has_sat}
use Rattle.ms_acceptance_laws.proofs.RowTakes.{taken_sat}
use Rattle.ms_acceptance_laws.proofs.RunHeights.{IsLow}
use Rattle.ms_acceptance_laws.proofs.SimplePaths.{Path}
use Rattle.ms_acceptance_laws.proofs.TreePaths.{sat_path}
use Rattle.ms_row_laws.proofs.WithinLimits.{sized_sat, within_limits, few_ops}
use Rattle.ms_acceptance_laws.proofs.ScriptRuns.{first, does_first, accepted_run, run_accepted, run_or_limit, too_long}
use Rattle.ms_row_laws.proofs.RunLog.{Log}
use Rattle.ms_acceptance_laws.proofs.StackEffects.{left}

-- from a whole satisfaction
pub satisfied : (s : Setting) (t : Tree) → IsWritable t → IsWithinConsensus t → (w : Stack) → Short w → (r : (row s t).sat w) → (v : Bytes)
    × (den s.given t w ≡ Ok (left (v ∷ []) (sat_log s t w r))) × (truth v ≡ true)
satisfied s t writable consensus w short r =
    let e : EndsB (type_of t).u true (den s.given t) w [] (sat_log s t w r) =
    subst (λ b. Ends s.given.checker b (type_of t).u true (den s.given t) w [] (sat_log s t w r)) consensus.base
    ((sat_ends s t writable consensus.typed (few_children t consensus) w short r).ends []) in
    let value = e.1 in
    (e.0, ap (den s.given t) (sym (append-nil w)) ∙ e.2, ap truth value.is ∙ truth-natural value.number value.small ∙ value.truth)

-- the canonical rows, under a table that holds the assets' pairs
abbrev pub canonical_with : Assets → Checker → Setting
canonical_with assets checker = record { given = given_with assets checker; mode = only (known assets); all_rows = false }

pub with_is_wider : (assets : Assets) (checker : Checker) → Holds checker assets → IsWider (canonical assets) (canonical_with assets checker)
with_is_wider assets checker holds = record {
  signatures = held assets checker holds;
  older = λ n h. h;
  after = λ n h. h;
  preimages = λ kind value preimage h. h;
  keys = λ key other h. h;
  rows = λ h. h;
}

pub sat_with : (tree : Tree) (assets : Assets) (checker : Checker) (w : Stack) → Holds checker assets → (row (canonical assets) tree).sat w → (row (canonical_with assets checker) tree).sat w
sat_with tree assets checker w holds sat = (row_within _ _ (with_is_wider assets checker holds) tree).sat w sat

-- short items
pub short_items : (most : ℕ) → most < 2 ^ 31 → (w : Stack) → All (λ item. length item ≤ most) w → Short w
short_items most low [] h = tt
short_items most low (x ∷ w) h =
    let i = All-head (λ item. length item ≤ most) x w h in
    (omega (arith, i, low), short_items most low w (All-tail (λ item. length item ≤ most) x w h))

-- a canonical satisfaction's run, with what it passes
pub record Accepts (tree : Tree) (limits : Limits) (assets : Assets) (checker : Checker) (stack : List Bytes) (r : (row (canonical_with assets checker) tree).sat (reverse stack)) : Type 0 where
  pub peak : ℕ
  pub run : run (given_with assets checker) (script_of tree) stack
      ≡ accepted (opcode_count (emit tree) + (sat_log (canonical_with assets checker) tree (reverse stack) r).keys) peak
      (sat_log (canonical_with assets checker) tree (reverse stack) r).checks
  pub few_ops : opcode_count (emit tree) + (sat_log (canonical_with assets checker) tree (reverse stack) r).keys ≤ limits.ops
  pub low : (height : ℕ) → IsHeight tree height → peak ≤ height
  pub items : length stack ≡ (sat_way (canonical_with assets checker) tree (reverse stack) r).items
  pub course : peak ≡ height_of_way.peak (sat_way (canonical_with assets checker) tree (reverse stack) r)

-- no way is higher than the height
below_height : (tree : Tree) (h : ℕ) → IsHeight tree h → (way : Way) → FormalSat tree way → peak way ≤ h
below_height tree h (inl g) way formal = g.3 way formal
below_height tree h (inr g) way formal = absurd (g.0 way formal)

-- how high the stacks get: as high as on a formal satisfaction with as many items
record HasPeak (s : Setting) (tree : Tree) (w : Stack) (way : Way) : Type 0 where
  pub items : length w ≡ way.items
  pub low : IsLow s.given (emit tree) (first w) (peak way)
  pub high : (t : State) → free_steps s.given (emit tree) (first w) ≡ Ok t → (n : ℕ) → IsLow s.given (emit tree) (first w) n → peak way ≤ n
  pub below : (h : ℕ) → IsHeight tree h → peak way ≤ h

has_peak : (s : Setting) → s.all_rows ≡ false → (tree : Tree) → IsWritable tree → IsWithinConsensus tree → (w : Stack) → Short w → (r : (row s tree).sat w)
    → HasPeak s tree w (sat_way s tree w r)
has_peak s canonical tree writable consensus w short r =
    let no_more : IsTrue s.all_rows → ⊥ = λ i. false≢true (sym canonical ∙ i) in
    let path =
    subst (λ (b : Base). Path s.given b (emit tree) (sat_way s tree w r) w) consensus.base
    (sat_path s no_more tree writable consensus.typed (few_children tree consensus) w short r) in
    record {
      items = path.items;
      low = (path.keeps []).low (first w) refl (sym (append-nil w)) (peak (sat_way s tree w r)) (omega (arith, path.items));
      high = λ t e n h. let top = (path.keeps []).high (first w) t refl (sym (append-nil w)) e n h in omega (arith, top, path.items);
      below = λ h is. below_height tree h is (sat_way s tree w r) (sat_formal s no_more tree w r);
    }

-- every row of a canonical satisfaction tells what its run logs
pub accepts_row : (tree : Tree) (limits : Limits) (assets : Assets) (checker : Checker) (stack : List Bytes) → IsWritable tree → IsWithinConsensus tree
    → AreLimits tree limits → AreAssets assets → Sat tree assets stack → (r : (row (canonical_with assets checker) tree).sat (reverse stack))
    → Accepts tree limits assets checker stack r
accepts_row tree limits assets checker stack writable consensus are_limits are sat r =
    let s = canonical_with assets checker in
    let w = reverse stack in
    let sized = sized_sat assets are tree writable w sat in
    let short = short_items 73 (omega arith) w sized.short in
    let ends = satisfied s tree writable consensus w short r in
    let few = few_ops tree limits s w writable are_limits refl r in
    let most = ap (λ (l : Limits). l.ops) (limits_as_computed tree limits are_limits) in
    let top = has_peak s refl tree writable consensus w short r in
    let height = height_is_computed tree consensus.typed in
    let done =
    accepted_run s.given tree w (left (ends.0 ∷ []) (sat_log s tree w r)) ends.0 (peak (sat_way s tree w r)) writable consensus.size
    (All-weaker (λ item. length item ≤ MAX_SIGNATURE_SIZE) (λ item. length item ≤ 520) (λ item h. omega (arith, h)) w sized.short) ends.1 refl ends.2
    (omega (arith, few, most, consensus.ops)) top.low
    (omega (arith, top.below (height_of tree) height, height_is_low tree consensus.typed consensus.base (limits_of tree) (limits_are_computed tree) consensus.ops (height_of tree) height)) in
    record {
      peak = done.0;
      run = ap (run s.given (script_of tree)) (sym (reverse-reverse stack)) ∙ done.2;
      few_ops = few;
      low = λ h is. omega (arith, done.1, top.below h is);
      items = omega (arith, top.items, length-reverse stack);
      course = let most = top.high (reached (first w) (opcode_count (emit tree)) (left (ends.0 ∷ []) (sat_log s tree w r)))
          (does_first s.given tree w (left (ends.0 ∷ []) (sat_log s tree w r)) ends.1) done.0 done.3 in omega (arith, most, done.1);
    }

pub accepts : (tree : Tree) (limits : Limits) (assets : Assets) (checker : Checker) (stack : List Bytes) → IsWritable tree → IsWithinConsensus tree
    → AreLimits tree limits → AreAssets assets → (holds : Holds checker assets) → (sat : Sat tree assets stack)
    → Accepts tree limits assets checker stack (sat_with tree assets checker (reverse stack) holds sat)
accepts tree limits assets checker stack writable consensus are_limits are holds sat =
    accepts_row tree limits assets checker stack writable consensus are_limits are sat (sat_with tree assets checker (reverse stack) holds sat)

-- a canonical satisfaction is accepted, within the limits and the height, with no word on the number of its items
pub accepted_in_consensus : (tree : Tree) (limits : Limits) (assets : Assets) (checker : Checker) (stack : List Bytes) → IsWritable tree → IsWithinConsensus tree
    → AreLimits tree limits → AreAssets assets → Holds checker assets →
    Sat tree assets stack → IsAcceptedWithin tree limits (given_with assets checker) stack
accepted_in_consensus tree limits assets checker stack writable consensus are_limits are holds sat =
    let a = accepts tree limits assets checker stack writable consensus are_limits are holds sat in
    let within = within_limits tree limits assets stack writable are_limits are sat in
    record {
      ops = _;
      peak = a.peak;
      checks = _;
      run = a.run;
      few_ops = a.few_ops;
      few_items = within.0;
      light = within.1;
      low = a.low;
    }

pub canonical_is_accepted : CanonicalIsAccepted
canonical_is_accepted tree limits assets checker stack writable valid are_limits are holds sat =
    accepted_in_consensus tree limits assets checker stack writable (valid_consensus tree valid) are_limits are holds sat

-- its peak is that of a formal satisfaction
with_peak : (outcome : Outcome) (ops p q : ℕ) (checks : Pairs) → outcome ≡ accepted ops p checks → p ≡ q → outcome ≡ accepted ops q checks
with_peak outcome ops p q checks e same = e ∙ ap (λ (n : ℕ). accepted ops n checks) same

pub canonical_has_course : CanonicalHasCourse
canonical_has_course tree assets checker stack writable valid are holds sat =
    let a = accepts tree (limits_of tree) assets checker stack writable (valid_consensus tree valid) (limits_are_computed tree) are holds sat in
    record {
      way = _;
      formal = sat_formal _ false≢true tree (reverse stack) _;
      items = a.items;
      ops = _;
      checks = _;
      run = with_peak _ _ a.peak _ _ a.run a.course;
    }

-- with all that a miniscript can take each formal satisfaction is run
module _ (tree : Tree) (assets : Assets) (way : Way) (writable : IsWritable tree) (valid : IsValidUnder Consensus tree) (are : AreAssets assets) where
  run_by : (stack : List Bytes) (r : (row (canonical assets) tree).sat (reverse stack)) → way ≡ sat_way (canonical assets) tree (reverse stack) r →
      IsRun tree assets way.items (peak way)
  run_by stack r same =
      let a = accepts_row tree (limits_of tree) assets (member assets.pairs) stack writable (valid_consensus tree valid) (limits_are_computed tree) are r r in
      rw same (record { stack = stack; sat = r; items = a.items; ops = _; checks = _; run = with_peak _ _ a.peak _ _ a.run a.course })

  formal_is_run : HasAll assets tree → FormalSat tree way → IsRun tree assets way.items (peak way)
  formal_is_run all formal =
      let h = has_sat assets tree writable (valid_consensus tree valid).typed all way formal in
      let P : Stack → Type 0 = λ w. (r : (row (canonical assets) tree).sat w) → way ≡ sat_way (canonical assets) tree w r → IsRun tree assets way.items
      (peak way) in
      subst P (reverse-reverse h.0) (run_by (reverse h.0)) h.1 h.2

pub each_formal_is_run : EachFormalIsRun
each_formal_is_run tree assets way writable valid are all formal = formal_is_run tree assets way writable valid are all formal

pub height_is_reached : HeightIsReached
height_is_reached tree assets height writable valid are all way formal (inl g) =
    (g.0.items, subst (IsRun tree assets g.0.items) g.2 (formal_is_run tree assets g.0 writable valid are all g.1))
height_is_reached tree assets height writable valid are all way formal (inr g) = absurd (g.0 way formal)

-- and with signatures of the greatest length, each is taken exactly
module _ (tree : Tree) (assets : Assets) (takes : Takes) (writable : IsWritable tree) (valid : IsValidUnder Consensus tree) (are : AreAssets assets) where
  taken_by : (stack : List Bytes) → length stack ≡ takes.items → weight stack ≡ takes.weight → (r : (row (canonical assets) tree).sat (reverse stack)) →
      (sat_log (canonical assets) tree (reverse stack) r).keys ≡ takes.keys → IsTaken tree assets takes
  taken_by stack items light r keys =
      let a = accepts_row tree (limits_of tree) assets (member assets.pairs) stack writable (valid_consensus tree valid) (limits_are_computed tree) are r r in
      record {
        stack = stack;
        sat = r;
        items = items;
        light = light;
        peak = a.peak;
        checks = _;
        run = a.run ∙ ap (λ n. accepted (opcode_count (emit tree) + n) a.peak (sat_log (canonical assets) tree (reverse stack) r).checks) keys;
      }

  formal_is_taken : HasAll assets tree → HasLongest assets → FormalTakes tree takes → IsTaken tree assets takes
  formal_is_taken all long formal =
      let h = taken_sat assets long tree writable (valid_consensus tree valid).typed all takes formal in
      let P : Stack → Type 0 = λ w. (r : (row (canonical assets) tree).sat w) → (sat_log (canonical assets) tree w r).keys ≡ takes.keys → IsTaken tree assets takes in
      subst P (reverse-reverse h.stack)
      (taken_by (reverse h.stack) (omega (arith, length-reverse h.stack, h.items)) (omega (arith, weight-reverse h.stack, h.light))) h.row h.keys

pub each_formal_is_taken : EachFormalIsTaken
each_formal_is_taken tree assets takes writable valid are all long formal = formal_is_taken tree assets takes writable valid are all long formal

-- the formal satisfaction with the greatest number
greatest : (P : Takes → Type 0) (number : Takes → ℕ) (n : ℕ) → IsGreatest P number n → (t : Takes) → P t → (u : Takes) × P u × (number u ≡ n)
greatest P number n (inl g) t h = (g.0, g.1, g.2)
greatest P number n (inr g) t h = absurd (g.0 t h)

pub limits_are_reached : LimitsAreReached
limits_are_reached tree assets limits writable valid are all long are_limits takes formal =
    let longest = greatest (FormalTakes tree) (λ t. t.items) limits.items are_limits.items takes formal in
    let heaviest = greatest (FormalTakes tree) (λ t. t.weight) limits.weight are_limits.weight takes formal in
    let busiest = greatest (FormalTakes tree) (λ t. t.keys) are_limits.ops.0 are_limits.ops.1 takes formal in
    record {
      longest = longest.0;
      longest_taken = formal_is_taken tree assets longest.0 writable valid are all long longest.1;
      items = longest.2;
      heaviest = heaviest.0;
      heaviest_taken = formal_is_taken tree assets heaviest.0 writable valid are all long heaviest.1;
      weight = heaviest.2;
      busiest = busiest.0;
      busiest_taken = formal_is_taken tree assets busiest.0 writable valid are all long busiest.1;
      ops = ap (λ n. opcode_count (emit tree) + n) busiest.2 ∙ sym are_limits.ops.2;
    }

-- the row of an accepted stack, and the pairs that its run found good
pub record Accounted (tree : Tree) (given : Given) (stack : List Bytes) (checks : Pairs) : Type 0 where
  pub row : FullSat tree given any stack
  pub log : checks ≡ (sat_log (full given any) tree (reverse stack) row).checks

pub accounted : (tree : Tree) (given : Given) (stack : List Bytes) (checks : Pairs) → IsWritable tree → IsWithinConsensus tree → IsAccepted tree given stack checks → Accounted tree given stack checks
accounted tree given stack checks writable consensus is =
    let a = run_accepted given tree stack is.ops is.peak checks writable is.run in
    let b : BackB (type_of tree).u (logged (full given any) tree) (reverse stack) a.0.main a.0.log =
    subst (λ c. Back given.checker c (type_of tree).u (logged (full given any) tree) (reverse stack) a.0.main a.0.log) consensus.base
    (inverts given tree writable consensus.typed (few_children tree consensus) (reverse stack) a.0.main a.0.log a.2) in
    let at : a.1 ∷ [] ≡ b.3 ∷ b.2 = sym a.3 ∙ b.5 in
    let none : b.2 ≡ [] = sym (rest_same a.1 b.3 [] b.2 at) in
    let top : a.1 ≡ b.3 = first_same a.1 b.3 [] b.2 at in
    let whole : reverse stack ≡ b.1 = b.4 ∙ ap (λ v. b.1 ++ v) none ∙ append-nil b.1 in
    go b.0 b.1 a.0.log whole (true_value (type_of tree).u b.0 b.3 b.6 (ap truth (sym top) ∙ a.4)) b.7 a.6
  where
    true_value : (u b : Bool) (v : Bytes) → Value u b v → truth v ≡ true → b ≡ true
    true_value u b v value e = sym value.truth ∙ sym (truth-natural value.number value.small) ∙ ap truth (sym value.is) ∙ e

    go : (b : Bool) (w : Stack) (l : Log) → reverse stack ≡ w → b ≡ true → Took (logged (full given any) tree) b w l → checks ≡ l.checks → Accounted tree given stack checks
    go true w l e i took c =
        let q = subst (λ v. (logged (full given any) tree).sat v l) (sym e) took in
        record { row = q.0; log = c ∙ sym (ap (λ z. z.checks) q.1) }
    go false w l e i took c = absurd (false≢true i)

pub accepted_is_satisfaction : (tree : Tree) (given : Given) (stack : List Bytes) (checks : Pairs) → IsWritable tree → IsWithinConsensus tree
    → IsAccepted tree given stack checks → FullSat tree given any stack
accepted_is_satisfaction tree given stack checks writable consensus is = (accounted tree given stack checks writable consensus is).row

-- items that the interpreter takes
pub fit_short : (w : Stack) → list_all (λ x. nat_le (length x) MAX_SCRIPT_ELEMENT_SIZE) w ≡ true → Short w
fit_short [] e = tt
fit_short (x ∷ w) e =
    let p = and_parts (nat_le (length x) 520) (list_all (λ x. nat_le (length x) MAX_SCRIPT_ELEMENT_SIZE) w) e in
    let l = leb-true (length x) 520 p.0 in
    (omega arith, fit_short w p.1)

-- a satisfaction is accepted, or stops at a limit
pub satisfaction_is_accepted : (tree : Tree) (given : Given) (stack : List Bytes) → IsWritable tree → IsWithinConsensus tree → FullSat tree given any stack
    → ((checks : Pairs) × IsAccepted tree given stack checks) ⊎ StopsAtLimit tree given stack
satisfaction_is_accepted tree given stack writable consensus sat =
    elim (cases_Bool (list_all (λ x. nat_le (length x) MAX_SCRIPT_ELEMENT_SIZE) (reverse stack))) [
      | inl short ↦
          let ends = satisfied (full given any) tree writable consensus (reverse stack) (fit_short (reverse stack) short) sat in
          elim (run_or_limit given tree stack _ ends.0 writable consensus.size ends.1 refl ends.2) [
            | inl fine ↦ inl (_, record { ops = fine.0; peak = fine.1; run = fine.2 })
            | inr stops ↦ inr stops
          ]
      | inr long ↦ inr (too_long given tree stack writable consensus.size long)
    ]

pub inversion_of : InversionHolds
inversion_of tree writable valid = record {
  satisfaction = λ given stack checks is. accepted_is_satisfaction tree given stack checks writable (valid_consensus tree valid) is;
  acceptance = λ given stack sat. satisfaction_is_accepted tree given stack writable (valid_consensus tree valid) sat;
}

-- what is accepted has no item that is too long
pub accepted_short : (tree : Tree) (given : Given) (stack : List Bytes) (checks : Pairs) → IsWritable tree → IsWithinConsensus tree → IsAccepted tree given stack checks → Short (reverse stack)
accepted_short tree given stack checks writable consensus is =
    elim (cases_Bool (list_all (λ x. nat_le (length x) MAX_SCRIPT_ELEMENT_SIZE) (reverse stack))) [
      | inl short ↦ fit_short (reverse stack) short
      | inr long ↦ let stops = too_long given tree stack writable consensus.size long in absurd (no_refusal stops.fault stops.place is.ops is.peak checks (sym stops.run ∙ is.run))
    ]
  where
    no_refusal : (fault : ScriptFault) (place ops peak : ℕ) (c : Pairs) → refused fault place ≡ accepted ops peak c → ⊥
    no_refusal fault place ops peak c e = cc
