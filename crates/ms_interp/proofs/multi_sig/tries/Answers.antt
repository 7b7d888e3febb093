use Rattle.std.proofs.Common.{arith, sym, ◌∙◌}
use Rattle.ms_interp.proofs.Tries.{tries-done, tries-over, tries-form, tries-good, tries-bad}
use Rattle.ms_interp.proofs.multi_sig.tries.Goals as goal

pub returns-then-keys-next_key : goal.returns-then-keys-next_key
returns-then-keys-next_key g c = sym c.loop-next_sig.invariant.same ∙ tries-over _ _ _ _ _ _ c.if-keys-next_key.true

pub returns-then-not-is_key : goal.returns-then-not-is_key
returns-then-not-is_key g c =
    sym c.loop-next_sig.invariant.same
    ∙ tries-form _ _ _ _ _ _ _ _ c.bytes_at-key.ensures c.bytes_at-sig.ensures c.loop-next_sig-test.true c.if-keys-next_key.false (sym c.if-not-is_key.ensures)

pub loop-next_sig-preserved-then-is_good : goal.loop-next_sig-preserved-then-is_good
loop-next_sig-preserved-then-is_good g c = record {
  keys_within = omega arith;
  sigs_within = omega arith;
  same = rw c.in_ok-push.ensures.ok
      (tries-good _ _ _ _ _ _ _ _ c.bytes_at-key.ensures c.bytes_at-sig.ensures c.loop-next_sig-test.true c.if-keys-next_key.false (sym c.if-not-is_key.ensures) (sym c.if-is_good.ensures)
      ∙ c.loop-next_sig.invariant.same);
}

pub loop-next_sig-preserved : goal.loop-next_sig-preserved
loop-next_sig-preserved g c = record {
  keys_within = omega arith;
  sigs_within = c.loop-next_sig.invariant.sigs_within;
  same = tries-bad _ _ _ _ _ _ _ _ c.bytes_at-key.ensures c.bytes_at-sig.ensures c.loop-next_sig-test.true c.if-keys-next_key.false (sym c.if-not-is_key.ensures) (sym c.if-is_good.ensures)
      ∙ c.loop-next_sig.invariant.same;
}

pub returns : goal.returns
returns g c =
    sym c.loop-next_sig.invariant.same
    ∙ tries-done (g.C.SignatureChecker.checker c.args.sigs.now) c.args.keys.now c.args.signatures.now c.loop-next_sig.next_key c.loop-next_sig.next_sig c.loop-next_sig.found c.loop-next_sig-test.false
