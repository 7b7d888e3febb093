use Rattle.def_satisfaction.proofs.examples.satisfactions.Goals as goal
use Rattle.std.proofs.Common.{refl, inl, inr, [], ◌∷◌}
use Rattle.def_machine.specs.Samples.{key_b, sig_a, sig_b, sig_c}
use Rattle.def_satisfaction.proofs.Computing.{computing}
use Rattle.def_satisfaction.specs.Samples.{preimage_0}
use Rattle.def_satisfaction.proofs.Computed.{by_preimages, left_branch, not_canonical, right_branch, twice_no_form, two_of_one_key_form, zeros_are_no_miss}

pub returns : goal.returns
unfolding computing
returns c = record {
  two_of_three = record {
    sat = (_, sig_c ∷ sig_a ∷ [], refl, (refl, inl (refl, inr (inl (refl, tt)))), refl);
    weight = refl;
    checks = _;
    run = refl;
  };
  two_of_three_witness = refl;
  late_key = record {
    sat = inr (_, _, (_, _, (refl, refl), (key_b, refl, refl, refl, (_, _, (sig_b, refl, refl), refl, refl)), refl), refl, refl);
    weight = refl;
    checks = _;
    run = refl;
  };
  void_lock = record { sat = (_, _, (refl, refl), (sig_a, refl, refl), refl); weight = refl; checks = _; run = refl };
  time_lock = record { sat = (_, _, (refl, refl), (sig_a, refl, refl), refl); weight = refl; checks = _; run = refl };
  by_preimages = by_preimages;
  by_signatures = record {
    sat = inr (_, _, inl (1, refl, (_, _, inl (0, refl, (_, _, (refl, refl), (sig_b, refl, refl), refl)), (sig_a, refl, refl), refl)), inl refl, refl);
    weight = refl;
    checks = _;
    run = refl;
  };
  right_branch = right_branch;
  left_branch = left_branch;
  lock_met = record {
    sat = inl (
      2,
      refl,
      (
        _,
        _,
        inr (
          _,
          _,
          inl (1, refl, (_, _, inl (0, refl, (_, _, (refl, refl), inr (_, _, (refl, refl), refl, refl), refl)), (sig_c, refl, refl), refl)),
          refl,
          refl,
        ),
        (sig_a, refl, refl),
        refl,
      ),
    );
    weight = refl;
    checks = _;
    run = refl;
  };
  lock_unmet = record {
    sat = inl (
      2,
      refl,
      (
        _,
        _,
        inl (
          1,
          refl,
          (_, _, inl (0, refl, (_, _, inr (_, _, (refl, refl), inl (_, _, refl, refl, refl), refl), (sig_c, refl, refl), refl)), (sig_b, refl, refl), refl),
        ),
        (sig_a, refl, refl),
        refl,
      ),
    );
    weight = refl;
    checks = _;
    run = refl;
  };
  zeros_as_preimage = record {
    sat = inl (0, refl, (_, _, inr (_, _, (refl, refl), refl, refl), (preimage_0, ((refl, refl), refl), refl), refl));
    weight = refl;
    checks = _;
    run = refl;
  };
  zeros_are_no_miss = zeros_are_no_miss;
  several_signatures = (two_of_one_key_form, twice_no_form);
  either_signature = (
    record { sat = (sig_a, refl, refl); weight = refl; checks = _; run = refl },
    record { sat = (sig_c, refl, refl); weight = refl; checks = _; run = refl },
  );
  both_of_or_b = (inr (inr (refl, (_, _, (sig_b, refl, refl), (sig_a, refl, refl), refl))), not_canonical);
}
