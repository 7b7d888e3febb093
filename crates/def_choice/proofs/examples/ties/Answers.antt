-- The examples of options of equal weight.
use Rattle.def_choice.proofs.examples.ties.Goals as goal
use Rattle.std.proofs.Common.{[], ◌∷◌, refl, inl, inr}
use Rattle.def_machine.specs.Samples.{sig_a, sig_b, sig_c}
use Rattle.def_satisfaction.proofs.Computing.{computing}
use Rattle.def_choice.specs.TieExamples.{short_sig_b}

pub returns : goal.returns
unfolding computing
returns c = record {
  and_or = record {
    first_satisfies = inl (_, _, (refl, refl), (sig_a, refl, refl), refl);
    second_satisfies = inr (_, _, (sig_c, refl, refl), refl, refl);
    tie = refl;
    chosen = (refl, refl);
  };
  or_b = record {
    first_satisfies = inl (_, _, refl, (sig_a, refl, refl), refl);
    second_satisfies = inr (inl (_, _, (short_sig_b, refl, refl), refl, refl));
    tie = refl;
    chosen = (refl, refl);
  };
  or_c = record {
    first_satisfies = (_, _, refl, inl (sig_a, refl, refl), refl);
    second_satisfies = (_, _, refl, inr (_, _, (sig_c, refl, refl), refl, refl), refl);
    tie = refl;
    chosen = (refl, refl);
  };
  or_d = record {
    first_satisfies = inl (sig_a, refl, refl);
    second_satisfies = inr (_, _, (sig_c, refl, refl), refl, refl);
    tie = refl;
    chosen = (refl, refl);
  };
  or_i = record {
    first_satisfies = inl (_, _, (sig_a, refl, refl), refl, refl);
    second_satisfies = inr (_, _, (sig_b, refl, refl), refl, refl);
    tie = refl;
    chosen = (refl, refl);
  };
  threshold = record {
    first_satisfies =
        inl (1, refl, (_, _, inr (_, _, inl (0, refl, (_, _, (refl, refl), (sig_c, refl, refl), refl)), refl, refl), (sig_a, refl, refl), refl));
    second_satisfies =
        inr (_, _, inl (1, refl, (_, _, inl (0, refl, (_, _, (refl, refl), (sig_c, refl, refl), refl)), (short_sig_b, refl, refl), refl)), refl, refl);
    tie = refl;
    chosen = (refl, refl);
  };
  multi = record {
    first_satisfies = (_, sig_c ∷ sig_a ∷ [], refl, (refl, inl (refl, inr (inl (refl, tt)))), refl);
    second_satisfies = (_, sig_c ∷ short_sig_b ∷ [], refl, (refl, inl (refl, inl (refl, tt))), refl);
    tie = refl;
    chosen = (refl, refl);
  };
  dissatisfactions = λ assets. record {
    first = inl (_, _, refl, refl, refl);
    second = inr (_, _, inl (_, _, refl, refl, refl), refl, refl);
    tie = refl;
    chosen = refl;
  };
  key_twice = record {
    chosen = (refl, refl);
    satisfies = record {
      sat = (_, sig_a ∷ sig_a ∷ [], refl, (refl, inl (refl, inr (inl (refl, tt)))), refl);
      weight = refl;
      checks = _;
      run = refl;
    };
  };
}
