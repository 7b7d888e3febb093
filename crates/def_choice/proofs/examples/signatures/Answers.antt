-- The examples of several signatures of one key.
use Rattle.def_choice.proofs.examples.signatures.Goals as goal
use Rattle.std.proofs.Common.{[], ◌∷◌, refl, inl, inr}
use Rattle.def_machine.specs.Samples.{sig_a, sig_c}
use Rattle.def_satisfaction.proofs.Computing.{computing}
use Rattle.def_choice.specs.SignatureExamples.{other_sig_a}

pub returns : goal.returns
unfolding computing
returns c = record {
  shorter_of_two = ((refl, refl), (refl, refl), (refl, refl));
  first_of_two = (
    record { first_satisfies = (sig_a, refl, refl); second_satisfies = (other_sig_a, refl, refl); tie = refl; chosen = (refl, refl) },
    record { first_satisfies = (other_sig_a, refl, refl); second_satisfies = (sig_a, refl, refl); tie = refl; chosen = (refl, refl) },
  );
  multi = (
    record {
      first_satisfies = (_, sig_c ∷ sig_a ∷ [], refl, (refl, inl (refl, inr (inl (refl, tt)))), refl);
      second_satisfies = (_, sig_c ∷ other_sig_a ∷ [], refl, (refl, inl (refl, inr (inl (refl, tt)))), refl);
      tie = refl;
      chosen = (refl, refl);
    },
    (refl, refl),
  );
  threshold = (
    record {
      first_satisfies =
          inl (1, refl, (_, _, inr (_, _, inl (0, refl, (_, _, (refl, refl), (sig_c, refl, refl), refl)), refl, refl), (sig_a, refl, refl), refl));
      second_satisfies =
          inl (1, refl, (_, _, inr (_, _, inl (0, refl, (_, _, (refl, refl), (sig_c, refl, refl), refl)), refl, refl), (other_sig_a, refl, refl), refl));
      tie = refl;
      chosen = (refl, refl);
    },
    (refl, refl),
  );
}
