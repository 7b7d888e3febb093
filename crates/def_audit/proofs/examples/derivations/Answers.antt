-- The examples.
use Rattle.std.proofs.Common.{◌≡◌, ℕ, ◌+◌, IsTrue, false, [], ◌∷◌, refl, sym, ◌∙◌, inl, inr, arith}
use Rattle.std.proofs.lemmas.Bool.{false≢true}
use Rattle.std.specs.Str.{bytes_eq}
use Rattle.std.proofs.lemmas.Slice.Eq.{bytes_eq-Decides}
use Rattle.def_hash.specs.declared.HashKind.TheVariants.{Sha256}
use Rattle.def_hash.specs.Hash.{digest_of}
use Rattle.def_script.specs.Bytes.{Bytes}
use Rattle.def_machine.specs.Samples.{key_a, key_b, sig_a, sig_b}
use Rattle.def_machine.specs.Stacks.{Stack}
use Rattle.def_machine.specs.Machine.{Given}
use Rattle.def_machine.specs.MultiSig.{is_good}
use Rattle.def_types.specs.Samples.{pk}
use Rattle.def_satisfaction.proofs.Computing.{computing}
use Rattle.def_satisfaction.specs.Rows.{EMPTY, ZEROS}
use Rattle.def_satisfaction.specs.Samples.{preimage_2, hash_1}
use Rattle.def_audit.specs.TrailRows.{IsTop, trails}
use Rattle.def_audit.specs.Examples.{sat, dsat, given_a, given_both}
use Rattle.def_audit.proofs.examples.derivations.Goals as goal

-- `pk(key)` by its signature, and by none
pk_sat : (given : Given) (n : ℕ) (key sig : Bytes) → IsTrue (is_good given.checker key sig) → (trails given n (pk key)).sat (sig ∷ []) (sat n ∷ sat (n + 1) ∷ [])
pk_sat given n key sig good = (sat n ∷ [], ([], ((sig, good, refl), refl), refl), refl)

pk_dsat : (given : Given) (n : ℕ) (key : Bytes) → (trails given n (pk key)).dsat (EMPTY ∷ []) (dsat n ∷ dsat (n + 1) ∷ [])
pk_dsat given n key = (dsat n ∷ [], ([], (refl, refl), refl), refl)

-- a top item that isn't another one
other_top : (item other : Bytes) (rest : Stack) → bytes_eq other item ≡ false → ¬ IsTop item (other ∷ rest)
other_top item other rest e h = false≢true (sym e ∙ (bytes_eq-Decides other item).1 (cc h.1))

digests_differ : digest_of Sha256 preimage_2 ≡ hash_1 → ⊥
unfolding computing
digests_differ e =
    let other : bytes_eq (digest_of Sha256 preimage_2) hash_1 ≡ false = refl in
    false≢true (sym other ∙ (bytes_eq-Decides (digest_of Sha256 preimage_2) hash_1).1 e)

pub returns : goal.returns
unfolding computing
returns c = record {
  both_keys = inr (
    sat 0 ∷ sat 1 ∷ sat 2 ∷ sat 3 ∷ sat 4 ∷ [],
    (sig_b ∷ [], sig_a ∷ [], sat 0 ∷ sat 1 ∷ [], sat 2 ∷ sat 3 ∷ sat 4 ∷ [], (sat 2 ∷ sat 3 ∷ [], pk_sat given_both 2 key_b sig_b refl, refl), pk_sat given_both 0 key_a sig_a refl, refl, refl),
    refl,
  );
  one_key = inl (
    sat 0 ∷ sat 1 ∷ dsat 2 ∷ dsat 3 ∷ dsat 4 ∷ [],
    inl (EMPTY ∷ [], sig_a ∷ [], sat 0 ∷ sat 1 ∷ [], dsat 2 ∷ dsat 3 ∷ dsat 4 ∷ [], (dsat 2 ∷ dsat 3 ∷ [], pk_dsat given_a 2 key_b, refl), pk_sat given_a 0 key_a sig_a refl, refl, refl),
    refl,
  );
  and_or = inr (
    sat 0 ∷ sat 1 ∷ dsat 2 ∷ dsat 3 ∷ [],
    (EMPTY ∷ [], sig_a ∷ [], sat 0 ∷ sat 1 ∷ [], dsat 2 ∷ dsat 3 ∷ [], pk_dsat given_a 2 key_b, pk_sat given_a 0 key_a sig_a refl, refl, refl),
    refl,
  );
  and_v = (
    sat 0 ∷ sat 1 ∷ sat 2 ∷ dsat 3 ∷ dsat 4 ∷ [],
    (EMPTY ∷ [], sig_a ∷ [], sat 0 ∷ sat 1 ∷ sat 2 ∷ [], dsat 3 ∷ dsat 4 ∷ [], pk_dsat given_a 3 key_b, (sat 0 ∷ sat 1 ∷ [], pk_sat given_a 0 key_a sig_a refl, refl), refl, refl),
    refl,
  );
  and_b = inr (
    sat 0 ∷ sat 1 ∷ dsat 2 ∷ dsat 3 ∷ dsat 4 ∷ [],
    inr (EMPTY ∷ [], sig_a ∷ [], sat 0 ∷ sat 1 ∷ [], dsat 2 ∷ dsat 3 ∷ dsat 4 ∷ [], (dsat 2 ∷ dsat 3 ∷ [], pk_dsat given_a 2 key_b, refl), pk_sat given_a 0 key_a sig_a refl, refl, refl),
    refl,
  );
  thresh = inr (
    sat 0 ∷ sat 1 ∷ sat 2 ∷ sat 3 ∷ sat 4 ∷ [],
    (
      2,
      λ e. absurd (omega (arith, e)),
      λ e. absurd (omega (arith, e)),
      inl (
        1,
        refl,
        (
          sig_b ∷ [],
          sig_a ∷ [],
          sat 0 ∷ sat 1 ∷ [],
          sat 2 ∷ sat 3 ∷ sat 4 ∷ [],
          inl (0, refl, ([], sig_b ∷ [], sat 2 ∷ sat 3 ∷ sat 4 ∷ [], [], (refl, (refl, refl)), (sat 2 ∷ sat 3 ∷ [], pk_sat given_both 2 key_b sig_b refl, refl), refl, refl)),
          pk_sat given_both 0 key_a sig_a refl,
          refl,
          refl,
        ),
      ),
    ),
    refl,
  );
  j = inr (
    dsat 0 ∷ dsat 1 ∷ [],
    (
      (key_a, EMPTY ∷ [], refl, refl),
      (
        dsat 0 ∷ [],
        inl ([], ((EMPTY ∷ [], refl), ((key_a, refl, refl, tt, (EMPTY ∷ [], key_a ∷ [], refl, refl, refl)), refl)), refl),
        refl,
      ),
    ),
    refl,
  );
  hash = inr ([], (other_top ZEROS preimage_2 [] refl, (inr (refl, (preimage_2, (refl, digests_differ), refl)), refl)), refl);
  other_key = λ other form same differs. inr ([], (λ h. differs (cc h.1), ((other, form, same, tt, (EMPTY ∷ [], other ∷ [], refl, refl, refl)), refl)), refl);
}
