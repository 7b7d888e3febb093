-- Origins, case by case.
use Rattle.std.proofs.Common.{◌≡◌, ℕ, ◌+◌, ◌<◌, true, false, List, [], ◌∷◌, length, drop, ap, ◌∙◌, arith, Option, Some, None, Ok, Err}
use Rattle.std.specs.Prelude.{codes}
use Rattle.hex.specs.Hex.{decode_pairs}
use Rattle.std.proofs.lemmas.Bool.{cond-true}
use Rattle.def_script.specs.Bytes.{Bytes}
use Rattle.def_descriptor.specs.declared.DescriptorFault.{DescriptorFault}
use Rattle.def_descriptor.specs.declared.DescriptorFault.TheVariants as fault
use Rattle.def_descriptor.specs.Token.{Token, token, starts, Read, and_then, behind}
use Rattle.def_descriptor.specs.Expression.{Origin}
use Rattle.def_descriptor.specs.Steps.{read_steps}
use Rattle.def_descriptor.specs.ReadKey.{print_of, origin_by, read_print, read_origin}
use Rattle.ms_paths.specs.Places.{tokens_at, behind as tokens_behind}
use Rattle.ms_paths.proofs.Places.{place_is, behind_some}
use Rattle.ms_paths.proofs.Reading.{then_ok, then_err, behind_not, behind_is}

print_bytes : (w p : Bytes) → print_of w ≡ Some p → 0 < length w
unfolding decode_pairs
print_bytes [] p h = absurd (cc)
print_bytes (b ∷ w) p h = omega arith

abbrev whole : Bytes → List ℕ → List Token → Read (Option Origin)
whole p steps rest = behind (codes "]") rest (λ end. Ok (Some (record { print = p; steps = steps }), end))

module _ (text w : Bytes) (at : ℕ) (e : tokens_at text at ≡ token at w ∷ tokens_behind text at w) where
  pub print_none : print_of w ≡ None → read_print (tokens_at text at) ≡ Err (fault.Syntax at)
  print_none h = ap read_print e ∙ ap (λ (z : Option Bytes). origin_by at z (tokens_behind text at w)) h

  module _ (p : Bytes) (h : print_of w ≡ Some p) where
    print_is : read_print (tokens_at text at) ≡ and_then (read_steps 255 (tokens_at text (at + length w))) (whole p)
    print_is =
        ap read_print e
        ∙ (ap (λ (z : Option Bytes). origin_by at z (tokens_behind text at w)) h
        ∙ ap (origin_by at (Some p)) (behind_some text at w (print_bytes w p h)))

    pub print_wrong : (why : DescriptorFault) → read_steps 255 (tokens_at text (at + length w)) ≡ Err why → read_print (tokens_at text at) ≡ Err why
    print_wrong why r = print_is ∙ then_err (read_steps 255 (tokens_at text (at + length w))) (whole p) why r

    module _ (steps : List ℕ) (end : ℕ) (r : read_steps 255 (tokens_at text (at + length w)) ≡ Ok (steps, tokens_at text end)) where
      stepped : read_print (tokens_at text at) ≡ whole p steps (tokens_at text end)
      stepped = print_is ∙ then_ok (read_steps 255 (tokens_at text (at + length w))) (whole p) steps (tokens_at text end) r

      pub print_open : starts (codes "]") (tokens_at text end) ≡ false → read_print (tokens_at text at) ≡ Err (fault.Syntax end)
      print_open none =
          stepped
          ∙ (behind_not (codes "]") (tokens_at text end) (λ (z : List Token). Ok (Some (record { print = p; steps = steps }), z)) none
          ∙ ap (λ (z : ℕ). Err (fault.Syntax z)) (place_is text end))

      pub print_closed : (last : ℕ) → starts (codes "]") (tokens_at text end) ≡ true → drop 1 (tokens_at text end) ≡ tokens_at text last
          → read_print (tokens_at text at) ≡ Ok (Some (record { print = p; steps = steps }), tokens_at text last)
      print_closed last mark there =
          stepped
          ∙ (behind_is (codes "]") (tokens_at text end) (λ (z : List Token). Ok (Some (record { print = p; steps = steps }), z)) mark
          ∙ ap (λ (z : List Token). Ok (Some (record { print = p; steps = steps }), z)) there)

pub origin_there : (text : Bytes) (at next : ℕ) → starts (codes "[") (tokens_at text at) ≡ true → drop 1 (tokens_at text at) ≡ tokens_at text next
    → read_origin (tokens_at text at) ≡ read_print (tokens_at text next)
origin_there text at next mark there =
    cond-true (starts (codes "[") (tokens_at text at)) (read_print (drop 1 (tokens_at text at))) (Ok (None, tokens_at text at)) mark ∙ ap read_print there
