-- The values, their checksum, and the characters of both.
use Rattle.std.proofs.Common.{◌≡◌, ◌++◌, [], ◌∷◌, ℕ, List, fold, bit_xor, ap, ◌∙◌}
use Rattle.def_address.specs.Digits.{fixed_digits, spelled}
use Rattle.def_address.specs.Remainder.{remainder_with}
use Rattle.def_address.specs.Bech32.{bech32_alphabet, bech32_generators, in_fives}
use Rattle.ms_address.proofs.Programs.{written, values_below}
use Rattle.ms_address.proofs.bech32.program_address.Goals as goal

pub push_letters-requires : goal.push_letters-requires
push_letters-requires c =
    let program = c.args.program.now in
    let closed = c.with_values-closed.result in
    let first : c.push.new.self.items ≡ 0 ∷ [] = c.in_ok-push.ensures.items ∙ ap (λ (z : List ℕ). z ++ 0 ∷ []) c.new-values.ensures.items in
    let body : c.push_fives.new.values.items ≡ 0 ∷ in_fives program = c.in_ok-push_fives.ensures ∙ ap (λ (z : List ℕ). z ++ in_fives program) first in
    let all : c.deref-2.result.now ≡ (0 ∷ in_fives program) ++ fixed_digits 32 6 (bit_xor closed 1) =
    c.deref-2.ensures.value ∙ (c.in_ok-push_values.ensures ∙ ap (λ (z : List ℕ). z ++ fixed_digits 32 6 (bit_xor closed 1)) body) in
    values_below program c.deref-2.result.now (bit_xor closed 1) all

pub returns : goal.returns
returns c =
    let human = c.args.human.now in
    let program = c.args.program.now in
    let lower = c.with_lower_bits-lower.result in
    let closed = c.with_values-closed.result in
    let values = c.deref-2.result.now in
    let first : c.push.new.self.items ≡ 0 ∷ [] = c.in_ok-push.ensures.items ∙ ap (λ (z : List ℕ). z ++ 0 ∷ []) c.new-values.ensures.items in
    let body : c.push_fives.new.values.items ≡ 0 ∷ in_fives program = c.in_ok-push_fives.ensures ∙ ap (λ (z : List ℕ). z ++ in_fives program) first in
    let all : values ≡ (0 ∷ in_fives program) ++ fixed_digits 32 6 (bit_xor closed 1) =
    c.deref-2.ensures.value ∙ (c.in_ok-push_values.ensures ∙ ap (λ (z : List ℕ). z ++ fixed_digits 32 6 (bit_xor closed 1)) body) in
    let counted : c.with_values-counted.result ≡ fold (remainder_with 25 bech32_generators) lower (0 ∷ in_fives program) =
    c.with_values-counted.ensures ∙ ap (λ (z : List ℕ). fold (remainder_with 25 bech32_generators) lower z) (c.deref.ensures.value ∙ body) in
    let front : c.push-2.new.self.items ≡ human ++ 49 ∷ [] = c.in_ok-push-2.ensures.items ∙ ap (λ (z : List ℕ). z ++ 49 ∷ []) c.in_ok-text.ensures.items in
    c.in_ok-push_letters.ensures
    ∙ (ap (λ (z : List ℕ). z ++ spelled bech32_alphabet values) front
    ∙ written human program values c.with_upper_bits-upper.result c.address_with-zero.result lower c.with_values-counted.result closed
    c.with_upper_bits-upper.ensures c.address_with-zero.ensures c.with_lower_bits-lower.ensures counted c.with_values-closed.ensures all)
