-- One byte more.
use Rattle.std.proofs.Common.{◌≡◌, ℕ, suc, ◌+◌, ◌*◌, ◌^◌, ◌<◌, ◌≤◌, take, get_or, lit≤, ap, ◌∙◌, arith}
use Rattle.std.proofs.Math.Nat.{pow-suc, pow-le-pow_right}
use Rattle.std.proofs.lemmas.List.{take_more}
use Rattle.def_address.specs.Digits.{number_in}
use Rattle.def_address.proofs.Digits.{number_push}
use Rattle.ms_address.proofs.bech32.number_of.Goals as goal

room : (i n : ℕ) → i < 5 → n < 256 ^ i → n < 2 ^ 32
room i n below h =
    let few : i ≤ 4 = omega arith in
    let most : 256 ^ i ≤ 256 ^ 4 = pow-le-pow_right (lit≤ tt) few in
    omega (arith, most, h)

pub overflow_mul-number : goal.overflow_mul-number
overflow_mul-number c = let small = room c.loop-byte.byte-index c.loop-byte.number (omega arith) c.loop-byte.invariant.below in omega (arith, small)

pub overflow_add-number : goal.overflow_add-number
overflow_add-number c = let small = room c.loop-byte.byte-index c.loop-byte.number (omega arith) c.loop-byte.invariant.below in omega (arith, small)

pub loop-byte-preserved : goal.loop-byte-preserved
loop-byte-preserved c =
    let i : ℕ = c.loop-byte.byte-index in
    let bytes = c.args.bytes.now in
    let byte : ℕ = get_or bytes i 0 in
    let step : number_in 256 (take (i + 1) bytes) ≡ 256 * number_in 256 (take i bytes) + byte = ap (number_in 256) (take_more bytes i 0 (omega arith)) ∙ number_push 256 (take i bytes) byte in
    let one : i + 1 ≡ suc i = omega arith in
    let power : 256 ^ (i + 1) ≡ 256 ^ i * 256 = ap (λ (z : ℕ). 256 ^ z) one ∙ pow-suc 256 i in
    record {
      number = omega (arith, step, c.loop-byte.invariant.number);
      below = omega (arith, power, c.loop-byte.invariant.below);
    }
