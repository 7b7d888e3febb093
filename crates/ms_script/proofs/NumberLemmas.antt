-- The spelling of a number, byte by byte.
use Rattle.std.proofs.Common.{◌≡◌, ℕ, suc, ◌+◌, ◌-◌, ◌/◌, ◌%◌, ◌<◌, ◌≤◌, nat_lt, Bool, true, false, ◌++◌, length, take, set, arith, ◌∙◌}
use Rattle.std.proofs.lemmas.Bool.{lt-ltb, le-ltb}
use Rattle.std.proofs.lemmas.List.{append_assoc, take_more_set}
use Rattle.def_script.specs.Bytes.{Bytes}
use Rattle.def_script.specs.Numbers.{sign_bit, signed_bytes}

-- what is left goes into the last byte
pub last-written : (bytes : Bytes) (len left magnitude : ℕ) (negative : Bool) → len < 5 → length bytes ≡ 5 → left < 128
    → take len bytes ++ signed_bytes (5 - len) negative left ≡ signed_bytes 5 negative magnitude
    → take (len + 1) (set bytes len (left + sign_bit negative)) ≡ signed_bytes 5 negative magnitude
last-written bytes len left magnitude negative below five low same =
    let room : 5 - len ≡ suc (4 - len) = omega arith in
    let last : nat_lt left 128 ≡ true = lt-ltb _ _ low in
    take_more_set bytes len (left + sign_bit negative) (omega arith) ∙ (rw (room, last) at same)

-- its low byte is written, and the rest is left
pub more-written : (bytes : Bytes) (len left magnitude : ℕ) (negative : Bool) → len < 5 → length bytes ≡ 5 → 128 ≤ left
    → take len bytes ++ signed_bytes (5 - len) negative left ≡ signed_bytes 5 negative magnitude
    → take (len + 1) (set bytes len (left % 256)) ++ signed_bytes (5 - (len + 1)) negative (left / 256) ≡ signed_bytes 5 negative magnitude
more-written bytes len left magnitude negative below five large same =
    let room : 5 - len ≡ suc (4 - len) = omega arith in
    let next : 5 - (len + 1) ≡ 4 - len = omega arith in
    let more : nat_lt left 128 ≡ false = le-ltb _ _ large in
    let one = take_more_set bytes len (left % 256) (omega arith) in
    rw (one, next, append_assoc) (rw (room, more) at same)
