-- A pair ends behind its place, and within the bytes.
use Rattle.std.proofs.Common.{inl, inr, ◌≡◌, ℕ, ◌+◌, ◌-◌, ◌<◌, ◌≤◌, ◌==◌, nat_le, cond, length, take, drop, Option, Some, None, Ok, Err, refl, subst, arith}
use Rattle.std.proofs.lemmas.Bool.{cases_Bool, leb-true, eqb-false}
use Rattle.std.proofs.lemmas.List.{length-drop, length-take-le}
use Rattle.def_script.specs.Bytes.{Bytes}
use Rattle.def_script.specs.Sizes.{SizeReading, read_size}
use Rattle.def_psbt.specs.Map.{Pair}
use Rattle.def_psbt.specs.Part.{Part, ◌>>=◌, first_bytes, size_part, first_size, first_string}
use Rattle.ms_psbt.specs.Pairs.{first_pair}
use Rattle.ms_combine.specs.Scaffolding.Places.{part_end, next_at}

bind_some : {A B : Type 0} (o : Option A) (f : A → Option B) (y : B) → (o >>= f) ≡ Some y → (x : A) × (o ≡ Some x) × (f x ≡ Some y)
bind_some (Some x) f y e = (x, refl, e)
bind_some None f y e = absurd cc

some_is : {A : Type 0} (x y : A) → ◌≡◌ {A = Option A} (Some x) (Some y) → x ≡ y
some_is x y e = cc

size_rest : (bytes : Bytes) (part : ℕ × Bytes) → first_size bytes ≡ Some part → length part.1 ≤ length bytes
unfolding first_size
size_rest bytes part e = go (read_size bytes) e
  where
    go : (reading : SizeReading) → size_part bytes reading ≡ Some part → length part.1 ≤ length bytes
    go (Ok read) e =
        let same = some_is (read.0, drop read.1 bytes) part e in
        let long = length-drop read.1 bytes in
        subst (λ (p : ℕ × Bytes). length p.1 ≤ length bytes) same (omega (arith, long))
    go (Err fault) e = absurd cc

bytes_rest : (count : ℕ) (bytes : Bytes) (part : Bytes × Bytes) → first_bytes count bytes ≡ Some part → length part.0 + length part.1 ≤ length bytes
unfolding first_bytes
bytes_rest count bytes part e = elim (cases_Bool (nat_le count (length bytes))) [
  | inl fits ↦
      let same : (take count bytes, drop count bytes) ≡ part = some_is (take count bytes, drop count bytes) part (rw fits at e) in
      let less = leb-true count (length bytes) fits in
      let front = length-take-le count bytes less in
      let rest = length-drop count bytes in
      subst (λ (p : Bytes × Bytes). length p.0 + length p.1 ≤ length bytes) same (omega (arith, front, rest, less))
  | inr no_room ↦ (let bad = rw no_room at e in absurd cc)
]

string_rest : (bytes : Bytes) (part : Bytes × Bytes) → first_string bytes ≡ Some part → length part.0 + length part.1 ≤ length bytes
unfolding first_string
string_rest bytes part e =
    let s = bind_some (first_size bytes) (λ size. first_bytes size.0 size.1) part e in
    let size = size_rest bytes s.0 s.1 in
    let string = bytes_rest s.0.0 s.0.1 part s.2 in
    omega (arith, size, string)

pub pair_rest : (bytes : Bytes) (part : Pair × Bytes) → first_pair bytes ≡ Some part → length part.1 < length bytes
unfolding first_pair
pair_rest bytes part e =
    let k = bind_some (first_string bytes) (λ key. cond (length key.0 == 0) None (first_string key.1 >>= λ value. Some (record { key = key.0; value = value.0 }, value.1))) part e in
    let key = string_rest bytes k.0 k.1 in
    elim (cases_Bool (length k.0.0 == 0)) [
      | inl none ↦ (let bad = rw none at k.2 in absurd cc)
      | inr some ↦
          let v = bind_some (first_string k.0.1) (λ value. Some (record { key = k.0.0; value = value.0 }, value.1)) part (rw some at k.2) in
          let value : length v.0.1 ≤ length k.0.1 = (let both = string_rest k.0.1 v.0 v.1 in omega (arith, both)) in
          let other = eqb-false (length k.0.0) 0 some in
          let made : Pair × Bytes = (record { key = k.0.0; value = v.0.0 }, v.0.1) in
          subst (λ (p : Pair × Bytes). length p.1 < length bytes) (some_is made part v.2) (less (length k.0.0) other key value)
    ]
  where
    less : {a b c : ℕ} (n : ℕ) → (n ≡ 0 → ⊥) → n + a ≤ c → b ≤ a → b < c
    less n other key value = omega (arith, other, key, value)

-- the place behind a pair lies behind its own, and within the bytes
pub later : (bytes : Bytes) (at next : ℕ) → next_at bytes at ≡ Some next → (at < next) × (next ≤ length bytes)
later bytes at next e = go (first_pair (drop at bytes)) refl e
  where
    go : (o : Part Pair) → first_pair (drop at bytes) ≡ o → part_end (length bytes) o ≡ Some next → (at < next) × (next ≤ length bytes)
    go None is e = absurd cc
    go (Some part) is e =
        let rest = pair_rest (drop at bytes) part is in
        let long = length-drop at bytes in
        let same = some_is (length bytes - length part.1) next e in
        (omega (arith, rest, long, same), omega (arith, same))
