-- What is read at the front of bytes.
use Rattle.std.proofs.Common.{◌≡◌, ℕ, zero, suc, ◌^◌, ◌<◌, ◌==◌, nat_lt, nat_le, Bool, true, false, cond, List, [], ◌∷◌, length, take, drop, Option, Some, None, Ok, Err, inl, inr, refl, ap, subst, arith}
use Rattle.std.specs.Int.{Width, w16, w32, w64, from_le_bytes}
use Rattle.std.specs.List.{AllByRecursion}
use Rattle.std.proofs.lemmas.Bool.{cases_Bool, leb-true}
use Rattle.std.proofs.lemmas.List.{length-take-le}
use Rattle.std.proofs.lemmas.List.Elements.{All-from_recursion}
use Rattle.def_script.specs.Bytes.{Bytes, IsBytes}
use Rattle.def_script.specs.Sizes.{SizeReading, read_wide, read_size}
use Rattle.def_psbt.specs.Transaction.{TransactionInput, TransactionOutput, Transaction}
use Rattle.def_psbt.specs.Part.{Part, ◌>>=◌, first_bytes, first_number, size_part, first_size, first_string, first_many, first_list, whole}
use Rattle.def_psbt.specs.TransactionReading.{first_outpoint, first_input, first_output, first_sides, transaction_of}
use Rattle.ms_given_laws.specs.Given.{IsInput, IsOutput, IsTransaction}
use Rattle.ms_given_laws.proofs.BytesOf.{taken, dropped}

pub bind_some : {A B : Type 0} (o : Option A) (f : A → Option B) (y : B) → (o >>= f) ≡ Some y → (x : A) × (o ≡ Some x) × (f x ≡ Some y)
bind_some (Some x) f y e = (x, refl, e)
bind_some None f y e = absurd cc

pub some_is : {A : Type 0} (x y : A) → Some x ≡ Some y → x ≡ y
some_is x y e = cc

pub guard_some : {A : Type 0} (b : Bool) (x y : A) → cond b (Some x) None ≡ Some y → (b ≡ true) × (x ≡ y)
guard_some true x y e = (refl, some_is x y e)
guard_some false x y e = absurd cc

-- what is read has a property, and what is behind it consists of bytes
pub record Gives {A : Type 0} (P : A → Type 0) (part : Part A) : Type 0 where
  pub reads : (read : A × Bytes) → part ≡ Some read → P read.0 × IsBytes read.1

made : {A : Type 0} {P : A → Type 0} {x : A} {rest : Bytes} → P x → IsBytes rest → Gives P (Some (x, rest))
made {A} {P} {x} {rest} h fits = record { reads = λ read e. subst (λ r. P r.0 × IsBytes r.1) (some_is (x, rest) read e) (h, fits) }

then : {A B : Type 0} {P : A → Type 0} {Q : B → Type 0} {part : Part A} {next : A × Bytes → Part B} → Gives P part
    → ((read : A × Bytes) → P read.0 → IsBytes read.1 → Gives Q (next read)) → Gives Q (part >>= next)
then {part = part} {next = next} h k = record {
  reads = λ read e.
      let first = bind_some part next read e in
      let g = h.reads first.0 first.1 in
      (k first.0 g.0 g.1).reads read first.2;
}

-- so many bytes
abbrev AreBytes : ℕ → Bytes → Type 0
AreBytes count bytes = (length bytes ≡ count) × IsBytes bytes

bytes_part : (count : ℕ) (bytes : Bytes) → IsBytes bytes → Gives (AreBytes count) (first_bytes count bytes)
unfolding first_bytes
bytes_part count bytes fits = record {
  reads = λ read e.
      let g = guard_some (nat_le count (length bytes)) (take count bytes, drop count bytes) read e in
      subst (λ (r : Bytes × Bytes). AreBytes count r.0 × IsBytes r.1) g.1
      ((length-take-le count bytes (leb-true count (length bytes) g.0), taken count bytes fits), dropped count bytes fits);
}

number_16 : (bytes : Bytes) → IsBytes bytes → from_le_bytes w16 bytes < 2 ^ 16
number_16 bytes fits = omega (arith, fits 0, fits 1)

pub number_32 : (bytes : Bytes) → IsBytes bytes → from_le_bytes w32 bytes < 2 ^ 32
number_32 bytes fits = omega (arith, fits 0, fits 1, fits 2, fits 3)

pub number_64 : (bytes : Bytes) → IsBytes bytes → from_le_bytes w64 bytes < 2 ^ 64
number_64 bytes fits = omega (arith, fits 0, fits 1, fits 2, fits 3, fits 4, fits 5, fits 6, fits 7)

part_32 : (bytes : Bytes) → IsBytes bytes → Gives (λ n. n < 2 ^ 32) (first_number w32 bytes)
unfolding first_number
part_32 bytes fits = then (bytes_part 4 bytes fits) (λ part is rest. made (number_32 part.0 is.1) rest)

part_64 : (bytes : Bytes) → IsBytes bytes → Gives (λ n. n < 2 ^ 64) (first_number w64 bytes)
unfolding first_number
part_64 bytes fits = then (bytes_part 8 bytes fits) (λ part is rest. made (number_64 part.0 is.1) rest)

-- ---- sizes

pub size_low : (bytes : Bytes) (read : ℕ × ℕ) → IsBytes bytes → read_size bytes ≡ Ok read → read.0 < 2 ^ 64
unfolding read_size
size_low [] read fits e = absurd cc
size_low (byte ∷ rest) read fits e =
    let tail : IsBytes rest = λ i. fits (suc i) in
    elim (cases_Bool (nat_lt byte 0xfd)) [
      | inl one ↦ let low = fits 0 in grind arith
      | inr over ↦ elim (cases_Bool (byte == 0xfd)) [
        | inl two ↦ let small = number_16 rest tail in low w16 0xfd (omega arith) (rw (over, two) at e)
        | inr not_2 ↦ elim (cases_Bool (byte == 0xfe)) [
          | inl four ↦ let small = number_32 rest tail in low w32 (2 ^ 16) (omega arith) (rw (over, not_2, four) at e)
          | inr not_4 ↦ low w64 (2 ^ 32) (number_64 rest tail) (rw (over, not_2, not_4) at e)
        ]
      ]
    ]
  where
    low : (width : Width) (least : ℕ) → from_le_bytes width rest < 2 ^ 64 → read_wide width least rest ≡ Ok read → read.0 < 2 ^ 64
    low width least small e = grind arith

pub size_first : (bytes : Bytes) → IsBytes bytes → Gives (λ n. n < 2 ^ 64) (first_size bytes)
unfolding first_size
size_first bytes fits = go (read_size bytes) refl
  where
    go : (reading : SizeReading) → read_size bytes ≡ reading → Gives (λ n. n < 2 ^ 64) (size_part bytes reading)
    go (Ok size) is = made (size_low bytes size fits is) (dropped size.1 bytes fits)
    go (Err fault) is = record { reads = λ read e. absurd cc }

-- a string that can be spelled
abbrev pub IsString : Bytes → Type 0
IsString bytes = (length bytes < 2 ^ 64) × IsBytes bytes

pub string_first : (bytes : Bytes) → IsBytes bytes → Gives IsString (first_string bytes)
unfolding first_string
string_first bytes fits = then (size_first bytes fits) (λ size low rest. record {
  reads = λ read e.
      let part = (bytes_part size.0 size.1 rest).reads read e in
      ((omega (arith, part.0.0), part.0.1), part.1);
})

-- ---- lists

-- each part of a kind is so, and what is behind it consists of bytes
abbrev pub EachPart : {A : Type 0} → (A → Type 0) → (Bytes → Part A) → Type 0
EachPart P first = (bytes : Bytes) → IsBytes bytes → Gives P (first bytes)

many_first : {A : Type 0} (P : A → Type 0) (first : Bytes → Part A) → EachPart P first → (count : ℕ) (bytes : Bytes) → IsBytes bytes
    → Gives (λ xs. AllByRecursion P xs × (length xs ≡ count)) (first_many first count bytes)
unfolding first_many
many_first P first each zero bytes fits = made (tt, refl) fits
many_first P first each (suc count) bytes fits = then (each bytes fits) (λ part one rest.
    then (many_first P first each count part.1 rest) (λ parts others rest.
    made ((one, others.0), ap suc others.1) rest))

list_first : {A : Type 0} (P : A → Type 0) (first : Bytes → Part A) → EachPart P first → (bytes : Bytes) → IsBytes bytes
    → Gives (λ xs. AllByRecursion P xs × (length xs < 2 ^ 64)) (first_list first bytes)
unfolding first_list
list_first P first each bytes fits = then (size_first bytes fits) (λ count low rest. record {
  reads = λ read e.
      let many = (many_first P first each count.0 count.1 rest).reads read e in
      ((many.0.0, omega (arith, many.0.1)), many.1);
})

-- ---- transactions

outpoint_first : EachPart (λ outpoint. (length outpoint.id ≡ 32) × (outpoint.index < 2 ^ 32)) first_outpoint
unfolding first_outpoint
outpoint_first bytes fits = then (bytes_part 32 bytes fits) (λ id is rest.
    then (part_32 id.1 rest) (λ index low rest.
    made (is.0, low) rest))

input_first : EachPart IsInput first_input
unfolding first_input
input_first bytes fits = then (outpoint_first bytes fits) (λ outpoint is rest.
    then (string_first outpoint.1 rest) (λ script_sig short rest.
    then (part_32 script_sig.1 rest) (λ sequence low rest.
    made (record { id = is.0; index = is.1; script_sig = short.0; sequence = low }) rest)))

pub output_first : EachPart IsOutput first_output
unfolding first_output
output_first bytes fits = then (part_64 bytes fits) (λ amount low rest.
    then (string_first amount.1 rest) (λ script short rest. made (record { amount = low; script = short.0 }) rest))

-- the inputs and the outputs
abbrev AreInputs : List TransactionInput → Type 0
AreInputs inputs = AllByRecursion IsInput inputs × (length inputs < 2 ^ 64)

abbrev AreOutputs : List TransactionOutput → Type 0
AreOutputs outputs = AllByRecursion IsOutput outputs × (length outputs < 2 ^ 64)

sides_first : EachPart (λ sides. AreInputs sides.0 × AreOutputs sides.1) first_sides
unfolding first_sides
sides_first bytes fits = then (list_first IsInput first_input input_first bytes fits) (λ inputs are rest.
    then (list_first IsOutput first_output output_first inputs.1 rest) (λ outputs too rest.
    made (are, too) rest))

transaction_parts : (bytes : Bytes) (transaction : Transaction) → transaction_of bytes ≡ Some transaction
    → (v : ℕ × Bytes) × (s : (List TransactionInput × List TransactionOutput) × Bytes) × (l : ℕ × Bytes) × (first_number w32 bytes ≡ Some v)
    × (first_sides v.1 ≡ Some s)
    × (first_number w32 s.1 ≡ Some l) × (record { version = v.0; inputs = s.0.0; outputs = s.0.1; lock_time = l.0 } ≡ transaction)
unfolding transaction_of whole
transaction_parts bytes transaction e = grind arith

pub transaction_is : (bytes : Bytes) (transaction : Transaction) → IsBytes bytes → transaction_of bytes ≡ Some transaction → IsTransaction transaction
transaction_is bytes transaction fits e =
    let p = transaction_parts bytes transaction e in
    let version = (part_32 bytes fits).reads p.0 p.3 in
    let sides = (sides_first p.0.1 version.1).reads p.1 p.4 in
    let lock_time = (part_32 p.1.1 sides.1).reads p.2 p.5 in
    subst IsTransaction p.6 (record {
      version = version.0;
      inputs = All-from_recursion IsInput p.1.0.0 sides.0.0.0;
      few_inputs = sides.0.0.1;
      outputs = All-from_recursion IsOutput p.1.0.1 sides.0.1.0;
      few_outputs = sides.0.1.1;
      lock_time = lock_time.0;
    })
