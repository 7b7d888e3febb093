-- Skipping parts comes to the same as reading them.
use Rattle.std.proofs.Common.{◌≡◌, ℕ, zero, suc, ◌+◌, ◌-◌, ◌<◌, ◌≤◌, is_some, List, length, Option, Some, None, option_map, refl, sym, arith}
use Rattle.def_script.specs.Bytes.{Bytes}
use Rattle.def_psbt.specs.Transaction.{TransactionInput, TransactionOutput}
use Rattle.def_psbt.specs.Part.{Part, ◌>>=◌, first_number, first_string, first_many, first_list, whole}
use Rattle.def_psbt.specs.TransactionReading.{first_outpoint, first_input, first_output, first_sides, transaction_of, witnessed_transaction_of, first_witness}
use Rattle.def_psbt.specs.Forms.{output_of, witness_of}
use Rattle.ms_psbt.specs.declared.transaction.Kind.TheVariants as kind
use Rattle.ms_psbt.specs.Seen.{rest_of, counted_part}
use Rattle.ms_psbt.specs.Scaffolding.Skips.{skip_of, skips, list_skip, witness_skip, input_skip, output_skip, sides_skip, counts_read, counts_of, witnessed_skip, is_all}

-- ---- many parts

pub many_rest : {A : Type 0} (first : Bytes → Part A) (skip : Bytes → Option Bytes) → ((bytes : Bytes) → rest_of (first bytes) ≡ skip bytes)
    → (count : ℕ) (bytes : Bytes) → rest_of (first_many first count bytes) ≡ skips skip count bytes
unfolding first_many skips
many_rest first skip h zero bytes = refl
many_rest first skip h (suc count) bytes = let again = many_rest first skip h count in grind (arith, h, again)

-- as many as were to be read
many_count : {A : Type 0} (first : Bytes → Part A) (count : ℕ) (bytes : Bytes) (read : List A × Bytes) → first_many first count bytes ≡ Some read
    → length read.0 ≡ count
unfolding first_many
many_count first zero bytes read e = grind arith
many_count first (suc count) bytes read e = let again = many_count first count in grind (arith, again)

pub list_rest : {A : Type 0} (first : Bytes → Part A) (skip : Bytes → Option Bytes) → ((bytes : Bytes) → rest_of (first bytes) ≡ skip bytes)
    → (bytes : Bytes) → counted_part (first_list first bytes) ≡ list_skip skip bytes
unfolding first_list list_skip
list_rest first skip h bytes = grind (arith, many_count first, many_rest first skip h)

pub witness_rest : (bytes : Bytes) → rest_of (first_witness bytes) ≡ witness_skip bytes
witness_rest bytes = grind (arith, list_rest first_string (skip_of kind.Item) (λ b. refl))

-- ---- inputs and outputs

pub input_rest : (bytes : Bytes) → rest_of (first_input bytes) ≡ input_skip bytes
unfolding first_input first_outpoint input_skip first_number
input_rest bytes = grind arith

pub output_rest : (bytes : Bytes) → rest_of (first_output bytes) ≡ output_skip bytes
unfolding first_output output_skip first_number
output_rest bytes = grind arith

-- ---- the sides of a transaction

abbrev sides_counted : Part (List TransactionInput × List TransactionOutput) → Option ((ℕ × ℕ) × Bytes)
sides_counted (Some read) = Some ((length read.0.0, length read.0.1), read.1)
sides_counted None = None

sides_rest : (bytes : Bytes) → sides_skip bytes ≡ sides_counted (first_sides bytes)
unfolding first_sides sides_skip
sides_rest bytes = grind (arith, list_rest first_input (skip_of kind.Input) input_rest, list_rest first_output (skip_of kind.Output) output_rest)

-- ---- whole parts

pub output_all : (bytes : Bytes) → is_some (output_of bytes) ≡ is_all (output_skip bytes)
unfolding whole
output_all bytes = grind (arith, output_rest bytes)

pub witness_all : (bytes : Bytes) → is_some (witness_of bytes) ≡ is_all (witness_skip bytes)
unfolding whole
witness_all bytes = grind (arith, witness_rest bytes)

pub transaction_counted : (bytes : Bytes) → option_map counts_of (transaction_of bytes) ≡ counts_read bytes
unfolding transaction_of counts_read first_number whole
transaction_counted bytes = grind (arith, sides_rest)

pub witnessed_all : (bytes : Bytes) → is_some (witnessed_transaction_of bytes) ≡ is_all (witnessed_skip bytes)
unfolding witnessed_transaction_of witnessed_skip whole first_number
witnessed_all bytes = grind (arith, sides_rest, λ (n : ℕ) (b : Bytes). sym (many_rest first_witness witness_skip witness_rest n b))

-- ---- a loop over parts

pub skips_next : (skip : Bytes → Option Bytes) (count i : ℕ) (bytes : Bytes) → i < count
    → skips skip (count - i) bytes ≡ (skip bytes >>= skips skip (count - (i + 1)))
unfolding skips
skips_next skip count i bytes more = let one_more : count - i ≡ suc (count - (i + 1)) = omega arith in rw one_more refl

pub skips_done : (skip : Bytes → Option Bytes) (count i : ℕ) (bytes : Bytes) → count ≤ i → skips skip (count - i) bytes ≡ Some bytes
unfolding skips
skips_done skip count i bytes none = let no_more : count - i ≡ 0 = omega arith in rw no_more refl
