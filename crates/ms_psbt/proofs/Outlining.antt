-- What the global map says.
use Rattle.std.proofs.Common.{◌≡◌, ℕ, ◌==◌, true, false, is_some, length, Option, Some, None, option_map, refl, ap, ◌∙◌, arith}
use Rattle.std.proofs.lemmas.Bool.{ne_eqb}
use Rattle.def_script.specs.Bytes.{Bytes}
use Rattle.def_psbt.specs.declared.PsbtVersion.TheVariants as version
use Rattle.def_psbt.specs.Fields.{size_read, version_number, version_of}
use Rattle.def_psbt.specs.Map.{Pair, Map, pair_of_type, value_of_type}
use Rattle.def_psbt.specs.Part.{first_size}
use Rattle.def_psbt.specs.Reading.{Outline, given, counted, transaction_in_pair, outline_in}
use Rattle.def_psbt.specs.Transaction.{Transaction}
use Rattle.def_psbt.specs.TransactionReading.{transaction_of}
use Rattle.ms_psbt.specs.Scaffolding.Skips.{counts_of}

pub version_two : (global : Map) → version_number global ≡ 2 → version.Two ≡ version_of global
version_two global e = rw e refl

pub version_zero : (global : Map) → (version_number global ≡ 2 → ⊥) → version.Zero ≡ version_of global
version_zero global other = let not_two : (version_number global == 2) ≡ false = ne_eqb _ _ other in rw not_two refl

pub no_version : (global : Map) → is_some (pair_of_type 0x02 global) ≡ false → outline_in version.Two global ≡ None
no_version global none = grind arith

pub counted_there : (global : Map) (a b : Bytes) (n m : ℕ) → is_some (pair_of_type 0x02 global) ≡ true → value_of_type 0x04 global ≡ Some a → value_of_type 0x05 global ≡ Some b
    → n ≡ size_read (first_size a) → m ≡ size_read (first_size b) → outline_in version.Two global ≡ Some (counted n m)
counted_there global a b n m e f g p q = grind arith

-- ---- the transaction of version 0

pair_value : (o : Option Pair) (v : Bytes) → option_map (λ (pair : Pair). pair.value) o ≡ Some v → transaction_in_pair o ≡ transaction_of v
pair_value (Some pair) v e = ap transaction_of cc
pair_value None v e = absurd cc

pub no_given : (global : Map) → value_of_type 0x00 global ≡ None → outline_in version.Zero global ≡ None
no_given global e = go (pair_of_type 0x00 global) e
  where
    go : (o : Option Pair) → option_map (λ (pair : Pair). pair.value) o ≡ None → option_map given (transaction_in_pair o) ≡ None
    go (Some pair) e = absurd cc
    go None e = refl

pub bad_given : (global : Map) (v : Bytes) → value_of_type 0x00 global ≡ Some v → None ≡ option_map counts_of (transaction_of v) → outline_in version.Zero global ≡ None
bad_given global v e f = ap (option_map given) (pair_value (pair_of_type 0x00 global) v e) ∙ go (transaction_of v) f
  where
    go : (o : Option Transaction) → None ≡ option_map counts_of o → option_map given o ≡ None
    go (Some t) e = absurd cc
    go None e = refl

pub given_there : (global : Map) (v : Bytes) (a b : ℕ) → value_of_type 0x00 global ≡ Some v → Some (a, b) ≡ option_map counts_of (transaction_of v)
    → (o : Outline) × (outline_in version.Zero global ≡ Some o) × (t : Transaction) × (o ≡ given t) × (transaction_of v ≡ Some t) × (a ≡ length t.inputs) × (b ≡ length t.outputs)
given_there global v a b e f = go (transaction_of v) refl f
  where
    go : (o : Option Transaction) → transaction_of v ≡ o → Some (a, b) ≡ option_map counts_of o
        → (x : Outline) × (outline_in version.Zero global ≡ Some x) × (t : Transaction) × (x ≡ given t) × (transaction_of v ≡ Some t) × (a ≡ length t.inputs) × (b ≡ length t.outputs)
    go (Some t) is f =
        let both : (a, b) ≡ counts_of t = cc in
        (given t, ap (option_map given) (pair_value (pair_of_type 0x00 global) v e ∙ is), t, refl, is, ap (λ (p : ℕ × ℕ). p.0) both, ap (λ (p : ℕ × ℕ). p.1) both)
    go None is f = absurd cc
