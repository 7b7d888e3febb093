-- The places of the outpoints of a transaction. No public clause cites it, so it need not be believed.
use Rattle.std.specs.Prelude.{◌≡◌, ℕ, zero, suc, ◌+◌, ◌-◌, ◌*◌, ◌/◌, ◌<◌, ◌==◌, ◌&&◌, nat_le, Bool, true, false, List, [], ◌∷◌, ◌++◌, length, drop, map, slice_index, if◌then◌else◌, Option, Some, None, option_map, Ok, Err}
use Rattle.std.specs.List.{list_any, list_all}
use Rattle.std.specs.List.Sorted.{IsStrictlyIncreasing}
use Rattle.std.specs.Str.{bytes_eq}
use Rattle.def_script.specs.Bytes.{Bytes}
use Rattle.def_script.specs.Sizes.{SizeReading, read_size}
use Rattle.def_psbt.specs.Transaction.{Transaction}
use Rattle.def_psbt.specs.Forms.{has_no_script_sig, outpoint_texts}
use Rattle.ms_psbt.specs.declared.repeats.Keys.TheVariants as keys
use Rattle.ms_psbt.specs.Scaffolding.Repeats.{key_at}

-- where the first input stands: behind the version and the number of inputs
abbrev pub first_read : SizeReading → ℕ
first_read (Ok read) = 4 + read.1
first_read (Err fault) = 0

abbrev pub first_at : Bytes → ℕ
first_at bytes = first_read (read_size (drop 4 bytes))

-- which input stands at a place, where the first one stands at another
abbrev pub number_from : (first : ℕ) → Option ℕ → Option ℕ
number_from first place = option_map (λ (p : ℕ). (p - first) / 41) place

-- where a transaction's inputs have empty scriptSigs, its outpoints stand at these places, in their order
pub record AreOutpoints (bytes : Bytes) (transaction : Transaction) (places : List ℕ) : Type 0 where
  pub empty : list_all has_no_script_sig transaction.inputs ≡ true
  pub texts : map (key_at keys.Outpoints bytes) places ≡ outpoint_texts transaction.inputs
  pub up : IsStrictlyIncreasing places
  pub row : (k : ℕ) → k < length places → slice_index places k ≡ first_at bytes + 41 * k

-- the places, or none where a scriptSig isn't empty; of bytes that are no transaction nothing is said
abbrev pub Places : (bytes : Bytes) → Option Transaction → (places : Option (List ℕ)) → Type 0
Places bytes None places = Unit {0}
Places bytes (Some transaction) None = list_all has_no_script_sig transaction.inputs ≡ false
Places bytes (Some transaction) (Some places) = AreOutpoints bytes transaction places

-- an input at a place has 41 bytes, of which that of the size of its scriptSig is 0
abbrev pub is_empty_input : (bytes : Bytes) → (at : ℕ) → Bool
is_empty_input bytes at = nat_le 41 (length (drop at bytes)) && (slice_index (drop at bytes) 36 == 0)

-- the places of so many of them, one after the other; none where one isn't
unfoldable pub empties : (bytes : Bytes) → (count at : ℕ) → Option (List ℕ)
empties bytes zero at = Some []
empties bytes (suc count) at =
    if is_empty_input bytes at then option_map (λ places. at ∷ places) (empties bytes count (at + 41)) else None

-- the number of the first of some bytes that are some before, or stand before
abbrev pub first_repeated : (before texts : List Bytes) → Option ℕ
first_repeated before [] = None
first_repeated before (text ∷ texts) =
    if list_any (bytes_eq text) before then Some 0 else option_map suc (first_repeated (before ++ text ∷ []) texts)
