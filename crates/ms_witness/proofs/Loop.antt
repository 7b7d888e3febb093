-- Reading items one after the other, as a loop does.
use Rattle.std.proofs.Common.{◌≡◌, ℕ, suc, ◌-◌, ◌+◌, ◌≤◌, ◌<◌, List, [], ◌∷◌, ◌++◌, Ok, Err, refl, sym, ap, ◌∙◌, append_assoc, arith}
use Rattle.std.proofs.lemmas.List.{append-nil}
use Rattle.def_script.specs.Bytes.{Bytes}
use Rattle.ms_witness.specs.declared.fault.WitnessFault.{WitnessFault}
use Rattle.ms_witness.specs.declared.fault.WitnessFault.TheVariants as fault
use Rattle.ms_witness.specs.Reading.{◌>>=◌, Part, first_item, first_items}
use Rattle.ms_witness.specs.Answering.{Faults}

-- what is still read, after what was read before
abbrev pub after : (front : List Bytes) → Part (List Bytes) → Part (List Bytes)
after front reading = reading >>= λ items. Ok (front ++ items.0, items.1)

regroup : (front : List Bytes) (item : Bytes) (reading : Part (List Bytes)) → after front (reading >>= λ items. Ok (item ∷ items.0, items.1)) ≡ after (front ++ item ∷ []) reading
regroup front item (Ok items) = ap (λ (all : List Bytes). Ok (all, items.1)) (simp append_assoc)
regroup front item (Err why) = refl

pub goes_on : (front : List Bytes) (count i : ℕ) (bytes item rest : Bytes) (total : Part (List Bytes)) → i < count → first_item bytes ≡ Ok (item, rest)
    → after front (first_items (count - i) bytes) ≡ total → after (front ++ item ∷ []) (first_items (count - (i + 1)) rest) ≡ total
unfolding first_items
goes_on front count i bytes item rest total more read so_far =
    let one_more : count - i ≡ suc (count - (i + 1)) = omega arith in
    let one : after front (first_items (count - i) bytes) ≡ after (front ++ item ∷ []) (first_items (count - (i + 1)) rest) =
    rw (one_more, read) (regroup front item (first_items (count - (i + 1)) rest)) in
    sym one ∙ so_far

faults : (why : WitnessFault) (front : List Bytes) (count i : ℕ) (bytes : Bytes) (total : Part (List Bytes)) → i < count → first_item bytes ≡ Err why
    → after front (first_items (count - i) bytes) ≡ total → total ≡ Err why
unfolding first_items
faults why front count i bytes total more read so_far =
    let one_more : count - i ≡ suc (count - (i + 1)) = omega arith in
    let one : after front (first_items (count - i) bytes) ≡ Err why = rw (one_more, read) refl in
    sym so_far ∙ one

pub ends : (why : WitnessFault) (front : List Bytes) (count i : ℕ) (bytes : Bytes) (total : Part (List Bytes)) → i < count → Faults why (first_item bytes)
    → after front (first_items (count - i) bytes) ≡ total → Faults why total
ends fault.Memory front count i bytes total more read so_far = tt
ends fault.Truncated front count i bytes total more read so_far = faults fault.Truncated front count i bytes total more read so_far
ends fault.NonMinimalSize front count i bytes total more read so_far = faults fault.NonMinimalSize front count i bytes total more read so_far
ends fault.Empty front count i bytes total more read so_far = faults fault.Empty front count i bytes total more read so_far
ends fault.TooLong front count i bytes total more read so_far = faults fault.TooLong front count i bytes total more read so_far
ends fault.Trailing front count i bytes total more read so_far = faults fault.Trailing front count i bytes total more read so_far

pub is_done : (front : List Bytes) (count i : ℕ) (bytes : Bytes) (total : Part (List Bytes)) → count ≤ i → after front (first_items (count - i) bytes) ≡ total → total ≡ Ok (front, bytes)
unfolding first_items
is_done front count i bytes total none so_far =
    let no_more : count - i ≡ 0 = omega arith in
    let one : after front (first_items (count - i) bytes) ≡ Ok (front, bytes) = rw no_more (ap (λ (all : List Bytes). Ok (all, bytes)) (append-nil front)) in
    sym so_far ∙ one
