-- The assets of arrays, or why they are refused: for what an asset file of format 2 with the same signatures and preimages is.
use Rattle.std.specs.Prelude.{ℕ, ◌==◌, ◌*◌, ◌/◌, nat_le, List, [], ◌∷◌, ◌++◌, length, sum, Result}
use Rattle.def_script.specs.Bytes.{Bytes}
use Rattle.def_script.specs.Key.{is_key}
use Rattle.def_machine.specs.declared.Locks.{Locks}
use Rattle.def_machine.specs.Stacks.{Pairs}
use Rattle.def_assets.specs.Assets.{Assets}
use Rattle.def_files.specs.declared.Format.TheVariants.{Two as two}
use Rattle.def_files.specs.declared.Member.TheVariants as member
use Rattle.def_files.specs.declared.AssetFault.{AssetFault}
use Rattle.def_files.specs.declared.AssetFault.TheVariants as fault
use Rattle.def_files.specs.AssetFile.{is_signature, MOST_PREIMAGES}
use Rattle.def_files.specs.Refusals.{Refusal, unless, unless_any, MOST_SIGNATURES}
use Rattle.ms_assets.specs.Parts.{first_refused, repeats}
use Rattle.ms_arrays.specs.Pieces.{KEY_SIZE, PREIMAGE_SIZE, pairs_at, preimages_in}

-- the values of the locks, as three numbers
abbrev pub locks_of : (version sequence locktime : ℕ) → Locks
locks_of version sequence locktime = record { version = version; sequence = sequence; locktime = locktime }

-- the refusals of signatures with their keys: a key's form, a signature's length, a pair that stands twice
abbrev pub pair_refusals : Pairs → List Refusal
pair_refusals pairs =
    first_refused (λ pair. is_key pair.0) fault.KeyForm pairs ∷
    first_refused (λ pair. is_signature pair.1) fault.SigLength pairs ∷
    repeats two fault.RepeatedKey pairs ∷ []

-- the refusals of arrays that haven't the length that is told, or hold too much
abbrev pub shape_refusals : (keys signatures : Bytes) → (lengths : List ℕ) → (preimages : Bytes) → List Refusal
shape_refusals keys signatures lengths preimages =
    unless (length keys == KEY_SIZE * length lengths) (fault.Shape member.Signatures) ∷
    unless (sum lengths == length signatures) (fault.Shape member.Signatures) ∷
    unless (length preimages == PREIMAGE_SIZE * (length preimages / PREIMAGE_SIZE)) (fault.Shape member.Preimages) ∷
    unless (nat_le (length lengths) MOST_SIGNATURES) (fault.TooMany member.Signatures) ∷
    unless (nat_le (length preimages / PREIMAGE_SIZE) MOST_PREIMAGES) (fault.TooMany member.Preimages) ∷ []

-- what the arrays give: the first refusal that applies, those of single elements last, or the assets
abbrev pub assets_of_arrays : Locks → (keys signatures : Bytes) → (lengths : List ℕ) → (preimages : Bytes) → Result Assets AssetFault
assets_of_arrays locks keys signatures lengths preimages =
    unless_any (shape_refusals keys signatures lengths preimages ++ pair_refusals (pairs_at lengths keys signatures))
    (record { locks = locks; pairs = pairs_at lengths keys signatures; preimages = preimages_in preimages })
