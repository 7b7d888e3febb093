-- What adding to assets answers.
use Rattle.std.specs.Prelude.{◌≡◌, ◌⊎◌, ⊤, Bool, not, nat_le, if◌then◌else◌, length, Option, Some, None, Result, Ok, Err}
use Rattle.std.specs.List.{list_any}
use Rattle.std.specs.Str.{bytes_eq}
use Rattle.def_script.specs.Bytes.{Bytes}
use Rattle.def_machine.specs.Stacks.{member}
use Rattle.def_assets.specs.Assets.{Assets}
use Rattle.def_files.specs.AssetFile.{is_signature, MOST_PREIMAGES}
use Rattle.def_files.specs.Refusals.{MOST_SIGNATURES}
use Rattle.ms_held.specs.declared.assets.AddStop.{AddStop}
use Rattle.ms_held.specs.declared.assets.AddStop.TheVariants as stop

-- the assets hold a signature with the key
abbrev pub holds_key : Assets → Bytes → Bool
holds_key assets key = list_any (λ pair. bytes_eq key pair.0) assets.pairs

-- why no signature of its length is added, whatever its key
abbrev pub size_stop : Assets → (sig : Bytes) → Option AddStop
size_stop assets sig =
    if not (is_signature sig) then Some stop.SigLength
    else if nat_le MOST_SIGNATURES (length assets.pairs) then Some stop.TooMany
    else None

-- a reason, or else that it is held already
abbrev pub or_repeated : Option AddStop → (is_held : Bool) → Option AddStop
or_repeated (Some stop) is_held = Some stop
or_repeated None is_held = if is_held then Some stop.RepeatedKey else None

-- why a signature isn't added to those of other keys
abbrev pub sig_stop : Assets → (key sig : Bytes) → Option AddStop
sig_stop assets key sig = or_repeated (size_stop assets sig) (holds_key assets key)

-- why one isn't added where its key may have others
abbrev pub another_stop : Assets → (key sig : Bytes) → Option AddStop
another_stop assets key sig = or_repeated (size_stop assets sig) (member assets.pairs key sig)

-- why a preimage isn't added
abbrev pub preimage_stop : Assets → Option AddStop
preimage_stop assets = if nat_le MOST_PREIMAGES (length assets.preimages) then Some stop.TooMany else None

-- the answer is this one; where it is none it is Ok, or there was no memory
abbrev pub Answers : Option AddStop → Result ⊤ AddStop → Type 0
Answers (Some stop) result = result ≡ Err stop
Answers None result = (result ≡ Ok tt) ⊎ (result ≡ Err stop.Memory)
