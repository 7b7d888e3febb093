-- Which refusals don't come.
use Rattle.std.proofs.Common.{◌≢◌, ℕ, Option, nat_le, is_some, unwrap_or, Bool, map, length, refl}
use Rattle.std.specs.List.{enumerate_from}
use Rattle.serde_json.specs.Data.{Data}
use Rattle.def_script.specs.Key.{is_key}
use Rattle.def_files.specs.declared.Format.TheVariants.{One as one}
use Rattle.def_files.specs.declared.Member.{Member}
use Rattle.def_files.specs.declared.Member.TheVariants as member
use Rattle.def_files.specs.declared.AssetFault.{AssetFault}
use Rattle.def_files.specs.declared.AssetFault.TheVariants as fault
use Rattle.def_files.specs.Json.{reading, is_object, is_list_of, spelled}
use Rattle.def_files.specs.Parts.{version, sequence, locktime, format, same_under, list, elements, strings, is_text, is_hex, is_pair, is_hex_pair, key_of, sig_of, pairs}
use Rattle.def_files.specs.Refusals.{unless, no_object, no_list_of, no_hex, too_many}
use Rattle.def_files.specs.AssetFile.{assets_of, asset_refusals, assets_in, is_signature, is_preimage}
use Rattle.def_files.specs.RunFile.{run_of, script_text, run_refusals, run_in}
use Rattle.def_files.specs.Laws.{AssetsWantNoMemory, IsRunFault, RunFaults}
use Rattle.def_files.proofs.Distinct.{is_new}
use Rattle.def_files.proofs.Passing.{Tells, AllTell, unless_tells, each_tells, given_tells}

-- a kind of faults that has those of shapes, numbers, digits and counts
record IsBroad (P : AssetFault → Type 0) : Type 0 where
  shape : (m : Member) → P (fault.Shape m)
  number : (m : Member) → P (fault.Number m)
  hex : (m : Member) (i : ℕ) → P (fault.Hex m i)
  many : (m : Member) → P (fault.TooMany m)

object_tells : (P : AssetFault → Type 0) (file : Data) → IsBroad P → Tells P (no_object file)
object_tells P file h = unless_tells P (is_object file) (fault.Shape member.Whole) (h.shape member.Whole)

list_tells : (P : AssetFault → Type 0) (right : Data → Bool) (m : Member) (file : Data) → IsBroad P →
    Tells P (no_list_of right m file)
list_tells P right m file h = unless_tells P (is_list_of right (list m file)) (fault.Shape m) (h.shape m)

number_tells : {A : Type 0} (P : AssetFault → Type 0) (number : Option A) (m : Member) → IsBroad P →
    Tells P (unless (is_some number) (fault.Number m))
number_tells P number m h = unless_tells P (is_some number) (fault.Number m) (h.number m)

hex_tells : (P : AssetFault → Type 0) (right : Data → Bool) (m : Member) (file : Data) → IsBroad P → Tells P (no_hex right m file)
hex_tells P right m file h = each_tells P right (fault.Hex m) (elements m file) (h.hex m)

many_tells : (P : AssetFault → Type 0) (most : ℕ) (m : Member) (file : Data) → IsBroad P → Tells P (too_many most m file)
many_tells P most m file h = unless_tells P (nat_le (length (elements m file)) most) (fault.TooMany m) (h.many m)

-- ---- asset files

abbrev IsNotMemory : AssetFault → Type 0
IsNotMemory e = e ≢ fault.Memory

asset_faults : (file : Data) → AllTell IsNotMemory (asset_refusals file)
asset_faults file =
    let P = IsNotMemory in
    let h : IsBroad P = record { shape = λ m q. cc q; number = λ m q. cc q; hex = λ m i q. cc q; many = λ m q. cc q } in
    let signatures = elements member.Signatures file in
    let same = same_under (unwrap_or (format file) one) in
    assumption (
      object_tells P file h,
      list_tells P is_pair member.Signatures file h,
      list_tells P is_text member.Preimages file h,
      number_tells P (version file) member.Version h,
      number_tells P (sequence file) member.Sequence h,
      number_tells P (locktime file) member.Locktime h,
      number_tells P (format file) member.Format h,
      hex_tells P is_hex_pair member.Signatures file h,
      hex_tells P is_hex member.Preimages file h,
      each_tells P is_key fault.KeyForm (map key_of signatures) (λ i q. cc q),
      each_tells P is_signature fault.SigLength (map sig_of signatures) (λ i q. cc q),
      each_tells P is_preimage fault.PreimageLength (strings member.Preimages file) (λ i q. cc q),
      many_tells P 256 member.Signatures file h,
      many_tells P 256 member.Preimages file h,
      each_tells P (is_new same (pairs file)) fault.RepeatedKey (enumerate_from 0 (pairs file)) (λ i q. cc q),
    )

pub assets_want_no_memory : AssetsWantNoMemory
unfolding assets_of
assets_want_no_memory bytes e =
    given_tells IsNotMemory asset_refusals assets_in (reading bytes) fault.Memory (λ q. cc q) asset_faults e refl

-- ---- run files

run_faults_tell : (file : Data) → AllTell IsRunFault (run_refusals file)
run_faults_tell file =
    let P = IsRunFault in
    let h : IsBroad P = record { shape = λ m. tt; number = λ m. tt; hex = λ m i. tt; many = λ m. tt } in
    assumption (
      object_tells P file h,
      list_tells P is_pair member.Signatures file h,
      unless_tells P (is_some (script_text file)) (fault.Shape member.Script) tt,
      list_tells P is_text member.Witness file h,
      number_tells P (version file) member.Version h,
      number_tells P (sequence file) member.Sequence h,
      number_tells P (locktime file) member.Locktime h,
      hex_tells P is_hex_pair member.Signatures file h,
      unless_tells P (is_some (spelled (script_text file))) (fault.Hex member.Script 0) tt,
      hex_tells P is_hex member.Witness file h,
      many_tells P 256 member.Signatures file h,
      many_tells P 2000 member.Witness file h,
    )

pub run_faults : RunFaults
unfolding run_of
run_faults bytes e q = given_tells IsRunFault run_refusals run_in (reading bytes) e tt run_faults_tell q
