-- What the definitions imply.
use Rattle.std.specs.Prelude.{◌≡◌, ◌≢◌, ◌^◌, ◌<◌, ◌≤◌, ⊤, length, All, Ok, Err}
use Rattle.def_script.specs.Bytes.{Bytes, IsBytes}
use Rattle.def_assets.specs.Assets.{Assets, AreAssets}
use Rattle.def_files.specs.declared.AssetFault.{AssetFault}
use Rattle.def_files.specs.declared.AssetFault.TheVariants as fault
use Rattle.def_files.specs.Refusals.{MOST_SIGNATURES}
use Rattle.def_files.specs.AssetFile.{MOST_PREIMAGES, assets_of}
use Rattle.def_files.specs.RunFile.{RunFile, MOST_ELEMENTS, run_of}

-- what an asset file gives are assets, and there aren't too many
pub record AreFewAssets (assets : Assets) : Type 0 where
  pub held : AreAssets assets
  pub signatures : length assets.pairs ≤ MOST_SIGNATURES
  pub preimages : length assets.preimages ≤ MOST_PREIMAGES

abbrev pub AssetFileGivesAssets : Type 0
AssetFileGivesAssets = (bytes : Bytes) (assets : Assets) → assets_of bytes ≡ Ok assets → AreFewAssets assets

-- what a run file gives are byte strings and numbers of 32 bits, and there aren't too many
pub record IsRunFile (file : RunFile) : Type 0 where
  pub script : IsBytes file.script
  pub stack : All IsBytes file.stack
  pub elements : length file.stack ≤ MOST_ELEMENTS
  pub keys : All (λ pair. IsBytes pair.0) file.pairs
  pub sigs : All (λ pair. IsBytes pair.1) file.pairs
  pub signatures : length file.pairs ≤ MOST_SIGNATURES
  pub version : file.locks.version < 2 ^ 32
  pub sequence : file.locks.sequence < 2 ^ 32
  pub locktime : file.locks.locktime < 2 ^ 32

abbrev pub RunFileGivesRun : Type 0
RunFileGivesRun = (bytes : Bytes) (file : RunFile) → run_of bytes ≡ Ok file → IsRunFile file

-- no file is refused for want of memory
abbrev pub AssetsWantNoMemory : Type 0
AssetsWantNoMemory = (bytes : Bytes) → assets_of bytes ≢ Err fault.Memory

-- a run file is refused for its reading, shapes, numbers, digits and counts alone
abbrev pub IsRunFault : AssetFault → Type 0
IsRunFault fault.NotJson = ⊤
IsRunFault (fault.Shape m) = ⊤
IsRunFault (fault.Number m) = ⊤
IsRunFault (fault.Hex m i) = ⊤
IsRunFault (fault.KeyForm i) = ⊥
IsRunFault (fault.SigLength i) = ⊥
IsRunFault (fault.PreimageLength i) = ⊥
IsRunFault (fault.TooMany m) = ⊤
IsRunFault (fault.RepeatedKey i) = ⊥
IsRunFault fault.Memory = ⊥

abbrev pub RunFaults : Type 0
RunFaults = (bytes : Bytes) (e : AssetFault) → run_of bytes ≡ Err e → IsRunFault e
