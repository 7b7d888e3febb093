-- That the assets of a file are few, and what they hold of its form.
use Rattle.std.proofs.Common.{◌≡◌, Some, Ok, inl, inr, sym, ◌∙◌, ap}
use Rattle.serde_json.specs.Data.{Data}
use Rattle.def_script.specs.Bytes.{Bytes}
use Rattle.def_assets.specs.Assets.{Assets}
use Rattle.def_files.specs.Json.{reading}
use Rattle.def_files.specs.Refusals.{unless_any, given}
use Rattle.def_files.specs.AssetFile.{asset_refusals, assets_in, assets_of}
use Rattle.def_files.specs.Laws.{AreFewAssets}
use Rattle.def_files.proofs.Given.{asset_file_gives_assets}
use Rattle.ms_assets.specs.Parts.{IsOrMemory}

pub file_few : (bytes : Bytes) (file : Data) (assets : Assets) → reading bytes ≡ Some file → IsOrMemory (unless_any (asset_refusals file) (assets_in file)) (Ok assets) → AreFewAssets assets
unfolding assets_of
file_few bytes file assets read (inl e) = asset_file_gives_assets bytes assets (ap (given (λ f. unless_any (asset_refusals f) (assets_in f))) read ∙ sym e)
file_few bytes file assets read (inr e) = absurd (let no = e in cc)
