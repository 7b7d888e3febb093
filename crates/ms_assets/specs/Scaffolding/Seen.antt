-- Parts of assets as contracts see them.
use Rattle.std.specs.Prelude.{Result, Ok, Err}
use Rattle.def_assets.specs.Assets.{Assets}
use Rattle.def_files.specs.declared.AssetFault.{AssetFault}
use Rattle.ms_assets.specs.declared.asset_file.AssetParts.{AssetParts}

abbrev pub held : AssetParts → Assets
held parts = record { locks = parts.locks; pairs = parts.pairs; preimages = parts.preimages.items }

abbrev pub parts_seen : Result AssetParts AssetFault → Result Assets AssetFault
parts_seen (Ok parts) = Ok (held parts)
parts_seen (Err why) = Err why
