use Rattle.def_files.proofs.laws.files.Goals as goal
use Rattle.def_files.proofs.Given.{asset_file_gives_assets, run_file_gives_run}
use Rattle.def_files.proofs.Faults.{assets_want_no_memory, run_faults}

pub returns : goal.returns
returns c = record { assets = asset_file_gives_assets; run = run_file_gives_run; no_memory = assets_want_no_memory; run_faults = run_faults }
