-- What is promised of the final witness of an input.
use Rattle.def_script.specs.Bytes.{Bytes}
use Rattle.def_machine.specs.Stacks.{Checker}
use Rattle.def_machine.specs.Program.{program_of}
use Rattle.def_assets.specs.Assets.{Assets}
use Rattle.def_satisfaction.specs.Satisfaction.{Holds}
use Rattle.def_choice.specs.NonMalleable.{given_with}
use Rattle.ms_replay.specs.Answering.{IsAccepting}
use Rattle.ms_witness.specs.Replaying.{replay}

-- where the signatures of the assets are good, whatever others are, the bytes of the witness replay as a run that is accepted,
-- against the program of the script and with the locks of the assets
abbrev pub IsReplayed : Assets → (script witness : Bytes) → Type 0
IsReplayed assets script witness =
    (checker : Checker) → Holds checker assets → IsAccepting (replay (given_with assets checker) (program_of script) witness)
