-- What reading a run file answers.
use Rattle.std.specs.Prelude.{nat_le, List, [], ◌∷◌, length, Result, Ok, Err}
use Rattle.def_script.specs.Bytes.{Bytes}
use Rattle.def_machine.specs.Stacks.{Pairs}
use Rattle.def_files.specs.declared.Member.TheVariants as member
use Rattle.def_files.specs.declared.AssetFault.{AssetFault}
use Rattle.def_files.specs.declared.AssetFault.TheVariants as fault
use Rattle.def_files.specs.Refusals.{Refusal, unless, MOST_SIGNATURES}
use Rattle.def_files.specs.RunFile.{RunFile as Run, MOST_ELEMENTS}
use Rattle.ms_assets.specs.declared.run_file.RunFile.{RunFile}

-- a run file as the definition's
abbrev pub run_seen : Result RunFile AssetFault → Result Run AssetFault
run_seen (Ok file) = Ok (record { script = file.script; stack = file.stack; locks = file.locks; pairs = file.pairs })
run_seen (Err why) = Err why

-- the refusals of a run file that speak of numbers of elements
abbrev pub count_refusals : Pairs → (stack : List Bytes) → List Refusal
count_refusals pairs stack =
    unless (nat_le (length pairs) MOST_SIGNATURES) (fault.TooMany member.Signatures) ∷
    unless (nat_le (length stack) MOST_ELEMENTS) (fault.TooMany member.Witness) ∷ []
