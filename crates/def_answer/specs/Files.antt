-- The lines of refusals of files.
use Rattle.std.specs.Prelude.{[], ◌++◌, codes, decimal}
use Rattle.def_script.specs.Bytes.{Bytes}
use Rattle.def_files.specs.declared.AssetFault.{AssetFault}
use Rattle.def_files.specs.declared.AssetFault.TheVariants as file_fault
use Rattle.def_files.specs.Json.{member_name}
use Rattle.def_answer.specs.Lines.{line}

abbrev pub file_too_long_line : Bytes
file_too_long_line = line (codes "refused file TooLong")

-- the refusal's name, the member and the place, as far as it has them
abbrev pub file_line : AssetFault → Bytes
file_line file_fault.NotJson = line (codes "refused file NotJson")
file_line (file_fault.Shape m) = line (codes "refused file Shape " ++ member_name m)
file_line (file_fault.Number m) = line (codes "refused file Number " ++ member_name m)
file_line (file_fault.Hex m i) = line (codes "refused file Hex " ++ member_name m ++ codes " " ++ decimal i)
file_line (file_fault.KeyForm i) = line (codes "refused file KeyForm " ++ decimal i)
file_line (file_fault.SigLength i) = line (codes "refused file SigLength " ++ decimal i)
file_line (file_fault.PreimageLength i) = line (codes "refused file PreimageLength " ++ decimal i)
file_line (file_fault.TooMany m) = line (codes "refused file TooMany " ++ member_name m)
file_line (file_fault.RepeatedKey i) = line (codes "refused file RepeatedKey " ++ decimal i)
file_line file_fault.Memory = []
