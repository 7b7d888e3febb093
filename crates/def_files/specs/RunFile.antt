-- The run file: a script, the stack that it runs on, the values of the locks and the good signatures.
use Rattle.std.specs.Prelude.{ℕ, is_some, List, [], ◌∷◌, Option, Result, unwrap_or}
use Rattle.serde_json.specs.Data.{Data}
use Rattle.def_script.specs.Bytes.{Bytes}
use Rattle.def_machine.specs.declared.Locks.{Locks}
use Rattle.def_machine.specs.Stacks.{Pairs}
use Rattle.def_files.specs.declared.Member.TheVariants as member
use Rattle.def_files.specs.declared.AssetFault.{AssetFault}
use Rattle.def_files.specs.declared.AssetFault.TheVariants as fault
use Rattle.def_files.specs.Json.{reading, member_name, text_at, spelled}
use Rattle.def_files.specs.Parts.{locks, is_text, is_hex, is_pair, is_hex_pair, pairs, strings}
use Rattle.def_files.specs.Refusals.{Refusal, unless, unless_any, given, no_object, no_list_of, no_version, no_sequence, no_locktime, no_hex, too_many, MOST_SIGNATURES}

pub record RunFile : Type 0 where
  pub script : Bytes
  -- bottom first, without the script
  pub stack : List Bytes
  pub locks : Locks
  -- the pairs of key and signature that are good
  pub pairs : Pairs

-- how many elements the stack may have
abbrev pub MOST_ELEMENTS : ℕ
MOST_ELEMENTS = 2000

-- the text of the script
abbrev pub script_text : Data → Option Bytes
script_text file = text_at (member_name member.Script) file

-- after NotJson, which is number 1. Keys and signatures have any form and length, and keys may repeat
abbrev pub run_refusals : Data → List Refusal
run_refusals file =
    -- 2, the shape
    no_object file ∷
    no_list_of is_pair member.Signatures file ∷
    unless (is_some (script_text file)) (fault.Shape member.Script) ∷
    no_list_of is_text member.Witness file ∷
    -- 3, the numbers
    no_version file ∷
    no_sequence file ∷
    no_locktime file ∷
    -- 4, the digits
    no_hex is_hex_pair member.Signatures file ∷
    unless (is_some (spelled (script_text file))) (fault.Hex member.Script 0) ∷
    no_hex is_hex member.Witness file ∷
    -- 8, how many there are
    too_many MOST_SIGNATURES member.Signatures file ∷
    too_many MOST_ELEMENTS member.Witness file ∷ []

-- what stands in a run file
abbrev pub run_in : Data → RunFile
run_in file = record {
  script = unwrap_or (spelled (script_text file)) [];
  stack = strings member.Witness file;
  locks = locks file;
  pairs = pairs file;
}

-- what the bytes of a run file give, or why they are refused
unfoldable pub run_of : Bytes → Result RunFile AssetFault
run_of bytes = given (λ file. unless_any (run_refusals file) (run_in file)) (reading bytes)
