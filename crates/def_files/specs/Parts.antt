-- The parts of an asset file and of a run file. Where a part isn't as it has to be it is none, and then the
-- file is refused.
use Rattle.std.specs.Prelude.{ℕ, ◌==◌, ◌&&◌, Bool, is_some, if◌then◌else◌, List, [], codes, map, Option, Some, None, unwrap_or}
use Rattle.serde_json.specs.Data.{Data}
use Rattle.serde_json.specs.Find.{as_str}
use Rattle.def_script.specs.Bytes.{Bytes}
use Rattle.def_machine.specs.declared.Locks.{Locks}
use Rattle.def_machine.specs.Stacks.{Pairs}
use Rattle.def_assets.specs.Assets.{same_key, same_pair}
use Rattle.def_files.specs.declared.Format.{Format}
use Rattle.def_files.specs.declared.Format.TheVariants as formats
use Rattle.def_files.specs.declared.Member.{Member}
use Rattle.def_files.specs.declared.Member.TheVariants as member
use Rattle.def_files.specs.Json.{find_member, number_or, elements_or_empty, text_at, spelled}

-- ---- locks

-- version 2, which relative timelocks need (BIP 68), where it is missing
abbrev pub version : Data → Option ℕ
version file = number_or 2 (find_member member.Version file)

-- the last sequence number that leaves the locktime in force (BIP 65)
abbrev pub sequence : Data → Option ℕ
sequence file = number_or 0xfffffffe (find_member member.Sequence file)

abbrev pub locktime : Data → Option ℕ
locktime file = number_or 0 (find_member member.Locktime file)

abbrev pub locks : Data → Locks
locks file = record {
  version = unwrap_or (version file) 0;
  sequence = unwrap_or (sequence file) 0;
  locktime = unwrap_or (locktime file) 0;
}

-- ---- the format

-- the format that a number names
abbrev pub format_of : Option ℕ → Option Format
format_of None = None
format_of (Some n) = if n == 1 then Some formats.One else if n == 2 then Some formats.Two else None

-- the format of an asset file, which is 1 where it is missing
abbrev pub format : Data → Option Format
format file = format_of (number_or 1 (find_member member.Format file))

-- what may not stand twice: in format 1 a key, in format 2 a key with one signature
abbrev pub same_under : Format → (these those : Bytes × Bytes) → Bool
same_under formats.One = same_key
same_under formats.Two = same_pair

-- ---- lists

-- the list of a file, and its elements
abbrev pub list : Member → Data → Option (List Data)
list m file = elements_or_empty (find_member m file)

abbrev pub elements : Member → Data → List Data
elements m file = unwrap_or (list m file) []

-- an element that is a text, and the bytes that it spells
abbrev pub is_text : Data → Bool
is_text e = is_some (as_str e)

abbrev pub is_hex : Data → Bool
is_hex e = is_some (spelled (as_str e))

abbrev pub bytes_of : Data → Bytes
bytes_of e = unwrap_or (spelled (as_str e)) []

-- a signature with its key: an object with the texts `key` and `sig`
abbrev pub key_text : Data → Option Bytes
key_text e = text_at (codes "key") e

abbrev pub sig_text : Data → Option Bytes
sig_text e = text_at (codes "sig") e

abbrev pub is_pair : Data → Bool
is_pair e = is_some (key_text e) && is_some (sig_text e)

abbrev pub is_hex_pair : Data → Bool
is_hex_pair e = is_some (spelled (key_text e)) && is_some (spelled (sig_text e))

abbrev pub key_of : Data → Bytes
key_of e = unwrap_or (spelled (key_text e)) []

abbrev pub sig_of : Data → Bytes
sig_of e = unwrap_or (spelled (sig_text e)) []

abbrev pub pairs : Data → Pairs
pairs file = map (λ e. (key_of e, sig_of e)) (elements member.Signatures file)

-- the byte strings of a list
abbrev pub strings : Member → Data → List Bytes
strings m file = map bytes_of (elements m file)
