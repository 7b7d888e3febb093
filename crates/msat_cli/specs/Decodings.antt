-- What a call of `msat` for `decode HEX KEY..` shows.
use Rattle.std.specs.Prelude.{◌≡◌, ◌++◌, List, codes, map}
use Rattle.std.specs.Io.KnownBytes.{Appends}
use Rattle.def_script.specs.Bytes.{Bytes}
use Rattle.def_tree.specs.Tree.{Key, Tree}
use Rattle.def_text.specs.Print.{printed}
use Rattle.def_decode.specs.Decoded.{IsReading, IsDecoded}
use Rattle.def_decode.specs.Alike.{IsLikeEach}
use Rattle.ms_decode_laws.specs.Printed.{PrintIsRead}
use Rattle.def_answer.specs.declared.status.Status.TheVariants as status
use Rattle.def_answer.specs.Answer.{bytes_of}
use Rattle.def_answer.specs.Lines.{line}
use Rattle.def_answer.specs.Words.{decode, IsForm}
use Rattle.ms_io.specs.Sides.{Side}
use Rattle.msat_cli.specs.Calls.{Call, EndsAs}

-- what the sink got: the printed form of the tree that the Script is decoded to, which is like each that it can be read as, and
-- so sane exactly where one with the same keys is; and this text is read as the tree
pub record PrintsTree (sink : Side) (keys : List Key) (script : Bytes) : Type 0 where
  pub tree : Tree
  pub decoded : IsDecoded keys script tree
  pub alike : IsLikeEach keys script tree
  pub read : PrintIsRead tree
  pub written : Appends sink.old sink.new (line (codes "text " ++ printed tree))

-- or that it can't be read
pub record PrintsNone (sink : Side) (keys : List Key) (script : Bytes) : Type 0 where
  pub none : (tree : Tree) → ¬ IsReading keys script tree
  pub written : Appends sink.old sink.new (line (codes "no reading"))

-- faults and want of memory aside, the call is done exactly where the Script can be read with these keys, and ends with
-- the other status exactly where it can't
pub record ReadsBack (call : Call) (keys : List Key) (script : Bytes) : Type 0 where
  pub where_some : (tree : Tree) → IsReading keys script tree → EndsAs status.Done call
  pub where_none : ((tree : Tree) → ¬ IsReading keys script tree) → EndsAs status.NoReading call
  pub some : call.status ≡ status.Done → PrintsTree call.sink keys script
  pub none : call.status ≡ status.NoReading → PrintsNone call.sink keys script

-- words that ask for the text of a Script do so, and no others end with that status
pub record ShowsReading (call : Call) : Type 0 where
  pub reads : (digits : Bytes) (words : List Bytes) → IsForm call.words (decode digits words) →
      ReadsBack call (map bytes_of words) (bytes_of digits)
  pub asked : call.status ≡ status.NoReading → (digits : Bytes) × (words : List Bytes) × IsForm call.words (decode digits words)
