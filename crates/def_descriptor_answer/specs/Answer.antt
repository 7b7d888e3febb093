-- The answer of `msat-descriptor`: for each list of words and each content of the source a status and a report.
use Rattle.std.specs.Prelude.{◌≡◌, List, Option, Some, None}
use Rattle.def_script.specs.Bytes.{Bytes}
use Rattle.def_descriptor_answer.specs.declared.status.Status.{Status}
use Rattle.def_descriptor_answer.specs.Words.{Command, check, derive, update, command_of}
use Rattle.def_descriptor_answer.specs.Reply.{Reply, reply, usage_reply, RepliesToCheck, RepliesToDerive, RepliesToText}
use Rattle.def_descriptor_answer.specs.Update.{RepliesToUpdate}

-- the reply to what is asked: what the source holds counts for `update` alone
abbrev pub RepliesToCommand : Command → (source : Bytes) → Reply → Type 0
RepliesToCommand (check text) source r = RepliesToText text (RepliesToCheck text) r
RepliesToCommand (derive asked) source r = RepliesToText asked.text (RepliesToDerive asked) r
RepliesToCommand (update text count) source r = RepliesToText text (RepliesToUpdate count source) r

-- the reply to words: to what they ask, or where they ask nothing
abbrev pub RepliesToWords : Option Command → (source : Bytes) → Reply → Type 0
RepliesToWords (Some command) source r = RepliesToCommand command source r
RepliesToWords None source r = r ≡ usage_reply

-- the words and the source have this answer
pub record Answer (words : List Bytes) (source : Bytes) (status : Status) (report : Bytes) : Type 0 where
  pub replies : RepliesToWords (command_of words) source (reply status report)
