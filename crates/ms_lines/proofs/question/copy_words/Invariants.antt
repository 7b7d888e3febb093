use Rattle.std.proofs.Common.{◌≡◌, map, take}
use Rattle.std.specs.String.{string_bytes}
use Rattle.serde_json.specs.View.{view}
use Rattle.def_lines.specs.Question.{text_in}
use Rattle.ms_lines.proofs.question.copy_words.Given as goal

abbrev pub invariant-loop-word : goal.invariant-loop-word
invariant-loop-word l = map string_bytes l.copied.items ≡ map text_in (map view (take l.word-index l.words))
