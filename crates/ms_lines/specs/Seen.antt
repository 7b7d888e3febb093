-- What a line asks, as contracts see what was read of it.
use Rattle.std.specs.Prelude.{map, Option, option_map}
use Rattle.std.specs.String.{string_bytes}
use Rattle.serde_json.specs.View.{view}
use Rattle.def_lines.specs.Question.{Id, whole, text, Line, asks, refused, text_in}
use Rattle.ms_lines.specs.declared.question.Id.{Id as Told}
use Rattle.ms_lines.specs.declared.question.Id.TheVariants as told
use Rattle.ms_lines.specs.declared.plain.Plain.{Plain}
use Rattle.ms_lines.specs.declared.question.Asked.{Asked}
use Rattle.ms_lines.specs.declared.question.Asked.TheVariants as asked

abbrev pub id_seen : Told → Id
id_seen (told.Whole n) = whole n
id_seen (told.Text t) = text t.now

abbrev pub ids_seen : Option Told → Option Id
ids_seen id = option_map id_seen id

abbrev pub line_seen : Asked → Line
line_seen (asked.Question question) = asks (ids_seen question.id) (map text_in (map view question.words.now)) question.source.now
line_seen (asked.Refused id fault) = refused (ids_seen id) fault

abbrev pub plain_seen : Plain → Line
plain_seen question = asks (ids_seen question.id) (map string_bytes question.words.items) question.source.now
