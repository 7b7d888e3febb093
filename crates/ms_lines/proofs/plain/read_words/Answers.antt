use Rattle.std.proofs.Common.{◌≡◌, ◌∷◌, map, arith}
use Rattle.std.specs.String.{string_bytes}
use Rattle.json.specs.Token.{Token}
use Rattle.ms_lines.proofs.PlainLemmas.{if_ok, words_read}
use Rattle.ms_lines.proofs.plain.read_words.Goals as goal

pub returns-clause-reads : goal.returns-clause-reads
returns-clause-reads c =
    let first : c.args.reader.now ≡ Token.begin_array ∷ c.next.new.self = grind arith in
    if_ok c.read_texts.result _ _
    (λ words e. words_read c.args.reader.now c.next.new.self c.read_texts.new.reader (map string_bytes words.items) first e) c.read_texts.ensures.reads
