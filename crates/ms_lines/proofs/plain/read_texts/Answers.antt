use Rattle.std.proofs.Common.{◌≡◌, ◌∙◌, [], ◌∷◌, ◌++◌, None, map, ap, sym, subst, rules, arith}
use Rattle.std.specs.String.{string_bytes}
use Rattle.json.specs.Token.{Token}
use Rattle.json.specs.Json.{after_end_array}
use Rattle.ms_lines.proofs.PlainLemmas.{TextsSoFar, one_more_text, texts_more, texts_end}
use Rattle.ms_lines.proofs.plain.read_texts.Goals as goal

pub items-preserved : goal.items-preserved
items-preserved c =
    let going : (after_end_array c.items.reader ≡ None) × (c.take_end_array.new.self ≡ c.items.reader) = grind arith in
    let is : c.take_end_array.new.self ≡ Token.string c.in_ok-text.text.now ∷ c.read_text.new.reader = c.in_ok-text.ensures in
    let copied : string_bytes c.in_ok-from_str.field-0 ≡ c.in_ok-text.text.now = search rules in
    let pushed : map string_bytes c.push.new.self.items ≡ map string_bytes c.items.words.items ++ c.in_ok-text.text.now ∷ [] =
    ap (map string_bytes) c.in_ok-push.ensures.items ∙ one_more_text string_bytes c.items.words.items c.in_ok-from_str.field-0 c.in_ok-text.text.now copied in
    subst (TextsSoFar c.args.reader.now c.read_text.new.reader) (sym pushed)
    (texts_more c.args.reader.now c.items.reader c.read_text.new.reader (map string_bytes c.items.words.items) c.in_ok-text.text.now going.0
    (sym going.1 ∙ is) c.items.invariant)

pub returns-clause-reads : goal.returns-clause-reads
returns-clause-reads c =
    texts_end c.args.reader.now c.items.reader c.take_end_array.new.self (map string_bytes c.items.words.items) c.items-test.ensures c.items.invariant
