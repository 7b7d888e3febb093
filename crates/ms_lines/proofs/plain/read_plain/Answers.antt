use Rattle.std.proofs.Common.{◌≡◌, ◌∙◌, ◌∷◌, ap, sym, arith}
use Rattle.std.specs.Str.{IsUtf8}
use Rattle.json.specs.Token.{Token}
use Rattle.json.specs.Lex.{tokens}
use Rattle.ms_lines.proofs.PlainLemmas.{if_ok, line_is}
use Rattle.ms_lines.proofs.plain.read_plain.Goals as goal

pub returns : goal.returns
returns c =
    let first : c.in_ok-reader.reader ≡ Token.begin_object ∷ c.next.new.self = grind arith in
    let same : c.in-Ok.text.now ≡ c.args.line.now = c.in-Ok.ensures.cases.0 in
    let utf8 : IsUtf8 c.args.line.now = c.in-Ok.ensures.cases.1 in
    let begins : tokens c.args.line.now ≡ Token.begin_object ∷ c.next.new.self = ap tokens (sym same) ∙ sym c.in_ok-reader.ensures.ok ∙ first in
    if_ok c.read_members.result _ _ (λ question e. line_is c.args.line.now c.next.new.self e.0 utf8 begins e.1 ∙ e.2) c.read_members.ensures
