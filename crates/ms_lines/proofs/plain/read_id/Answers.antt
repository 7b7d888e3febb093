use Rattle.std.proofs.Common.{◌≡◌, ◌∷◌, Option, IfSome, subst, sym, arith}
use Rattle.json.specs.Token.{Token}
use Rattle.def_lines.specs.Question.{id_in}
use Rattle.ms_lines.specs.declared.plain.Unread.TheVariants.{Other}
use Rattle.ms_lines.specs.declared.question.Id.{Id as Told}
use Rattle.ms_lines.specs.Seen.{id_seen}
use Rattle.ms_lines.specs.Scaffolding.Tokens.{Reads}
use Rattle.std.proofs.Common.{Some}
use Rattle.ms_lines.proofs.PlainLemmas.{told_id_read, text_id_read, number_id_read}
use Rattle.ms_lines.proofs.plain.read_id.Goals as goal
use Rattle.ms_lines.proofs.plain.read_id.Goals.{in-Some-String, in-Some-Number, in_default}

pub returns-clause-reads : goal.returns-clause-reads
returns-clause-reads c =
    let IsSo : Told → Type 0 = λ id. Reads 126 c.args.reader.now c.next.new.self (λ d. id_in d ≡ Some (id_seen id)) in
    told_id_read c.match-next.id Other c.ok_or.result IsSo c.ok_or.ensures.value
    (elim c.match-next.branch [
      | in-Some-String w ↦
          let first : c.args.reader.now ≡ Token.string w.in-Some-String.text.now ∷ c.next.new.self = grind arith in
          subst (λ (id : Option Told). IfSome id IsSo) (sym w.id-is)
          (text_id_read c.args.reader.now c.next.new.self w.in-Some-String.text.now w.id_text-id.result first w.id_text-id.ensures)
      | in-Some-Number w ↦
          let first : c.args.reader.now ≡ Token.number w.in-Some-Number.text.now ∷ c.next.new.self = grind arith in
          subst (λ (id : Option Told). IfSome id IsSo) (sym w.id-is)
          (number_id_read c.args.reader.now c.next.new.self w.in-Some-Number.text.now w.decimal_id-id.result first w.decimal_id-id.ensures)
      | in_default w ↦ subst (λ (id : Option Told). IfSome id IsSo) (sym w.id-is) tt
    ])
