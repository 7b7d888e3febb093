use Rattle.std.proofs.Common.{[], ap, refl, sym, ◌∙◌, arith}
use Rattle.std.proofs.lemmas.Result.{err_from_is_err_and}
use Rattle.def_text.specs.declared.TextFault.TheVariants.{Syntax}
use Rattle.def_text.specs.Scaffolding.Reader.{expression}
use Rattle.ms_tree.specs.Shape.{shape}
use Rattle.ms_text.specs.Scaffolding.Place.{machine_from}
use Rattle.ms_text.proofs.AnswerLemmas.{along}
use Rattle.ms_text.proofs.TextLemmas.{place_first, whole, refusal, trailing, offset_each}
use Rattle.ms_text.proofs.reader.Reader.text_tree.Goals as goal

pub expression-requires-clause-place : goal.expression-requires-clause-place
expression-requires-clause-place c = place_first c.args.self.now.text.now c.requires.utf8 c.requires.short

pub returns-in_err-part-clause-refused : goal.returns-in_err-part-clause-refused
returns-in_err-part-clause-refused c =
    let p = err_from_is_err_and c.from_residual.result c.from_residual.ensures.1 in
    rw (p.1, p.2) (refusal c.args.self.now.text.now c.in_err-part.field-0.0 c.requires.utf8 c.requires.short
    (along _ _ _ (ap (λ os. machine_from (expression, [], os) c.args.self.now.text.now 0) (sym c.new-offsets.ensures.items)) (c.in_err-part.ensures.reads [] refl)))

pub returns-then-part-self-clause-refused : goal.returns-then-part-self-clause-refused
returns-then-part-self-clause-refused c =
    refusal c.args.self.now.text.now (Syntax c.in_ok-part.part.end) c.requires.utf8 c.requires.short
    (trailing c.args.self.now.text.now (shape c.in_ok-part.part.tree) c.expression.new.offsets.items c.in_ok-part.part.end
    (ap (λ os. machine_from (expression, [], os) c.args.self.now.text.now 0) (sym c.new-offsets.ensures.items) ∙ c.in_ok-part.ensures.reads [] refl)
    c.in_ok-part.ensures.part.place (omega arith))

pub invariant_of-result : goal.invariant_of-result
invariant_of-result c = record {
  offset_each = offset_each c.args.self.now.text.now (shape c.in_ok-part.part.tree) c.expression.new.offsets.items
      (whole c.args.self.now.text.now (shape c.in_ok-part.part.tree) c.expression.new.offsets.items c.in_ok-part.part.end c.requires.utf8 c.requires.short
      (ap (λ os. machine_from (expression, [], os) c.args.self.now.text.now 0) (sym c.new-offsets.ensures.items) ∙ c.in_ok-part.ensures.reads [] refl) (omega arith));
}

pub returns-clause-read : goal.returns-clause-read
returns-clause-read c =
    whole c.args.self.now.text.now (shape c.in_ok-part.part.tree) c.expression.new.offsets.items c.in_ok-part.part.end c.requires.utf8 c.requires.short
    (ap (λ os. machine_from (expression, [], os) c.args.self.now.text.now 0) (sym c.new-offsets.ensures.items) ∙ c.in_ok-part.ensures.reads [] refl) (omega arith)
