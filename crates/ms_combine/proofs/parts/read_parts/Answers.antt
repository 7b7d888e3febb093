use Rattle.std.proofs.Common.{◌≡◌, [], ◌∷◌, Option, ap, subst, ◌∙◌, arith}
use Rattle.std.specs.Prelude.{MatchOption}
use Rattle.std.proofs.lemmas.Result.{err_from_is_err_and}
use Rattle.def_combine.specs.Combine.{line_parts}
use Rattle.ms_combine.specs.declared.lines.Line as text
use Rattle.ms_combine.specs.Scaffolding.Kept.{AreKept, texts_size, parts_with}
use Rattle.ms_combine.specs.Scaffolding.Left.{texts_left, text_of}
use Rattle.ms_combine.proofs.Reading.{first_given, first_stops, same_stop}
use Rattle.ms_combine.proofs.parts.read_parts.Goals as goal

pub returns-in-None-clause-parts : goal.returns-in-None-clause-parts
returns-in-None-clause-parts c =
    let none : texts_left c.args.left.now ≡ [] =
    subst (λ (o : Option text.Line). MatchOption o (texts_left c.args.left.now ≡ [])
    (λ line. texts_left c.args.left.now ≡ text_of line ∷ texts_left c.next_text.new.left)) c.in-None.is c.in_ok-line.ensures.texts in
    ap line_parts none

pub first_part-requires : goal.first_part-requires
first_part-requires c =
    let next : texts_left c.args.left.now ≡ text_of c.in-Some.line ∷ texts_left c.next_text.new.left =
    subst (λ (o : Option text.Line). MatchOption o (texts_left c.args.left.now ≡ [])
    (λ line. texts_left c.args.left.now ≡ text_of line ∷ texts_left c.next_text.new.left)) c.in-Some.is c.in_ok-line.ensures.texts in
    let size = ap texts_size next in
    let most = c.requires.short in
    omega (arith, size, most)

pub returns-in_err-parts-clause-parts : goal.returns-in_err-parts-clause-parts
returns-in_err-parts-clause-parts c =
    let next : texts_left c.args.left.now ≡ text_of c.in-Some.line ∷ texts_left c.next_text.new.left =
    subst (λ (o : Option text.Line). MatchOption o (texts_left c.args.left.now ≡ [])
    (λ line. texts_left c.args.left.now ≡ text_of line ∷ texts_left c.next_text.new.left)) c.in-Some.is c.in_ok-line.ensures.texts in
    let refused = err_from_is_err_and c.from_residual-in_err-parts.result c.from_residual-in_err-parts.ensures.1 in
    rw (refused.1, refused.2, next)
    (first_stops (λ kept first. AreKept kept first []) (λ kept parts. AreKept kept parts.first parts.others) c.in_err-parts.field-0.0 (text_of c.in-Some.line) (texts_left c.next_text.new.left)
    c.in_err-parts.ensures.part)

pub add_parts-requires-clause-short : goal.add_parts-requires-clause-short
add_parts-requires-clause-short c =
    let next : texts_left c.args.left.now ≡ text_of c.in-Some.line ∷ texts_left c.next_text.new.left =
    subst (λ (o : Option text.Line). MatchOption o (texts_left c.args.left.now ≡ [])
    (λ line. texts_left c.args.left.now ≡ text_of line ∷ texts_left c.next_text.new.left)) c.in-Some.is c.in_ok-line.ensures.texts in
    let size = ap texts_size next in
    let most = c.requires.short in
    let few = c.in_ok-parts.ensures.short in
    omega (arith, size, most, few)

pub returns-in_err-add_parts-clause-parts : goal.returns-in_err-add_parts-clause-parts
returns-in_err-add_parts-clause-parts c =
    let next : texts_left c.args.left.now ≡ text_of c.in-Some.line ∷ texts_left c.next_text.new.left =
    subst (λ (o : Option text.Line). MatchOption o (texts_left c.args.left.now ≡ [])
    (λ line. texts_left c.args.left.now ≡ text_of line ∷ texts_left c.next_text.new.left)) c.in-Some.is c.in_ok-line.ensures.texts in
    let first = c.in_ok-parts.ensures.part in
    let all = ap line_parts next ∙ first_given (text_of c.in-Some.line) (texts_left c.next_text.new.left) first.0 first.1 in
    let refused = err_from_is_err_and c.from_residual-in_err-add_parts.result c.from_residual-in_err-add_parts.ensures.1 in
    rw (refused.1, refused.2)
    (same_stop {U = Unit {0}} (λ x all. AreKept c.add_parts.new.parts all.first all.others) (λ kept parts. AreKept kept parts.first parts.others) c.in_err-add_parts.field-0.0
    (parts_with first.0 [] (texts_left c.next_text.new.left)) (line_parts (texts_left c.args.left.now)) all (c.in_err-add_parts.ensures.parts first.0 [] first.2))

pub returns-clause-parts : goal.returns-clause-parts
returns-clause-parts c =
    let next : texts_left c.args.left.now ≡ text_of c.in-Some.line ∷ texts_left c.next_text.new.left =
    subst (λ (o : Option text.Line). MatchOption o (texts_left c.args.left.now ≡ [])
    (λ line. texts_left c.args.left.now ≡ text_of line ∷ texts_left c.next_text.new.left)) c.in-Some.is c.in_ok-line.ensures.texts in
    let first = c.in_ok-parts.ensures.part in
    let all = ap line_parts next ∙ first_given (text_of c.in-Some.line) (texts_left c.next_text.new.left) first.0 first.1 in
    let rest = c.in_ok-add_parts.ensures.parts first.0 [] first.2 in
    (rest.0, all ∙ rest.1, rest.2)
