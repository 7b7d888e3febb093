use Rattle.std.proofs.Common.{◌≡◌, List, [], ◌∷◌, ◌++◌, length, Option, refl, ap, subst, arith}
use Rattle.std.specs.Prelude.{MatchOption}
use Rattle.std.proofs.lemmas.Result.{err_from_is_err_and}
use Rattle.def_combine.specs.Combine.{Line}
use Rattle.ms_combine.specs.declared.lines.Line as text
use Rattle.ms_combine.specs.Scaffolding.Kept.{AreKept, texts_size, parts_with}
use Rattle.ms_combine.specs.Scaffolding.Left.{texts_left, text_of}
use Rattle.ms_combine.proofs.Reading.{SoFar, step_on, step_stops, all_read}
use Rattle.ms_combine.proofs.parts.add_parts.Goals as goal

pub lines-init : goal.lines-init
lines-init c = (c.requires.room, c.requires.short, λ first others h. record { first = first; others = others; kept = h; same = refl })

pub next_text-requires : goal.next_text-requires
next_text-requires c = c.lines.invariant.0

pub add_part-requires-clause-text : goal.add_part-requires-clause-text
add_part-requires-clause-text c =
    let next : texts_left c.lines.left ≡ text_of c.in-Some.line ∷ texts_left c.next_text.new.left =
    subst (λ (o : Option text.Line). MatchOption o (texts_left c.lines.left ≡ [])
    (λ line. texts_left c.lines.left ≡ text_of line ∷ texts_left c.next_text.new.left)) c.in-Some.is c.in_ok-line.ensures.texts in
    let size = ap texts_size next in
    let most = c.lines.invariant.1 in
    omega (arith, size, most)

pub add_part-requires-clause-short : goal.add_part-requires-clause-short
add_part-requires-clause-short c = let most = c.lines.invariant.1 in omega (arith, most)

pub lines-smaller : goal.lines-smaller
lines-smaller c =
    let next : texts_left c.lines.left ≡ text_of c.in-Some.line ∷ texts_left c.next_text.new.left =
    subst (λ (o : Option text.Line). MatchOption o (texts_left c.lines.left ≡ [])
    (λ line. texts_left c.lines.left ≡ text_of line ∷ texts_left c.next_text.new.left)) c.in-Some.is c.in_ok-line.ensures.texts in
    let many = ap length next in
    omega (arith, many)

pub lines-preserved : goal.lines-preserved
lines-preserved c =
    let next : texts_left c.lines.left ≡ text_of c.in-Some.line ∷ texts_left c.next_text.new.left =
    subst (λ (o : Option text.Line). MatchOption o (texts_left c.lines.left ≡ [])
    (λ line. texts_left c.lines.left ≡ text_of line ∷ texts_left c.next_text.new.left)) c.in-Some.is c.in_ok-line.ensures.texts in
    let size = ap texts_size next in
    let most = c.lines.invariant.1 in
    let more = c.in_ok-add_part.ensures.short in (
      c.in_ok-line.ensures.room,
      omega (arith, size, most, more),
      λ first others h.
          step_on c.lines.parts c.add_part.new.parts (parts_with first others (texts_left c.args.left.now)) (text_of c.in-Some.line) (texts_left c.next_text.new.left)
          (subst (λ (l : List Line). SoFar c.lines.parts (parts_with first others (texts_left c.args.left.now)) l) next (c.lines.invariant.2 first others h))
          c.in_ok-add_part.ensures.part,
    )

pub returns-in_err-add_part-clause-parts : goal.returns-in_err-add_part-clause-parts
returns-in_err-add_part-clause-parts c = λ first others h.
    let next : texts_left c.lines.left ≡ text_of c.in-Some.line ∷ texts_left c.next_text.new.left =
    subst (λ (o : Option text.Line). MatchOption o (texts_left c.lines.left ≡ [])
    (λ line. texts_left c.lines.left ≡ text_of line ∷ texts_left c.next_text.new.left)) c.in-Some.is c.in_ok-line.ensures.texts in
    let refused = err_from_is_err_and c.from_residual-in_err-add_part.result c.from_residual-in_err-add_part.ensures.1 in
    rw (refused.1, refused.2)
    (step_stops {U = Unit {0}} {V = Unit {0}} (λ first others unit other. AreKept c.add_part.new.parts first (others ++ other ∷ []))
    (λ x all. AreKept c.add_part.new.parts all.first all.others) c.in_err-add_part.field-0.0 c.lines.parts
    (parts_with first others (texts_left c.args.left.now)) (text_of c.in-Some.line) (texts_left c.next_text.new.left)
    (subst (λ (l : List Line). SoFar c.lines.parts (parts_with first others (texts_left c.args.left.now)) l) next (c.lines.invariant.2 first others h))
    c.in_err-add_part.ensures.part)

pub returns-clause-parts : goal.returns-clause-parts
returns-clause-parts c = λ first others h.
    let none : texts_left c.lines.left ≡ [] =
    subst (λ (o : Option text.Line). MatchOption o (texts_left c.lines.left ≡ [])
    (λ line. texts_left c.lines.left ≡ text_of line ∷ texts_left c.next_text.new.left)) c.in_default.is c.in_ok-line.ensures.texts in
    all_read c.lines.parts (parts_with first others (texts_left c.args.left.now))
    (subst (λ (l : List Line). SoFar c.lines.parts (parts_with first others (texts_left c.args.left.now)) l) none (c.lines.invariant.2 first others h))

pub returns-clause-short : goal.returns-clause-short
returns-clause-short c = let most = c.lines.invariant.1 in omega (arith, most)
