use Rattle.std.proofs.Common.{sym, ◌∙◌}
use Rattle.ms_text.proofs.PlaceLemmas.{place_behind_mark, mark_goes, mark_elsewhere, elsewhere_stops, byte_at, no_byte_at}
use Rattle.ms_text.specs.Scaffolding.Marks.{mark_read}
use Rattle.ms_text.specs.Scaffolding.Place.{rest}
use Rattle.ms_text.proofs.tokens.behind_mark.Goals as goal

pub returns-then-is_byte_at-clause-place : goal.returns-then-is_byte_at-clause-place
returns-then-is_byte_at-clause-place c =
    let (within, is) = byte_at c.args.text.now c.args.at c.byte.result (sym c.is_byte_at.ensures ∙ c.if-is_byte_at.true) in
    place_behind_mark c.args.text.now c.args.at c.args.mark c.requires within (is ∙ c.byte.ensures)

pub returns-then-is_byte_at-clause-reads : goal.returns-then-is_byte_at-clause-reads
returns-then-is_byte_at-clause-reads c = λ s n t.
    let (within, is) = byte_at c.args.text.now c.args.at c.byte.result (sym c.is_byte_at.ensures ∙ c.if-is_byte_at.true) in
    mark_goes c.args.text.now c.args.at c.args.mark s n within (is ∙ c.byte.ensures) t

pub returns-clause-reads : goal.returns-clause-reads
returns-clause-reads c = λ s n t.
    elsewhere_stops (mark_read c.args.mark) s (λ u. n) (rest c.args.text.now c.args.at) c.args.at t
    (mark_elsewhere c.args.text.now c.args.at c.args.mark c.requires (λ within is.
    no_byte_at c.args.text.now c.args.at c.byte.result (sym c.is_byte_at.ensures ∙ c.if-is_byte_at.false) within (is ∙ sym c.byte.ensures)))
