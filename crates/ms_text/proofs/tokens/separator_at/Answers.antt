use Rattle.std.proofs.Common.{sym, ◌∙◌}
use Rattle.ms_text.specs.declared.tokens.Mark.TheVariants as mark
use Rattle.ms_text.proofs.PlaceLemmas.{place_behind_mark, comma_goes, close_goes, separator_elsewhere, elsewhere_stops, byte_at, no_byte_at}
use Rattle.ms_text.specs.Scaffolding.Marks.{separator_read}
use Rattle.ms_text.specs.Scaffolding.Place.{rest}
use Rattle.ms_text.proofs.tokens.separator_at.Goals as goal

pub returns-then-is_byte_at-clause-place : goal.returns-then-is_byte_at-clause-place
returns-then-is_byte_at-clause-place c =
    let (within, is) = byte_at c.args.text.now c.args.at 44 (sym c.is_byte_at.ensures ∙ c.if-is_byte_at.true) in
    place_behind_mark c.args.text.now c.args.at mark.Comma c.requires within is

pub returns-then-is_byte_at-clause-reads : goal.returns-then-is_byte_at-clause-reads
returns-then-is_byte_at-clause-reads c = λ s next t.
    let (within, is) = byte_at c.args.text.now c.args.at 44 (sym c.is_byte_at.ensures ∙ c.if-is_byte_at.true) in
    comma_goes c.args.text.now c.args.at s next within is t

pub returns-then-is_byte_at-2-clause-place : goal.returns-then-is_byte_at-2-clause-place
returns-then-is_byte_at-2-clause-place c =
    let (within, is) = byte_at c.args.text.now c.args.at 41 (sym c.is_byte_at-2.ensures ∙ c.if-is_byte_at-2.true) in
    place_behind_mark c.args.text.now c.args.at mark.Close c.requires within is

pub returns-then-is_byte_at-2-clause-reads : goal.returns-then-is_byte_at-2-clause-reads
returns-then-is_byte_at-2-clause-reads c = λ s next t.
    let (within, is) = byte_at c.args.text.now c.args.at 41 (sym c.is_byte_at-2.ensures ∙ c.if-is_byte_at-2.true) in
    close_goes c.args.text.now c.args.at s next within is t

pub returns-clause-reads : goal.returns-clause-reads
returns-clause-reads c = λ s next t.
    elsewhere_stops separator_read s next (rest c.args.text.now c.args.at) c.args.at t
    (separator_elsewhere c.args.text.now c.args.at c.requires
    (no_byte_at c.args.text.now c.args.at 44 (sym c.is_byte_at.ensures ∙ c.if-is_byte_at.false))
    (no_byte_at c.args.text.now c.args.at 41 (sym c.is_byte_at-2.ensures ∙ c.if-is_byte_at-2.false)))
