use Rattle.std.proofs.Common.{◌≡◌, Some, None, sym, ◌∙◌, arith}
use Rattle.ms_text.proofs.KeyLemmas.{key_word, key_place, key_goes, key_stops}
use Rattle.ms_text.proofs.arguments.key_at.Goals as goal

pub returns-in_default-clause-reads : goal.returns-in_default-clause-reads
returns-in_default-clause-reads c = λ s next t.
    key_stops c.args.text.now c.key_digits_at-digits.result.now c.args.at c.requires c.key_digits_at-digits.ensures s next
    (λ key e. let clash : None ≡ Some key = sym c.in_default.is ∙ (c.key_spelled.ensures.key ∙ e) in absurd (cc)) t

pub returns-then-is_word_at-clause-reads : goal.returns-then-is_word_at-clause-reads
returns-then-is_word_at-clause-reads c = λ s next t.
    key_stops c.args.text.now c.key_digits_at-digits.result.now c.args.at c.requires c.key_digits_at-digits.ensures s next
    (λ key e. sym c.is_word_at.ensures ∙ c.if-is_word_at.true) t

pub returns-clause-after : goal.returns-clause-after
returns-clause-after c = omega (arith, (key_word c.key_digits_at-digits.result.now c.in-Some.value (sym c.key_spelled.ensures.key ∙ c.in-Some.is)).0)

pub returns-clause-place : goal.returns-clause-place
returns-clause-place c =
    key_place c.args.text.now c.key_digits_at-digits.result.now c.args.at c.requires c.key_digits_at-digits.ensures c.in-Some.value (sym c.key_spelled.ensures.key ∙ c.in-Some.is)

pub returns-clause-reads : goal.returns-clause-reads
returns-clause-reads c = λ s next t.
    key_goes c.args.text.now c.key_digits_at-digits.result.now c.args.at c.requires c.key_digits_at-digits.ensures c.in-Some.value s next (sym c.key_spelled.ensures.key ∙ c.in-Some.is)
    (sym c.is_word_at.ensures ∙ c.if-is_word_at.false) t
