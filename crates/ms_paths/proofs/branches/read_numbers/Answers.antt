-- One number more, one that stood there before, the last one, and one too many.
use Rattle.std.proofs.Common.{◌≡◌, ℕ, zero, suc, ◌+◌, ◌-◌, List, [], ◌∷◌, ◌++◌, drop, true, false, rules, arith, sym, ap, ◌∙◌, Err}
use Rattle.std.specs.Prelude.{nat_eq}
use Rattle.std.specs.List.{list_any}
use Rattle.def_descriptor.specs.declared.DescriptorFault.TheVariants as fault
use Rattle.def_descriptor.specs.Steps.{read_numbers}
use Rattle.ms_paths.specs.Places.{tokens_at}
use Rattle.ms_paths.specs.Paths.{closed_read}
use Rattle.ms_paths.proofs.Places.{place_is}
use Rattle.ms_paths.proofs.Reading.{handed, reads_along}
use Rattle.ms_paths.proofs.Numbers.{numbers_wrong, numbers_over, numbers_twice, numbers_more, numbers_last}
use Rattle.ms_paths.proofs.branches.read_numbers.Goals as goal

pub returns-in_err-number : goal.returns-in_err-number
returns-in_err-number c =
    handed _ _ _ _ _ _ c.from_residual.ensures.1 (λ n.
    c.loop.invariant.reads
    ∙ numbers_wrong (16 - c.loop.counter) c.loop.numbers.items (tokens_at c.args.text.now c.loop.place) c.in_err-number.field-0.0 (c.in_err-number.ensures n))

pub returns-then-is_among : goal.returns-then-is_among
returns-then-is_among c = λ n.
    let ts = tokens_at c.args.text.now c.loop.place in
    let one : 16 - c.loop.counter ≡ suc (16 - (c.loop.counter + 1)) = omega arith in
    let among : list_any (nat_eq c.in_ok-number.number) c.loop.numbers.items ≡ true =
    ap (list_any (nat_eq c.in_ok-number.number)) (sym c.deref.ensures.value) ∙ (sym c.is_among.ensures ∙ c.if-is_among.true) in
    c.loop.invariant.reads
    ∙ (ap (λ (z : ℕ). read_numbers z c.loop.numbers.items ts) one
    ∙ (numbers_twice (16 - (c.loop.counter + 1)) c.loop.numbers.items ts (tokens_at c.args.text.now c.in_ok-number.behind) c.in_ok-number.number
    c.in_ok-number.ensures.0 among
    ∙ ap (λ (z : ℕ). Err (fault.Multipath z)) (place_is c.args.text.now c.loop.place)))

pub returns-in_default : goal.returns-in_default
returns-in_default c =
    let ts = tokens_at c.args.text.now c.loop.place in
    let rest = tokens_at c.args.text.now c.in_ok-number.behind in
    let one : 16 - c.loop.counter ≡ suc (16 - (c.loop.counter + 1)) = omega arith in
    let pushed : c.push.new.self.items ≡ c.loop.numbers.items ++ c.in_ok-number.number ∷ [] = search rules in
    let apart : list_any (nat_eq c.in_ok-number.number) c.loop.numbers.items ≡ false =
    ap (list_any (nat_eq c.in_ok-number.number)) (sym c.deref.ensures.value) ∙ (sym c.is_among.ensures ∙ c.if-is_among.false) in
    reads_along _ _ c.in_ok-number.behind _ (closed_read c.push.new.self.items rest) _ _ (omega (arith, c.loop.invariant.after, c.in_ok-number.ensures.2))
    (c.loop.invariant.reads
    ∙ (ap (λ (z : ℕ). read_numbers z c.loop.numbers.items ts) one
    ∙ (numbers_last (16 - (c.loop.counter + 1)) c.loop.numbers.items ts rest c.in_ok-number.number c.in_ok-number.ensures.0 apart c.in_default.ensures.mark
    ∙ ap (λ (z : List ℕ). closed_read z rest) (sym pushed)))) c.closed.ensures

pub loop-preserved : goal.loop-preserved
loop-preserved c =
    let ts = tokens_at c.args.text.now c.loop.place in
    let rest = tokens_at c.args.text.now c.in_ok-number.behind in
    let one : 16 - c.loop.counter ≡ suc (16 - (c.loop.counter + 1)) = omega arith in
    let pushed : c.push.new.self.items ≡ c.loop.numbers.items ++ c.in_ok-number.number ∷ [] = search rules in
    let apart : list_any (nat_eq c.in_ok-number.number) c.loop.numbers.items ≡ false =
    ap (list_any (nat_eq c.in_ok-number.number)) (sym c.deref.ensures.value) ∙ (sym c.is_among.ensures ∙ c.if-is_among.false) in
    record {
      place = c.in-Some.ensures.place;
      after = omega (arith, c.loop.invariant.after, c.in_ok-number.ensures.2, c.in-Some.ensures.after);
      reads =
          c.loop.invariant.reads
          ∙ (ap (λ (z : ℕ). read_numbers z c.loop.numbers.items ts) one
          ∙ (numbers_more (16 - (c.loop.counter + 1)) c.loop.numbers.items ts rest c.in_ok-number.number c.in_ok-number.ensures.0 apart c.in-Some.ensures.mark.0
          ∙ (ap (λ (z : List ℕ). read_numbers (16 - (c.loop.counter + 1)) z (drop 1 rest)) (sym pushed)
          ∙ ap (read_numbers (16 - (c.loop.counter + 1)) c.push.new.self.items) c.in-Some.ensures.mark.1)));
    }

pub returns-in_err-_number : goal.returns-in_err-_number
returns-in_err-_number c =
    handed _ _ _ _ _ _ c.from_residual-in_err-_number.ensures.1 (λ n.
    c.loop.invariant.reads
    ∙ numbers_wrong (16 - c.loop.counter) c.loop.numbers.items (tokens_at c.args.text.now c.loop.place) c.in_err-_number.field-0.0 (c.in_err-_number.ensures n))

pub returns : goal.returns
returns c = λ n.
    let ts = tokens_at c.args.text.now c.loop.place in
    let none : 16 - c.loop.counter ≡ zero = omega (arith, c.loop-test.false) in
    c.loop.invariant.reads
    ∙ (ap (λ (z : ℕ). read_numbers z c.loop.numbers.items ts) none
    ∙ (numbers_over c.loop.numbers.items ts (tokens_at c.args.text.now c.in_ok-_number._behind) c.in_ok-_number._number c.in_ok-_number.ensures.0
    ∙ ap (λ (z : ℕ). Err (fault.Multipath z)) (place_is c.args.text.now c.loop.place)))
