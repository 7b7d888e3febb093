-- A compressed key, an extended one, and another word.
use Rattle.std.proofs.Common.{ℕ, ◌+◌, length, ap, sym, ◌∙◌, arith, is_some, option_map, Err}
use Rattle.def_curve.specs.Key.{point_of}
use Rattle.def_descriptor.specs.declared.DescriptorFault.{DescriptorFault}
use Rattle.def_descriptor.specs.ReadKey.{with_point, ways_behind, read_named}
use Rattle.ms_derive.specs.Nodes.{extended_at}
use Rattle.ms_paths.specs.Places.{tokens_at}
use Rattle.ms_paths.proofs.Reading.{reads_along}
use Rattle.ms_descriptor.specs.Expressions.{seen_at, named_at}
use Rattle.ms_descriptor.proofs.Naming.{key_bytes, point_none, point_is, extended_none, extended_is}
use Rattle.ms_descriptor.proofs.keys.read_named.Goals as goal

pub returns-then-not-has_point-clause-reads : goal.returns-then-not-has_point-clause-reads
returns-then-not-has_point-clause-reads c = λ n.
    point_none (seen_at c.args.seen) c.args.text.now c.token_at-word.result.now c.args.at c.token_at-word.ensures.token c.in-Some.key
    (sym c.key_spelled.ensures.key ∙ c.in-Some.is)
    (ap (λ z. is_some (point_of z)) (sym c.as_bytes.ensures.bytes) ∙ (sym c.has_point.ensures ∙ c.if-not-has_point.true))

pub returns-in-Some-clause-reads : goal.returns-in-Some-clause-reads
returns-in-Some-clause-reads c = (
  point_is (seen_at c.args.seen) c.args.text.now c.token_at-word.result.now c.args.at c.token_at-word.ensures.token c.in-Some.key
      (sym c.key_spelled.ensures.key ∙ c.in-Some.is)
      (ap (λ z. is_some (point_of z)) (sym c.as_bytes.ensures.bytes) ∙ (sym c.has_point.ensures ∙ c.if-not-has_point.false)),
  record { short = c.requires.short; within = c.token_at-word.ensures.within },
  omega arith,
)

pub returns-in-Some-clause-some : goal.returns-in-Some-clause-some
returns-in-Some-clause-some c = omega (arith, key_bytes c.token_at-word.result.now c.in-Some.key (sym c.key_spelled.ensures.key ∙ c.in-Some.is))

pub returns-in_default-2-clause-reads : goal.returns-in_default-2-clause-reads
returns-in_default-2-clause-reads c = λ n.
    extended_none (seen_at c.args.seen) c.args.text.now c.token_at-word.result.now c.args.at c.token_at-word.ensures.token
    (sym c.key_spelled.ensures.key ∙ c.in_default.is) (sym c.in_ok-key.ensures ∙ ap (option_map extended_at) c.in_default-2.is)
    ∙ ap (λ (z : DescriptorFault). Err z) (sym c.other_word.ensures)

pub returns-clause-reads : goal.returns-clause-reads
returns-clause-reads c =
    let w = c.token_at-word.result.now in
    let key = extended_at c.in-Some-2.key in
    let end : ℕ = c.args.at + length w in
    reads_along c.args.text.now c.args.at end (read_named (seen_at c.args.seen) (tokens_at c.args.text.now c.args.at))
    (with_point c.args.at (point_of key.key) (ways_behind (seen_at c.args.seen) c.args.at key (tokens_at c.args.text.now end))) named_at c.with_ways.result
    (omega arith)
    (extended_is (seen_at c.args.seen) c.args.text.now w c.args.at c.token_at-word.ensures.token key (sym c.key_spelled.ensures.key ∙ c.in_default.is)
    (sym c.in_ok-key.ensures ∙ ap (option_map extended_at) c.in-Some-2.is)) c.with_ways.ensures
