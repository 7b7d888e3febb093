-- No origin, no key, and both.
use Rattle.std.proofs.Common.{arith}
use Rattle.ms_paths.specs.Places.{tokens_at}
use Rattle.ms_paths.specs.Paths.{origins_at}
use Rattle.ms_paths.proofs.Places.{place_is}
use Rattle.ms_paths.proofs.Reading.{handed}
use Rattle.ms_descriptor.specs.Expressions.{seen_at, named_at}
use Rattle.ms_descriptor.proofs.Naming.{no_origin, no_named, whole_key}
use Rattle.ms_descriptor.proofs.keys.read_key.Goals as goal

pub returns-in_err-origin-clause-reads : goal.returns-in_err-origin-clause-reads
returns-in_err-origin-clause-reads c =
    handed _ _ _ _ _ _ c.from_residual.ensures.1 (λ n.
    no_origin (seen_at c.args.seen) (tokens_at c.args.text.now c.args.at) c.in_err-origin.field-0.0 (c.in_err-origin.ensures n))

pub returns-in_err-named-clause-reads : goal.returns-in_err-named-clause-reads
returns-in_err-named-clause-reads c =
    handed _ _ _ _ _ _ c.from_residual-in_err-named.ensures.1 (λ n.
    no_named (seen_at c.args.seen) (tokens_at c.args.text.now c.args.at) (origins_at c.in_ok-origin.origin) (tokens_at c.args.text.now c.in_ok-origin.place)
    c.in_ok-origin.ensures.0 c.in_err-named.field-0.0 (c.in_err-named.ensures.reads n))

pub returns-clause-reads : goal.returns-clause-reads
returns-clause-reads c = (
  whole_key (seen_at c.args.seen) (tokens_at c.args.text.now c.args.at) (origins_at c.in_ok-origin.origin) (tokens_at c.args.text.now c.in_ok-origin.place)
      c.in_ok-origin.ensures.0 (named_at c.in_ok-named.named) (tokens_at c.args.text.now c.in_ok-named.end) c.args.at c.in_ok-named.ensures.reads.0
      (place_is c.args.text.now c.args.at),
  c.in_ok-named.ensures.reads.1,
  omega (arith, c.in_ok-origin.ensures.2, c.in_ok-named.ensures.reads.2),
)
