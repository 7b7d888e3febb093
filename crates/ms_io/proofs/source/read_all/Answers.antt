use Rattle.std.proofs.Common.{◌≡◌, ◌++◌, take, refl, sym, subst, length-append, length-take, rules, arith}
use Rattle.std.proofs.lemmas.Grind.{common_steps}
use Rattle.ms_io.specs.Calls.{Gives, no_read}
use Rattle.ms_io.proofs.MovesLemmas.{gives_over, gives_within, gives_more, consumes_more}
use Rattle.ms_io.proofs.source.read_all.Goals as goal

pub returns-then-count-limit-clause-too_long : goal.returns-then-count-limit-clause-too_long
returns-then-count-limit-clause-too_long g c =
    λ _. gives_over _ _ _ _ _ _ c.reads.invariant.given c.in-Ok.ensures.bytes.0 (omega (arith, length-take c.in-Ok.count c.read.new.buf, c.in-Ok.ensures.bound))

pub returns-then-is_err-clause-within : goal.returns-then-is_err-clause-within
returns-then-is_err-clause-within g c =
    λ _. gives_within _ _ _ _ _ _ c.reads.invariant.given c.in-Ok.ensures.bytes.0 (omega (arith, length-take c.in-Ok.count c.read.new.buf, c.in-Ok.ensures.bound))

pub reads-init : goal.reads-init
reads-init g c = record {
  given = search rules;
  within = search rules;
  reads = subst (Gives g.S.Source.gives c.args.source.now c.args.source.now) (sym c.new-bytes.ensures.items) no_read;
  later = search rules;
}

pub returns-then-is_err-clause-until_memory : goal.returns-then-is_err-clause-until_memory
returns-then-is_err-clause-until_memory g c =
    λ _. record {
      bytes = c.reads.bytes.items ++ take c.in-Ok.count c.read.new.buf;
      given = gives_more _ _ _ _ _ _ _ _ c.in-Ok.count c.reads.invariant.reads (grind (arith, common_steps)) (grind (arith, common_steps)) c.in-Ok.ensures.call refl;
      within =
          omega (
            arith,
            length-append c.reads.bytes.items (take c.in-Ok.count c.read.new.buf),
            length-take c.in-Ok.count c.read.new.buf,
            c.in-Ok.ensures.bound,
          );
    }

pub reads-preserved : goal.reads-preserved
reads-preserved g c =
    let e : c.extend_from_slice.new.self.items ≡ c.reads.bytes.items ++ take c.in-Ok.count c.read.new.buf = grind (arith, common_steps) in
    record {
      given = consumes_more _ _ _ _ _ _ c.reads.invariant.given c.in-Ok.ensures.bytes.0 e;
      within = grind (arith, common_steps);
      reads = gives_more _ _ _ _ _ _ _ _ c.in-Ok.count c.reads.invariant.reads (grind (arith, common_steps)) (grind (arith, common_steps)) c.in-Ok.ensures.call e;
      later = search rules;
    }
