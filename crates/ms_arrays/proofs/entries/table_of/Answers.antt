use Rattle.std.proofs.Common.{All, sym, subst, arith}
use Rattle.std.proofs.lemmas.Grind.{common_steps}
use Rattle.std.proofs.lemmas.List.Elements.{All-push}
use Rattle.def_tree.specs.Range.{IsKey}
use Rattle.ms_arrays.proofs.entries.table_of.Goals as goal

pub loop-entry-preserved : goal.loop-entry-preserved
loop-entry-preserved c = record {
  table = grind (arith, common_steps);
  keys =
      subst (All (λ entry. IsKey entry.0)) (sym c.in_ok-push.ensures.items)
      (All-push (λ entry. IsKey entry.0) c.loop-entry.table.items c.in-Some.known c.loop-entry.invariant.keys c.in-Some.ensures.key);
}
