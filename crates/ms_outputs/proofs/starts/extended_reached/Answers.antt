-- Behind the steps before the first `*`, and where one of these has no node.
use Rattle.ms_derive.specs.Nodes.{node_at, extended_at}
use Rattle.ms_outputs.proofs.Starting.{key_behind, no_step_of}
use Rattle.ms_outputs.proofs.starts.extended_reached.Goals as goal

pub returns-in_default-node_before : goal.returns-in_default-node_before
returns-in_default-node_before c = record {
  key =
      no_step_of c.args.branch (extended_at c.args.key.now) c.args.ways.now (node_at c.in-Some.first) c.in-Some.ensures.node
      c.in_default-node_before.ensures.path;
  safe = tt;
}

pub returns : goal.returns
returns c = record {
  key =
      key_behind c.args.branch (extended_at c.args.key.now) c.args.ways.now (node_at c.in-Some.first) (node_at c.in-Some-node_before.node)
      c.in-Some-node_before.rest.now c.in_ok-left.left.items c.in-Some.ensures.node c.in-Some-node_before.ensures.path c.in_ok-left.ensures;
  safe = c.in-Some-node_before.ensures.affine;
}
