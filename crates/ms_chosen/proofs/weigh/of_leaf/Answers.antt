use Rattle.ms_chosen.proofs.Leaves.{older_in_range, after_in_range}
use Rattle.ms_chosen.proofs.weigh.of_leaf.Goals as goal

pub holds_older-requires-clause-least : goal.holds_older-requires-clause-least
holds_older-requires-clause-least c = (older_in_range c.args.leaf c.in-Older.n c.in-Older.is c.requires.typed).0

pub holds_older-requires-clause-most : goal.holds_older-requires-clause-most
holds_older-requires-clause-most c = (older_in_range c.args.leaf c.in-Older.n c.in-Older.is c.requires.typed).1

pub holds_after-requires-clause-least : goal.holds_after-requires-clause-least
holds_after-requires-clause-least c = (after_in_range c.args.leaf c.in-After.n c.in-After.is c.requires.typed).0

pub holds_after-requires-clause-most : goal.holds_after-requires-clause-most
holds_after-requires-clause-most c = (after_in_range c.args.leaf c.in-After.n c.in-After.is c.requires.typed).1
