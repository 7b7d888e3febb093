use Rattle.std.proofs.Common.{map}
use Rattle.ms_update.specs.Seen.{pair_at}
use Rattle.ms_update.proofs.Belongs.{joined_is}
use Rattle.ms_update.proofs.maps.push_joined.Goals as goal

pub returns : goal.returns
returns c =
    joined_is c.args.out.now.items c.args.bytes.now c.extend_from_slice.new.self.items c.push_new.new.out.items c.push.new.self.items (map pair_at c.args.belonging.now) c.requires
    c.in_ok-extend_from_slice.ensures.items c.in_ok-push_new.ensures c.in_ok-push.ensures.items
