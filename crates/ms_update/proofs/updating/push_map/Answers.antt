use Rattle.std.proofs.Common.{option_map, ap}
use Rattle.def_update.specs.Known.{pairs_by}
use Rattle.ms_update.specs.Seen.{known_at, types_of}
use Rattle.ms_update.proofs.Belongs.{nothing_belongs}
use Rattle.ms_update.proofs.updating.push_map.Goals as goal

pub returns-in_default : goal.returns-in_default
returns-in_default c =
    nothing_belongs (pairs_by (types_of c.args.owner) (option_map known_at c.args.known.now)) c.args.at c.args.map.now c.args.out.now.items c.extend_from_slice.new.self.items
    (ap (λ known. pairs_by (types_of c.args.owner) (option_map known_at known)) c.in_default.is) c.requires.map c.in_ok-extend_from_slice.ensures.items
