-- The places so far.
use Rattle.std.proofs.Common.{◌≡◌, map, take}
use Rattle.def_descriptor.specs.Pieces.{place_of}
use Rattle.def_descriptor.specs.Gives.{pieces_in}
use Rattle.ms_descriptor.specs.Bodies.{body_at}
use Rattle.ms_descriptor_replies.proofs.reasons.places_of.Given as goal

abbrev pub invariant-loop-offset : goal.invariant-loop-offset
invariant-loop-offset l = l.places.items ≡ map (place_of 0 (pieces_in (body_at l.text l.body))) (take l.offset-index l.offsets)
