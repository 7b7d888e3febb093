-- The pieces so far, before those that are left.
use Rattle.std.proofs.Common.{◌≡◌, suc, ◌-◌, ◌≤◌, length, map}
use Rattle.def_descriptor.specs.ReadKey.{NOTHING_SEEN}
use Rattle.def_descriptor.specs.Pieces.{gather}
use Rattle.ms_paths.specs.Places.{IsPlace, tokens_at}
use Rattle.ms_descriptor.specs.Expressions.{seen_at, spot_at}
use Rattle.ms_descriptor.specs.Miniscripts.{piece_at, AreWithin}
use Rattle.ms_descriptor.proofs.Gathering.{before}
use Rattle.ms_descriptor.proofs.pieces.gather.Given as goal

abbrev pub invariant-loop-pieces : goal.invariant-loop-pieces
invariant-loop-pieces l = record {
  place : IsPlace l.text l.place;
  within : AreWithin l.text l.pieces.items;
  count : length l.pieces.items ≤ l.place;
  level : l.level ≤ l.place;
  pieces : gather (suc (length l.text)) (spot_at l.fn.spot) 0 NOTHING_SEEN (tokens_at l.text l.at)
      ≡ before (map (piece_at l.text) l.pieces.items)
      (gather (suc (length l.text) - length l.pieces.items) (spot_at l.spot) l.level (seen_at l.seen) (tokens_at l.text l.place));
}

abbrev pub decreases-loop-pieces : goal.decreases-loop-pieces
decreases-loop-pieces l = length l.text - l.place
