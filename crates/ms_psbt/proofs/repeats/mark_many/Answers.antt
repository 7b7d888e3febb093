use Rattle.std.proofs.Common.{sym, subst, ap, ◌∙◌}
use Rattle.ms_psbt.specs.Scaffolding.Repeats.{hash_of, AreMarkedBy, places_of}
use Rattle.ms_psbt.proofs.Marking.{hashed_places, hashed_marks}
use Rattle.ms_psbt.proofs.repeats.mark_many.Goals as goal

pub returns-then-places-gt-AT_HAND-clause-same : goal.returns-then-places-gt-AT_HAND-clause-same
returns-then-places-gt-AT_HAND-clause-same c = ap places_of c.mark_by_hash.ensures ∙ hashed_places c.args.keys c.args.bytes.now c.args.places.now

pub returns-then-places-gt-AT_HAND-clause-marks : goal.returns-then-places-gt-AT_HAND-clause-marks
returns-then-places-gt-AT_HAND-clause-marks c =
    (hash_of, subst (AreMarkedBy hash_of c.args.keys c.args.bytes.now) (sym c.mark_by_hash.ensures) (hashed_marks c.args.keys c.args.bytes.now c.args.places.now))
