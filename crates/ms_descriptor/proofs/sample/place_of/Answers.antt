-- In a piece, and behind it.
use Rattle.std.proofs.Common.{ℕ, ◌+◌, ◌-◌, ◌<◌, ◌≤◌, map, drop, ap, sym, subst, ◌∙◌, lt-ltb, le-ltb, arith}
use Rattle.def_descriptor.specs.Pieces.{place_of}
use Rattle.ms_descriptor.specs.Miniscripts.{piece_at, piece_length, IsWithin}
use Rattle.ms_descriptor.proofs.Sampling.{place_here, place_later, within_end}
use Rattle.ms_descriptor.proofs.sample.place_of.Goals as goal

pub returns-then-left-length-clause-place : goal.returns-then-left-length-clause-place
returns-then-left-length-clause-place c =
    let i = c.loop-piece.piece-index in
    let p = c.piece-item.result in
    let left = c.loop-piece.left in
    let within : IsWithin c.args.text.now p = subst (IsWithin c.args.text.now) (sym c.piece-item.is) (c.requires.within i p c.loop-piece-test.true) in
    let below : left < piece_length p = subst (λ (z : ℕ). left < z) c.span_of-at.ensures.length c.if-left-length.true in
    ap (λ (z : ℕ). z + left) c.span_of-at.ensures.at
    ∙ place_here c.args.text.now c.args.pieces.now i p c.loop-piece-test.true c.piece-item.is within c.args.end left _ c.loop-piece.invariant
    (lt-ltb left (piece_length p) below)

pub returns-then-left-length-clause-bound : goal.returns-then-left-length-clause-bound
returns-then-left-length-clause-bound c =
    let p = c.piece-item.result in
    let within : IsWithin c.args.text.now p =
    subst (IsWithin c.args.text.now) (sym c.piece-item.is) (c.requires.within c.loop-piece.piece-index p c.loop-piece-test.true) in
    omega (arith, c.span_of-at.ensures.at, c.span_of-at.ensures.length, within_end c.args.text.now p within, c.requires.end.short)

pub loop-piece-preserved : goal.loop-piece-preserved
loop-piece-preserved c =
    let i = c.loop-piece.piece-index in
    let p = c.piece-item.result in
    let left = c.loop-piece.left in
    let within : IsWithin c.args.text.now p = subst (IsWithin c.args.text.now) (sym c.piece-item.is) (c.requires.within i p c.loop-piece-test.true) in
    let above : piece_length p ≤ left = subst (λ (z : ℕ). z ≤ left) c.span_of-at.ensures.length c.if-left-length.false in
    ap (λ (z : ℕ). place_of c.args.end (map (piece_at c.args.text.now) (drop (i + 1) c.args.pieces.now)) (left - z)) c.span_of-at.ensures.length
    ∙ place_later c.args.text.now c.args.pieces.now i p c.loop-piece-test.true c.piece-item.is within c.args.end left _ c.loop-piece.invariant
    (le-ltb left (piece_length p) above)
