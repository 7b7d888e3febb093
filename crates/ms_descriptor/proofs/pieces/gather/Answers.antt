-- A key more, a token more, the end, and a key that is refused.
use Rattle.std.proofs.Common.{◌≡◌, ℕ, suc, ◌+◌, ◌-◌, ◌<◌, List, [], ◌∷◌, ◌++◌, length, length-append, map, arith, sym, ap, subst, ◌∙◌}
use Rattle.std.proofs.lemmas.List.Elements.{All-push}
use Rattle.def_descriptor.specs.ReadKey.{Seen, seen_with}
use Rattle.def_descriptor.specs.Pieces.{Piece, plain, key, Spot, spot_behind, spot_behind_key, opened, gather}
use Rattle.ms_paths.specs.Places.{IsPlace, tokens_at}
use Rattle.ms_descriptor.specs.declared.expression.Expression.{Expression as OwnExpression}
use Rattle.ms_descriptor.specs.declared.pieces.Piece.TheVariants as own
use Rattle.ms_descriptor.specs.declared.pieces.Next.TheVariants as next
use Rattle.ms_descriptor.specs.Expressions.{expression_at, seen_at, spot_at}
use Rattle.ms_descriptor.specs.Miniscripts.{between, piece_at, IsWithin, AreWithin, IsNext}
use Rattle.ms_descriptor.proofs.Gathering.{before, step_key, step_token, step_end, step_refused, key_after, token_after, opened_up, pieces_push}
use Rattle.ms_descriptor.proofs.pieces.gather.Goals as goal

pub loop-pieces-preserved-in-Key : goal.loop-pieces-preserved-in-Key
loop-pieces-preserved-in-Key c =
    let text = c.args.text.now in
    let at = c.loop-pieces.place in
    let spot = spot_at c.loop-pieces.spot in
    let seen = seen_at c.loop-pieces.seen in
    let x = expression_at c.in-Key.expression in
    let items = c.loop-pieces.pieces.items in
    let ps = map (piece_at text) items in
    let rest = tokens_at text c.in-Key.end in
    let found : IsNext text at spot c.loop-pieces.level seen (next.Key c.in-Key.expression c.in-Key.end) =
    subst (IsNext text at spot c.loop-pieces.level seen) c.in-Key.is c.in_ok-expression.ensures.next in
    let after : IsPlace text c.in-Key.end × at < c.in-Key.end × (c.in-Key.expression.at ≡ at) = key_after text at spot c.loop-pieces.level seen c.in-Key.expression c.in-Key.end found in
    let p = own.Key c.in_ok-new-in-Key.field-0 in
    let pushed : c.push.new.self.items ≡ items ++ p ∷ [] = c.in_ok-push-in-Key.ensures.items in
    let same : c.in_ok-new-in-Key.field-0.value.at ≡ at = ap (λ (z : OwnExpression). z.at) c.in_ok-new-in-Key.ensures.ok ∙ after.2 in
    let own_place : IsWithin text p = omega (arith, same, c.loop-pieces.invariant.place.within) in
    let count : length c.push.new.self.items ≡ length items + 1 = omega (arith, ap length pushed, length-append items (p ∷ [])) in
    let most : ℕ = suc (length text) - length c.push.new.self.items in
    let one : suc (length text) - length items ≡ suc most = omega (arith, count, after.0.within, after.1, c.loop-pieces.invariant.count) in
    let grown : map (piece_at text) c.push.new.self.items ≡ ps ++ key x ∷ [] =
    ap (map (piece_at text)) pushed
    ∙ (pieces_push text items p
    ∙ ap (λ (z : OwnExpression). ps ++ key (expression_at z) ∷ []) c.in_ok-new-in-Key.ensures.ok) in
    record {
      place = after.0;
      within = subst (AreWithin text) (sym pushed) (All-push (IsWithin text) items p c.loop-pieces.invariant.within own_place);
      count = omega (arith, count, after.1, c.loop-pieces.invariant.count);
      level = omega (arith, after.1, c.loop-pieces.invariant.level);
      pieces =
          c.loop-pieces.invariant.pieces
          ∙ (ap (λ (z : ℕ). before ps (gather z spot c.loop-pieces.level seen (tokens_at text at))) one
          ∙ (step_key text at spot c.loop-pieces.level seen ps most c.in-Key.expression c.in-Key.end found
          ∙ (ap (λ (z : List Piece). before z (gather most (spot_behind_key spot) c.loop-pieces.level (seen_with seen x) rest)) (sym grown)
          ∙ (ap (λ (z : Spot). before (map (piece_at text) c.push.new.self.items) (gather most z c.loop-pieces.level (seen_with seen x) rest))
          (sym c.behind_key-spot.ensures)
          ∙ ap (λ (z : Seen). before (map (piece_at text) c.push.new.self.items) (gather most (spot_at c.behind_key-spot.result) c.loop-pieces.level z rest))
          (sym c.with-seen.ensures)))));
    }

pub loop-pieces-preserved : goal.loop-pieces-preserved
loop-pieces-preserved c =
    let text = c.args.text.now in
    let at = c.loop-pieces.place in
    let spot = spot_at c.loop-pieces.spot in
    let seen = seen_at c.loop-pieces.seen in
    let items = c.loop-pieces.pieces.items in
    let ps = map (piece_at text) items in
    let rest = tokens_at text c.in-Token.end in
    let w = between text at c.in-Token.end in
    let found : IsNext text at spot c.loop-pieces.level seen (next.Token c.in-Token.end) =
    subst (IsNext text at spot c.loop-pieces.level seen) c.in-Token.is c.in_ok-expression.ensures.next in
    let after : IsPlace text c.in-Token.end × at < c.in-Token.end = token_after text at spot c.loop-pieces.level seen c.in-Token.end found in
    let p = own.Plain at c.in-Token.end in
    let pushed : c.push-in-Token.new.self.items ≡ items ++ p ∷ [] = c.in_ok-push-in-Token.ensures.items in
    let own_place : IsWithin text p = (after.1, omega (arith, after.0.within)) in
    let count : length c.push-in-Token.new.self.items ≡ length items + 1 = omega (arith, ap length pushed, length-append items (p ∷ [])) in
    let most : ℕ = suc (length text) - length c.push-in-Token.new.self.items in
    let one : suc (length text) - length items ≡ suc most = omega (arith, count, after.0.within, after.1, c.loop-pieces.invariant.count) in
    let grown : map (piece_at text) c.push-in-Token.new.self.items ≡ ps ++ plain at w ∷ [] = ap (map (piece_at text)) pushed ∙ pieces_push text items p in
    record {
      place = after.0;
      within = subst (AreWithin text) (sym pushed) (All-push (IsWithin text) items p c.loop-pieces.invariant.within own_place);
      count = omega (arith, count, after.1, c.loop-pieces.invariant.count);
      level = omega (arith, after.1, c.loop-pieces.invariant.level, opened_up c.loop-pieces.level w, c.opened-level.ensures);
      pieces =
          c.loop-pieces.invariant.pieces
          ∙ (ap (λ (z : ℕ). before ps (gather z spot c.loop-pieces.level seen (tokens_at text at))) one
          ∙ (step_token text at spot c.loop-pieces.level seen ps most c.in-Token.end found
          ∙ (ap (λ (z : List Piece). before z (gather most (spot_behind spot w) (opened c.loop-pieces.level w) seen rest)) (sym grown)
          ∙ (ap (λ (z : Spot). before (map (piece_at text) c.push-in-Token.new.self.items) (gather most z (opened c.loop-pieces.level w) seen rest))
          (sym c.behind-spot.ensures)
          ∙ ap (λ (z : ℕ). before (map (piece_at text) c.push-in-Token.new.self.items) (gather most (spot_at c.behind-spot.result) z seen rest))
          (sym c.opened-level.ensures)))));
    }

pub returns-in-End-clause-pieces : goal.returns-in-End-clause-pieces
returns-in-End-clause-pieces c =
    let text = c.args.text.now in
    let at = c.loop-pieces.place in
    let spot = spot_at c.loop-pieces.spot in
    let seen = seen_at c.loop-pieces.seen in
    let items = c.loop-pieces.pieces.items in
    let ps = map (piece_at text) items in
    let found : IsNext text at spot c.loop-pieces.level seen next.End =
    subst (IsNext text at spot c.loop-pieces.level seen) c.in-End.is c.in_ok-expression.ensures.next in
    let most : ℕ = length text - length items in
    let one : suc (length text) - length items ≡ suc most = omega (arith, c.loop-pieces.invariant.count, c.loop-pieces.invariant.place.within) in
    c.loop-pieces.invariant.pieces
    ∙ (ap (λ (z : ℕ). before ps (gather z spot c.loop-pieces.level seen (tokens_at text at))) one
    ∙ step_end text at spot c.loop-pieces.level seen ps most found)

pub returns-in-Refused-clause-pieces : goal.returns-in-Refused-clause-pieces
returns-in-Refused-clause-pieces c =
    let text = c.args.text.now in
    let at = c.loop-pieces.place in
    let spot = spot_at c.loop-pieces.spot in
    let seen = seen_at c.loop-pieces.seen in
    let items = c.loop-pieces.pieces.items in
    let ps = map (piece_at text) items in
    let found : IsNext text at spot c.loop-pieces.level seen (next.Refused c.in-Refused.fault) =
    subst (IsNext text at spot c.loop-pieces.level seen) c.in-Refused.is c.in_ok-expression.ensures.next in
    let most : ℕ = length text - length items in
    let one : suc (length text) - length items ≡ suc most = omega (arith, c.loop-pieces.invariant.count, c.loop-pieces.invariant.place.within) in
    c.loop-pieces.invariant.pieces
    ∙ (ap (λ (z : ℕ). before ps (gather z spot c.loop-pieces.level seen (tokens_at text at))) one
    ∙ step_refused text at spot c.loop-pieces.level seen ps most c.in-Refused.fault found)
