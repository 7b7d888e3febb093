-- What a reader makes of lines, in every run.
use Rattle.std.proofs.Common.{◌≡◌, ℕ, zero, suc, List, [], ◌∷◌, map, take, Ok, Err, refl, ◌∙◌, ap}
use Rattle.def_machine.specs.Faults.{OrFault, ◌>>=◌}
use Rattle.def_machine.specs.Machine.{Given, State, step}
use Rattle.def_trace.specs.Placed.{Placed}
use Rattle.def_trace.specs.Seen.{Seen, seen}
use Rattle.def_trace.specs.Trace.{Line, line_of, then_lines, lines}
use Rattle.def_trace.specs.Reader.{read_lines}
use Rattle.def_trace.specs.Laws.{after_items, Rebuilt}
use Rattle.def_trace.proofs.Effects.{ok_is}
use Rattle.def_trace.proofs.Acts.{event_told}

-- a line more
one_more : (given : Given) (p : Placed) (s t : State) (n : ℕ) (next : OrFault State) (more : State → OrFault State) (lines_from : State → List Line)
    → step given p.item s ≡ next → (next >>= more) ≡ Ok t
    → ((u : State) → more u ≡ Ok t → read_lines (seen u) (take n (lines_from u)) ≡ seen t)
    → read_lines (seen s) (line_of p s next ∷ take n (then_lines next lines_from)) ≡ seen t
one_more given p s t n (Ok u) more lines_from is done rest =
    ap (λ (v : Seen). read_lines v (take n (lines_from u))) (event_told given p.item s u is) ∙ rest u done
one_more given p s t n (Err e) more lines_from is done rest = absurd cc

pub rebuilt : Rebuilt
unfolding lines
rebuilt given [] s t zero done = ap seen (ok_is s t done)
rebuilt given [] s t (suc n) done = ap seen (ok_is s t done)
rebuilt given (p ∷ ps) s t zero done = ap seen (ok_is s t done)
rebuilt given (p ∷ ps) s t (suc n) done =
    one_more given p s t n (step given p.item s) (after_items given (map (λ (q : Placed). q.item) (take n ps))) (lines given ps) refl done
    (λ u more. rebuilt given ps u t n more)
