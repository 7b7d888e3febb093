-- What a run logs that goes along a row of the satisfaction table. A key of type K counts with its signature.
use Rattle.std.proofs.Common.{ℕ, List, [], ◌∷◌, length, reverse, inl, inr, Option, Some, None, Ok, Err}
use Rattle.def_script.specs.Bytes.{Bytes}
use Rattle.def_machine.specs.Faults.{OrFault}
use Rattle.def_machine.specs.Stacks.{Stack, Pairs, Checker}
use Rattle.def_machine.specs.MultiSig.{tries}
use Rattle.def_tree.specs.declared.Two.TheVariants as kind
use Rattle.def_tree.specs.declared.Wrapper.TheVariants as wrapper
use Rattle.def_tree.specs.Tree.{Tree, Trees, Key, pk_k, pk_h, and_or, two, thresh, multi, wrap, none, more}
use Rattle.def_satisfaction.specs.Setting.{Setting}
use Rattle.def_satisfaction.specs.Rows.{row, parts}
use Rattle.ms_row_laws.proofs.RunLog.{Log, quiet, then_log}

-- the pairs that tries found good
abbrev pub found_in : OrFault (Option Pairs) → Pairs
found_in (Ok (Some found)) = found
found_in (Ok None) = []
found_in (Err fault) = []

abbrev pub multi_log : Checker → (keys : List Key) → (sigs : Stack) → Log
multi_log checker keys sigs = record { keys = length keys; checks = found_in (tries checker (reverse keys) sigs []) }

abbrev pub check_log : (key sig : Bytes) → Log
check_log key sig = record { keys = 0; checks = (key, sig) ∷ [] }

abbrev mutual
  pub sat_log : (s : Setting) (tree : Tree) (w : Stack) → (row s tree).sat w → Log
  sat_log s (pk_k key) w r = check_log key r.0
  sat_log s (pk_h key) w r = check_log r.0 r.4.2.0
  sat_log s (and_or x y z) w (inl r) = then_log (sat_log s x r.1 r.3) (sat_log s y r.0 r.2)
  sat_log s (and_or x y z) w (inr r) = then_log (dsat_log s x r.1 r.3) (sat_log s z r.0 r.2)
  sat_log s (two kind.AndV x y) w r = then_log (sat_log s x r.1 r.3) (sat_log s y r.0 r.2)
  sat_log s (two kind.AndB x y) w r = then_log (sat_log s x r.1 r.3) (sat_log s y r.0 r.2)
  sat_log s (two kind.OrB x z) w (inl r) = then_log (sat_log s x r.1 r.3) (dsat_log s z r.0 r.2)
  sat_log s (two kind.OrB x z) w (inr (inl r)) = then_log (dsat_log s x r.1 r.3) (sat_log s z r.0 r.2)
  sat_log s (two kind.OrB x z) w (inr (inr r)) = then_log (sat_log s x r.1.1 r.1.3) (sat_log s z r.1.0 r.1.2)
  sat_log s (two kind.OrI x z) w (inl r) = sat_log s x r.0 r.2
  sat_log s (two kind.OrI x z) w (inr r) = sat_log s z r.0 r.2
  sat_log s (two which x z) w (inl r) = sat_log s x w r
  sat_log s (two which x z) w (inr r) = then_log (dsat_log s x r.1 r.3) (sat_log s z r.0 r.2)
  sat_log s (thresh k xs) w r = parts_log s xs k w r
  sat_log s (multi k keys) w r = multi_log s.given.checker keys r.1
  sat_log s (wrap wrapper.D x) w r = sat_log s x r.0 r.2
  sat_log s (wrap letter x) w r = sat_log s x w r
  sat_log s tree w r = quiet

  pub dsat_log : (s : Setting) (tree : Tree) (w : Stack) → (row s tree).dsat w → Log
  dsat_log s (and_or x y z) w (inl r) = then_log (dsat_log s x r.1 r.3) (dsat_log s z r.0 r.2)
  dsat_log s (and_or x y z) w (inr r) = then_log (sat_log s x r.1.1 r.1.3) (dsat_log s y r.1.0 r.1.2)
  dsat_log s (two kind.AndV x y) w r = then_log (sat_log s x r.1.1 r.1.3) (dsat_log s y r.1.0 r.1.2)
  dsat_log s (two kind.AndB x y) w (inl r) = then_log (dsat_log s x r.1 r.3) (dsat_log s y r.0 r.2)
  dsat_log s (two kind.AndB x y) w (inr (fact, inl r)) = then_log (dsat_log s x r.1 r.3) (sat_log s y r.0 r.2)
  dsat_log s (two kind.AndB x y) w (inr (fact, inr r)) = then_log (sat_log s x r.1 r.3) (dsat_log s y r.0 r.2)
  dsat_log s (two kind.OrC x z) w r = quiet
  dsat_log s (two kind.OrI x z) w (inl r) = dsat_log s x r.0 r.2
  dsat_log s (two kind.OrI x z) w (inr r) = dsat_log s z r.0 r.2
  dsat_log s (two which x z) w r = then_log (dsat_log s x r.1 r.3) (dsat_log s z r.0 r.2)
  dsat_log s (thresh k xs) w (inl r) = parts_log s xs 0 w r
  dsat_log s (thresh k xs) w (inr r) = parts_log s xs r.1.0 w r.1.3
  dsat_log s (multi k keys) w r = record { keys = length keys; checks = [] }
  dsat_log s (wrap wrapper.D x) w r = quiet
  dsat_log s (wrap wrapper.V x) w r = quiet
  dsat_log s (wrap wrapper.J x) w (inl r) = quiet
  dsat_log s (wrap wrapper.J x) w (inr r) = dsat_log s x w r.1.1
  dsat_log s (wrap letter x) w r = dsat_log s x w r
  dsat_log s tree w r = quiet

  -- of the children of a threshold, n of them satisfied
  pub parts_log : (s : Setting) (xs : Trees) (n : ℕ) (w : Stack) → parts s xs n w → Log
  parts_log s none n w r = quiet
  parts_log s (more x xs) n w (inl r) = then_log (sat_log s x r.2.1 r.2.3) (parts_log s xs r.0 r.2.0 r.2.2)
  parts_log s (more x xs) n w (inr r) = then_log (dsat_log s x r.1 r.3) (parts_log s xs n r.0 r.2)
