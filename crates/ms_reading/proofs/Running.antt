-- A reader that has stopped.
use Rattle.std.proofs.Common.{◌≡◌, List, [], ◌∷◌, Option, Some, None, refl, ap, sym, ◌∙◌}
use Rattle.def_script.specs.Bytes.{Bytes}
use Rattle.def_script.specs.Instruction.{Instruction}
use Rattle.def_tree.specs.Tree.{Key}
use Rattle.ms_decode_laws.specs.Scaffolding.Reader.{State, step, run, finish}

run_none : (find : Bytes → Option Key) (is : List Instruction) → run find None is ≡ None
run_none find [] = refl
run_none find (i ∷ is) = refl

pub stopped : (find : Bytes → Option Key) (s : State) (i : Instruction) (is xs : List Instruction) → xs ≡ i ∷ is → None ≡ step find s i → None ≡ finish (run find (Some s) xs)
stopped find s i is xs e f =
    let a : run find (Some s) xs ≡ run find (step find s i) is = rw e in
    let b : run find (step find s i) is ≡ run find None is = ap (λ o. run find o is) (sym f) in
    ap finish (sym (a ∙ b ∙ run_none find is))
