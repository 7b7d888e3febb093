-- What is told at the end of an input's lines: nothing but of a Ready and of an Unsatisfied one.
use Rattle.std.proofs.Common.{◌≡◌, List, [], refl}
use Rattle.def_script.specs.Bytes.{Bytes}
use Rattle.def_tree.specs.Tree.{Tree}
use Rattle.def_spend.specs.declared.State.{State}
use Rattle.def_spend.specs.declared.State.TheVariants as state
use Rattle.def_spend.specs.Input.{Spend}
use Rattle.def_psbt_answer.specs.Report.{last_lines}

pub no_last_lines : (s : State) (tree : Tree) (spend : Spend) (stack : List Bytes) → (s ≡ state.Ready → ⊥) → (s ≡ state.Unsatisfied → ⊥)
    → last_lines s tree spend stack ≡ []
no_last_lines state.Final tree spend stack h k = refl
no_last_lines state.NoUtxo tree spend stack h k = refl
no_last_lines state.WrongUtxo tree spend stack h k = refl
no_last_lines state.OtherOutput tree spend stack h k = refl
no_last_lines state.NoScript tree spend stack h k = refl
no_last_lines state.WrongScript tree spend stack h k = refl
no_last_lines state.NoReading tree spend stack h k = refl
no_last_lines (state.Unfit unfit) tree spend stack h k = refl
no_last_lines state.WrongSighash tree spend stack h k = refl
no_last_lines state.TooMany tree spend stack h k = refl
no_last_lines state.Unsatisfied tree spend stack h k = absurd (k refl)
no_last_lines state.Ready tree spend stack h k = absurd (h refl)
