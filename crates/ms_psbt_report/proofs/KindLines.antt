-- The kind of the spent output is told where that is known.
use Rattle.std.proofs.Common.{◌≡◌, refl}
use Rattle.def_spend.specs.declared.Kind.{Kind}
use Rattle.def_spend.specs.declared.State.{State}
use Rattle.def_spend.specs.declared.State.TheVariants as state
use Rattle.def_psbt_answer.specs.Lines.{kind_line}
use Rattle.def_psbt_answer.specs.Report.{kind_lines}

pub kind_told : (s : State) (kind : Kind) → (s ≡ state.NoUtxo → ⊥) → (s ≡ state.WrongUtxo → ⊥) → kind_lines s kind ≡ kind_line kind
kind_told state.Final kind h k = refl
kind_told state.NoUtxo kind h k = absurd (h refl)
kind_told state.WrongUtxo kind h k = absurd (k refl)
kind_told state.OtherOutput kind h k = refl
kind_told state.NoScript kind h k = refl
kind_told state.WrongScript kind h k = refl
kind_told state.NoReading kind h k = refl
kind_told (state.Unfit unfit) kind h k = refl
kind_told state.WrongSighash kind h k = refl
kind_told state.TooMany kind h k = refl
kind_told state.Unsatisfied kind h k = refl
kind_told state.Ready kind h k = refl
