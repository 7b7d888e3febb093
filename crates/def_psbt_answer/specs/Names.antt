-- The names of refusals, of states, of kinds of outputs and of judgements, as reports print them.
use Rattle.std.specs.Prelude.{◌++◌, codes}
use Rattle.def_script.specs.Bytes.{Bytes}
use Rattle.def_curve.specs.declared.Judgement.{Judgement}
use Rattle.def_curve.specs.declared.Judgement.TheVariants as judgement
use Rattle.def_sane.specs.declared.Unfit.{Unfit}
use Rattle.def_sane.specs.declared.Unfit.TheVariants as unfit
use Rattle.def_psbt.specs.declared.PsbtFault.{PsbtFault}
use Rattle.def_psbt.specs.declared.PsbtFault.TheVariants as fault
use Rattle.def_spend.specs.declared.Kind.{Kind}
use Rattle.def_spend.specs.declared.Kind.TheVariants as kind
use Rattle.def_spend.specs.declared.State.{State}
use Rattle.def_spend.specs.declared.State.TheVariants as state
use Rattle.def_answer.specs.Lines.{rule_name}

abbrev pub fault_name : PsbtFault → Bytes
fault_name fault.Truncated = codes "Truncated"
fault_name fault.Size = codes "Size"
fault_name fault.RepeatedKey = codes "RepeatedKey"
fault_name fault.KeyForm = codes "KeyForm"
fault_name fault.ValueForm = codes "ValueForm"
fault_name fault.Version = codes "Version"
fault_name fault.Excluded = codes "Excluded"
fault_name fault.NoTransaction = codes "NoTransaction"
fault_name fault.Trailing = codes "Trailing"
fault_name fault.RepeatedOutpoint = codes "RepeatedOutpoint"
fault_name fault.LockTime = codes "LockTime"

-- why a miniscript isn't sane, without the place. One that was read is valid, so the first five don't come
abbrev pub unfit_name : Unfit → Bytes
unfit_name (unfit.Rule at) = codes "Rule " ++ rule_name at.rule
unfit_name unfit.TopNotB = codes "TopNotB"
unfit_name (unfit.Size n) = codes "Size"
unfit_name (unfit.Ops n) = codes "Ops"
unfit_name (unfit.Items n) = codes "Items"
unfit_name (unfit.Malleable at) = codes "Malleable " ++ rule_name at.rule
unfit_name unfit.NoSignature = codes "NoSignature"
unfit_name (unfit.MixedLocks node) = codes "MixedLocks"
unfit_name (unfit.RepeatedKey node) = codes "RepeatedKey"

abbrev pub state_name : State → Bytes
state_name state.Final = codes "Final"
state_name state.NoUtxo = codes "NoUtxo"
state_name state.WrongUtxo = codes "WrongUtxo"
state_name state.OtherOutput = codes "OtherOutput"
state_name state.NoScript = codes "NoScript"
state_name state.WrongScript = codes "WrongScript"
state_name state.NoReading = codes "NoReading"
state_name (state.Unfit unfit) = codes "Unfit " ++ unfit_name unfit
state_name state.WrongSighash = codes "WrongSighash"
state_name state.TooMany = codes "TooMany"
state_name state.Unsatisfied = codes "Unsatisfied"
state_name state.Ready = codes "Ready"

abbrev pub kind_name : Kind → Bytes
kind_name kind.P2wsh = codes "p2wsh"
kind_name kind.P2wpkh = codes "p2wpkh"
kind_name kind.P2shP2wsh = codes "p2sh-p2wsh"
kind_name kind.P2shP2wpkh = codes "p2sh-p2wpkh"
kind_name kind.Other = codes "other"

abbrev pub judgement_name : Judgement → Bytes
judgement_name judgement.Bad = codes "bad"
judgement_name judgement.High = codes "high"
judgement_name judgement.Good = codes "good"
