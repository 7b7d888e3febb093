-- Which field of an input's map a type is.
use Rattle.std.specs.Prelude.{ℕ, ◌==◌, if◌then◌else◌}
use Rattle.def_psbt.specs.Types.{IN_NON_WITNESS_UTXO, IN_WITNESS_UTXO, IN_PARTIAL_SIG, IN_SIGHASH_TYPE, IN_REDEEM_SCRIPT, IN_WITNESS_SCRIPT, IN_BIP32_DERIVATION, IN_FINAL_SCRIPTSIG, IN_FINAL_SCRIPTWITNESS, IN_RIPEMD160, IN_HASH256}
use Rattle.def_spend.specs.Fields.{is_between}
use Rattle.ms_input.specs.declared.fields.kind.Kind.{Kind}
use Rattle.ms_input.specs.declared.fields.kind.Kind.TheVariants as kind

abbrev pub kind_of : (type : ℕ) → Kind
kind_of type =
    if type == IN_NON_WITNESS_UTXO then kind.Previous
    else if type == IN_WITNESS_UTXO then kind.Output
    else if type == IN_PARTIAL_SIG then kind.Signature
    else if type == IN_SIGHASH_TYPE then kind.Asked
    else if type == IN_REDEEM_SCRIPT then kind.Redeem
    else if type == IN_WITNESS_SCRIPT then kind.Script
    else if type == IN_BIP32_DERIVATION then kind.Derivation
    else if type == IN_FINAL_SCRIPTSIG then kind.FinalScriptSig
    else if type == IN_FINAL_SCRIPTWITNESS then kind.FinalWitness
    else if is_between IN_RIPEMD160 IN_HASH256 type then kind.Preimage
    else kind.Other
