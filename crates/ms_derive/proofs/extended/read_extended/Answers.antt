-- Each test that fails, and the parts.
use Rattle.std.proofs.Common.{sym, ap, ◌∙◌, arith, Some}
use Rattle.def_script.specs.Key.{is_key}
use Rattle.def_derive.specs.Extended.{is_version}
use Rattle.ms_derive.proofs.Texts.{none_of_length, none_of_version, none_of_root, none_of_key, some_by, rooted_is, same_parts}
use Rattle.ms_derive.proofs.extended.read_extended.Goals as goal

pub returns-then-bytes-ne78 : goal.returns-then-bytes-ne78
returns-then-bytes-ne78 c = none_of_length c.args.bytes.now c.if-bytes-ne78.true

pub returns-in_err-version : goal.returns-in_err-version
returns-in_err-version c = let none = none_of_version c.args.bytes.now (ap is_version (sym c.number_of.ensures) ∙ c.in_err-version.ensures) in cc

pub returns-then-not-is_rooted : goal.returns-then-not-is_rooted
returns-then-not-is_rooted c =
    none_of_root c.args.bytes.now
    (rooted_is c.args.bytes.now _ _ c.number_of-number.ensures c.array_of-parent.ensures ∙ (sym c.is_rooted.ensures ∙ c.if-not-is_rooted.true))

pub returns-then-not-is_key : goal.returns-then-not-is_key
returns-then-not-is_key c = none_of_key c.args.bytes.now (ap is_key (sym c.array_of-key.ensures) ∙ (sym c.is_key.ensures ∙ c.if-not-is_key.true))

pub returns : goal.returns
returns c =
    ap Some
    (same_parts c.args.bytes.now _ _ _ _ _ (sym c.in_ok-version.ensures.1 ∙ c.number_of.ensures) c.array_of-parent.ensures c.number_of-number.ensures
    c.array_of-chain_code.ensures c.array_of-key.ensures)
    ∙ some_by c.args.bytes.now (omega arith) (ap is_version (sym c.number_of.ensures) ∙ c.in_ok-version.ensures.0)
    (rooted_is c.args.bytes.now _ _ c.number_of-number.ensures c.array_of-parent.ensures ∙ (sym c.is_rooted.ensures ∙ c.if-not-is_rooted.false))
    (ap is_key (sym c.array_of-key.ensures) ∙ (sym c.is_key.ensures ∙ c.if-not-is_key.false))
