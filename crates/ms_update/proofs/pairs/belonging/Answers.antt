use Rattle.std.proofs.Common.{◌++◌, map, ap, ◌∙◌}
use Rattle.def_update.specs.Known.{derivation_pair}
use Rattle.ms_update.specs.Seen.{pair_at, key_at, known_at, types_of}
use Rattle.ms_update.proofs.Belongs.{belonging_is}
use Rattle.ms_update.proofs.pairs.belonging.Goals as goal

pub returns : goal.returns
returns c =
    belonging_is (types_of c.args.owner) (known_at c.args.known.now) c.redeem_script.result c.witness_script.result c.bip32_derivation.result
    (map pair_at c.new-pairs.result.items) (map pair_at c.push_script.new.pairs.items) (map pair_at c.push_script-2.new.pairs.items) (map pair_at c.push_keys.new.pairs.items)
    c.redeem_script.ensures c.witness_script.ensures c.bip32_derivation.ensures (ap (map pair_at) c.new-pairs.ensures.items)
    c.in_ok-push_script.ensures c.in_ok-push_script-2.ensures
    (c.in_ok-push_keys.ensures ∙ ap (λ ks. map pair_at c.push_script-2.new.pairs.items ++ map (derivation_pair c.bip32_derivation.result) (map key_at ks)) c.deref.ensures.value)
