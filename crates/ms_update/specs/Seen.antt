-- What is known, and what belongs to maps, as the code has it.
use Rattle.std.specs.Prelude.{map, option_map}
use Rattle.def_tree.specs.Tree.{Key}
use Rattle.def_descriptor.specs.Expression.{Origin}
use Rattle.def_psbt.specs.Map.{Pair}
use Rattle.def_update.specs.Known.{Known, Types, INPUT, OUTPUT}
use Rattle.ms_paths.specs.Paths.{origin_at}
use Rattle.ms_update.specs.declared.known.KnownKey.{KnownKey}
use Rattle.ms_update.specs.declared.known.KnownOutput.{KnownOutput}
use Rattle.ms_update.specs.declared.pairs.OwnPair.{OwnPair}
use Rattle.ms_update.specs.declared.pairs.Owner.{Owner}
use Rattle.ms_update.specs.declared.pairs.Owner.TheVariants as owner

abbrev pub key_at : KnownKey → Key × Origin
key_at known = (known.key, origin_at known.origin)

abbrev pub known_at : KnownOutput → Known
known_at known = record {
  output = known.output.items;
  redeem = option_map (λ script. script.items) known.redeem;
  witness = option_map (λ script. script.items) known.witness;
  keys = map key_at known.keys.items;
}

abbrev pub pair_at : OwnPair → Pair
pair_at pair = record { key = pair.key.items; value = pair.value.items }

abbrev pub types_of : Owner → Types
types_of owner.Input = INPUT
types_of owner.Output = OUTPUT
