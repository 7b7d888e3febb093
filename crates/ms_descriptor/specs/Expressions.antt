-- Which key expressions of the definitions those of the code stand for.
use Rattle.std.specs.Prelude.{ℕ, List, Some}
use Rattle.std.specs.Option.{option_map, option_or}
use Rattle.def_descriptor.specs.Expression as the
use Rattle.def_descriptor.specs.ReadKey.{Seen as TheSeen, multipath_in}
use Rattle.def_descriptor.specs.Pieces as pieces
use Rattle.ms_derive.specs.Nodes.{version_number, extended_at}
use Rattle.ms_paths.specs.Paths.{ways_at, origins_at}
use Rattle.ms_descriptor.specs.declared.expression.Named.{Named}
use Rattle.ms_descriptor.specs.declared.expression.Named.TheVariants as named
use Rattle.ms_descriptor.specs.declared.expression.Expression.{Expression}
use Rattle.ms_descriptor.specs.declared.expression.Seen.{Seen}
use Rattle.ms_descriptor.specs.declared.spots.Spot.{Spot}
use Rattle.ms_descriptor.specs.declared.spots.Spot.TheVariants as spot

abbrev pub named_at : Named → the.Named
named_at (named.Point key) = the.point key
named_at (named.Extended key ways) = the.extended (extended_at key) (ways_at ways)

abbrev pub expression_at : Expression → the.Expression
expression_at expression = record { at = expression.at; origin = origins_at expression.origin; named = named_at expression.named }

abbrev pub seen_at : Seen → TheSeen
seen_at seen = record { version = option_map version_number seen.version; length = seen.length }

-- what an extended key with these steps fixes
abbrev pub seen_with_extended : TheSeen → (version : ℕ) → List the.Way → TheSeen
seen_with_extended seen version ways = record { version = option_or seen.version (Some version); length = option_or seen.length (multipath_in ways) }

abbrev pub spot_at : Spot → pieces.Spot
spot_at spot.Elsewhere = pieces.elsewhere
spot_at spot.SingleName = pieces.single_name
spot_at spot.SingleKey = pieces.single_key
spot_at spot.SingleNext = pieces.single_next
spot_at spot.MultiName = pieces.multi_name
spot_at spot.MultiOpen = pieces.multi_open
spot_at spot.MultiNumber = pieces.multi_number
spot_at spot.MultiKey = pieces.multi_key
spot_at spot.MultiNext = pieces.multi_next
