-- What contracts see of what is taken.
use Rattle.std.specs.Prelude.{ℕ, ◌<◌, ◌^◌, ⊤, Option, Some, None}
use Rattle.std.specs.Option.{option_map}
use Rattle.ms_choice.specs.declared.children.Number.{Number}
use Rattle.ms_choice.specs.declared.children.Number.TheVariants.{First, Second, Third}
use Rattle.ms_choice.specs.declared.children.Costs.{Costs}
use Rattle.def_limits.specs.Formal as formal
use Rattle.ms_sane.specs.declared.takes.Takes.{Takes}
use Rattle.ms_sane.specs.declared.takes.Most.{Most}

abbrev pub takes_of : Takes → formal.Takes
takes_of t = record { items = t.items; weight = t.weight; keys = t.keys }

abbrev pub taken : Option Takes → Option formal.Takes
taken None = None
taken (Some t) = Some (takes_of t)

-- a number of what is taken, in the order in which a choice has them
abbrev pub takes_at : Number → formal.Takes → ℕ
takes_at First t = t.items
takes_at Second t = t.weight
takes_at Third t = t.keys

-- the same of a child
abbrev pub costs_at : Number → (sat dsat : Option formal.Takes) → Costs
costs_at n sat dsat = record { sat = option_map (takes_at n) sat; dsat = option_map (takes_at n) dsat }

-- each number is below 2^32
pub record IsLight (t : Takes) : Type 0 where
  pub items : t.items < 2 ^ 32
  pub weight : t.weight < 2 ^ 32
  pub keys : t.keys < 2 ^ 32

abbrev pub IsLightOption : Option Takes → Type 0
IsLightOption None = ⊤
IsLightOption (Some t) = IsLight t

pub record IsLightMost (m : Most) : Type 0 where
  pub sat : IsLightOption m.sat
  pub dsat : IsLightOption m.dsat
