-- What a row answers, in the two steps of the code.
use Rattle.std.specs.Prelude.{ℕ, List, [], ◌∷◌, Result, Ok, Err, if◌then◌else◌}
use Rattle.def_types.specs.declared.rule.Rule.{Rule}
use Rattle.def_types.specs.declared.rule.RuleAt.{RuleAt}
use Rattle.def_types.specs.Row.{Need, Row, if_ok}

-- that all requirements hold, or the first rule that is broken
abbrev pub first_broken : List Need → Result Unit Rule
first_broken [] = Ok tt
first_broken (n ∷ needs) = if n.holds then first_broken needs else Err n.rule

abbrev pub requirements : {A : Type 0} → Row A → Result Unit Rule
requirements row = first_broken row.needs

-- what the row gives, or the first rule that is broken
abbrev pub checked : {A : Type 0} → Row A → Result A Rule
checked row = if_ok (requirements row) (λ held. Ok row.gives)

-- the rule that is broken is one of this node
abbrev pub at_node : {A : Type 0} → (node : ℕ) → Result A Rule → Result A RuleAt
at_node node (Ok value) = Ok value
at_node node (Err rule) = Err (record { node = node; rule = rule })
