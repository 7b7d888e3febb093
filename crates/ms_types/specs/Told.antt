-- What a type system says of each node of a tree.
use Rattle.std.specs.Prelude.{Option, Some, None, Result, Ok, Err}
use Rattle.def_types.specs.declared.rule.RuleAt.{RuleAt}

-- the type, where there is one
abbrev pub told : {A : Type 0} → Result A RuleAt → Option A
told (Ok value) = Some value
told (Err at) = None
