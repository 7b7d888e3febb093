-- The children of a threshold whose types were asked for.
use Rattle.std.specs.Prelude.{List, ◌++◌, Result, Ok}
use Rattle.def_types.specs.declared.rule.RuleAt.{RuleAt}
use Rattle.def_types.specs.Row.{if_ok}

-- what a system needs to know of children whose types were asked for
abbrev pub seen_of : {A C : Type 0} → (seen : List A → C) → Result (List A) RuleAt → Result C RuleAt
seen_of seen r = if_ok r (λ types. Ok (seen types))

-- what was asked for of children, behind that of others
abbrev pub behind : {A E : Type 0} → (others : List A) → Result (List A) E → Result (List A) E
behind others r = if_ok r (λ types. Ok (others ++ types))
