-- Which key expressions the code's pieces stand for, and which keys are added.
use Rattle.std.specs.Prelude.{◌≡◌, ⊤, ℕ, List, [], ◌∷◌, Option, None, Result, Ok, Err, MatchResult}
use Rattle.std.specs.Option.{option_or}
use Rattle.std.specs.declared.vec.Vec.{Vec}
use Rattle.std.specs.declared.alloc.Global.{Global}
use Rattle.def_tree.specs.Tree.{Key}
use Rattle.def_descriptor.specs.Expression.{Expression}
use Rattle.def_descriptor.specs.ReadKey.{version_of}
use Rattle.ms_descriptor.specs.declared.pieces.Piece.{Piece}
use Rattle.ms_descriptor.specs.declared.pieces.Piece.TheVariants as piece
use Rattle.ms_descriptor.specs.declared.parts.Body.{Body}
use Rattle.ms_descriptor.specs.declared.parts.Body.TheVariants as body
use Rattle.ms_descriptor.specs.Expressions.{expression_at}
use Rattle.ms_outputs.specs.declared.given.GivenFault.{GivenFault}
use Rattle.ms_outputs.specs.declared.given.GivenFault.TheVariants.{NoKey, Memory}

-- the key expressions among pieces, and those of a body
abbrev pub expressions_in : List Piece → List Expression
expressions_in [] = []
expressions_in (piece.Plain at end ∷ ps) = expressions_in ps
expressions_in (piece.Key expression ∷ ps) = expression_at expression.value ∷ expressions_in ps

abbrev pub expressions_of_body : Body → List Expression
expressions_of_body (body.Miniscript pieces) = expressions_in pieces.items
expressions_of_body (body.Sorted at pieces) = expressions_in pieces.items
expressions_of_body (body.Single expression) = expression_at expression ∷ []

-- the version of the first of some expressions that has one
abbrev pub first_version : List Expression → Option ℕ
first_version [] = None
first_version (expression ∷ rest) = option_or (version_of expression.named) (first_version rest)

-- the first expression without a key is told, or want of memory
abbrev pub TellsNoKey : Result (List Key) ℕ → GivenFault → Type 0
TellsNoKey r (NoKey at) = r ≡ Err at
TellsNoKey r Memory = ⊤

-- these are the keys, or why there are none is told
abbrev pub HasKeys : Result (List Key) ℕ → Result (Vec Key Global) GivenFault → Type 0
HasKeys r result = MatchResult result (λ keys. r ≡ Ok keys.items) (TellsNoKey r)
