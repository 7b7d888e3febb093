-- The steps of a key, the key of a point, and the expressions of a body.
use Rattle.std.proofs.Common.{◌≡◌, ℕ, ◌+◌, ◌<◌, List, [], ◌∷◌, length, map, drop, get_or, ap, ◌∙◌, refl, sym, subst, Option, Some, None, option_and_then}
use Rattle.std.specs.Prelude.{IsSome, IfSome}
use Rattle.def_script.specs.Bytes.{Bytes}
use Rattle.def_tree.specs.Tree.{Key}
use Rattle.def_tree.specs.Range.{IsKey}
use Rattle.def_curve.specs.Point.{affine}
use Rattle.def_curve.specs.Encoding.{compressed}
use Rattle.def_derive.specs.Child.{Node, child, descendant}
use Rattle.def_descriptor.specs.Expression.{Expression}
use Rattle.def_descriptor.specs.Pieces.{expressions}
use Rattle.def_descriptor.specs.Gives.{number_at, expressions_of}
use Rattle.ms_paths.specs.declared.steps.Way.{Way as OwnWay}
use Rattle.ms_paths.specs.Paths.{way_at}
use Rattle.ms_descriptor.specs.declared.pieces.Piece.{Piece}
use Rattle.ms_descriptor.specs.declared.pieces.Piece.TheVariants as piece
use Rattle.ms_descriptor.specs.declared.parts.Body.{Body}
use Rattle.ms_descriptor.specs.declared.parts.Body.TheVariants as body
use Rattle.ms_descriptor.specs.Expressions.{expression_at}
use Rattle.ms_descriptor.specs.Miniscripts.{piece_at}
use Rattle.ms_descriptor.specs.Bodies.{body_at}
use Rattle.ms_outputs.specs.Keys.{expressions_in, expressions_of_body}
use Rattle.ms_key_laws.proofs.Forms.{point_key}
use Rattle.ms_outputs.proofs.Lists.{left_of}

-- ---- along the steps of a key

abbrev pub numbers_of : (branch i : ℕ) → List OwnWay → List ℕ
numbers_of branch i ways = map (number_at branch i) (map way_at ways)

-- steps, of which each has a number
module _ {A : Type 0} (number : A → ℕ) (steps : List A) (j : ℕ) (step : A) (inside : j < length steps) (is : step ≡ get_or steps j step) where
  pub first_step : map number (drop j steps) ≡ number step ∷ map number (drop (j + 1) steps)
  first_step = ap (map number) (left_of steps j step inside is)

  pub step_more : (node next : Node) → Some next ≡ child (number step) node
      → descendant (map number (drop (j + 1) steps)) next ≡ descendant (map number (drop j steps)) node
  unfolding descendant
  step_more node next one =
      ap (option_and_then (descendant (map number (drop (j + 1) steps)))) one ∙ ap (λ (z : List ℕ). descendant z node) (sym first_step)

  pub step_none : (node : Node) → None ≡ child (number step) node → None ≡ descendant (map number (drop j steps)) node
  unfolding descendant
  step_none node one =
      ap (option_and_then (descendant (map number (drop (j + 1) steps)))) one ∙ ap (λ (z : List ℕ). descendant z node) (sym first_step)

pub no_steps : (node : Node) → Some node ≡ descendant [] node
unfolding descendant
no_steps node = refl

-- ---- the key of a point

is_one : (r : Option Key) (bytes : Bytes) → IsSome r → IfSome r (λ key. key ≡ bytes) → r ≡ Some bytes
is_one None bytes h k = absurd (cc)
is_one (Some key) bytes h k = ap Some k

pub key_is : (r : Option Key) (x y : ℕ) (bytes : Bytes) → bytes ≡ compressed (affine x y) → (IsKey bytes → IsSome r) → IfSome r (λ key. key ≡ bytes)
    → r ≡ Some (compressed (affine x y))
key_is r x y bytes e some value =
    is_one r bytes (some (subst IsKey (sym e) (point_key x y))) value ∙ ap Some e

-- ---- those of a body

expressions_at : (text : Bytes) (pieces : List Piece) → expressions (map (piece_at text) pieces) ≡ expressions_in pieces
expressions_at text [] = refl
expressions_at text (piece.Plain at end ∷ ps) = expressions_at text ps
expressions_at text (piece.Key expression ∷ ps) = ap (λ (z : List Expression). expression_at expression.value ∷ z) (expressions_at text ps)

pub expressions_are : (text : Bytes) (own : Body) → expressions_of (body_at text own) ≡ expressions_of_body own
expressions_are text (body.Miniscript pieces) = expressions_at text pieces.items
expressions_are text (body.Sorted at pieces) = expressions_at text pieces.items
expressions_are text (body.Single expression) = refl
