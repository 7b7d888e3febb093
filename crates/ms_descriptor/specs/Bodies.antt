-- Which bodies of the definitions those of the code stand for.
use Rattle.std.specs.Prelude.{◌≡◌, ⊤, Bool, true, false, List, ◌∷◌, ◌++◌, map, codes, Option, Some, None}
use Rattle.std.specs.Str.{bytes_eq}
use Rattle.def_script.specs.Bytes.{Bytes}
use Rattle.def_descriptor.specs.declared.Form.{Form}
use Rattle.def_descriptor.specs.declared.Form.TheVariants.{Wsh, Wpkh}
use Rattle.def_text.specs.declared.TextFault.{TextFault}
use Rattle.def_text.specs.Refusal.{TextRefusal}
use Rattle.def_descriptor.specs.declared.DescriptorFault.{DescriptorFault}
use Rattle.def_descriptor.specs.Pieces.{Piece, plain}
use Rattle.def_descriptor.specs.Parts as the
use Rattle.def_descriptor.specs.Answer.{Descriptor as TheDescriptor, sample, stop, refusal_of}
use Rattle.ms_paths.specs.Places.{IsPlace}
use Rattle.ms_descriptor.specs.declared.parts.Descriptor.{Descriptor}
use Rattle.ms_descriptor.specs.declared.parts.Head.{Head}
use Rattle.ms_descriptor.specs.declared.parts.Body.{Body}
use Rattle.ms_descriptor.specs.declared.parts.Body.TheVariants as body
use Rattle.ms_descriptor.specs.declared.parts.Found.{Found}
use Rattle.ms_descriptor.specs.Expressions.{expression_at}
use Rattle.ms_descriptor.specs.Miniscripts.{piece_at, rest_at, AreWithin}

-- the form that a word names, or that it names none
abbrev pub FormOf : Bytes → Option Form → Type 0
FormOf name (Some Wsh) = bytes_eq name (codes "wsh") ≡ true
FormOf name (Some Wpkh) = (bytes_eq name (codes "wsh") ≡ false) × (bytes_eq name (codes "wpkh") ≡ true)
FormOf name None = (bytes_eq name (codes "wsh") ≡ false) × (bytes_eq name (codes "wpkh") ≡ false)

abbrev pub head_at : Head → Bool × Form
head_at head = (head.under, head.form)

abbrev pub body_at : (text : Bytes) → Body → the.Body
body_at text (body.Miniscript pieces) = the.miniscript (map (piece_at text) pieces.items)
body_at text (body.Sorted at pieces) = the.sorted (plain at (codes "multi") ∷ map (piece_at text) pieces.items)
body_at text (body.Single expression) = the.single (expression_at expression)

abbrev pub found_at : (text : Bytes) → Found → the.Found
found_at text found = record { body = body_at text found.body; refused = found.refused; rest = rest_at text found.refused found.rest }

abbrev pub parts_at : (text : Bytes) → Bool × Found → Bool × the.Found
parts_at text parts = (parts.0, found_at text parts.1)

abbrev pub descriptor_at : (text : Bytes) → Descriptor → TheDescriptor
descriptor_at text found = record { under = found.under; body = body_at text found.body; length = found.length }

-- a body lies within the text
abbrev pub BodyWithin : (text : Bytes) → Body → Type 0
BodyWithin text (body.Miniscript pieces) = AreWithin text pieces.items
BodyWithin text (body.Sorted at pieces) = IsPlace text at × AreWithin text pieces.items
BodyWithin text (body.Single expression) = ⊤

pub record FoundWithin (text : Bytes) (found : Found) : Type 0 where
  pub body : BodyWithin text found.body
  pub place : IsPlace text found.rest

-- the text of a body's pieces is refused, and the body by that
abbrev pub IsUnread : List Piece → the.Found → DescriptorFault → Type 0
IsUnread ps found why = (own : TextFault) × TextRefusal (sample ps ++ stop found.refused) own × (refusal_of ps found own ≡ why)
