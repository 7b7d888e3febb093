-- The version that all extended keys of a descriptor have is that of the first one.
use Rattle.std.proofs.Common.{◌≡◌, ℕ, List, [], ◌∷◌, ap, ◌∙◌, refl, Option, Some, None}
use Rattle.std.specs.Option.{option_or}
use Rattle.def_script.specs.Bytes.{Bytes}
use Rattle.def_descriptor.specs.Expression.{Expression}
use Rattle.def_descriptor.specs.ReadKey.{Seen, NOTHING_SEEN, seen_with, version_of}
use Rattle.def_descriptor.specs.Gives.{seen_in, network_by, network_of}
use Rattle.ms_descriptor.specs.declared.parts.Body.{Body}
use Rattle.ms_descriptor.specs.Bodies.{body_at}
use Rattle.ms_outputs.specs.Keys.{expressions_of_body, first_version}
use Rattle.ms_outputs.proofs.Finding.{expressions_are}

or_or : (a b c : Option ℕ) → option_or (option_or a b) c ≡ option_or a (option_or b c)
or_or None b c = refl
or_or (Some n) b c = refl

version_seen : (seen : Seen) (es : List Expression) → (seen_in seen es).version ≡ option_or seen.version (first_version es)
version_seen seen [] = sym_none seen.version
  where
    sym_none : (a : Option ℕ) → a ≡ option_or a None
    sym_none None = refl
    sym_none (Some n) = refl
version_seen seen (e ∷ es) = version_seen (seen_with seen e) es ∙ or_or seen.version (version_of e.named) (first_version es)

pub network_is : (text : Bytes) (own : Body) → network_of (body_at text own) ≡ network_by (first_version (expressions_of_body own))
network_is text own =
    ap (λ (z : List Expression). network_by (seen_in NOTHING_SEEN z).version) (expressions_are text own)
    ∙ ap network_by (version_seen NOTHING_SEEN (expressions_of_body own))
