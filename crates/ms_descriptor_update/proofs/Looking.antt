-- What is known of an output that is looked up by its script.
use Rattle.std.proofs.Common.{◌≡◌, ℕ, ◌*◌, ◌/◌, ◌%◌, List, ap, ◌∙◌, sym, subst, Some, None}
use Rattle.def_script.specs.Bytes.{Bytes}
use Rattle.def_descriptor.specs.Gives.{branch_count}
use Rattle.def_descriptor.specs.Answer.{Descriptor}
use Rattle.def_update.specs.Known.{Known, known_by}
use Rattle.def_descriptor_answer.specs.Update.{known_at as the_known_at}
use Rattle.ms_descriptor.specs.declared.parts.Descriptor.{Descriptor as Own}
use Rattle.ms_descriptor.specs.Bodies.{descriptor_at}
use Rattle.ms_outputs.specs.declared.given.Given.{Given}
use Rattle.ms_outputs.specs.declared.given.GivenFault.TheVariants.{NoKey}
use Rattle.ms_outputs.specs.Given.{IsGiven, IsNotGiven}
use Rattle.ms_update.specs.declared.known.KnownOutput.{KnownOutput}
use Rattle.ms_update.specs.Seen.{known_at}
use Rattle.ms_descriptor_update.specs.Book.{Places, place_of, IsBook}
use Rattle.ms_descriptor_update.specs.Scaffolding.Steps.{KnowsOne}
use Rattle.ms_descriptor_update.proofs.Numbered.{IsFirst, first_found, none_found, known_there, given_is, is_given}

module _ (text : Bytes) (own : Own) (count : ℕ) (places : Places) (known : List Known) (is : IsBook text own count places known) (script : Bytes) where
  abbrev d : Descriptor
  d = descriptor_at text own

  pub absent : place_of script places ≡ None → None ≡ known_by known script
  absent e = sym (none_found script 0 known (sym (is.found script) ∙ e))

  module _ (at : ℕ) (e : place_of script places ≡ Some at) where
    first : IsFirst script 0 at known
    first = first_found script 0 at known (sym (is.found script) ∙ e)

    one : KnowsOne d (at / count) (at % count) first.one
    one =
        subst (λ (z : ℕ). KnowsOne d (z / count) (z % count) first.one) (sym first.is)
        (known_there d count (branch_count d.body * count) 0 first.number known first.one is.knows first.there)

    pub found : (given : Given) (made : KnownOutput) → IsGiven d.body d.under None (at / count) (at % count) given
        → known_at made ≡ the_known_at d (at / count) (at % count) given.program.items given.script given.keys.items → Some (known_at made) ≡ known_by known script
    found given made g m = ap Some (m ∙ given_is d (at / count) (at % count) None given first.one g one) ∙ sym first.by

    pub has_key : (p : ℕ) → IsNotGiven d.body (at / count) (at % count) (NoKey p) → ⊥
    has_key p none = is_given d (at / count) (at % count) p first.one none one
