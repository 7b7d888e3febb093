-- The witness of a Ready input, by what is kept of it.
use Rattle.std.proofs.Common.{◌≡◌, Bool, true, false, List, if◌then◌else◌, sym, ap, subst, ◌∙◌}
use Rattle.std.proofs.lemmas.Bool.{false≢true}
use Rattle.def_script.specs.Bytes.{Bytes}
use Rattle.def_script.specs.Witness.{items_text, witness_text}
use Rattle.def_assets.specs.Assets.{Assets}
use Rattle.def_spend.specs.declared.Kind.{Kind}
use Rattle.def_spend.specs.Hashes.{script_in}
use Rattle.def_spend.specs.Good.{assets_of}
use Rattle.def_spend.specs.Kinds.{kind_of, ends_in_script}
use Rattle.def_spend.specs.Reading.{Input}
use Rattle.def_spend.specs.States.{stack_of}
use Rattle.def_spend.specs.Finalized.{witness_of}
use Rattle.ms_input.specs.Witnesses.{IsReplayed}

abbrev by_kind : Bool → (stack : List Bytes) → (script : Bytes) → Bytes
by_kind ends stack script = if ends then witness_text stack script else items_text stack

-- whether it ends in a script
pub ends_by : (input : Input) (one : Kind) (told ends : Bool) → one ≡ kind_of input.spend → told ≡ ends_in_script one → told ≡ ends → ends_in_script (kind_of input.spend) ≡ ends
ends_by input one told ends kind_is told_is is = sym (ap ends_in_script kind_is) ∙ sym told_is ∙ is

pub script_witness : (input : Input) (stack : List Bytes) (script : Bytes) → ends_in_script (kind_of input.spend) ≡ true → stack ≡ stack_of input → script ≡ script_in input.spend
    → witness_text stack script ≡ witness_of input
script_witness input stack script ends stack_is script_is =
    ap (λ (l : List Bytes). witness_text l script) stack_is ∙ ap (witness_text (stack_of input)) script_is
    ∙ sym (ap (λ b. by_kind b (stack_of input) (script_in input.spend)) ends)

pub key_witness : (input : Input) (stack : List Bytes) → ends_in_script (kind_of input.spend) ≡ false → stack ≡ stack_of input → items_text stack ≡ witness_of input
key_witness input stack ends stack_is = ap items_text stack_is ∙ sym (ap (λ b. by_kind b (stack_of input) (script_in input.spend)) ends)

pub replayed : (input : Input) (assets : Assets) (script witness : Bytes) → assets ≡ assets_of input.spend → script ≡ script_in input.spend
    → IsReplayed assets script witness → IsReplayed (assets_of input.spend) (script_in input.spend) witness
replayed input assets script witness assets_is script_is h =
    subst (λ (a : Assets). IsReplayed a (script_in input.spend) witness) assets_is (subst (λ (s : Bytes). IsReplayed assets s witness) script_is h)

pub never_both : (ends : Bool) → ends ≡ false → ends ≡ true → ⊥
never_both ends is_false is_true = false≢true (sym is_false ∙ is_true)
