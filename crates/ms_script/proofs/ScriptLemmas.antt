-- Lists of instructions as the code holds them, and as contracts see them.
use Rattle.std.proofs.Common.{◌≡◌, ℕ, ◌+◌, ◌<◌, List, [], ◌∷◌, ◌++◌, length, set, get_or, All, map, sym, ◌∙◌, ap, subst, arith}
use Rattle.std.proofs.Math.ListN.{get_or-map, length-map}
use Rattle.std.proofs.lemmas.List.{map-set}
use Rattle.def_script.specs.declared.Op.{Op}
use Rattle.def_script.specs.declared.Op.TheVariants as op
use Rattle.def_script.specs.Bytes.{Bytes}
use Rattle.def_script.specs.Instruction.{Instruction, code}
use Rattle.def_script.specs.Spell.{IsShort, spell}
use Rattle.def_script.specs.Items.{items}
use Rattle.def_script.specs.Laws.{item_of}
use Rattle.def_script.specs.Verify.{verified, verified_last}
use Rattle.def_script.proofs.Reading.{items-spell, all_short-spell}
use Rattle.def_script.proofs.VerifyLemmas.{verified-set, verified-plain}
use Rattle.ms_script.specs.declared.script.Instr.{Instr}
use Rattle.ms_script.specs.declared.script.Instr.TheVariants.{Code}
use Rattle.ms_script.specs.Views.{instruction_of, instructions_of}

-- the instruction at a place, as contracts see it
at_place : (xs : List Instr) (n : ℕ) (x : Instr) → x ≡ get_or xs n x → get_or (instructions_of xs) n (instruction_of x) ≡ instruction_of x
at_place xs n x at = get_or-map instruction_of xs n x ∙ ap instruction_of (sym at)

-- the last instruction has a VERIFY form
pub verify_set : (xs : List Instr) (n : ℕ) (x : Instr) (form : Op) → n + 1 ≡ length xs → x ≡ get_or xs n x → verified_last (instruction_of x) ≡ code form ∷ []
    → instructions_of (set xs n (Code form)) ≡ verified (instructions_of xs)
verify_set xs n x form last at is =
    map-set instruction_of xs n (Code form)
    ∙ verified-set (instructions_of xs) n (code form) (instruction_of x) (last ∙ sym (length-map xs instruction_of)) (ap verified_last (at_place xs n x at) ∙ is)

-- it has none
pub verify_plain : (xs : List Instr) (n : ℕ) (x : Instr) → n + 1 ≡ length xs → x ≡ get_or xs n x → verified_last (instruction_of x) ≡ instruction_of x
    ∷ code op.Verify ∷ [] → instructions_of xs ++ code op.Verify ∷ [] ≡ verified (instructions_of xs)
verify_plain xs n x last at is =
    let same = at_place xs n x at in
    verified-plain (instructions_of xs) n (instruction_of x) (last ∙ sym (length-map xs instruction_of)) (ap verified_last same ∙ is ∙ ap (λ i. i ∷ code op.Verify ∷ []) (sym same))

-- each instruction is short where all are
pub short_at : (xs : List Instr) (n : ℕ) (x : Instr) → n < length xs → x ≡ get_or xs n x → All IsShort (instructions_of xs) → IsShort (instruction_of x)
short_at xs n x below at all =
    subst IsShort (at_place xs n x at) (all n (instruction_of x) (omega (arith, below, length-map xs instruction_of)))

-- the bytes of a Script of short pushes are read back
pub read_back : (script : List Instruction) (bytes : Bytes) → All IsShort script → bytes ≡ spell script → items bytes ≡ map item_of script
read_back script bytes short is = ap items is ∙ items-spell script (all_short-spell script short)
