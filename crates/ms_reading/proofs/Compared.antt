-- Bytes beside the spelling of instructions.
use Rattle.std.proofs.Common.{◌≡◌, ◌↔◌, ℕ, ◌+◌, ◌<◌, List, ◌∷◌, ◌++◌, length, drop, get_or, All, Option, Some, None, sym, ap, subst, ◌∙◌, append_assoc, arith}
use Rattle.std.specs.Borrow.{Bor}
use Rattle.std.proofs.Math.ListN.{get_or-map, length-map}
use Rattle.std.proofs.lemmas.List.{append_cancel_left, at_drop_more}
use Rattle.def_script.specs.Bytes.{Bytes}
use Rattle.def_script.specs.Spell.{IsShort, spell_one, spell}
use Rattle.ms_script.specs.declared.script.Instr.{Instr}
use Rattle.ms_script.specs.Views.{instruction_of, instructions_of}
use Rattle.ms_reading.specs.Scaffolding.Spelled.{IsBehind}

-- behind two parts, one after the other
pub behind_second : (first second bytes rest : Bytes) (o : Option (Bor Bytes)) → bytes ≡ first ++ rest → IsBehind second rest o → IsBehind (first ++ second) bytes o
behind_second first second bytes rest None e none = λ tail same. none tail (append_cancel_left first rest (second ++ tail) (sym e ∙ same ∙ append_assoc first second tail))
behind_second first second bytes rest (Some more) e is = e ∙ ap (λ (l : Bytes). first ++ l) is ∙ sym (append_assoc first second more.now)

-- nothing is behind both where nothing is behind the first
pub behind_none : (first second bytes : Bytes) → ((rest : Bytes) → bytes ≡ first ++ rest → ⊥) → (rest : Bytes) → bytes ≡ (first ++ second) ++ rest → ⊥
behind_none first second bytes none rest same = none (second ++ rest) (same ∙ append_assoc first second rest)

-- each instruction is short where all are
pub short_at : (xs : List Instr) (n : ℕ) (x : Instr) → n < length xs → x ≡ get_or xs n x → All IsShort (instructions_of xs) → IsShort (instruction_of x)
short_at xs n x below at all =
    subst IsShort (get_or-map instruction_of xs n x ∙ ap instruction_of (sym at)) (all n (instruction_of x) (omega (arith, below, length-map xs instruction_of)))

-- the spelling of what is left begins with that of the next instruction
spelled_next : (xs : List Instr) (n : ℕ) (x : Instr) → n < length xs → x ≡ get_or xs n x
    → spell (instructions_of (drop n xs)) ≡ spell_one (instruction_of x) ++ spell (instructions_of (drop (n + 1) xs))
spelled_next xs n x below at =
    at_drop_more (λ (l : List Instr). spell (instructions_of l)) xs n x below ∙ ap (λ (i : Instr). spell (instructions_of (i ∷ drop (n + 1) xs))) (sym at)

-- which is what is left of the bytes exactly where the rest is
pub spelled_on : (xs : List Instr) (n : ℕ) (x : Instr) (rest next : Bytes) (P : Type 0) → n < length xs → x ≡ get_or xs n x
    → rest ≡ spell_one (instruction_of x) ++ next → P ↔ (spell (instructions_of (drop n xs)) ≡ rest) → P ↔ (spell (instructions_of (drop (n + 1) xs)) ≡ next)
spelled_on xs n x rest next P below at behind is =
    let step = spelled_next xs n x below at in (
      λ p. append_cancel_left (spell_one (instruction_of x)) (spell (instructions_of (drop (n + 1) xs))) next (sym step ∙ is.0 p ∙ behind),
      λ same. is.1 (step ∙ ap (λ (l : Bytes). spell_one (instruction_of x) ++ l) same ∙ sym behind),
    )
