-- Lines that answer a line, and lines that don't.
use Rattle.std.proofs.Common.{ℕ, ◌≡◌, ◌⊎◌, inl, inr, [], Some, get_or, ap, arith}
use Rattle.std.specs.Prelude.{codes, Option, None}
use Rattle.def_script.specs.Bytes.{Bytes}
use Rattle.def_lines.specs.declared.Part.TheVariants as part
use Rattle.def_lines.specs.declared.LineFault.TheVariants as fault
use Rattle.def_lines.specs.Question.{Id, whole, text, asks, refused}
use Rattle.def_lines.specs.Answer.{fault_line, REFUSED, NO_MEMORY}
use Rattle.def_lines.specs.Laws.{TellsBack, IsReply, IsLack, Replies}
use Rattle.def_lines.specs.Examples.{always_three, Answered}
use Rattle.def_lines.proofs.Counted.{read_back}

-- what tells back that which doesn't answer a line is no answer to it
pub other : (line answer : Bytes) (id : Option Id) (status : ℕ) (report : Bytes) → TellsBack answer id status report
    → (Replies always_three line id status report → ⊥) → Answered line answer → ⊥
other line answer id status report back isnt told = isnt (read_back always_three line answer id status report told back)

-- to the question with the id 1
pub not_three : (id : Option Id) (status : ℕ) (report : Bytes) → (id ≡ Some (whole 1) → status ≡ 3 → report ≡ codes "x\n" → ⊥) → (status ≡ NO_MEMORY → ⊥)
    → IsReply always_three (asks (Some (whole 1)) [] []) id status report ⊎ IsLack (asks (Some (whole 1)) [] []) id status report → ⊥
not_three id status report isnt lack (inl (own, is)) = isnt own is.0 is.1
not_three id status report isnt lack (inr (own, is, told)) = lack is

-- to a line that is no object
pub not_refused : (id : Option Id) (status : ℕ) (report : Bytes)
    → (id ≡ None → status ≡ REFUSED → report ≡ fault_line (fault.Shape part.Line) → ⊥) → (status ≡ NO_MEMORY → ⊥)
    → IsReply always_three (refused None (fault.Shape part.Line)) id status report ⊎ IsLack (refused None (fault.Shape part.Line)) id status report → ⊥
not_refused id status report isnt lack (inl (own, is, told)) = isnt own is told
not_refused id status report isnt lack (inr (own, is, told)) = lack is

abbrev number_in : Option Id → ℕ
number_in None = 0
number_in (Some (whole n)) = n
number_in (Some (text t)) = 0

pub two_one : Some (whole 2) ≡ Some (whole 1) → ⊥
two_one e = let same : 2 ≡ 1 = ap number_in e in omega (arith, same)

pub none_one : None ≡ Some (whole 1) → ⊥
none_one e = let same : 0 ≡ 1 = ap number_in e in omega (arith, same)

pub one_none : Some (whole 1) ≡ None → ⊥
one_none e = let same : 1 ≡ 0 = ap number_in e in omega (arith, same)

-- by the letter at a place
pub letters : (place : ℕ) (a b : Bytes) → (get_or a place 0 ≡ get_or b place 0 → ⊥) → a ≡ b → ⊥
letters place a b isnt e = isnt (ap (λ l. get_or l place 0) e)
