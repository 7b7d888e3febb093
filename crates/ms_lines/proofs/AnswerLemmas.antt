-- The parts of an answer.
use Rattle.std.proofs.Common.{Option, ◌≡◌, ℕ, [], ◌∷◌, ◌++◌, refl, sym, subst, ◌∙◌, append_assoc}
use Rattle.std.specs.Prelude.{codes, decimal}
use Rattle.def_script.specs.Bytes.{Bytes}
use Rattle.def_lines.specs.Question.{Id}
use Rattle.def_lines.specs.Answer.{id_member, escaped, answer_line}

-- up to the id, the status, and the end
abbrev pub front_part : Option Id → Bytes
front_part id = codes "{" ++ id_member id

abbrev pub status_part : (digits : Bytes) → Bytes
status_part digits = codes "\"status\":" ++ digits ++ codes ",\"report\":\""

abbrev pub end_part : Bytes
end_part = codes "\"}\n"

parts : (front digits report : Bytes)
    → front ++ codes "\"status\":" ++ digits ++ codes ",\"report\":\"" ++ report ++ codes "\"}" ++ 10 ∷ []
    ≡ ((front ++ status_part digits) ++ report) ++ end_part
parts front digits report = simp append_assoc

pub answer_parts : (id : Option Id) (status : ℕ) (report digits : Bytes) → digits ≡ decimal status
    → answer_line id status report ≡ ((front_part id ++ status_part digits) ++ escaped report) ++ end_part
unfolding answer_line
answer_parts id status report digits e =
    subst (λ (d : Bytes). answer_line id status report ≡ ((front_part id ++ status_part d) ++ escaped report) ++ end_part) (sym e)
    (parts (front_part id) (decimal status) (escaped report))

pub answer_behind_status : (id : Option Id) (status : ℕ) (report digits : Bytes) → digits ≡ decimal status
    → answer_line id status report ≡ (front_part id ++ status_part digits) ++ (escaped report ++ end_part)
answer_behind_status id status report digits e =
    answer_parts id status report digits e ∙ append_assoc (front_part id ++ status_part digits) (escaped report) end_part

pub answer_behind_front : (id : Option Id) (status : ℕ) (report : Bytes)
    → answer_line id status report ≡ front_part id ++ (status_part (decimal status) ++ (escaped report ++ end_part))
answer_behind_front id status report =
    answer_behind_status id status report (decimal status) refl ∙ append_assoc (front_part id) (status_part (decimal status)) (escaped report ++ end_part)
