-- The generated text is read as the generated tree: each of the thirty, computed.
use Rattle.std.proofs.Common.{◌≡◌, inl, inr, ℕ, ◌&&◌, if◌then◌else◌, List, length, nat_le, refl, subst}
use Rattle.std.specs.Char.{is_ascii}
use Rattle.std.specs.List.{list_all}
use Rattle.std.proofs.lemmas.Bool.{leb-true, cases_Bool, and_parts}
use Rattle.def_script.specs.Bytes.{Bytes}
use Rattle.def_tree.specs.Tree.{Tree}
use Rattle.def_text.specs.Token.{tokens}
use Rattle.def_text.specs.Refusal.{MOST_BYTES, TextReads}
use Rattle.def_text.specs.Scaffolding.Reader.{START, Outcome, tree_outcome, syntax_outcome, outcome}
use Rattle.def_text.proofs.Completion.{ascii_is_utf8}
use Rattle.def_text.proofs.Report.{Reports, report}
use Rattle.def_answer.specs.Generated.{generated_text, generated_tree}
use Rattle.ms_answer_laws.specs.Laws.{GeneratedIsRead}
use Rattle.ms_answer_laws.proofs.Computing.{answers_on_literals}
use Rattle.ms_answer_laws.proofs.UpTo.{UpTo, holds_at}

-- the outcome of a text that is ASCII and short; all of it is asked for at once, so that the text is computed once
abbrev outcome_of : (text : Bytes) → Outcome
outcome_of text =
    if list_all is_ascii text && nat_le (length text) MOST_BYTES then outcome START (tokens text) else syntax_outcome 0

read_as : (text : Bytes) (x : Tree) (os : List ℕ) → outcome_of text ≡ tree_outcome x os → TextReads text x os
read_as text x os h = elim (cases_Bool (list_all is_ascii text && nat_le (length text) MOST_BYTES)) [
  | inl e ↦
      let p = and_parts (list_all is_ascii text) (nat_le (length text) MOST_BYTES) e in
      let both : Reports text (tree_outcome x os) = subst (Reports text) (rw e at h) (report text (ascii_is_utf8 text p.0)) in
      record { short = leb-true (length text) MOST_BYTES p.1; spelled = both.0; none_deep = both.1 }
  | inr e ↦ cc (rw e at h)
]

abbrev IsRead : ℕ → Type 0
IsRead n = (offsets : List ℕ) × (outcome_of (generated_text n) ≡ tree_outcome (generated_tree n) offsets)

read_10 : UpTo IsRead 10
unfolding answers_on_literals
read_10 = ((((((((((tt, (_, refl)), (_, refl)), (_, refl)), (_, refl)), (_, refl)), (_, refl)), (_, refl)), (_, refl)), (_, refl)), (_, refl))

read_20 : UpTo IsRead 20
unfolding answers_on_literals
read_20 = ((((((((((read_10, (_, refl)), (_, refl)), (_, refl)), (_, refl)), (_, refl)), (_, refl)), (_, refl)), (_, refl)), (_, refl)), (_, refl))

read_30 : UpTo IsRead 30
unfolding answers_on_literals
read_30 = ((((((((((read_20, (_, refl)), (_, refl)), (_, refl)), (_, refl)), (_, refl)), (_, refl)), (_, refl)), (_, refl)), (_, refl)), (_, refl))

pub generated_is_read : GeneratedIsRead
generated_is_read n some few = let read = holds_at IsRead 30 n read_30 some few in (read.0, read_as _ _ read.0 read.1)
