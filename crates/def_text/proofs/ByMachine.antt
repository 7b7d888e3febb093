-- A text's reading or refusal, by the machine's answer to it, which is computed.
use Rattle.std.proofs.Common.{◌≡◌, ℕ, true, List, length, subst}
use Rattle.std.specs.Prelude.{nat_le}
use Rattle.std.specs.Char.{is_ascii}
use Rattle.std.specs.List.{list_all}
use Rattle.std.proofs.lemmas.Bool.{leb-true}
use Rattle.def_script.specs.Bytes.{Bytes}
use Rattle.def_tree.specs.Tree.{Tree}
use Rattle.def_text.specs.declared.TextFault.TheVariants.{Syntax, TooDeep}
use Rattle.def_text.specs.Token.{tokens}
use Rattle.def_text.specs.Refusal.{MOST_BYTES, TextRefusal, TextReads}
use Rattle.def_text.specs.Scaffolding.Reader.{START, tree_outcome, syntax_outcome, deep_outcome, outcome}
use Rattle.def_text.proofs.Completion.{ascii_is_utf8}
use Rattle.def_text.proofs.Report.{Reports, report}

pub syntax_at : (text : Bytes) (p : ℕ) → list_all is_ascii text ≡ true → nat_le (length text) MOST_BYTES ≡ true →
    outcome START (tokens text) ≡ syntax_outcome p → TextRefusal text (Syntax p)
syntax_at text p ascii short h = (leb-true (length text) MOST_BYTES short, subst (Reports text) h (report text (ascii_is_utf8 text ascii)))

pub deep_at : (text : Bytes) (p : ℕ) → list_all is_ascii text ≡ true → nat_le (length text) MOST_BYTES ≡ true →
    outcome START (tokens text) ≡ deep_outcome p → TextRefusal text (TooDeep p)
deep_at text p ascii short h = (leb-true (length text) MOST_BYTES short, subst (Reports text) h (report text (ascii_is_utf8 text ascii)))

pub read_as : (text : Bytes) (x : Tree) (os : List ℕ) → list_all is_ascii text ≡ true → nat_le (length text) MOST_BYTES ≡ true →
    outcome START (tokens text) ≡ tree_outcome x os → TextReads text x os
read_as text x os ascii short h =
    let both : Reports text (tree_outcome x os) = subst (Reports text) h (report text (ascii_is_utf8 text ascii)) in
    record { short = leb-true (length text) MOST_BYTES short; spelled = both.0; none_deep = both.1 }
