-- The line of a transaction, piece by piece.
use Rattle.std.proofs.Common.{◌≡◌, ℕ, ◌++◌, [], ◌∷◌, length, codes, ap, ◌∙◌}
use Rattle.std.specs.Prelude.{decimal}
use Rattle.def_script.specs.Bytes.{Bytes}
use Rattle.def_psbt.specs.Transaction.{Transaction, id_of}
use Rattle.def_answer.specs.Lines.{line}
use Rattle.def_psbt_answer.specs.Lines.{id_digits, psbt_line}
use Rattle.ms_psbt_report.specs.declared.lines.transactions.Summary.{Summary}
use Rattle.ms_psbt_report.specs.Told.{IsTold}
use Rattle.ms_psbt_report.proofs.Joined.{four_and_three}

-- the line of a transaction, by what is told of it
line_by : (inputs outputs version lock_time : ℕ) (id : Bytes) → Bytes
line_by inputs outputs version lock_time id =
    line (codes "psbt inputs " ++ decimal inputs ++ codes " outputs " ++ decimal outputs ++ codes " version " ++ decimal version
    ++ codes " locktime " ++ decimal lock_time ++ codes " txid " ++ id_digits id)

told_by : (transaction : Transaction) (inputs outputs version lock_time : ℕ) (id : Bytes) → inputs ≡ length transaction.inputs
    → outputs ≡ length transaction.outputs → version ≡ transaction.version → lock_time ≡ transaction.lock_time → id ≡ id_of transaction
    → line_by inputs outputs version lock_time id ≡ psbt_line transaction
unfolding line_by
told_by transaction inputs outputs version lock_time id e1 e2 e3 e4 e5 =
    ap (λ n. line_by n outputs version lock_time id) e1 ∙ ap (λ n. line_by (length transaction.inputs) n version lock_time id) e2
    ∙ ap (λ n. line_by (length transaction.inputs) (length transaction.outputs) n lock_time id) e3
    ∙ ap (λ n. line_by (length transaction.inputs) (length transaction.outputs) transaction.version n id) e4
    ∙ ap (λ n. line_by (length transaction.inputs) (length transaction.outputs) transaction.version transaction.lock_time n) e5

pub told_line : (transaction : Transaction) (summary : Summary) (before first second third fourth fifth sixth after : Bytes) → IsTold transaction summary
    → first ≡ before ++ (codes "psbt inputs " ++ decimal summary.inputs) → second ≡ first ++ (codes " outputs " ++ decimal summary.outputs)
    → third ≡ second ++ (codes " version " ++ decimal summary.version) → fourth ≡ third ++ (codes " locktime " ++ decimal summary.lock_time)
    → fifth ≡ fourth ++ codes " txid " → sixth ≡ fifth ++ id_digits summary.id → after ≡ sixth ++ 10 ∷ []
    → after ≡ before ++ psbt_line transaction
unfolding line_by
told_line transaction summary before first second third fourth fifth sixth after told e1 e2 e3 e4 e5 e6 e7 =
    four_and_three before (codes "psbt inputs ") (decimal summary.inputs) (codes " outputs ") (decimal summary.outputs) (codes " version ")
    (decimal summary.version) (codes " locktime ") (decimal summary.lock_time) (codes " txid ") (id_digits summary.id) (10 ∷ [])
    first second third fourth fifth sixth after e1 e2 e3 e4 e5 e6 e7
    ∙ ap (λ text. before ++ text)
    (told_by transaction summary.inputs summary.outputs summary.version summary.lock_time summary.id told.inputs told.outputs told.version told.lock_time told.id)
