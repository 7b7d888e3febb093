-- What a stored estimate answers. Contracts see an estimate as its table and its closure.
use Rattle.std.specs.Prelude.{◌≡◌, ℕ, Option}
use Rattle.std.specs.Borrow.{Bor}
use Rattle.std.specs.Fn.{Shared}
use Rattle.def_tree.specs.Tree.{Key}
use Rattle.def_tree.specs.Range.{IsKey}
use Rattle.def_plan.specs.Lengths.{Lengths, AreLengths, length_of}

-- a closure may be asked for each key, and answers its length in the table, or none without an entry
abbrev pub AnswersFor : {F : Type 0} → Shared F (Bor Key × Unit {0}) (Option ℕ) → Lengths → F → Type 0
AnswersFor calls table estimate =
    (key : Bor Key) → IsKey key.now
    → calls.pre estimate (key, tt) × ((answer : Option ℕ) → calls.post estimate (key, tt) answer → answer ≡ length_of table key.now)

-- the table of an estimate
abbrev pub table_of : {F : Type 0} → Lengths × F → Lengths
table_of estimate = estimate.0

-- its table is one of lengths, and its closure answers for it
abbrev pub IsSound : {F : Type 0} → Shared F (Bor Key × Unit {0}) (Option ℕ) → Lengths × F → Type 0
IsSound calls estimate = AreLengths (table_of estimate) × AnswersFor calls (table_of estimate) estimate.1
