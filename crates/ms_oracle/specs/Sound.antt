-- What a stored check answers. Contracts see a check as its table and its closure.
use Rattle.std.specs.Prelude.{◌≡◌, Bool}
use Rattle.std.specs.Borrow.{Bor}
use Rattle.std.specs.Fn.{Shared}
use Rattle.def_script.specs.Bytes.{Bytes, IsBytes}
use Rattle.def_machine.specs.Stacks.{Pairs, member}

-- a closure may be asked for each key and signature, and answers whether the table holds the pair
abbrev pub AnswersFor : {F : Type 0} → Shared F (Bor Bytes × (Bor Bytes × Unit {0})) Bool → Pairs → F → Type 0
AnswersFor calls table check =
    (key sig : Bor Bytes) → IsBytes key.now → IsBytes sig.now
    → calls.pre check (key, (sig, tt)) × ((answer : Bool) → calls.post check (key, (sig, tt)) answer → answer ≡ member table key.now sig.now)

-- the table of a check
abbrev pub table_of : {F : Type 0} → Pairs × F → Pairs
table_of sigs = sigs.0

-- a check answers for its table
abbrev pub IsSound : {F : Type 0} → Shared F (Bor Bytes × (Bor Bytes × Unit {0})) Bool → Pairs × F → Type 0
IsSound calls sigs = AnswersFor calls (table_of sigs) sigs.1
