-- What lies in a buffer after bytes, numbers or the like were written into it.
use Rattle.std.specs.Prelude.{List, ◌++◌, length, take, drop}

-- as many as there is room for lie over the buffer's beginning, and what lies behind them is as it was
abbrev pub written_over : {A : Type 0} → (buffer items : List A) → List A
written_over buffer items = take (length buffer) items ++ drop (length items) buffer
