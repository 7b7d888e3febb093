use Rattle.std.proofs.Common.{◌≡◌, ◌-◌, ◌++◌, codes, decimal}
use Rattle.std.specs.String.{string_bytes}
use Rattle.def_answer.specs.Generated.{threshold_of, children_text}
use Rattle.ms_generator.proofs.generator.thresh_text.Given as goal

-- the text so far and that of the children that are left
abbrev pub invariant-loop-i : goal.invariant-loop-i
invariant-loop-i l =
    string_bytes l.text ++ children_text (l.n - l.i) l.i ≡ codes "thresh(" ++ decimal (threshold_of l.n) ++ children_text l.n 0
