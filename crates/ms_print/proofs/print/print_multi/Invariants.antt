-- What is written, and then the other keys and `)`, is the whole.
use Rattle.std.proofs.Common.{◌≡◌, ◌++◌, drop}
use Rattle.std.specs.Prelude.{codes, decimal}
use Rattle.std.specs.String.{string_bytes}
use Rattle.def_text.specs.Print.{printed_keys}
use Rattle.ms_print.proofs.print.print_multi.Given as goal

abbrev pub invariant-loop-key : goal.invariant-loop-key
invariant-loop-key l =
    string_bytes l.out ++ (printed_keys (drop l.key-index l.keys) ++ codes ")")
    ≡ string_bytes l.fn.out ++ (codes "multi(" ++ decimal l.k ++ printed_keys l.keys ++ codes ")")
