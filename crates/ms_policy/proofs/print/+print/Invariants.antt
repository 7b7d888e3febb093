-- What is written, and then the parts that are left, is the whole.
use Rattle.std.proofs.Common.{◌≡◌, [], ◌++◌, codes, drop, map}
use Rattle.std.specs.Str.{IsUtf8}
use Rattle.std.specs.String.{string_bytes}
use Rattle.def_policy.specs.Policy.{policies_of}
use Rattle.def_policy.specs.Print.{printed_parts}
use Rattle.ms_policy.specs.Shape.{policy_shape}
use Rattle.ms_policy.proofs.print.+print.Given as goal

abbrev pub invariant-print_parts-loop-part : goal.invariant-print_parts-loop-part
invariant-print_parts-loop-part l = record {
  text : IsUtf8 l.mark;
  left :
      string_bytes l.out ++ printed_parts l.mark (policies_of (map policy_shape (drop l.part-index l.parts))) ≡
      string_bytes l.fn.out ++ printed_parts [] (policies_of (map policy_shape l.parts));
}

abbrev pub invariant-print_others-loop-part : goal.invariant-print_others-loop-part
invariant-print_others-loop-part l =
    string_bytes l.out ++ printed_parts (codes ",") (policies_of (map policy_shape (drop l.part-index l.parts))) ≡
    string_bytes l.fn.out ++ printed_parts (codes ",") (policies_of (map policy_shape l.parts))
