-- The characters of printed policies.
use Rattle.std.proofs.Common.{ℕ, [], ◌++◌, refl}
use Rattle.std.specs.Prelude.{codes, decimal, Option, Some, None}
use Rattle.hex.specs.Hex.{encode_lower}
use Rattle.def_script.specs.Bytes.{Bytes}
use Rattle.def_text.specs.Word.{hash_name}
use Rattle.def_tree.specs.Tree.{Tree}
use Rattle.def_tree.specs.Range.{IsWritable}
use Rattle.def_policy.specs.Policy.{Policy, Policies, never, always, key, older, after, hash, all, any, thresh, none, more}
use Rattle.def_policy.specs.Print.{printed, printed_parts}
use Rattle.def_policy.specs.LeastKeys.{least_keys}
use Rattle.def_answer.specs.Lines.{line}
use Rattle.def_answer.specs.Policy.{policy_of, number_or_none, policy_report}
use Rattle.ms_print_laws.specs.Laws.{IsPrintable, ArePrintable}
use Rattle.ms_print_laws.proofs.Printable.{policy_is_printable}
use Rattle.ms_line_laws.proofs.Plainly.{AreReported, reported, decimal_reported, hex_reported}
use Rattle.ms_line_laws.proofs.Reported.{worded}
use Rattle.ms_line_laws.proofs.Printed.{hash_name_reported}

-- between a name and a bracket
within : (name inner : Bytes) → AreReported name → AreReported inner → AreReported (name ++ inner ++ codes ")")
within name inner p q = reported (name ++ inner) (codes ")") (reported name inner p q) refl

mutual
  pub policy_reported : (p : Policy) → IsPrintable p → AreReported (printed p)
  policy_reported never h = refl
  policy_reported always h = refl
  policy_reported (key k) h = within (codes "key(") (encode_lower k) refl (hex_reported k h)
  policy_reported (older n) h = within (codes "older(") (decimal n) refl (decimal_reported n)
  policy_reported (after n) h = within (codes "after(") (decimal n) refl (decimal_reported n)
  policy_reported (hash kind value) h =
      within (hash_name kind ++ codes "(") (encode_lower value) (reported (hash_name kind) (codes "(") (hash_name_reported kind) refl) (hex_reported value h)
  policy_reported (all parts) h = within (codes "all(") (printed_parts [] parts) refl (parts_reported [] refl parts h)
  policy_reported (any parts) h = within (codes "any(") (printed_parts [] parts) refl (parts_reported [] refl parts h)
  policy_reported (thresh k parts) h =
      within (codes "thresh(" ++ decimal k) (printed_parts (codes ",") parts) (reported (codes "thresh(") (decimal k) refl (decimal_reported k))
      (parts_reported (codes ",") refl parts h.1)

  parts_reported : (mark : Bytes) → AreReported mark → (ps : Policies) → ArePrintable ps → AreReported (printed_parts mark ps)
  parts_reported mark m none h = refl
  parts_reported mark m (more x xs) h =
      reported (mark ++ printed x) (printed_parts (codes ",") xs) (reported mark (printed x) m (policy_reported x h.0)) (parts_reported (codes ",") refl xs h.1)

number_reported : (n : Option ℕ) → AreReported (number_or_none n)
number_reported None = refl
number_reported (Some n) = decimal_reported n

pub policy_report_reported : (t : Tree) → IsWritable t → AreReported (policy_report t)
unfolding policy_report
policy_report_reported t w =
    let p = policy_of t in
    reported (line (codes "policy " ++ printed p)) (line (codes "keys " ++ number_or_none (least_keys p)))
    (worded (codes "policy ") (printed p) refl (policy_reported p (policy_is_printable t w)))
    (worded (codes "keys ") (number_or_none (least_keys p)) refl (number_reported (least_keys p)))
