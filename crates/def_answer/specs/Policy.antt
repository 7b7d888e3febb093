-- The report of `policy`.
use Rattle.std.specs.Prelude.{ℕ, ◌++◌, codes, decimal, Option, Some, None}
use Rattle.def_script.specs.Bytes.{Bytes}
use Rattle.def_tree.specs.Tree.{Tree}
use Rattle.def_policy.specs.Policy.{Policy}
use Rattle.def_policy.specs.Plain.{plain}
use Rattle.def_policy.specs.Simple.{simple}
use Rattle.def_policy.specs.Print.{printed as printed_policy}
use Rattle.def_policy.specs.LeastKeys.{least_keys}
use Rattle.def_answer.specs.Lines.{line}

-- the policy of a tree, made simple
abbrev pub policy_of : Tree → Policy
policy_of tree = simple (plain tree)

abbrev pub number_or_none : Option ℕ → Bytes
number_or_none None = codes "none"
number_or_none (Some n) = decimal n

abbrev pub policy_lines : Policy → (least : Option ℕ) → Bytes
policy_lines policy least = line (codes "policy " ++ printed_policy policy) ++ line (codes "keys " ++ number_or_none least)

unfoldable pub policy_report : Tree → Bytes
policy_report tree = policy_lines (policy_of tree) (least_keys (policy_of tree))
