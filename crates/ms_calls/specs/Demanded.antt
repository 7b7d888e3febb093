-- What a sane text demands, as plain bytes and a number.
use Rattle.std.specs.Prelude.{ℕ, Option, None, Some}
use Rattle.def_script.specs.Bytes.{Bytes}
use Rattle.def_tree.specs.Tree.{Tree}
use Rattle.def_policy.specs.Print.{printed}
use Rattle.def_sane.specs.Unfit.{first_unfit}
use Rattle.def_policy.specs.LeastKeys.{least_keys}
use Rattle.def_answer.specs.Reading.{Reading}
use Rattle.def_answer.specs.Policy.{policy_of}
use Rattle.ms_calls.specs.TextReply.{TextReply, told, text_refused, file_refused, no_satisfaction, text_given}

pub record Demanded : Type 0 where
  -- the printed form of the policy
  pub text : Bytes
  -- the least number of keys that have to sign
  pub keys : ℕ

-- the number that stands where no signatures are enough
abbrev pub NEVER : ℕ
NEVER = 0xffffffffffffffff

abbrev pub number_of_keys : Option ℕ → ℕ
number_of_keys None = NEVER
number_of_keys (Some n) = n

abbrev pub demanded : Tree → Demanded
demanded tree = record { text = printed (policy_of tree); keys = number_of_keys (least_keys (policy_of tree)) }

-- what a sane text demands
abbrev pub policy_given : Reading → TextReply Demanded
policy_given = text_given first_unfit (λ tree. told (demanded tree))

-- its printed form, and its number of keys
abbrev pub printed_given : TextReply Demanded → TextReply Bytes
printed_given (told demanded) = told demanded.text
printed_given (text_refused reason) = text_refused reason
printed_given (file_refused reason) = file_refused reason
printed_given no_satisfaction = no_satisfaction

abbrev pub keys_given : TextReply Demanded → TextReply ℕ
keys_given (told demanded) = told demanded.keys
keys_given (text_refused reason) = text_refused reason
keys_given (file_refused reason) = file_refused reason
keys_given no_satisfaction = no_satisfaction
