-- What a run logs, how many keys it tried and which pairs it found good; and logs one behind the other.
use Rattle.std.proofs.Common.{◌≡◌, ℕ, ◌+◌, ◌++◌, [], refl, ◌∙◌, ap, append-nil, arith}
use Rattle.std.proofs.lemmas.List.{append_assoc}
use Rattle.def_machine.specs.Stacks.{Pairs}

pub record Log : Type 0 where
  pub keys : ℕ
  pub checks : Pairs

abbrev pub quiet : Log
quiet = record { keys = 0; checks = [] }

abbrev pub then_log : Log → Log → Log
then_log a b = record { keys = a.keys + b.keys; checks = a.checks ++ b.checks }

-- logs, one behind the other
abbrev pub log_of : ℕ → Pairs → Log
log_of keys checks = record { keys = keys; checks = checks }

pub log_is : (a b : ℕ) (p q : Pairs) → a ≡ b → p ≡ q → log_of a p ≡ log_of b q
log_is a b p q e i = ap (λ n. log_of n p) e ∙ ap (log_of b) i

pub quiet_left : (l : Log) → then_log quiet l ≡ l
quiet_left l = log_is (0 + l.keys) l.keys l.checks l.checks (omega arith) refl

pub quiet_right : (l : Log) → then_log l quiet ≡ l
quiet_right l = log_is (l.keys + 0) l.keys (l.checks ++ []) l.checks (omega arith) (append-nil l.checks)

pub then_log_assoc : (a b c : Log) → then_log (then_log a b) c ≡ then_log a (then_log b c)
then_log_assoc a b c =
    log_is (a.keys + b.keys + c.keys) (a.keys + (b.keys + c.keys)) (a.checks ++ b.checks ++ c.checks) (a.checks ++ (b.checks ++ c.checks))
    (omega arith) (append_assoc a.checks b.checks c.checks)
