use Rattle.ms_print_laws.proofs.Apart.{printed_apart}
use Rattle.ms_print_laws.proofs.Printable.{policy_is_printable, policies_apart}
use Rattle.ms_print_laws.proofs.laws.printed.Goals as goal

pub returns : goal.returns
returns c = record { apart = printed_apart; printable = policy_is_printable; of_miniscripts = policies_apart }
