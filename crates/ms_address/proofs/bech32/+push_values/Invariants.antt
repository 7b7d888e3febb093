-- How many values are left.
use Rattle.ms_address.proofs.bech32.+push_values.Given as goal

abbrev pub decreases-push_values : goal.decreases-push_values
decreases-push_values l = l.count
