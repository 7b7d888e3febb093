use Rattle.ms_choice.proofs.Listed.{picks_are_all, lightest_weighs_least, greatest_weighs_most}
use Rattle.ms_choice.proofs.laws.choices.Goals as goal

pub returns-clause-all : goal.returns-clause-all
returns-clause-all c = picks_are_all

pub returns-clause-lightest : goal.returns-clause-lightest
returns-clause-lightest c = lightest_weighs_least

pub returns-clause-greatest : goal.returns-clause-greatest
returns-clause-greatest c = greatest_weighs_most
