-- An expression without a key.
use Rattle.std.proofs.Common.{subst}
use Rattle.ms_outputs.specs.Given.{IsNotGiven}
use Rattle.ms_descriptor_replies.specs.declared.judging.Place.TheVariants.{Nothing}
use Rattle.ms_descriptor_replies.proofs.Finding.{finds_no_key}
use Rattle.ms_descriptor_replies.proofs.judging.not_given.Goals as goal

pub returns-in_ok-no_key-in-NoKey : goal.returns-in_ok-no_key-in-NoKey
returns-in_ok-no_key-in-NoKey c network d branch index h =
    finds_no_key network d branch index c.in-NoKey.at (Nothing c.in_ok-no_key-in-NoKey.field-0)
    (subst (IsNotGiven d.body branch index) c.in-NoKey.is h) c.in_ok-no_key-in-NoKey.ensures
