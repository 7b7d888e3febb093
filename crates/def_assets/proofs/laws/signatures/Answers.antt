use Rattle.def_assets.proofs.laws.signatures.Goals as goal
use Rattle.def_assets.proofs.Shortest.{signature_is_shortest, signature_is_found}
use Rattle.def_assets.proofs.Distinct.{only_signature}

pub returns-clause-shortest : goal.returns-clause-shortest
returns-clause-shortest c = signature_is_shortest

pub returns-clause-found : goal.returns-clause-found
returns-clause-found c = signature_is_found

pub returns-clause-only : goal.returns-clause-only
returns-clause-only c = only_signature
