-- The law is proved in a file of its own.
use Rattle.ms_key_laws.proofs.Read.{texts_read_alike}
use Rattle.ms_key_laws.proofs.laws.texts.Goals as goal

pub returns : goal.returns
returns c pieces keys others tree offsets h g e utf8 other_utf8 reads =
    let r = texts_read_alike pieces keys others tree offsets h g e utf8 other_utf8 reads in
    (r.tree, r.reads, r.same)
