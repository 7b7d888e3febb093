-- Each law is proved in a file of its own subject.
use Rattle.ms_key_laws.proofs.Read.{descriptor_keys, text_utf8, text_read, trees_differ}
use Rattle.ms_key_laws.proofs.laws.places.Goals as goal

pub returns-clause-keys : goal.returns-clause-keys
returns-clause-keys c text own branch i keys h e = (descriptor_keys text own branch i keys h e).forms

pub returns-clause-utf8 : goal.returns-clause-utf8
returns-clause-utf8 c = text_utf8

pub returns-clause-read : goal.returns-clause-read
returns-clause-read c = text_read

pub returns-clause-trees : goal.returns-clause-trees
returns-clause-trees c = trees_differ
