use Rattle.std.proofs.Common.{◌≡◌, [], if◌then◌else◌, ap, ◌∙◌}
use Rattle.def_decode.specs.Decoded.{first_with}
use Rattle.ms_decode_laws.specs.Scaffolding.Reader.{read}
use Rattle.ms_reading.specs.Scaffolding.Codes.{AreCodes, HasNoCodes}
use Rattle.ms_reading.specs.Scaffolding.Dups.{has_dup}
use Rattle.ms_reading.specs.Scaffolding.Keys.{keys_of}
use Rattle.ms_reading.specs.Scaffolding.Parts.{made}
use Rattle.ms_reading.specs.Scaffolding.States.{backwards}
use Rattle.ms_reading.proofs.Dups.{read_same}
use Rattle.ms_reading.proofs.Tried.{no_codes, too_large, may_be}
use Rattle.ms_reading.proofs.only.read.Goals as goal

pub returns-then-script-gt-MOST_SIZE : goal.returns-then-script-gt-MOST_SIZE
returns-then-script-gt-MOST_SIZE c = too_large c.args.keys.now c.args.script.now c.if-script-gt-MOST_SIZE.true

pub returns-in_default : goal.returns-in_default
returns-in_default c =
    let none : HasNoCodes c.args.script.now = rw c.in_default.is at c.in_ok-codes.ensures in
    no_codes c.args.keys.now c.args.script.now none

pub returns : goal.returns
returns c =
    let are : AreCodes c.args.script.now c.in-Some.codes.items = rw c.in-Some.is at c.in_ok-codes.ensures in
    let same : keys_of c.in_ok-hashed.hashed.items ≡ (if has_dup c.in-Some.codes.items then c.args.keys.now else []) =
    c.in_ok-hashed.ensures.keys ∙ c.wanted_keys.ensures.wanted ∙ ap (λ codes. if has_dup codes then c.args.keys.now else []) c.deref.ensures.value in
    let read_so : made c.in_ok-part.part ≡ read (first_with (keys_of c.in_ok-hashed.hashed.items)) (backwards c.in-Some.codes.items) =
    c.in_ok-part.ensures ∙ ap (λ h. read (first_with (keys_of h)) (backwards c.in-Some.codes.items)) c.deref-2.ensures.value in
    may_be c.args.keys.now c.args.script.now c.in-Some.codes.items (made c.in_ok-part.part) c.wanted_keys.ensures.are_keys are
    (read_so ∙ ap (λ keys. read (first_with keys) (backwards c.in-Some.codes.items)) same ∙ read_same c.args.keys.now c.in-Some.codes.items)
