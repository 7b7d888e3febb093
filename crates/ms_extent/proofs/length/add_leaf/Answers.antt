use Rattle.std.proofs.Common.{◌∙◌, ap}
use Rattle.def_hash.specs.declared.HashKind.TheVariants as hash_kind
use Rattle.def_hash.specs.Hash.{hash160}
use Rattle.def_hash.proofs.Lengths.{digest_has_its_length}
use Rattle.def_script.specs.declared.Op.TheVariants as op
use Rattle.def_script.specs.Instruction.{push, code}
use Rattle.ms_extent.specs.declared.extent.Extent.{Extent}
use Rattle.ms_extent.specs.Extent.{extended}
use Rattle.ms_extent.proofs.length.add_leaf.Goals as goal

pub returns-in-PkH : goal.returns-in-PkH
returns-in-PkH c =
    let hashed = c.push_sized.ensures (hash160 c.in-PkH.key) (digest_has_its_length hash_kind.Hash160 c.in-PkH.key) in
    let before = c.code-in-PkH.ensures ∙ ap (λ (e : Extent). extended e (code op.Hash160)) c.code.ensures in
    let pushed = hashed ∙ ap (λ (e : Extent). extended e (push (hash160 c.in-PkH.key))) before in
    rw c.in-PkH.is (c.code-in-PkH-2.ensures ∙ ap (λ (e : Extent). extended e (code op.EqualVerify)) pushed)
