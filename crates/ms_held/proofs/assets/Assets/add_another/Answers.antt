use Rattle.std.proofs.Common.{sym, ◌∙◌, ap, arith}
use Rattle.def_machine.specs.Stacks.{member}
use Rattle.ms_held.proofs.FewHeld.{sized_few}
use Rattle.ms_held.proofs.SamePairs.{same_member}
use Rattle.ms_held.proofs.assets.Assets.add_another.Goals as goal

pub push_sig-requires : goal.push_sig-requires
push_sig-requires c =
    let key = c.as_bytes-bytes.result.now in
    let sig = c.args.sig.now in
    sized_few c.args.self.now key sig (rw (← c.self.view_is) c.self.invariant) c.as_bytes-bytes.ensures.key (λ i. omega (arith, c.type_inv.sig i)) (sym c.in_default.ensures)
    (rw (← c.self.view_is) (same_member key sig _ ∙ ap (λ t. member t key sig) (sym c.as_slice.ensures) ∙ sym c.member.ensures ∙ c.if-member.false))
