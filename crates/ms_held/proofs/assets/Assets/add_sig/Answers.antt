use Rattle.std.proofs.Common.{sym, ◌∙◌, arith}
use Rattle.ms_held.proofs.FewHeld.{sized_few}
use Rattle.ms_held.proofs.SamePairs.{no_key}
use Rattle.ms_held.proofs.assets.Assets.add_sig.Goals as goal

pub push_sig-requires : goal.push_sig-requires
push_sig-requires c =
    sized_few c.args.self.now c.as_bytes-bytes.result.now c.args.sig.now (rw (← c.self.view_is) c.self.invariant) c.as_bytes-bytes.ensures.key
    (λ i. omega (arith, c.type_inv.sig i)) (sym c.in_default.ensures)
    (no_key c.as_bytes-bytes.result.now c.args.sig.now c.args.self.now.pairs (rw (← c.self.view_is) (sym c.holds_key.ensures ∙ c.if-holds_key.false)))
