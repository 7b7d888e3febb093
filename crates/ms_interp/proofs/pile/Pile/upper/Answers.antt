use Rattle.std.proofs.Common.{◌≡◌, ◌∙◌, sym, ap, arith, length, List}
use Rattle.std.specs.Prelude.{reverse}
use Rattle.def_script.specs.Bytes.{Bytes}
use Rattle.ms_interp.proofs.Piles.{upper_slice}
use Rattle.ms_interp.proofs.pile.Pile.upper.Goals as goal

pub returns : goal.returns
returns c =
    let long : c.len.result ≡ length c.deref.result.now = omega (arith, c.len.ensures, c.deref.ensures.len, c.self.inside.elements.ok.0) in
    upper_slice c.deref.result.now c.args.self.now c.len.result c.saturating_sub.result c.args.count
    (sym c.self.view_is ∙ ap (λ (xs : List Bytes). reverse xs) (sym c.deref.ensures.value)) long c.saturating_sub.ensures
