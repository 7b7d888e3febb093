use Rattle.std.proofs.Common.{◌∷◌, [], ◌++◌, take, All, sym, subst, ap, ◌∙◌}
use Rattle.std.proofs.lemmas.List.{take_more}
use Rattle.std.proofs.lemmas.List.Elements.{All-push}
use Rattle.def_tree.specs.Range.{IsKey}
use Rattle.ms_reading.proofs.found.see_keys.Goals as goal

pub loop-key-preserved : goal.loop-key-preserved
loop-key-preserved c =
    let key = subst IsKey c.as_bytes-bytes.ensures.bytes c.as_bytes-bytes.ensures.key in
    let more = take_more c.args.keys.now c.loop-key.key-index c.key-item.result c.loop-key-test.true in
    subst (All IsKey) (sym (more ∙ ap (λ k. take c.loop-key.key-index c.args.keys.now ++ k ∷ []) (sym c.key-item.is)))
    (All-push IsKey (take c.loop-key.key-index c.args.keys.now) c.key-item.result c.loop-key.invariant key)
